-- The headline: what the written files say, and what the queries that they hold do on every database.
use Rattle.std.specs.Prelude.{◌≡◌, ℕ, List, [], ◌∷◌, map, Option, None, Some, IfSome, Result, Ok, Err, ◌++◌}
use Rattle.std.specs.List.{AllByRecursion, AllZip}
use Rattle.sq_base.specs.Counts.{Told}
use Rattle.sq_base.specs.Files.{bytes_at}
use Rattle.sq_base.specs.declared.file.File.{File}
use Rattle.sq_base.specs.declared.refusal.Refusal.{Refusal}
use Rattle.sq_catalog.specs.Contents.{Contents}
use Rattle.sq_core.specs.Answer.{Keeps}
use Rattle.sq_core.specs.Changes.{Outcomes}
use Rattle.sq_core.specs.Client.{ClientValue, ArgumentsFit, RowFitsPrinted, output_form}
use Rattle.sq_core.specs.Columns.{Prints}
use Rattle.sq_core.specs.Forms.{Form}
use Rattle.sq_shown.specs.Signature.{shown}
use Rattle.sq_core.specs.Sound.{run}
use Rattle.sq_core.specs.Values.{Database, DatabaseFits}
use Rattle.sq_core.specs.declared.statement.CoreStatement.{CoreStatement}
use Rattle.sq_shown.specs.declared.signature.Language.TheVariants.{Go}
use Rattle.sq_shown.specs.declared.signature.Output.{Output as OutputColumn}
use Rattle.sq_shown.specs.declared.signature.Shown.{Shown}
use Rattle.sq_shown.specs.declared.signature.ShownField.{ShownField}
use Rattle.sq_lexer.specs.TokenList.{token_list}
use Rattle.sq_reader.specs.Reading.{Reads}
use Rattle.sq_config.specs.declared.command_line.Task.TheVariants.{Generate}
use Rattle.sq_config.specs.declared.configuration.Block.{Block}
use Rattle.sq_plan.specs.declared.entries.Purpose.{Purpose}
use Rattle.sq_plan.specs.declared.entries.Purpose.TheVariants.{Schema, Queries}
use Rattle.sq_run.specs.declared.judge.Judged.{Judged}
use Rattle.sq_plan.specs.declared.outputs.Output.{Output}
use Rattle.sq_run.specs.declared.query.Query.{Query}
use Rattle.sq_run.specs.declared.sources.SourceFile.{SourceFile}
use Rattle.sq_plan.specs.declared.status.Status.{Status}
use Rattle.sq_plan.specs.declared.status.Status.TheVariants.{Done}
use Rattle.sq_plan.specs.Asked.{each_judged}
use Rattle.sq_config.specs.CommandLine.{request_of}
use Rattle.sq_run.specs.Judged.{judged}
use Rattle.sq_plan.specs.Outputs.{output_of_entry}
use Rattle.sq_run.specs.Project.{configured, catalogue_of, declared, placed, task_asked}
use Rattle.sq_run.specs.Query.{query_of}
use Rattle.sq_run.specs.Run.{Outside, files_asked}
use Rattle.sq_plan.specs.Sources.{found_for, bytes_read}
use Rattle.sq_plan.specs.Options.{◌>>=◌}
use Rattle.sq_run.specs.Statements.{select}

-- what was judged, where it was not refused
abbrev pub accepted : {A : Type 0} → Result A Refusal → Option A
accepted (Ok value) = Some value
accepted (Err refusal) = None

-- what the printed text of a query is judged to be: its tokens, the one statement that they spell, and its core
abbrev pub judged_text : Contents → List ℕ → Option Judged
judged_text contents text = accepted (token_list 1 text) >>= select >>= λ query. accepted (judged contents query)

-- each row that is returned fits these printed forms
abbrev pub ReturnsFit : Contents → List Form → Outcomes → Type 0
ReturnsFit contents forms answer = AllByRecursion (RowFitsPrinted Go contents forms) answer.rows

-- The printed columns have the texts of these outputs' forms. On every database that fits the catalogue, and with
-- every oracle, a statement without parameters is not stuck, and each row that it returns fits these forms, null included.
pub record RunsAsPrinted (contents : Contents) (core : CoreStatement) (outputs : List OutputColumn) (columns : List ShownField) : Type 0 where
  pub prints : AllZip (Prints Go contents) outputs columns
  pub runs : (database : Database) (arguments : List ClientValue) → DatabaseFits contents database
      → ArgumentsFit Go contents [] arguments
      → Keeps (ReturnsFit contents (map (output_form Go contents) outputs)) (run Go contents [] core database arguments)

-- the file at a path was read: it is held, and what is read of its bytes has these tokens
pub record IsSource (purpose : Purpose) (held : List File) (path : List ℕ) (file : SourceFile) : Type 0 where
  pub bytes : List ℕ
  pub number : ℕ
  pub at_path : file.path ≡ path
  pub source_held : bytes_at held path ≡ Some bytes
  pub listed : token_list number (bytes_read purpose bytes) ≡ Ok file.tokens

-- the files that the paths of a key stand for were read, in order
pub record AreSources (purpose : Purpose) (held : List File) (paths : List (List ℕ)) (files : List SourceFile) : Type 0 where
  pub found : List (List ℕ)
  pub stand_for : found_for purpose paths held ≡ Some found
  pub all_held : AllZip (IsSource purpose held) found files

-- A file of queries has exactly one annotated query, and this is its shown signature, whose text does what the signature says.
pub record SaysQuery (contents : Contents) (file : SourceFile) (signature : Shown) : Type 0 where
  pub query : Query
  pub found : Judged
  pub annotated : query_of file.tokens ≡ Some query
  -- the signature is that of the written rules
  pub judges : judged contents query.select ≡ Ok found
  pub shows : signature ≡ shown (declared query found).signature
  -- the text that is read back is judged to be the same
  pub text : judged_text contents signature.text ≡ Some found
  -- and it runs so
  pub runs : RunsAsPrinted contents found.core found.columns signature.columns

-- files were put in the output's folder, are held there, and read as exactly these signatures
pub record IsWritten (signatures : List Shown) (now : List File) (output : Output) (put : List File) : Type 0 where
  pub files : List File
  pub put_there : put ≡ map (placed output.path) files
  pub holds : AllByRecursion (λ (file : File). bytes_at now (placed output.path file).path ≡ Some file.bytes) files
  pub reads : Reads files signatures

-- what was put is what was put for each of these, in order
abbrev pub InOrder : {A : Type 0} → (A → List File → Type 0) → List A → List File → Type 0
InOrder Put [] put = put ≡ []
InOrder Put (x ∷ xs) put = (own later : List File) × (put ≡ own ++ later) × Put x own × InOrder Put xs later

-- what was put for a block of the configuration at this path
pub record IsBlock (path : List ℕ) (held now : List File) (block : Block) (put : List File) : Type 0 where
  pub outputs : List Output
  pub schema : List SourceFile
  pub contents : Contents
  pub queries : List SourceFile
  pub signatures : List Shown
  pub has_outputs : each_judged (output_of_entry path) block.entries ≡ Ok outputs
  -- the schema is held and gives the catalogue
  pub schema_held : AreSources Schema held block.schema schema
  pub replays : catalogue_of path schema ≡ Ok contents
  -- the files of queries are held, and each has one of these signatures, in order
  pub queries_held : AreSources Queries held block.queries queries
  pub says : AllZip (SaysQuery contents) queries signatures
  -- the files of each output read as these
  pub written : InOrder (IsWritten signatures now) outputs put

-- what was put for the configuration held
pub record IsHeadline (words : List (List ℕ)) (held now : List File) : Type 0 where
  pub path : List ℕ
  pub configuration : List ℕ
  pub blocks : List Block
  -- the words ask for the files of the configuration at this path
  pub asks : request_of words ≡ Some (record { task = Generate; path = path })
  -- it is held, and has these blocks
  pub configuration_held : bytes_at held path ≡ Some configuration
  pub configures : configured path configuration ≡ Ok blocks
  pub put : InOrder (IsBlock path held now) blocks (files_asked words held)

-- where tree and output tell their files, and the words say `generate`, Done means all of this
abbrev pub Headline : List (List ℕ) → Outside → Outside → Status → Type 0
Headline words before after status =
    status ≡ Done → task_asked words ≡ Some Generate
    → IfSome before.tree.files (λ held. Told (λ _ now. IsHeadline words held now) before.out.files after.out.files)
