-- What the program makes of the files held.
use Rattle.std.specs.Prelude.{◌≡◌, ℕ, Bool, true, false, nat_le, if◌then◌else◌, List, [], ◌∷◌, ◌++◌, map, length, drop, Option, None, Some, is_some, Result, Ok, Err}
use Rattle.sq_base.specs.Refusals.{refused}
use Rattle.sq_base.specs.declared.code.Code.{Code}
use Rattle.sq_base.specs.declared.code.Code.TheVariants as code
use Rattle.std.specs.Option.{option_map}
use Rattle.sq_base.specs.Files.{bytes_at}
use Rattle.sq_base.specs.Tree.{TreeState}
use Rattle.sq_base.specs.declared.file.File.{File}
use Rattle.sq_base.specs.declared.refusal.Refusal.{Refusal}
use Rattle.sq_catalog.specs.Contents.{Contents}
use Rattle.sq_catalog.specs.declared.table.Table.{Table}
use Rattle.sq_shown.specs.Identifiers.{package_name}
use Rattle.sq_shown.specs.Layout.{layout}
use Rattle.sq_shown.specs.Names.{clash}
use Rattle.sq_shown.specs.declared.declaration.ModelDecl.{ModelDecl}
use Rattle.sq_shown.specs.declared.declaration.QueryFile.{QueryFile}
use Rattle.sq_shown.specs.declared.declaration.QuerySig.{QuerySig}
use Rattle.sq_shown.specs.declared.signature.Command.TheVariants.{Many}
use Rattle.sq_lexer.specs.TokenList.{token_list}
use Rattle.sq_syntax.specs.declared.token.Token.{Token}
use Rattle.sq_plan.specs.declared.halt.Finding.{Finding}
use Rattle.sq_plan.specs.Findings.{in_source, of_whole, start}
use Rattle.sq_plan.specs.Folds.{so_far, folded, unless_found}
use Rattle.sq_plan.specs.declared.so_far.SoFar.{SoFar}
use Rattle.sq_plan.specs.declared.halt.Ending.{Ending}
use Rattle.sq_plan.specs.declared.halt.Ending.TheVariants.{Usage, Judged}
use Rattle.sq_run.specs.declared.judge.Judged.{Judged as JudgedQuery}
use Rattle.sq_config.specs.declared.command_line.Request.{Request}
use Rattle.sq_config.specs.declared.command_line.Task.{Task}
use Rattle.sq_config.specs.declared.command_line.Task.TheVariants.{Generate, Compile}
use Rattle.sq_config.specs.declared.configuration.BadConfiguration.{BadConfiguration}
use Rattle.sq_config.specs.declared.configuration.Block.{Block}
use Rattle.sq_config.specs.declared.configuration.Configuration.{Configuration as Configured}
use Rattle.sq_config.specs.declared.configuration.Entry.{Entry}
use Rattle.sq_config.specs.declared.configuration.OptionPair.{OptionPair}
use Rattle.sq_plan.specs.declared.entries.Purpose.{Purpose}
use Rattle.sq_plan.specs.declared.entries.Purpose.TheVariants.{Schema, Queries}
use Rattle.sq_plan.specs.declared.outputs.Output.{Output}
use Rattle.sq_run.specs.declared.query.Query.{Query}
use Rattle.sq_plan.specs.declared.read.Role.{Role}
use Rattle.sq_run.specs.declared.sources.SourceFile.{SourceFile}
use Rattle.sq_base.specs.declared.limits.TheConstants.{MOST_FILES}
use Rattle.sq_plan.specs.declared.read.Role.TheVariants.{Configuration, Source}
use Rattle.sq_base.specs.declared.limits.TheConstants.{MOST_FILE_BYTES}
use Rattle.sq_plan.specs.Asked.{Asked, Follows, nothing_asked, and_then, gathered, each_judged}
use Rattle.sq_config.specs.CommandLine.{request_of}
use Rattle.sq_config.specs.Configuration.{configuration_of}
use Rattle.sq_run.specs.Judged.{judged, output_of}
use Rattle.sq_run.specs.Parsed.{statement_check}
use Rattle.sq_config.specs.Paths.{folder_of}
use Rattle.sq_run.specs.Query.{named_statement, query_in}
use Rattle.sq_plan.specs.Reading.{refused_file, not_yet, whole_file, listed}
use Rattle.sq_plan.specs.Sources.{bytes_read}
use Rattle.sq_plan.specs.Outputs.{output_of_entry}
pub use Rattle.sq_run.specs.Schema.{catalogue_of}

-- SOURCES: the files of one key of a block

-- paths, where none of these is too many
abbrev pub unless_more : List (List ℕ) → List (List ℕ) → Result (List (List ℕ)) (List Finding)
unless_more paths [] = Ok paths
unless_more paths (path ∷ more) = Err (refused_file Source code.TooManyFiles path ∷ [])

-- the files of a key, unless they are too many
abbrev pub counted : List (List ℕ) → Result (List (List ℕ)) (List Finding)
counted paths = unless_more paths (drop MOST_FILES paths)

-- a source with its tokens, unless its bytes have none
abbrev pub with_tokens : List ℕ → Result (List Token) Refusal → Result (List SourceFile) (List Finding)
with_tokens path (Ok tokens) = Ok (record { path = path; tokens = tokens } ∷ [])
with_tokens path (Err refusal) = Err (in_source path refusal ∷ [])

-- reads the source at a path, which has this number among those of its key
abbrev pub source : Purpose → ℕ → List ℕ → List File → Asked (List SourceFile)
source purpose number path files = and_then (whole_file Source path files) (λ bytes. nothing_asked (with_tokens path (token_list number (bytes_read purpose bytes))))

-- reads the files of a key, unless they are too many
abbrev pub sources_found : Purpose → List (List ℕ) → List File → Asked (List SourceFile)
sources_found purpose found files = and_then (nothing_asked (counted found)) (λ few. gathered (source purpose) 0 few files)

-- lists the paths of a key, and then reads the files that they stand for
abbrev pub sources : Purpose → List (List ℕ) → List File → Asked (List SourceFile)
sources purpose paths files = and_then (gathered (λ _ path. listed purpose path) 0 paths files) (λ found. sources_found purpose found files)

-- CONFIGURATION

-- the blocks of a configuration, unless this is refused
abbrev pub configured_by : List ℕ → Result Configured BadConfiguration → Result (List Block) (List Finding)
configured_by path (Ok configuration) = Ok configuration.blocks
configured_by path (Err bad) = Err (of_whole path bad.code bad.first ∷ [])

-- the blocks that the bytes of the configuration at a path ask for
abbrev pub configured : List ℕ → List ℕ → Result (List Block) (List Finding)
configured path bytes = configured_by path (configuration_of (folder_of path) bytes)

-- DECLARATIONS

-- the declaration of a table's model
abbrev pub model_of : Table → ModelDecl
model_of table = record { id = table.id; schema = table.schema; name = table.name; columns = map output_of table.columns }

-- the declarations of all models
abbrev pub models_of : Contents → List ModelDecl
models_of contents = map model_of contents.tables

-- the name of the file at a path: what stands behind its last slash
abbrev pub file_name : List ℕ → List ℕ
file_name path = drop (length (folder_of path)) path

-- QUERIES

-- the declaration of a judged query
abbrev pub declared : Query → JudgedQuery → QuerySig
declared query judged = record {
  signature = record { name = query.name; command = Many; text = query.text; params = []; columns = judged.columns };
  model = judged.model;
}

-- a form that isn't built yet is refused where its file begins
abbrev pub not_built : Refusal
not_built = refused code.NotYet start

-- a query with what it is judged to be
abbrev pub declared_by : Query → Result JudgedQuery Refusal → Result QuerySig Refusal
declared_by query (Ok judged) = Ok (declared query judged)
declared_by query (Err refusal) = Err refusal

-- a query that was read is judged over the catalogue
abbrev pub judged_query : Contents → Option Query → Result QuerySig Refusal
judged_query contents (Some query) = declared_by query (judged contents query.select)
judged_query contents None = Err not_built

-- a statement is read whole before its query
abbrev pub judged_read : Contents → Option Query → Result (Unit {0}) Refusal → Result QuerySig Refusal
judged_read contents query (Ok read) = judged_query contents query
judged_read contents query (Err refusal) = Err refusal

-- what an annotated statement is judged to be, over the catalogue; None stands for a file of another form
abbrev pub judged_statement : Contents → Option (List ℕ × List Token) → Result QuerySig Refusal
judged_statement contents (Some found) = judged_read contents (query_in found.0 found.1) (statement_check found.1)
judged_statement contents None = Err not_built

-- a query was judged: what is refused is left out, and listed
abbrev pub after_judged : List ℕ → SoFar (List QuerySig) → Result QuerySig Refusal → SoFar (List QuerySig)
after_judged path done (Ok query) = so_far (done.made ++ query ∷ []) done.found
after_judged path done (Err refusal) = so_far done.made (done.found ++ in_source path refusal ∷ [])

-- an annotated statement of a file
abbrev pub after_query : Contents → List ℕ → SoFar (List QuerySig) → Option (List ℕ × List Token) → SoFar (List QuerySig)
after_query contents path done found = after_judged path done (judged_statement contents found)

-- the annotated statements of a file: so far it has one, and nothing else
abbrev pub annotated_in : List Token → List (Option (List ℕ × List Token))
annotated_in tokens = named_statement tokens ∷ []

-- the queries of a file, in order, after what was found before
abbrev pub queries_in : Contents → SourceFile → List Finding → SoFar (List QuerySig)
queries_in contents file found = folded (after_query contents file.path) (so_far [] found) (annotated_in file.tokens)

-- a file with its queries is behind those before it
abbrev pub with_file : List QueryFile → List ℕ → SoFar (List QuerySig) → SoFar (List QueryFile)
with_file files path own = so_far (files ++ record { source = file_name path; queries = own.made } ∷ []) own.found

-- a file: its queries, in order
abbrev pub after_queries : Contents → SoFar (List QueryFile) → SourceFile → SoFar (List QueryFile)
after_queries contents done file = with_file done.made file.path (queries_in contents file done.found)

-- what the files of queries are judged to be, over the catalogue
abbrev pub declared_in : Contents → List SourceFile → Result (List QueryFile) (List Finding)
declared_in contents files = unless_found (folded (after_queries contents) (so_far [] []) files)

-- FILES

-- a written file in the folder of its output
abbrev pub placed : List ℕ → File → File
placed folder file = record { path = folder ++ 47 ∷ file.path; bytes = file.bytes }

-- the files of an output
abbrev pub output_files : Output → List ModelDecl → List QueryFile → List File
output_files output models queries = map (placed output.path) (layout output.package_name models queries)

-- the files of an output, unless two identifiers of one name space are equal
abbrev pub written : List ℕ → List ModelDecl → List QueryFile → Output → Result (List File) (List Finding)
written path models queries output = if clash models queries then Err (not_yet Configuration path ∷ []) else Ok (output_files output models queries)

-- WHAT A RUN ASKS

-- reads the configuration at a path
abbrev pub configuration_at : List ℕ → List File → Asked (List Block)
configuration_at path files = and_then (whole_file Configuration path files) (λ bytes. nothing_asked (configured path bytes))

-- reads a schema and replays it
abbrev pub schema_read : List ℕ → List (List ℕ) → List File → Asked Contents
schema_read path paths files = and_then (sources Schema paths files) (λ schema. nothing_asked (catalogue_of path schema))

-- reads files of queries and judges them over a catalogue
abbrev pub queries_read : Contents → List (List ℕ) → List File → Asked (List QueryFile)
queries_read contents paths files = and_then (sources Queries paths files) (λ queries. nothing_asked (declared_in contents queries))

-- the files of the outputs, after a catalogue and outputs: reads the queries
abbrev pub files_over : List ℕ → Block → List Output → Contents → List File → Asked (List File)
files_over path block outputs contents files =
    and_then (queries_read contents block.queries files) (λ queries. nothing_asked (each_judged (written path (models_of contents) queries) outputs))

-- the files of these outputs: reads the schema, and then the queries
abbrev pub files_for : List ℕ → Block → List Output → List File → Asked (List File)
files_for path block outputs files = and_then (schema_read path block.schema files) (λ contents. files_over path block outputs contents files)

-- reads a block and judges it, up to the files of its outputs
abbrev pub block_files : List ℕ → Block → List File → Asked (List File)
block_files path block files = and_then (nothing_asked (each_judged (output_of_entry path) block.entries)) (λ outputs. files_for path block outputs files)

-- reads all blocks, one after the other, and judges them
abbrev pub all_files : List ℕ → List Block → List File → Asked (List File)
all_files path blocks files = gathered (λ _ block. block_files path block) 0 blocks files

-- of these files, those that the task puts
abbrev pub put_by : Task → List File → List File
put_by Generate files = files
put_by Compile files = []

-- reads these blocks, and puts their files or none
abbrev pub done_for : Request → List Block → List File → Asked (List File)
done_for request blocks files = and_then (all_files request.path blocks files) (λ made. nothing_asked (Ok (put_by request.task made)))

-- reads the configuration, and then its blocks
abbrev pub requested : Request → List File → Asked (List File)
requested request files = and_then (configuration_at request.path files) (λ blocks. done_for request blocks files)

-- the task that the words name, where they are those of a command
abbrev pub task_asked : List (List ℕ) → Option Task
task_asked words = option_map (λ (request : Request). request.task) (request_of words)

-- whether the words are those of a command
abbrev pub is_command : List (List ℕ) → Bool
is_command words = is_some (request_of words)

-- what a request asks; words that are no command ask nothing
abbrev pub asked_for : Option Request → List File → Asked (List File)
asked_for None files = nothing_asked (Ok [])
asked_for (Some request) files = requested request files

-- what the words ask
abbrev pub asked_by : List (List ℕ) → List File → Asked (List File)
asked_by words files = asked_for (request_of words) files

-- how the judging of a run ends, by whether its words are a command: other words ask nothing
abbrev pub Judging : List (List ℕ) → Bool → TreeState → TreeState → Ending → Type 0
Judging words true old new (Judged result) = Follows (asked_by words) old new result
Judging words true old new Usage = ⊥
Judging words false old new (Judged result) = ⊥
Judging words false old new Usage = new ≡ old
