-- The catalogue that the files of a schema make, statement by statement.
use Rattle.std.specs.Prelude.{ℕ, nat_lt, ◌&&◌, not, Bool, true, false, if◌then◌else◌, List, [], ◌∷◌, ◌++◌, length, map, filter, Option, None, Some, is_some, slice_get, Result, Ok, Err}
use Rattle.sq_base.specs.Refusals.{refused}
use Rattle.sq_base.specs.declared.code.Code.TheVariants as code
use Rattle.sq_base.specs.declared.limits.TheConstants.{MOST_TOKENS, MOST_DEPTH}
use Rattle.std.specs.List.{list_all, slice_split}
use Rattle.sq_base.specs.declared.refusal.Refusal.{Refusal}
use Rattle.sq_base.specs.declared.types.PgType.{PgType}
use Rattle.sq_base.specs.declared.types.Scalar.{Scalar}
use Rattle.sq_base.specs.declared.types.Scalar.TheVariants.{SmallInt, Integer, BigInt, Boolean, Text}
use Rattle.sq_catalog.specs.Contents.{Contents}
use Rattle.sq_catalog.specs.Catalogue.{empty}
use Rattle.sq_catalog.specs.declared.table.Column.{Column}
use Rattle.sq_catalog.specs.declared.table.Table.{Table}
use Rattle.sq_grammar.specs.Schemas.{ddl}
use Rattle.sq_grammar.specs.Whole.{whole}
use Rattle.sq_lexemes.specs.Answers.{first_place}
use Rattle.sq_migrate.specs.Replay.{Replayed, replayed}
use Rattle.sq_parse_ddl.specs.PassedOver.{passed_over}
use Rattle.sq_syntax.specs.Grammar.{nesting_depth}
use Rattle.sq_syntax.specs.Symbols.{lexeme}
use Rattle.sq_syntax.specs.declared.ddl.Ddl.{Ddl}
use Rattle.sq_syntax.specs.declared.token.Token.{Token}
use Rattle.sq_plan.specs.declared.halt.Finding.{Finding}
use Rattle.sq_plan.specs.Findings.{in_source, of_whole}
use Rattle.sq_plan.specs.Folds.{so_far, folded}
use Rattle.sq_plan.specs.declared.so_far.SoFar.{SoFar}
use Rattle.sq_run.specs.declared.sources.SourceFile.{SourceFile}
use Rattle.sq_run.specs.Statements.{is_end, is_no_note}

-- READING

-- the tokens of a schema, which has no use for comments that name queries
abbrev pub without_notes : List Token → List Token
without_notes tokens = filter (λ (token : Token). is_no_note token.kind) tokens

-- the statements of a file: what stands before, between and behind its semicolons
abbrev pub statements : List Token → List (List Token)
statements tokens = slice_split is_end tokens

-- the statement that was read, or the refusal of tokens that spell none
abbrev pub spelled : List Token → Option Ddl → Result (Option Ddl) Refusal
spelled tokens (Some statement) = Ok (Some statement)
spelled tokens None = Err (refused code.Syntax (first_place tokens))

-- the statement that tokens spell, where they are not too many (4) and do not nest too deep (5)
abbrev pub read_within : List Token → Result (Option Ddl) Refusal
read_within tokens =
    if nat_lt MOST_TOKENS (length tokens) then Err (refused code.TooLong (first_place tokens))
    else (if nat_lt MOST_DEPTH (nesting_depth tokens) then Err (refused code.TooNested (first_place tokens)) else spelled tokens (whole ddl tokens))

-- the statement that tokens spell, and none where they are passed over; each refusal is at the first token
unfoldable pub read_ddl : List Token → Result (Option Ddl) Refusal
read_ddl tokens = if passed_over (map lexeme tokens) then Ok None else read_within tokens

-- REPLAY

-- what a statement makes of the catalogue
unfoldable pub replay_of : Contents → Ddl → Replayed
replay_of contents statement = replayed contents (statement ∷ [])

-- refusals in the file at a path
abbrev pub found_at : List ℕ → List Refusal → List Finding
found_at path refusals = map (λ refusal. in_source path refusal) refusals

-- a statement was replayed
abbrev pub after_replay : List ℕ → List Finding → Replayed → SoFar Contents
after_replay path found done = so_far done.catalogue (found ++ found_at path done.refusals)

-- what was read is replayed; what is refused is left out, and listed
abbrev pub after_read : List ℕ → SoFar Contents → Result (Option Ddl) Refusal → SoFar Contents
after_read path done (Ok None) = done
after_read path done (Ok (Some statement)) = after_replay path done.found (replay_of done.made statement)
after_read path done (Err refused) = so_far done.made (done.found ++ in_source path refused ∷ [])

-- a statement of a file; one without a token is passed over
abbrev pub after_statement : List ℕ → SoFar Contents → List Token → SoFar Contents
after_statement path done [] = done
after_statement path done (token ∷ tokens) = after_read path done (read_ddl (token ∷ tokens))

-- a file: its statements, in order
abbrev pub after_file : SoFar Contents → SourceFile → SoFar Contents
after_file done file = folded (after_statement file.path) done (statements (without_notes file.tokens))

-- all files of a schema, in order
abbrev pub all_made : List SourceFile → SoFar Contents
all_made schema = folded after_file (so_far empty []) schema

-- WHAT IS BUILT SO FAR

-- the scalar types whose forms are built: smallint, integer, bigint, boolean and text
abbrev pub is_first_scalar : Scalar → Bool
is_first_scalar SmallInt = true
is_first_scalar Integer = true
is_first_scalar BigInt = true
is_first_scalar Boolean = true
is_first_scalar Text = true
is_first_scalar _ = false

-- one of these types, and no array
abbrev pub is_first : PgType → Bool
is_first of = not of.array && is_first_scalar of.scalar

-- whether a table's columns have these types
abbrev pub has_first_types : Table → Bool
has_first_types table = list_all (λ (column : Column). is_first column.of) table.columns

abbrev pub has_enums : Contents → Bool
has_enums contents = is_some (slice_get contents.enums 0)

abbrev pub has_domains : Contents → Bool
has_domains contents = is_some (slice_get contents.domains 0)

-- no enumerations, no domains, and no columns of other types
abbrev pub is_built : Contents → Bool
is_built contents = not (has_enums contents) && (not (has_domains contents) && list_all has_first_types contents.tables)

-- the catalogue of a schema without a refusal, or a form that isn't built yet
abbrev pub catalogue_by : List ℕ → Contents → List Finding → Result Contents (List Finding)
catalogue_by path contents [] = if is_built contents then Ok contents else Err (of_whole path code.NotYet [] ∷ [])
catalogue_by path contents (finding ∷ findings) = Err (finding ∷ findings)

-- what a schema is judged to be, of a block in the configuration at this path
abbrev pub catalogue_of : List ℕ → List SourceFile → Result Contents (List Finding)
catalogue_of path schema = catalogue_by path (all_made schema).made (all_made schema).found
