-- What it means for a statement never to be stuck.
use Rattle.std.specs.Prelude.{◌≡◌, false, List, map, IsTrue}
use Rattle.std.specs.List.{AllByRecursion}
use Rattle.sq_catalog.specs.Contents.{Contents}
use Rattle.sq_shown.specs.declared.signature.Language.{Language}
use Rattle.sq_shown.specs.declared.signature.Output.{Output}
use Rattle.sq_shown.specs.declared.signature.Param.{Param}
use Rattle.sq_core.specs.declared.weak.Weak.{Weak}
use Rattle.sq_core.specs.declared.statement.CoreStatement.{CoreStatement}
use Rattle.sq_core.specs.Answer.{Keeps, ◌>>=◌}
use Rattle.sq_core.specs.Changes.{Outcomes}
use Rattle.sq_core.specs.Client.{ArgumentsFit, ClientValue, RowFitsPrinted, WeakIsNullable, bound_all, output_form}
use Rattle.sq_core.specs.Forms.{counts}
use Rattle.sq_core.specs.Items.{Run}
use Rattle.sq_core.specs.Statements.{StatementTyped, statement_kinds, statement_run}
use Rattle.sq_core.specs.Values.{Database, DatabaseFits, RowsFit, is_unknown, output_kind, tag}

-- the run of a statement: its arguments are bound, each once
abbrev pub run : Language → Contents → List Param → CoreStatement → Database → List ClientValue → Run Outcomes
run language contents params core database arguments =
    bound_all language contents params arguments >>= (λ values. statement_run contents params database values core)

-- an output is of a known type
abbrev pub IsKnown : Contents → Output → Type 0
IsKnown contents output = is_unknown (tag contents output.of) ≡ false

-- a statement is typed, a weak parameter is nullable, and these outputs are of known types and have the statement's
-- tags and marks
pub record IsTyped (contents : Contents) (weak : Weak) (core : CoreStatement) (params : List Param)
    (outputs : List Output) : Type 0 where
  pub statement : StatementTyped contents params core
  pub weak_nullable : WeakIsNullable weak contents params
  pub outputs_known : AllByRecursion (IsKnown contents) outputs
  pub outputs_shown : map (output_kind contents) outputs ≡ statement_kinds contents params core

-- The rows that an answer returns fit the outputs, and what is printed for them in every language; its database fits.
pub record AnswerFits (contents : Contents) (outputs : List Output) (answer : Outcomes) : Type 0 where
  pub rows : RowsFit (map (output_kind contents) outputs) answer.rows
  pub printed : (language : Language)
      → AllByRecursion (RowFitsPrinted language contents (map (output_form language contents) outputs)) answer.rows
  pub database : DatabaseFits contents answer.database

-- On every database that fits, with all arguments that fit the printed parameters of a language that counts, and with
-- every oracle, a statement is not stuck, and what it answers fits.
pub record NeverStuck (contents : Contents) (weak : Weak) (core : CoreStatement) (params : List Param)
    (outputs : List Output) : Type 0 where
  pub answers_fit : (language : Language) (database : Database) (arguments : List ClientValue)
      → IsTrue (counts weak language) → DatabaseFits contents database
      → ArgumentsFit language contents params arguments
      → Keeps (AnswerFits contents outputs) (run language contents params core database arguments)
