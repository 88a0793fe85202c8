-- Calls of a block's queries, one after the other.
use Rattle.std.specs.Prelude.{List, [], ◌∷◌, IsTrue}
use Rattle.sq_catalog.specs.Contents.{Contents}
use Rattle.sq_shown.specs.declared.signature.Language.{Language}
use Rattle.sq_shown.specs.declared.signature.Output.{Output}
use Rattle.sq_shown.specs.declared.signature.Param.{Param}
use Rattle.sq_core.specs.declared.weak.Weak.{Weak}
use Rattle.sq_core.specs.declared.statement.CoreStatement.{CoreStatement}
use Rattle.sq_core.specs.Answer.{Answer, Gives, Fault, Stuck, AnswerKeeps}
use Rattle.sq_core.specs.Changes.{Outcomes}
use Rattle.sq_core.specs.Client.{ArgumentsFit, ClientValue}
use Rattle.sq_core.specs.Forms.{counts}
use Rattle.sq_core.specs.Items.{Item}
use Rattle.sq_core.specs.Sound.{AnswerFits, IsTyped, run}
use Rattle.sq_core.specs.Values.{Database, DatabaseFits}

-- a query with its parameters and columns
pub record Judged : Type 0 where
  pub core : CoreStatement
  pub params : List Param
  pub outputs : List Output

-- a call of a query, in a language, with its arguments and an oracle of its own
pub record Call : Type 0 where
  pub query : Judged
  pub language : Language
  pub arguments : List ClientValue
  pub oracle : List Item

-- a query of a block is typed; the language counts, and the arguments fit
pub record CallFits (contents : Contents) (weak : Weak) (call : Call) : Type 0 where
  pub typed : IsTyped contents weak call.query.core call.query.params call.query.outputs
  pub counted : IsTrue (counts weak call.language)
  pub arguments : ArgumentsFit call.language contents call.query.params call.arguments

abbrev pub answered : Contents → Database → Call → Answer Item Outcomes
answered contents database call =
    run call.language contents call.query.params call.query.core database call.arguments call.oracle

-- the database after a call: one that ends with a fault leaves it as it was
abbrev pub after : Database → Answer Item Outcomes → Database
after database (Gives outcomes oracle) = outcomes.database
after database Fault = database
after database Stuck = database

-- no call is stuck, each answer fits, and so does each database on the way
abbrev pub NoneStuck : Contents → Database → List Call → Type 0
NoneStuck contents database [] = DatabaseFits contents database
NoneStuck contents database (call ∷ calls) =
    DatabaseFits contents database
    × AnswerKeeps (AnswerFits contents call.query.outputs) (answered contents database call)
    × NoneStuck contents (after database (answered contents database call)) calls
