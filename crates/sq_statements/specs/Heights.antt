-- How high the expressions of a statement are, part by part.
use Rattle.std.specs.Prelude.{ℕ, max, List, [], ◌∷◌, Option, Some, None}
use Rattle.sq_syntax.specs.declared.expr.Node.{Node}
use Rattle.sq_syntax.specs.declared.expr.Expression.{Expression}
use Rattle.sq_syntax.specs.declared.query.Output.{Output}
use Rattle.sq_syntax.specs.declared.query.Output.TheVariants as output
use Rattle.sq_syntax.specs.declared.query.Query.{Query}
use Rattle.sq_syntax.specs.declared.query.With.{With}
use Rattle.sq_syntax.specs.declared.statement.Assignment.{Assignment}
use Rattle.sq_syntax.specs.declared.statement.Conflict.{Conflict}
use Rattle.sq_syntax.specs.declared.statement.Conflict.TheVariants as conflict_kind
use Rattle.sq_syntax.specs.declared.statement.ConflictTarget.{ConflictTarget}
use Rattle.sq_syntax.specs.declared.statement.ConflictTarget.TheVariants as target
use Rattle.sq_syntax.specs.declared.statement.Delete.{Delete}
use Rattle.sq_syntax.specs.declared.statement.Given.{Given}
use Rattle.sq_syntax.specs.declared.statement.Given.TheVariants as given_kind
use Rattle.sq_syntax.specs.declared.statement.Insert.{Insert}
use Rattle.sq_syntax.specs.declared.statement.InsertSource.{InsertSource}
use Rattle.sq_syntax.specs.declared.statement.InsertSource.TheVariants as source_kind
use Rattle.sq_syntax.specs.declared.statement.Update.{Update}
use Rattle.sq_syntax.specs.declared.statement.ValuesRow.{ValuesRow}
use Rattle.sq_syntax.specs.Grammar.{height, query_height, from_height}

abbrev pub greatest : {A : Type 0} → (A → ℕ) → List A → ℕ
greatest of [] = 0
greatest of (x ∷ xs) = max (of x) (greatest of xs)

abbrev pub given_height : Given → ℕ
given_height (given_kind.Default place) = 0
given_height (given_kind.Expression x) = height x

abbrev pub row_height : ValuesRow → ℕ
row_height x = greatest given_height x.values

abbrev pub source_height : InsertSource → ℕ
source_height (source_kind.Values rows) = greatest row_height rows
source_height (source_kind.Query x) = query_height x
source_height source_kind.DefaultValues = 0

abbrev pub assignment_height : Assignment → ℕ
assignment_height x = given_height x.value

abbrev pub condition_height : Option (Node Expression) → ℕ
condition_height None = 0
condition_height (Some x) = height x

abbrev pub target_height : ConflictTarget → ℕ
target_height (target.Columns xs x) = condition_height x
target_height (target.Constraint x) = 0

abbrev pub optional_target_height : Option ConflictTarget → ℕ
optional_target_height None = 0
optional_target_height (Some x) = target_height x

abbrev pub conflict_height : Option Conflict → ℕ
conflict_height None = 0
conflict_height (Some (conflict_kind.Nothing place x)) = optional_target_height x
conflict_height (Some (conflict_kind.Update place x sets y)) = max (target_height x) (max (greatest assignment_height sets) (condition_height y))

abbrev pub with_height : With Query → ℕ
with_height x = query_height x.query

abbrev pub output_height : Output (Node Expression) → ℕ
output_height output.Star = 0
output_height (output.StarOf x) = 0
output_height (output.Value x last) = height x

abbrev pub shown_height : Node (Output (Node Expression)) → ℕ
shown_height x = output_height x.form

abbrev pub insert_height : Insert → ℕ
insert_height x = max (greatest with_height x.with) (max (source_height x.source) (max (conflict_height x.conflict) (greatest shown_height x.returning)))

abbrev pub update_height : Update → ℕ
update_height x = max (greatest with_height x.with) (max (greatest assignment_height x.sets) (max (greatest from_height x.from) (max (condition_height x.condition) (greatest shown_height x.returning))))

abbrev pub delete_height : Delete → ℕ
delete_height x = max (greatest with_height x.with) (max (greatest from_height x.using) (max (condition_height x.condition) (greatest shown_height x.returning)))
