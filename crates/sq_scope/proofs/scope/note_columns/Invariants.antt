use Rattle.std.proofs.Common.{◌≡◌, ◌++◌, drop}
use Rattle.sq_scope.specs.Scope.{column_matches}
use Rattle.sq_scope.proofs.scope.note_columns.Given as goal

abbrev pub invariant-loop-place : goal.invariant-loop-place
invariant-loop-place l = l.found ++ column_matches l.depth l.range l.place (drop l.place l.columns) l.name ≡ l.initial.found ++ column_matches l.depth l.range 0 l.columns l.name
