use Rattle.std.proofs.Common.{◌≡◌, ◌++◌, drop}
use Rattle.sq_shown.specs.Signature.{fields, fields_after}
use Rattle.sq_shown.proofs.showing.fields.Given as goal

-- the fields so far, and those of the columns that are left
abbrev pub invariant-loop-column : goal.invariant-loop-column
invariant-loop-column l = l.all ++ fields_after l.identifiers (drop l.column-index l.columns) ≡ fields l.columns
