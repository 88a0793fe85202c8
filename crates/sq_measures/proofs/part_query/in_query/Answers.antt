use Rattle.std.proofs.Common.{List, ap, ◌∙◌, map}
use Rattle.std.specs.Prelude.{slice_get}
use Rattle.sq_syntax.specs.declared.query.Factor.{Factor}
use Rattle.sq_syntax.specs.declared.query.Operands.{Operands}
use Rattle.sq_syntax.specs.declared.query.SetLink.{SetLink}
use Rattle.sq_measures.specs.Parts.{Tree}
use Rattle.sq_measures.proofs.part_query.in_query.Goals as goal

pub returns-in-2-clause-part : goal.returns-in-2-clause-part
returns-in-2-clause-part c =
    rw c.in-2.is (c.in_operands.ensures.part ∙ ap (λ (xs : List (SetLink (Operands Factor))). slice_get (map (λ y. Tree.factors y.operand) xs) c.args.at) c.as_slice-in-2.ensures)
