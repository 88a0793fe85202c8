use Rattle.std.proofs.Common.{List, ap, ◌∙◌, map}
use Rattle.std.specs.Prelude.{slice_get}
use Rattle.sq_syntax.specs.declared.query.From.{From}
use Rattle.sq_measures.specs.Parts.{Tree}
use Rattle.sq_measures.proofs.part_query.in_select.Goals as goal

pub returns-in-2-clause-part : goal.returns-in-2-clause-part
returns-in-2-clause-part c =
    rw c.in-2.is (c.in_froms.ensures.part ∙ ap (λ (xs : List From). slice_get (map Tree.from xs) c.args.at) c.as_slice-in-2.ensures)
