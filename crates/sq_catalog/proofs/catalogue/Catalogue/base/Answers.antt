use Rattle.std.proofs.Common.{◌≡◌, ◌∙◌, arith}
use Rattle.sq_catalog.proofs.Bases.{no_steps}
use Rattle.sq_catalog.proofs.catalogue.Catalogue.base.Goals as goal

pub returns : goal.returns
returns c =
    let none : c.loop-left.left ≡ 0 = omega (arith, c.loop-left-test.false) in
    no_steps c.args.self.now c.loop-left.left c.loop-left.found none ∙ c.loop-left.invariant
