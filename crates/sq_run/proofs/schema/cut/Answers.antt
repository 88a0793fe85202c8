use Rattle.std.proofs.Common.{rules, ◌≡◌, None, Some}
use Rattle.std.specs.Prelude.{position}
use Rattle.sq_run.specs.Statements.{is_end}
use Rattle.sq_run.proofs.Cuts.{cut_at, not_cut}
use Rattle.sq_run.proofs.schema.cut.Goals as goal

pub returns-in-Some-clause-split : goal.returns-in-Some-clause-split
returns-in-Some-clause-split c =
    let found : position is_end c.args.tokens.now ≡ Some c.in-Some.end = search rules in
    (cut_at c.args.tokens.now c.in-Some.end found).split

pub returns-in-None-clause-split : goal.returns-in-None-clause-split
returns-in-None-clause-split c =
    let none : position is_end c.args.tokens.now ≡ None = search rules in
    not_cut c.args.tokens.now none
