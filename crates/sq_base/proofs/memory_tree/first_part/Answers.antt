use Rattle.std.proofs.Common.{◌≡◌, ℕ, ◌==◌, length, take, None, Some, sym, ◌∙◌, ap, lit<}
use Rattle.std.specs.List.{position_or_len}
use Rattle.std.proofs.Math.Seq.{take-length}
use Rattle.std.proofs.lemmas.Str.Pattern.{split_once_first}
use Rattle.sq_base.proofs.memory_tree.first_part.Goals as goal

pub returns-in-Some : goal.returns-in-Some
returns-in-Some c = (split_once_first 47 c.args.path.now (Some (c.in-Some.name, c.in-Some.field-0-1)) c.in-Some.ensures.cases (lit< tt)).1

pub returns-in-None : goal.returns-in-None
returns-in-None c =
    let whole : position_or_len (λ b. b == 47) c.args.path.now ≡ length c.args.path.now = split_once_first 47 c.args.path.now None c.in-None.ensures.cases (lit< tt) in
    sym (take-length c.args.path.now) ∙ ap (λ (n : ℕ). take n c.args.path.now) (sym whole)
