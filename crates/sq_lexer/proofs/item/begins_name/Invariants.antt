use Rattle.std.proofs.Common.{◌≡◌, drop}
use Rattle.sq_syntax.specs.Classes.{past_spaces}
use Rattle.sq_lexer.proofs.item.begins_name.Given as goal

abbrev pub invariant-loop-index : goal.invariant-loop-index
invariant-loop-index l = past_spaces (drop l.index l.text) ≡ past_spaces l.text
