use Rattle.std.proofs.Common.{◌≡◌, ◌++◌, take}
use Rattle.std.specs.List.{flat_map}
use Rattle.sq_shown.specs.Identifiers.{pascal_word}
use Rattle.sq_shown.proofs.identifier.push_pascal_words.Given as goal

-- the words so far are written
abbrev pub invariant-loop-word : goal.invariant-loop-word
invariant-loop-word l = l.out ≡ l.fn.out ++ flat_map pascal_word (take l.word-index l.words)
