use Rattle.std.proofs.Common.{◌≡◌, ◌++◌, drop}
use Rattle.sq_shown.specs.Identifiers.{words, words_after}
use Rattle.sq_shown.proofs.identifier.words.Given as goal

-- the words so far, and those of what is left
abbrev pub invariant-loop-byte : goal.invariant-loop-byte
invariant-loop-byte l = l.all ++ words_after l.word (drop l.byte-index l.name) ≡ words l.name
