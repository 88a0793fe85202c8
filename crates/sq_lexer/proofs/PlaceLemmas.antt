-- Places and gaps, byte by byte.
use Rattle.std.proofs.Common.{◌≡◌, ℕ, ◌+◌, ◌<◌, ◌≤◌, List, length, drop, get_or}
use Rattle.std.proofs.lemmas.List.{at_drop_more, at_drop_all}
use Rattle.sq_syntax.specs.Tokens.{after, after_byte}
use Rattle.sq_base.specs.declared.place.Place.{Place}

pub after_more : (place : Place) (bytes : List ℕ) (i : ℕ) → i < length bytes → after place (drop i bytes) ≡ after (after_byte place (get_or bytes i 0)) (drop (i + 1) bytes)
after_more place bytes i within = at_drop_more (after place) bytes i 0 within

pub after_all : (place : Place) (bytes : List ℕ) (i : ℕ) → length bytes ≤ i → after place (drop i bytes) ≡ place
after_all place bytes i past = at_drop_all (after place) bytes i past

pub ruleset places = (after_more, after_all)
