use Rattle.std.proofs.Common.{◌≡◌, List, drop, []}
use Rattle.sq_shown.specs.Lines.{Text}
use Rattle.sq_go.proofs.Seen.{has, has_seen, is_among}
use Rattle.sq_go.proofs.clash.has_equal.Given as goal

-- the set has the names so far, none of which has an equal one
abbrev pub invariant-loop-name : goal.invariant-loop-name
invariant-loop-name l =
    (seen : List Text)
    × ((name : Text) → has l.seen name ≡ is_among seen name)
    × (has_seen seen (drop l.name-index l.names) ≡ has_seen [] l.names)
