use Rattle.std.proofs.Common.{◌≡◌, ℕ, List, drop, map}
use Rattle.std.specs.BTreeSet.{contains_by}
use Rattle.std.specs.Cmp.Lexicographic.{slice_cmp}
use Rattle.std.specs.Ordering.{nat_cmp}
use Rattle.std.specs.List.{list_any}
use Rattle.std.specs.Str.{bytes_eq}
use Rattle.sq_config.specs.Outs as outs
use Rattle.sq_config.proofs.configuration.outs.same_out.Given as goal

abbrev pub invariant-loop-entry : goal.invariant-loop-entry
invariant-loop-entry l =
    (paths : List (List ℕ))
    × ((q : List ℕ) → contains_by (λ k. slice_cmp nat_cmp q k.now) l.seen ≡ list_any (λ path. bytes_eq path q) paths)
    × (outs.same_out_after paths (map (λ e. e.now) (drop l.entry-index l.entries)) ≡ outs.same_out (map (λ e. e.now) l.entries))
