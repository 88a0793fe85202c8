-- Where the patterns or the arguments are at an end, no more fit.
use Rattle.std.proofs.Common.{◌≡◌, ℕ, ◌≤◌, true, List, [], ◌∷◌, length, min, drop, refl, arith, length-drop}
use Rattle.sq_base.specs.declared.types.PgType.{PgType}
use Rattle.sq_builtin.specs.declared.row.Pattern.{Pattern}
use Rattle.sq_overload.specs.declared.fit.Fit.{Fit}
use Rattle.sq_overload.specs.Resolution.{all_fit, count_fit}

all_fit_short :
    (fit : Fit) (inputs : List Pattern) (args : List PgType) → min (length inputs) (length args) ≡ 0 →
    all_fit fit inputs args ≡ true
all_fit_short fit [] args short = refl
all_fit_short fit (pattern ∷ inputs) [] short = refl
all_fit_short fit (pattern ∷ inputs) (of ∷ args) short = absurd (omega arith)

count_fit_short :
    (fit : Fit) (inputs : List Pattern) (args : List PgType) → min (length inputs) (length args) ≡ 0 →
    count_fit fit inputs args ≡ 0
count_fit_short fit [] args short = refl
count_fit_short fit (pattern ∷ inputs) [] short = refl
count_fit_short fit (pattern ∷ inputs) (of ∷ args) short = absurd (omega arith)

-- past the shorter of the two, all fit
pub all_fit_past :
    (fit : Fit) (inputs : List Pattern) (args : List PgType) (place : ℕ) → min (length inputs) (length args) ≤ place →
    all_fit fit (drop place inputs) (drop place args) ≡ true
all_fit_past fit inputs args place past =
    all_fit_short fit (drop place inputs) (drop place args)
    (omega (arith, length-drop place inputs, length-drop place args))

-- past the shorter of the two, none is counted
pub count_fit_past :
    (fit : Fit) (inputs : List Pattern) (args : List PgType) (place : ℕ) → min (length inputs) (length args) ≤ place →
    count_fit fit (drop place inputs) (drop place args) ≡ 0
count_fit_past fit inputs args place past =
    count_fit_short fit (drop place inputs) (drop place args)
    (omega (arith, length-drop place inputs, length-drop place args))
