-- Matches in the innermost level that has any.
use Rattle.std.proofs.Common.{◌≡◌, ◌<◌, ◌+◌, ℕ, suc, zero, List, [], ◌∷◌, length, drop, get_or, refl, ap, sym, subst, ◌∙◌, arith, add-one}
use Rattle.sq_syntax.specs.declared.name.ColumnName.{ColumnName}
use Rattle.sq_scope.specs.declared.ranges.Level.{Level}
use Rattle.sq_scope.specs.declared.scope.Found.{Found}
use Rattle.sq_scope.specs.Ranges.{seen}
use Rattle.sq_scope.specs.Scope.{all_seen, level_matches, matches, or_those}

some_found : (found others : List Found) → 0 < length found → or_those found others ≡ found
some_found [] others some = absurd (omega arith)
some_found (one ∷ more) others some = refl

drop_next : {A : Type 0} (xs : List A) (i : ℕ) (x : A) → i < length xs → x ≡ get_or xs i x → drop i xs ≡ x ∷ drop (i + 1) xs
drop_next [] i x within is = absurd (omega arith)
drop_next (y ∷ ys) zero x within is = ap (λ z. z ∷ ys) (sym is)
drop_next (y ∷ ys) (suc i) x within is =
    let next : suc (i + 1) ≡ suc i + 1 = omega arith in
    drop_next ys i x (omega arith) is ∙ ap (λ n. x ∷ drop n (y ∷ ys)) next

-- the level in a place has a match
pub first_found : (levels : List Level) (depth : ℕ) (level : Level) (name : ColumnName) (found : List Found) → depth < length levels → level ≡ get_or levels depth level
    → found ≡ level_matches depth (seen level) name → 0 < length found → matches depth (all_seen (drop depth levels)) name ≡ found
first_found levels depth level name found within is same some =
    ap (λ ls. matches depth (all_seen ls) name) (drop_next levels depth level within is)
    ∙ some_found (level_matches depth (seen level) name) (matches (depth + 1) (all_seen (drop (depth + 1) levels)) name) (subst (λ xs. 0 < length xs) same some)
    ∙ sym same
