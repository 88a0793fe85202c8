-- The bytes of a name are a text.
use Rattle.std.proofs.Common.{◌≡◌, ℕ, ◌<◌, ◌+◌, ◌==◌, Bool, true, false, cond, [], ◌∷◌, take, Some, None, refl, ap, sym, subst, arith}
use Rattle.std.specs.List.{prefix_len, All}
use Rattle.std.specs.Str.{IsUtf8}
use Rattle.std.proofs.lemmas.Str.{IsUtf8-from_ascii}
use Rattle.std.proofs.lemmas.Str.Ascii.{IsAscii-from_all}
use Rattle.std.proofs.lemmas.List.Elements.{All-nil, All-cons}
use Rattle.std.proofs.Math.Numerals.{one-add}
use Rattle.std.proofs.lemmas.Bool.Decides.{nat_tests}
use Rattle.sq_reader.specs.Parts.{Text, Part, allows, run, after_run, run_at}
use Rattle.sq_reader.specs.declared.parts.Class.{Class}
use Rattle.sq_reader.specs.declared.parts.Class.TheVariants.{Word, Spelling, Path, Newline, Bracket}

low : (class : Class) (b : ℕ) → allows class b ≡ true → b < 128
low Word b h = grind (arith, nat_tests)
low Spelling b h = grind (arith, nat_tests)
low Path b h = grind (arith, nat_tests)
low Newline b h = grind (arith, nat_tests)
low Bracket b h = grind (arith, nat_tests)

run_low : (class : Class) (text : Text) → All (λ b. b < 128) (take (prefix_len (allows class) text) text)
run_low class [] = All-nil (λ b. b < 128)
run_low class (b ∷ bs) = go (allows class b) refl (run_low class bs)
  where
    go : (t : Bool) → allows class b ≡ t → All (λ b. b < 128) (take (prefix_len (allows class) bs) bs) → All (λ b. b < 128) (take (prefix_len (allows class) (b ∷ bs)) (b ∷ bs))
    go true e later = subst (λ (t : Bool). All (λ b. b < 128) (take (cond t (1 + prefix_len (allows class) bs) 0) (b ∷ bs))) (sym e)
        (rw (one-add) (All-cons (λ b. b < 128) b (take (prefix_len (allows class) bs) bs) (low class b e) later))
    go false e later = subst (λ (t : Bool). All (λ b. b < 128) (take (cond t (1 + prefix_len (allows class) bs) 0) (b ∷ bs))) (sym e) (All-nil (λ b. b < 128))

first_part : (a b c d : Text) → ◌≡◌ {A = Part Text} (Some (a, b)) (Some (c, d)) → a ≡ c
first_part a b c d e = ap front e
  where
    front : Part Text → Text
    front None = []
    front (Some x) = x.0

no_part : (c d : Text) → ◌≡◌ {A = Part Text} None (Some (c, d)) → ⊥
no_part c d e = cc

-- what was read of a class is a text
pub run_utf8 : (class : Class) (text bytes rest : Text) → run_at class text ≡ Some (bytes, rest) → IsUtf8 bytes
unfolding run_at
run_utf8 class text bytes rest found =
    elim (prefix_len (allows class) text == 0) as (λ (t : Bool). cond {A = Part Text} t None (Some (run class text, after_run class text)) ≡ Some (bytes, rest) → IsUtf8 bytes) [
      | true ↦ λ e. absurd (no_part bytes rest e)
      | false ↦ λ e. subst IsUtf8 (first_part (run class text) (after_run class text) bytes rest e) (IsUtf8-from_ascii (run class text) (IsAscii-from_all (run class text) (run_low class text)))
    ] found
