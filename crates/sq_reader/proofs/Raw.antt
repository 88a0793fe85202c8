-- Steps of reading a raw string.
use Rattle.std.proofs.Common.{◌≡◌, ℕ, zero, suc, ◌≤◌, ◌==◌, ◌≢◌, Bool, false, cond, [], ◌∷◌, ◌++◌, Some, None, Option, refl, ap, sym, ◌∙◌, append_assoc, arith}
use Rattle.std.proofs.lemmas.Bool.Decides.{nat_tests}
use Rattle.sq_reader.specs.Parts.{Text, Part, Outside, outside_at, is_outside, onto, at_quote, raw_byte, raw_after}

pub onto_twice : (a b : Text) (part : Part Text) → onto a (onto b part) ≡ onto (a ++ b) part
onto_twice a b None = refl
onto_twice a b (Some x) = ap (λ (t : Text). Some (t, x.1)) (sym (append_assoc a b x.0))

pub onto_nothing : (part : Part Text) → onto [] part ≡ part
onto_nothing None = refl
onto_nothing (Some x) = refl

-- what is written outside
pub at_outside : (old new rest : Text) (b read : ℕ) (o : Outside) → read ≤ 0 → b ≡ 96 → outside_at rest ≡ Some o → new ≡ old ++ o.bytes →
    onto old (raw_after (b ∷ rest) read) ≡ onto new (raw_after rest o.taken)
at_outside old new rest b zero o first quote at grown =
    ap (λ (n : ℕ). onto old (raw_byte n rest (raw_after rest))) quote
    ∙ ap (λ (x : Option Outside). onto old (at_quote x rest (raw_after rest))) at
    ∙ onto_twice old o.bytes (raw_after rest o.taken)
    ∙ ap (λ (t : Text). onto t (raw_after rest o.taken)) (sym grown)
at_outside old new rest b (suc read) o first quote at grown = absurd (omega arith)

-- a byte that stands for itself
pub at_byte : (old new rest : Text) (b read : ℕ) → read ≤ 0 → b ≢ 96 → is_outside b rest ≡ false → new ≡ old ++ b ∷ [] →
    onto old (raw_after (b ∷ rest) read) ≡ onto new (raw_after rest 0)
at_byte old new rest b zero first other inside grown =
    let no_quote : (b == 96) ≡ false = grind (arith, nat_tests) in
    ap (λ (t : Bool). onto old (cond t (at_quote (outside_at rest) rest (raw_after rest)) (cond (is_outside b rest) None (onto (b ∷ []) (raw_after rest 0))))) no_quote
    ∙ ap (λ (t : Bool). onto old (cond t None (onto (b ∷ []) (raw_after rest 0)))) inside
    ∙ onto_twice old (b ∷ []) (raw_after rest 0)
    ∙ ap (λ (t : Text). onto t (raw_after rest 0)) (sym grown)
at_byte old new rest b (suc read) first other inside grown = absurd (omega arith)
