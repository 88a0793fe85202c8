-- A sign in a run of signs, which is no part of a longer operator, is an operator of its own.
use Rattle.std.proofs.Common.{◌≡◌, ℕ, ◌+◌, ◌<◌, ◌≤◌, ◌&&◌, ◌||◌, not, zero, suc, Bool, true, false, if◌then◌else◌, List, [], ◌∷◌, ◌++◌, length, drop, get_or, unwrap_or, Option, Some, None, refl, ap, ◌∙◌, sym, arith}
use Rattle.std.specs.Option.{option_map}
use Rattle.std.proofs.lemmas.List.{at_drop_more}
use Rattle.sq_syntax.specs.Bytes.{class_of}
use Rattle.sq_syntax.specs.Classes.{next_class, is_sign, in_operator, is_special, breaks_off}
use Rattle.sq_syntax.specs.declared.class.ByteClass.{ByteClass}
use Rattle.sq_syntax.specs.declared.class.ByteClass.TheVariants as class
use Rattle.sq_syntax.specs.declared.item.ItemKind.TheVariants as kind
use Rattle.sq_lexer.specs.Machine.{step, scan, later, begin, start, line_start, operator, opened, ended_operator}
use Rattle.sq_lexer.specs.Reading.{more_signs, ends_signs, lone_signs, IsLoneOperator}
use Rattle.sq_lexer.specs.declared.machine.State.TheVariants as at
use Rattle.sq_lexer.specs.declared.machine.Found.{Found}
use Rattle.sq_lexer.proofs.Reaches.{scan-dead}

no_end : (t : Bool) (c : ByteClass) → is_sign c ≡ true → (if not t && (false || not (is_sign c)) then Some kind.Operator else None) ≡ None
no_end true c is = refl
no_end false c is = ap (λ s. if true && (false || not s) then Some kind.Operator else None) is

no_break : (may_end : Bool) (c : ByteClass) (next : Option ByteClass) → breaks_off c next ≡ true → ended_operator may_end c next ≡ None
no_break may_end c next is = ap (λ t. if not t && (may_end || not (is_sign c)) then Some kind.Operator else None) is

not_inside : (inside breaks special : Bool) (c : ByteClass) → (inside && not breaks) ≡ false → (if inside && not breaks then at.Operator special c else at.Dead) ≡ at.Dead
not_inside inside breaks special c is = ap (λ t. if t then at.Operator special c else at.Dead) is

sign_inside : (c : ByteClass) → is_sign c ≡ true → (in_operator c ≡ true) × (is_special c ≡ false)
sign_inside class.Plus is = (refl, refl)
sign_inside class.Dash is = (refl, refl)
sign_inside _ is = cc

sign_start : (c : ByteClass) → is_sign c ≡ true → (start c ≡ at.Lone c) × (line_start c ≡ at.Lone c)
sign_start class.Plus is = (refl, refl)
sign_start class.Dash is = (refl, refl)
sign_start _ is = cc

-- a byte behind which the operator breaks off
broken : (bytes seen : List ℕ) (special : Bool) (c : ByteClass) (found : Option Found) → breaks_off c (next_class bytes) ≡ true → scan seen (at.Operator special c) found bytes ≡ found
unfolding scan
broken [] seen special c found is = ap (λ k. later k (length seen) found) (no_break special c None is)
broken (b ∷ bytes) seen special c found is =
    ap (λ s. scan (seen ++ b ∷ []) s (later (ended_operator special c (Some (class_of b))) (length seen) found) bytes)
    (not_inside (in_operator (class_of b)) (breaks_off c (Some (class_of b))) (special || is_special (class_of b)) (class_of b) (dead_end (in_operator (class_of b)) (breaks_off c (Some (class_of b))) is))
    ∙ scan-dead bytes (seen ++ b ∷ []) (later (ended_operator special c (Some (class_of b))) (length seen) found)
    ∙ ap (λ k. later k (length seen) found) (no_break special c (Some (class_of b)) is)
  where
    dead_end : (inside breaks : Bool) → breaks ≡ true → (inside && not breaks) ≡ false
    dead_end true breaks e = ap not e
    dead_end false breaks e = refl

-- the run of signs ends: nothing more is found
pub run_ends : (bytes seen : List ℕ) (c : ByteClass) (found : Option Found) (n : ℕ) → is_sign c ≡ true → more_signs c bytes ≡ Some n → scan seen (at.Operator false c) found bytes ≡ found
unfolding scan
run_ends [] seen c found n is more = ap (λ k. later k (length seen) found) (no_end (breaks_off c None) c is)
run_ends (b ∷ bytes) seen c found n is more =
    ap (λ k. scan (seen ++ b ∷ []) (operator false c (class_of b)) (later k (length seen) found) bytes) (no_end (breaks_off c (Some (class_of b))) c is)
    ∙ by_tests (is_sign (class_of b)) (breaks_off c (Some (class_of b))) (in_operator (class_of b)) (breaks_off (class_of b) (next_class bytes)) refl refl refl refl more
    (λ m. run_ends bytes (seen ++ b ∷ []) (class_of b) found m)
  where
    goes_on : is_sign (class_of b) ≡ true → breaks_off c (Some (class_of b)) ≡ false → operator false c (class_of b) ≡ at.Operator false (class_of b)
    goes_on signs whole =
        let both = sign_inside (class_of b) signs in
        ap (λ t. if t && not (breaks_off c (Some (class_of b))) then at.Operator (false || is_special (class_of b)) (class_of b) else at.Dead) both.0
        ∙ ap (λ t. if true && not t then at.Operator (false || is_special (class_of b)) (class_of b) else at.Dead) whole
        ∙ ap (λ t. at.Operator t (class_of b)) both.1

    inner : (o : Option ℕ) → option_map (λ m. m + 1) o ≡ Some n → ((m : ℕ) → o ≡ Some m → scan (seen ++ b ∷ []) (at.Operator false (class_of b)) found bytes ≡ found)
        → scan (seen ++ b ∷ []) (at.Operator false (class_of b)) found bytes ≡ found
    inner None e rest = cc
    inner (Some m) e rest = rest m refl

    is_dead : (in_operator (class_of b) && not (breaks_off c (Some (class_of b)))) ≡ false → scan (seen ++ b ∷ []) (operator false c (class_of b)) found bytes ≡ found
    is_dead apart =
        ap (λ s. scan (seen ++ b ∷ []) s found bytes) (not_inside (in_operator (class_of b)) (breaks_off c (Some (class_of b))) (false || is_special (class_of b)) (class_of b) apart)
        ∙ scan-dead bytes (seen ++ b ∷ []) found

    is_broken : in_operator (class_of b) ≡ true → breaks_off c (Some (class_of b)) ≡ false → breaks_off (class_of b) (next_class bytes) ≡ true → scan (seen ++ b ∷ []) (operator false c (class_of b)) found bytes ≡ found
    is_broken inside whole breaks =
        ap (λ t. scan (seen ++ b ∷ []) (if t && not (breaks_off c (Some (class_of b))) then at.Operator (false || is_special (class_of b)) (class_of b) else at.Dead) found bytes) inside
        ∙ ap (λ t. scan (seen ++ b ∷ []) (if true && not t then at.Operator (false || is_special (class_of b)) (class_of b) else at.Dead) found bytes) whole
        ∙ broken bytes (seen ++ b ∷ []) (false || is_special (class_of b)) (class_of b) found breaks

    by_tests : (signs off inside next_off : Bool) → is_sign (class_of b) ≡ signs → breaks_off c (Some (class_of b)) ≡ off → in_operator (class_of b) ≡ inside → breaks_off (class_of b) (next_class bytes) ≡ next_off
        → (if signs && not off then option_map (λ m. m + 1) (more_signs (class_of b) bytes) else (if not inside || (off || next_off) then Some 0 else None)) ≡ Some n
        → ((m : ℕ) → is_sign (class_of b) ≡ true → more_signs (class_of b) bytes ≡ Some m → scan (seen ++ b ∷ []) (at.Operator false (class_of b)) found bytes ≡ found)
        → scan (seen ++ b ∷ []) (operator false c (class_of b)) found bytes ≡ found
    by_tests true false inside next_off s o i x e rest =
        ap (λ t. scan (seen ++ b ∷ []) t found bytes) (goes_on s o) ∙ inner (more_signs (class_of b) bytes) e (λ m. rest m s)
    by_tests signs true inside next_off s o i x e rest = is_dead (ap (λ t. in_operator (class_of b) && not t) o ∙ never (in_operator (class_of b)))
      where
        never : (t : Bool) → (t && false) ≡ false
        never true = refl
        never false = refl
    by_tests false false false next_off s o i x e rest = is_dead (ap (λ t. t && not (breaks_off c (Some (class_of b)))) i)
    by_tests false false true true s o i x e rest = is_broken i o x
    by_tests false false true false s o i x e rest = cc

-- a sign before another
pub lone_sign : (b d : ℕ) (bytes : List ℕ) (n : ℕ) → is_sign (class_of b) ≡ true → is_sign (class_of d) ≡ true → breaks_off (class_of b) (Some (class_of d)) ≡ false
    → more_signs (class_of d) bytes ≡ Some n → IsLoneOperator (b ∷ d ∷ bytes)
unfolding scan
lone_sign b d bytes n one two whole more first = begins first
  where
    found : Option Found
    found = Some (record { kind = kind.Operator; size = 1 })

    to_second : step (b ∷ []) (at.Lone (class_of b)) d ≡ at.Operator false (class_of d)
    to_second =
        ap (λ t. if t then opened (class_of b) else operator (is_special (class_of b)) (class_of b) (class_of d)) whole
        ∙ ap (λ t. operator t (class_of b) (class_of d)) (sign_inside (class_of b) one).1
        ∙ ap (λ t. if t && not (breaks_off (class_of b) (Some (class_of d))) then at.Operator (false || is_special (class_of d)) (class_of d) else at.Dead) (sign_inside (class_of d) two).0
        ∙ ap (λ t. if true && not t then at.Operator (false || is_special (class_of d)) (class_of d) else at.Dead) whole
        ∙ ap (λ t. at.Operator t (class_of d)) (sign_inside (class_of d) two).1

    from_lone : scan (b ∷ []) (at.Lone (class_of b)) None (d ∷ bytes) ≡ Some (record { kind = kind.Operator; size = 1 })
    from_lone =
        ap (λ s. scan (b ∷ d ∷ []) s (later (ended_operator true (class_of b) (Some (class_of d))) 1 None) bytes) to_second
        ∙ run_ends bytes (b ∷ d ∷ []) (class_of d) (later (ended_operator true (class_of b) (Some (class_of d))) 1 None) n two more
        ∙ ap (λ t. later (if not t && (true || not (is_sign (class_of b))) then Some kind.Operator else None) 1 None) whole

    begins : (first : Bool) → scan [] (begin first) None (b ∷ d ∷ bytes) ≡ Some (record { kind = kind.Operator; size = 1 })
    begins true = ap (λ s. scan (b ∷ []) s None (d ∷ bytes)) (sign_start (class_of b) one).1 ∙ from_lone
    begins false = ap (λ s. scan (b ∷ []) s None (d ∷ bytes)) (sign_start (class_of b) one).0 ∙ from_lone

-- each of so many signs
pub signs_alone : (bytes : List ℕ) (b n i : ℕ) → is_sign (class_of b) ≡ true → more_signs (class_of b) bytes ≡ Some n → i < n → IsLoneOperator (drop i (b ∷ bytes))
signs_alone [] b n i one more less = let none : n ≡ 0 = cc in absurd (omega arith)
signs_alone (d ∷ bytes) b n i one more less =
    by_tests (is_sign (class_of d)) (breaks_off (class_of b) (Some (class_of d))) refl refl (ends_signs (class_of b) (class_of d) (next_class bytes)) more
    (λ m j. signs_alone bytes d m j)
  where
    at_index : (m : ℕ) (i : ℕ) → is_sign (class_of d) ≡ true → breaks_off (class_of b) (Some (class_of d)) ≡ false → more_signs (class_of d) bytes ≡ Some m → i < m + 1
        → ((m j : ℕ) → is_sign (class_of d) ≡ true → more_signs (class_of d) bytes ≡ Some m → j < m → IsLoneOperator (drop j (d ∷ bytes))) → IsLoneOperator (drop i (b ∷ d ∷ bytes))
    at_index m zero two whole more less rest = lone_sign b d bytes m one two whole more
    at_index m (suc j) two whole more less rest = rest m j two more (omega arith)

    inner : (o : Option ℕ) → more_signs (class_of d) bytes ≡ o → is_sign (class_of d) ≡ true → breaks_off (class_of b) (Some (class_of d)) ≡ false → option_map (λ m. m + 1) o ≡ Some n
        → ((m j : ℕ) → is_sign (class_of d) ≡ true → more_signs (class_of d) bytes ≡ Some m → j < m → IsLoneOperator (drop j (d ∷ bytes))) → IsLoneOperator (drop i (b ∷ d ∷ bytes))
    inner None is two whole e rest = cc
    inner (Some m) is two whole e rest = let n_is : m + 1 ≡ n = cc in at_index m i two whole is (omega arith) rest

    by_tests : (signs off : Bool) → is_sign (class_of d) ≡ signs → breaks_off (class_of b) (Some (class_of d)) ≡ off → (ends : Bool)
        → (if signs && not off then option_map (λ m. m + 1) (more_signs (class_of d) bytes) else (if ends then Some 0 else None)) ≡ Some n
        → ((m j : ℕ) → is_sign (class_of d) ≡ true → more_signs (class_of d) bytes ≡ Some m → j < m → IsLoneOperator (drop j (d ∷ bytes))) → IsLoneOperator (drop i (b ∷ d ∷ bytes))
    by_tests true false two whole ends e rest = inner (more_signs (class_of d) bytes) refl two whole e rest
    by_tests true true two whole true e rest = let none : 0 ≡ n = cc in absurd (omega arith)
    by_tests true true two whole false e rest = cc
    by_tests false off two whole true e rest = let none : 0 ≡ n = cc in absurd (omega arith)
    by_tests false off two whole false e rest = cc

pub lone_signs_alone : (bytes : List ℕ) (i : ℕ) → i < lone_signs bytes → IsLoneOperator (drop i bytes)
lone_signs_alone [] i less = absurd (omega arith)
lone_signs_alone (b ∷ bytes) i less = by_sign (is_sign (class_of b)) refl less
  where
    at_count : (o : Option ℕ) → more_signs (class_of b) bytes ≡ o → is_sign (class_of b) ≡ true → i < unwrap_or o 0 → IsLoneOperator (drop i (b ∷ bytes))
    at_count None is one less = absurd (omega arith)
    at_count (Some n) is one less = signs_alone bytes b n i one is less

    by_sign : (t : Bool) → is_sign (class_of b) ≡ t → i < (if t then unwrap_or (more_signs (class_of b) bytes) 0 else 0) → IsLoneOperator (drop i (b ∷ bytes))
    by_sign true one less = at_count (more_signs (class_of b) bytes) refl one less
    by_sign false one less = absurd (omega arith)

-- they are no more than the bytes
more_within : (bytes : List ℕ) (c : ByteClass) (n : ℕ) → more_signs c bytes ≡ Some n → n ≤ length bytes
more_within [] c n is = let none : 0 ≡ n = cc in omega arith
more_within (b ∷ bytes) c n is = by_tests (is_sign (class_of b) && not (breaks_off c (Some (class_of b)))) (ends_signs c (class_of b) (next_class bytes)) is (more_within bytes (class_of b))
  where
    inner : (o : Option ℕ) → more_signs (class_of b) bytes ≡ o → option_map (λ m. m + 1) o ≡ Some n → ((m : ℕ) → more_signs (class_of b) bytes ≡ Some m → m ≤ length bytes) → n ≤ suc (length bytes)
    inner None is e rest = cc
    inner (Some m) is e rest = let n_is : m + 1 ≡ n = cc in omega (arith, rest m is)

    by_tests : (goes ends : Bool) → (if goes then option_map (λ m. m + 1) (more_signs (class_of b) bytes) else (if ends then Some 0 else None)) ≡ Some n
        → ((m : ℕ) → more_signs (class_of b) bytes ≡ Some m → m ≤ length bytes) → n ≤ suc (length bytes)
    by_tests true ends e rest = inner (more_signs (class_of b) bytes) refl e rest
    by_tests false true e rest = let none : 0 ≡ n = cc in omega arith
    by_tests false false e rest = cc

pub lone_within : (bytes : List ℕ) → lone_signs bytes ≤ length bytes
lone_within [] = omega arith
lone_within (b ∷ bytes) = by_sign (is_sign (class_of b))
  where
    at_count : (o : Option ℕ) → more_signs (class_of b) bytes ≡ o → unwrap_or o 0 ≤ suc (length bytes)
    at_count None is = omega arith
    at_count (Some n) is = omega (arith, more_within bytes (class_of b) n is)

    by_sign : (t : Bool) → (if t then unwrap_or (more_signs (class_of b) bytes) 0 else 0) ≤ suc (length bytes)
    by_sign true = at_count (more_signs (class_of b) bytes) refl
    by_sign false = omega arith

-- one sign more
shift : (i : ℕ) (o : Option ℕ) → option_map (λ n. n + i) (option_map (λ n. n + 1) o) ≡ option_map (λ n. n + (i + 1)) o
shift i None = refl
shift i (Some n) = ap (λ m. Some m) (omega arith)

pub more_step : (bytes : List ℕ) (i : ℕ) (last c : ByteClass) (whole : Option ℕ) → i < length bytes → c ≡ class_of (get_or bytes i 0) → is_sign c ≡ true → breaks_off last (Some c) ≡ false
    → option_map (λ n. n + i) (more_signs last (drop i bytes)) ≡ whole → option_map (λ n. n + (i + 1)) (more_signs c (drop (i + 1) bytes)) ≡ whole
more_step bytes i last c whole within classed signs unbroken is =
    let b = get_or bytes i 0 in
    let rest = drop (i + 1) bytes in
    let here = option_map (λ n. n + 1) (more_signs (class_of b) rest) in
    let apart : Option ℕ = if ends_signs last (class_of b) (next_class rest) then Some 0 else None in
    let one : is_sign (class_of b) ≡ true = ap is_sign (sym classed) ∙ signs in
    let two : breaks_off last (Some (class_of b)) ≡ false = ap (λ x. breaks_off last (Some x)) (sym classed) ∙ unbroken in
    ap (λ x. option_map (λ n. n + (i + 1)) (more_signs x rest)) classed
    ∙ sym (shift i (more_signs (class_of b) rest))
    ∙ sym (ap (λ t. option_map (λ n. n + i) (if t && not (breaks_off last (Some (class_of b))) then here else apart)) one
    ∙ ap (λ t. option_map (λ n. n + i) (if true && not t then here else apart)) two)
    ∙ sym (at_drop_more (λ x. option_map (λ n. n + i) (more_signs last x)) bytes i 0 within) ∙ is
