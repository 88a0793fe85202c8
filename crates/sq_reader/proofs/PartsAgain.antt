-- The parts of a text are read again.
use Rattle.std.proofs.Common.{◌≡◌, ℕ, zero, suc, ◌+◌, ◌-◌, ◌<◌, ◌≤◌, ◌==◌, ◌&&◌, Bool, true, false, cond, List, [], ◌∷◌, ◌++◌, length, take, drop, Some, None, refl, ap, ◌∙◌, append_assoc, arith, length-append}
use Rattle.std.specs.List.{prefix_len, list_all, flat_map}
use Rattle.std.proofs.lemmas.Bool.Decides.{nat_tests}
use Rattle.std.proofs.Math.Numerals.{one-add}
use Rattle.std.proofs.lemmas.List.{drop_at, take_at}
use Rattle.sq_reader.specs.Parts.{Text, Part, same, behind, before, allows, run_at, first_and, many_from, many}
use Rattle.sq_reader.specs.Readable.{is_run}
use Rattle.sq_reader.specs.declared.parts.Class.{Class}

pub both : (a b : Bool) → (a && b) ≡ true → (a ≡ true) × (b ≡ true)
both true b h = (refl, h)
both false b h = absurd (cc)

pub same_as_itself : (t : Text) → same t t ≡ true
same_as_itself [] = refl
same_as_itself (b ∷ bs) =
    let first : (b == b) ≡ true = grind (arith, nat_tests) in
    ap (λ (x : Bool). x && same bs bs) first ∙ same_as_itself bs

-- a front is taken off again
pub behind_again : (front rest : Text) → behind front (front ++ rest) ≡ Some rest
behind_again front rest =
    ap (λ (t : Text). cond (same t front) (Some (drop (length front) (front ++ rest))) None) (take_at front rest (length front) refl)
    ∙ ap (λ (b : Bool). cond b (Some (drop (length front) (front ++ rest))) None) (same_as_itself front)
    ∙ ap Some (drop_at front rest (length front) refl)

-- an end is taken off again
pub before_again : (front end : Text) → before end (front ++ end) ≡ Some front
before_again front end =
    let n : length (front ++ end) - length end ≡ length front = rw length-append (omega arith) in
    ap (λ (n : ℕ). cond (same (drop n (front ++ end)) end) (Some (take n (front ++ end))) None) n
    ∙ ap (λ (t : Text). cond (same t end) (Some (take (length front) (front ++ end))) None) (drop_at front end (length front) refl)
    ∙ ap (λ (b : Bool). cond b (Some (take (length front) (front ++ end))) None) (same_as_itself end)
    ∙ ap Some (take_at front end (length front) refl)

-- a run ends where a byte is of another class
run_length : (class : Class) (t : Text) (c : ℕ) (rest : Text) → list_all (allows class) t ≡ true → allows class c ≡ false → prefix_len (allows class) (t ++ c ∷ rest) ≡ length t
run_length class [] c rest all other = ap (λ (b : Bool). cond b (1 + prefix_len (allows class) rest) 0) other
run_length class (b ∷ bs) c rest all other =
    let h = both (allows class b) (list_all (allows class) bs) all in
    ap (λ (x : Bool). cond x (1 + prefix_len (allows class) (bs ++ c ∷ rest)) 0) h.0 ∙ ap (λ (n : ℕ). 1 + n) (run_length class bs c rest h.1 other) ∙ one-add (length bs)

abbrev pub found : Text → Text → Part Text
found x rest = Some (x, rest)

abbrev pub part : ℕ → Text → Part Text
part n text = cond {A = Part Text} (n == 0) None (found (take n text) (drop n text))

-- a run is read again
pub run_again : (class : Class) (t : Text) (c : ℕ) (rest : Text) → is_run class t ≡ true → allows class c ≡ false → run_at class (t ++ c ∷ rest) ≡ Some (t, c ∷ rest)
unfolding run_at
run_again class [] c rest ok other = absurd (cc)
run_again class (b ∷ bs) c rest ok other =
    let n = run_length class (b ∷ bs) c rest ok other in
    let some : (length (b ∷ bs) == 0) ≡ false = grind (arith, nat_tests) in
    ap (λ (n : ℕ). part n (b ∷ bs ++ c ∷ rest)) n
    ∙ ap (λ (t : Bool). cond {A = Part Text} t None (found (take (length (b ∷ bs)) (b ∷ bs ++ c ∷ rest)) (drop (length (b ∷ bs)) (b ∷ bs ++ c ∷ rest)))) some
    ∙ ap (λ (x : Text). found x (drop (length (b ∷ bs)) (b ∷ bs ++ c ∷ rest))) (take_at (b ∷ bs) (c ∷ rest) (length (b ∷ bs)) refl)
    ∙ ap (λ (x : Text). found (b ∷ bs) x) (drop_at (b ∷ bs) (c ∷ rest) (length (b ∷ bs)) refl)

-- each is read again, whatever follows
abbrev pub AllAgain : {A : Type 0} → (Text → Part A) → (A → Text) → List A → Type 0
AllAgain at write [] = Unit {0}
AllAgain at write (x ∷ xs) = ((rest : Text) → at (write x ++ rest) ≡ Some (x, rest)) × AllAgain at write xs

pub many_from_again : {A : Type 0} (at : Text → Part A) (write : A → Text) (xs : List A) (rest : Text) (n : ℕ) → AllAgain at write xs → at rest ≡ None → length xs ≤ n →
    many_from at n (flat_map write xs ++ rest) ≡ (xs, rest)
many_from_again at write [] rest zero again none enough = refl
many_from_again at write [] rest (suc n) again none enough = ap (λ (f : Part _). first_and f rest (many_from at n)) none
many_from_again at write (x ∷ xs) rest zero again none enough = absurd (omega arith)
many_from_again {A} at write (x ∷ xs) rest (suc n) again none enough =
    ap (λ (t : Text). many_from at (suc n) t) (append_assoc (write x) (flat_map write xs) rest)
    ∙ ap (λ (f : Part A). first_and f (write x ++ (flat_map write xs ++ rest)) (many_from at n)) (again.0 (flat_map write xs ++ rest))
    ∙ ap (λ (r : List A × Text). (x ∷ r.0, r.1)) (many_from_again at write xs rest n again.1 none (omega arith))

-- each has a byte or more
abbrev pub AllSome : {A : Type 0} → (A → Text) → Type 0
AllSome {A} write = (x : A) → 0 < length (write x)

pub enough_bytes : {A : Type 0} (write : A → Text) (xs : List A) (rest : Text) → AllSome write → length xs ≤ length (flat_map write xs ++ rest)
enough_bytes write [] rest some = omega arith
enough_bytes write (x ∷ xs) rest some =
    let later = enough_bytes write xs rest some in
    let here = some x in
    let parts = ap length (append_assoc (write x) (flat_map write xs) rest) ∙ length-append (write x) (flat_map write xs ++ rest) in
    omega (arith, later, here, parts)

pub many_again : {A : Type 0} (at : Text → Part A) (write : A → Text) (xs : List A) (rest : Text) → AllSome write → AllAgain at write xs → at rest ≡ None →
    many at (flat_map write xs ++ rest) ≡ (xs, rest)
many_again at write xs rest some again none = many_from_again at write xs rest (length (flat_map write xs ++ rest)) again none (enough_bytes write xs rest some)
