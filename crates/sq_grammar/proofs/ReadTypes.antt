use Rattle.std.proofs.Common.{◌≡◌, ℕ, ◌+◌, ◌-◌, ◌≤◌, Bool, true, false, List, [], ◌∷◌, ◌++◌, Option, Some, None, refl, sym, ap, subst, ◌∙◌, arith, append_assoc, map}
use Rattle.std.specs.Prelude.{flat_map, if◌then◌else◌, ◌&&◌}
use Rattle.std.proofs.lemmas.List.Folds.{flat_map-map}
use Rattle.sq_syntax.specs.declared.symbol.Symbol.{Symbol}
use Rattle.sq_syntax.specs.declared.symbol.Symbol.TheVariants as s
use Rattle.sq_syntax.specs.declared.symbol.Reading.{Reading}
use Rattle.sq_syntax.specs.declared.symbol.Reading.TheVariants as reading
use Rattle.sq_syntax.specs.declared.name.Identifier.{Identifier}
use Rattle.sq_syntax.specs.declared.name.QualifiedName.{QualifiedName}
use Rattle.sq_syntax.specs.declared.name.TypeWord.{TypeWord}
use Rattle.sq_syntax.specs.declared.name.TypeWord.TheVariants as type_word
use Rattle.sq_syntax.specs.declared.name.TimeZone.{TimeZone}
use Rattle.sq_syntax.specs.declared.name.TimeZone.TheVariants as zone
use Rattle.sq_syntax.specs.declared.name.TypeName.{TypeName}
use Rattle.sq_syntax.specs.Symbols.{identifier_reading}
use Rattle.sq_syntax.specs.Facts.{Stream, Says, Piece, from}
use Rattle.sq_syntax.specs.Pieces as p
use Rattle.sq_syntax.specs.Pieces.{sym as word, say, at}
use Rattle.sq_grammar.specs.Reading.{◌>>=◌, ◌>>◌, pure, choose, sees, expect, begins, begins_both, is, same, here, many}
use Rattle.sq_grammar.specs.Ahead.{Lexemes, binding, reading_binds}
use Rattle.sq_grammar.specs.Names.{qualified_name, digits_of, digits, number_of, number, next_number, numbers, size, zone_words, time_zone, square_number, square, two_words, named_type, type_words, fitting, type}
use Rattle.sq_grammar.proofs.Runs.{Run, spent}
use Rattle.sq_grammar.proofs.Complete.{step, says_expect, says_token, says_begins, same_self, stands_here, Item, goes_on}
use Rattle.sq_grammar.proofs.Chains.{Gives, many_reads}
use Rattle.sq_grammar.proofs.Joints.{unsaid, false_true}
use Rattle.sq_grammar.proofs.ReadNames.{name_turn, qualified_read, chosen, passed, Lacks}

abbrev pub is_type_sign : Reading → Bool
is_type_sign (reading.Symbol s.Dot) = true
is_type_sign (reading.Symbol s.Precision) = true
is_type_sign (reading.Symbol s.Varying) = true
is_type_sign (reading.Symbol s.Open) = true
is_type_sign (reading.Symbol s.With) = true
is_type_sign (reading.Symbol s.Without) = true
is_type_sign (reading.Symbol s.OpenSquare) = true
is_type_sign _ = false

-- the next token goes on with a type
abbrev pub goes_on_type : Lexemes → Bool
goes_on_type [] = false
goes_on_type (x ∷ rest) = is_type_sign x.reading

sign_binds : (r : Reading) (rest : Lexemes) → from 14 (reading_binds r rest) ≡ false → is_type_sign r ≡ false
sign_binds (reading.Symbol s.Dot) rest h = absurd (cc)
sign_binds (reading.Symbol s.Precision) rest h = absurd (cc)
sign_binds (reading.Symbol s.Varying) rest h = absurd (cc)
sign_binds (reading.Symbol s.Open) rest h = absurd (cc)
sign_binds (reading.Symbol s.With) rest h = absurd (cc)
sign_binds (reading.Symbol s.Without) rest h = absurd (cc)
sign_binds (reading.Symbol s.OpenSquare) rest h = absurd (by_text (Rattle.sq_grammar.specs.Ahead.text_after_squares rest 1) h)
  where
    by_text : (b : Bool) → from 14 (Some (if b then 15 else 14)) ≡ false → ⊥
    by_text true k = cc
    by_text false k = cc
sign_binds (reading.Symbol _) rest h = refl
sign_binds _ rest h = refl

pub ends_type : (now : Stream) → goes_on 14 now ≡ false → goes_on_type now.tokens ≡ false
ends_type now h = by_tokens now.tokens h
  where
    by_tokens : (tokens : Lexemes) → from 14 (binding tokens) ≡ false → goes_on_type tokens ≡ false
    by_tokens [] k = refl
    by_tokens (x ∷ rest) k = sign_binds x.reading rest k

lacks_reading : (k : Symbol) → is_type_sign (reading.Symbol k) ≡ true → (r : Reading) → is_type_sign r ≡ false → is k r ≡ false
lacks_reading k sign (reading.Symbol x) h = by_same (same x k) refl
  where
    by_same : (b : Bool) → same x k ≡ b → b ≡ false
    by_same false e = refl
    by_same true e = absurd (false_true (sym h ∙ ap (λ y. is_type_sign (reading.Symbol y)) (Rattle.sq_grammar.proofs.Joints.same_is x k e) ∙ sign))
lacks_reading k sign _ h = refl

lacks : (k : Symbol) (now : Stream) → is_type_sign (reading.Symbol k) ≡ true → goes_on_type now.tokens ≡ false → sees k now ≡ false
lacks k now sign h = by_tokens now.tokens h
  where
    by_tokens : (tokens : Lexemes) → goes_on_type tokens ≡ false → begins k tokens ≡ false
    by_tokens [] e = refl
    by_tokens (x ∷ rest) e = lacks_reading k sign x.reading e

pub and_false : (a b : Bool) → b ≡ false → a && b ≡ false
and_false true b h = h
and_false false b h = refl

pub not_both : (x y : Symbol) (r : Reading) (now u : Stream) → Says r now u → sees y u ≡ false → begins_both x y now.tokens ≡ false
not_both x y r now u h e = ap (λ tokens. begins_both x y tokens) h.first ∙ and_false (is x r) (begins y u.tokens) e

pub other_symbol : (k x : Symbol) (now next : Stream) → Says (reading.Symbol x) now next → same x k ≡ false → sees k now ≡ false
other_symbol k x now next h e = says_begins k (reading.Symbol x) now next h ∙ e

pub that_symbol : (k : Symbol) (now next : Stream) → Says (reading.Symbol k) now next → sees k now ≡ true
that_symbol k now next h = says_begins k (reading.Symbol k) now next h ∙ same_self k

pub both_seen : (x y : Symbol) (now u v : Stream) → Says (reading.Symbol x) now u → Says (reading.Symbol y) u v → begins_both x y now.tokens ≡ true
both_seen x y now u v h k = ap (λ tokens. begins_both x y tokens) h.first ∙ rw (same_self x) (that_symbol y u v k)

-- ---- the words of a type

-- what stands behind some pieces ends the words of a type
abbrev pub EndsWords : List Piece → ℕ → Stream → Type 0
EndsWords rest d next = (u : Stream) → Run rest d u next → (sees s.Dot u ≡ false) × (sees s.Precision u ≡ false) × (sees s.Varying u ≡ false)

-- the name of a type is no pair of words
apart_from : (d : ℕ) (x y : Symbol) (q : QualifiedName) (rest : List Piece) (now next : Stream) → same s.Dot y ≡ false → Run (p.qualified_name q ++ rest) d now next → ((u : Stream) → Run rest d u next → sees y u ≡ false) → begins_both x y now.tokens ≡ false
apart_from d x y q rest now next dot run ends = by_schema q.schema run
  where
    by_schema : (schema : Option Identifier) → Run ((p.schema_name schema ++ p.name q.name) ++ rest) d now next → begins_both x y now.tokens ≡ false
    by_schema None r = not_both x y (identifier_reading q.name) now r.1.1.0 r.1.1.1 (ends r.1.1.0 (subst (λ t. Run rest (spent t d) r.1.1.0 next) (name_turn (identifier_reading q.name) r.0) r.1.1.3))
    by_schema (Some schema) r = not_both x y (identifier_reading schema) now r.1.1.0 r.1.1.1 (other_symbol y s.Dot r.1.1.0 r.1.1.3.0 r.1.1.3.1 dot)

words_read : (d : ℕ) (x : TypeWord) (rest : List Piece) (now next : Stream) → Run (p.type_words x ++ rest) d now next → EndsWords rest d next → Gives (type_words now) x rest d next
unfolding type_words same
words_read d (type_word.Named q) rest now next run ends =
    let n = qualified_read d q rest now next run (λ u r. (ends u r).0) in (
      n.0,
      passed (λ at. begins_both s.Double s.Precision at.tokens) (two_words s.Double s.Precision type_word.DoublePrecision)
          (choose (λ at. begins_both s.Character s.Varying at.tokens) (two_words s.Character s.Varying type_word.CharacterVarying) named_type) now
          (apart_from d s.Double s.Precision q rest now next refl run (λ u r. (ends u r).1))
          ∙ passed (λ at. begins_both s.Character s.Varying at.tokens) (two_words s.Character s.Varying type_word.CharacterVarying) named_type now
          (apart_from d s.Character s.Varying q rest now next refl run (λ u r. (ends u r).2))
          ∙ step qualified_name (λ y. pure (type_word.Named y)) now n.0 q n.1,
      n.2,
    )
words_read d (type_word.DoublePrecision place) rest now next run ends =
    let u = run.1.0 in
    let v = run.1.3.0 in (
      v,
      chosen (λ at. begins_both s.Double s.Precision at.tokens) (two_words s.Double s.Precision type_word.DoublePrecision)
          (choose (λ at. begins_both s.Character s.Varying at.tokens) (two_words s.Character s.Varying type_word.CharacterVarying) named_type) now (both_seen s.Double s.Precision now u v run.1.1 run.1.3.1)
          ∙ step (expect s.Double) (λ _. expect s.Precision >> pure (type_word.DoublePrecision (here now))) now u tt (says_expect s.Double now u run.1.1)
          ∙ step (expect s.Precision) (λ _. pure (type_word.DoublePrecision (here now))) u v tt (says_expect s.Precision u v run.1.3.1)
          ∙ ap (λ at. Some (type_word.DoublePrecision at, v)) (stands_here place now.tokens run.0),
      run.1.3.3,
    )
words_read d (type_word.CharacterVarying place) rest now next run ends =
    let u = run.1.0 in
    let v = run.1.3.0 in (
      v,
      passed (λ at. begins_both s.Double s.Precision at.tokens) (two_words s.Double s.Precision type_word.DoublePrecision)
          (choose (λ at. begins_both s.Character s.Varying at.tokens) (two_words s.Character s.Varying type_word.CharacterVarying) named_type) now
          (not_both s.Double s.Precision (reading.Symbol s.Character) now u run.1.1 (other_symbol s.Precision s.Varying u v run.1.3.1 refl))
          ∙ chosen (λ at. begins_both s.Character s.Varying at.tokens) (two_words s.Character s.Varying type_word.CharacterVarying) named_type now (both_seen s.Character s.Varying now u v run.1.1 run.1.3.1)
          ∙ step (expect s.Character) (λ _. expect s.Varying >> pure (type_word.CharacterVarying (here now))) now u tt (says_expect s.Character now u run.1.1)
          ∙ step (expect s.Varying) (λ _. pure (type_word.CharacterVarying (here now))) u v tt (says_expect s.Varying u v run.1.3.1)
          ∙ ap (λ at. Some (type_word.CharacterVarying at, v)) (stands_here place now.tokens run.0),
      run.1.3.3,
    )

-- ---- sizes

abbrev number_pieces : List ℕ → List Piece
number_pieces m = word s.Comma ∷ say (reading.Number m) ∷ []

number_said : (now next : Stream) (m : List ℕ) → Says (reading.Number m) now next → number now ≡ Some (m, next)
unfolding number
number_said now next m h = says_token number_of m (reading.Number m) now next h refl

number_item : (d : ℕ) → Item d (sees s.Comma) next_number number_pieces (λ now. false)
unfolding next_number
number_item d = record {
  begun = λ m rest now next run stop. that_symbol s.Comma now run.0 run.1;
  stops = λ m rest now next run. refl;
  some = λ m. omega arith;
  reads = λ m rest now next run stop. (run.3.0, step (expect s.Comma) (λ _. number) now run.0 tt (says_expect s.Comma now run.0 run.1) ∙ number_said run.0 run.3.0 m run.3.1, run.3.3);
}

listed_numbers : (m : List ℕ) (ms : List (List ℕ)) → p.listed (map (λ n. say (reading.Number n) ∷ []) (m ∷ ms)) ≡ say (reading.Number m) ∷ flat_map number_pieces ms
listed_numbers m ms = ap (λ ps. say (reading.Number m) ∷ ps) (flat_map-map (λ item. word s.Comma ∷ item) (λ (n : List ℕ). say (reading.Number n) ∷ []) ms)

pub back : (d : ℕ) → 1 ≤ d → (d - 1) + 1 ≡ d
back d h = omega arith

size_read : (d : ℕ) (sizes : List (List ℕ)) (rest : List Piece) (now next : Stream) → Run (p.size sizes ++ rest) d now next → Lacks s.Open rest d next → Gives (size now) sizes rest d next
unfolding size numbers same
size_read d [] rest now next run ends = (now, passed (sees s.Open) numbers (pure []) now (ends now run), run)
size_read d (m ∷ ms) rest now next first ends =
    let tail = word s.Close ∷ rest in
    let u = first.0 in
    let run = subst (λ ps. Run ps (d - 1) u next) (ap (λ ps. (ps ++ word s.Close ∷ []) ++ rest) (listed_numbers m ms) ∙ ap (λ ps. say (reading.Number m) ∷ ps) (append_assoc (flat_map number_pieces ms) (word s.Close ∷ []) rest)) first.3 in
    let g = many_reads (d - 1) (sees s.Comma) next_number number_pieces (λ at. false) (number_item (d - 1)) ms tail run.0 next run.3 (λ v r. (other_symbol s.Comma s.Close v r.0 r.1 refl, refl)) in
    let c = g.2 in (
      c.0,
      chosen (sees s.Open) numbers (pure []) now (that_symbol s.Open now u first.1)
          ∙ step (expect s.Open) (λ _. number >>= (λ a. many (sees s.Comma) next_number >>= (λ more. expect s.Close >> pure (a ∷ more)))) now u tt (says_expect s.Open now u first.1)
          ∙ step number (λ a. many (sees s.Comma) next_number >>= (λ more. expect s.Close >> pure (a ∷ more))) u run.0 m (number_said u run.0 m run.1)
          ∙ step (many (sees s.Comma) next_number) (λ more. expect s.Close >> pure (m ∷ more)) run.0 g.0 ms g.1
          ∙ step (expect s.Close) (λ _. pure (m ∷ ms)) g.0 c.0 tt (says_expect s.Close g.0 c.0 c.1),
      subst (λ k. Run rest k c.0 next) (back d first.2) c.3,
    )

-- ---- time zones and brackets

time_zone_read : (d : ℕ) (x : TimeZone) (rest : List Piece) (now next : Stream) → Run (p.time_zone x ++ rest) d now next → Lacks s.With rest d next → Lacks s.Without rest d next → Gives (time_zone now) x rest d next
unfolding time_zone same
time_zone_read d zone.Unsaid rest now next run with without = (
  now,
  passed (sees s.With) (zone_words s.With zone.With) (choose (sees s.Without) (zone_words s.Without zone.Without) (pure zone.Unsaid)) now (with now run)
      ∙ passed (sees s.Without) (zone_words s.Without zone.Without) (pure zone.Unsaid) now (without now run),
  run,
)
time_zone_read d zone.With rest now next run with without = (
  run.3.3.0,
  chosen (sees s.With) (zone_words s.With zone.With) (choose (sees s.Without) (zone_words s.Without zone.Without) (pure zone.Unsaid)) now (that_symbol s.With now run.0 run.1)
      ∙ step (expect s.With) (λ _. expect s.Time >> (expect s.Zone >> pure zone.With)) now run.0 tt (says_expect s.With now run.0 run.1)
      ∙ step (expect s.Time) (λ _. expect s.Zone >> pure zone.With) run.0 run.3.0 tt (says_expect s.Time run.0 run.3.0 run.3.1)
      ∙ step (expect s.Zone) (λ _. pure zone.With) run.3.0 run.3.3.0 tt (says_expect s.Zone run.3.0 run.3.3.0 run.3.3.1),
  run.3.3.3,
)
time_zone_read d zone.Without rest now next run with without = (
  run.3.3.0,
  passed (sees s.With) (zone_words s.With zone.With) (choose (sees s.Without) (zone_words s.Without zone.Without) (pure zone.Unsaid)) now (other_symbol s.With s.Without now run.0 run.1 refl)
      ∙ chosen (sees s.Without) (zone_words s.Without zone.Without) (pure zone.Unsaid) now (that_symbol s.Without now run.0 run.1)
      ∙ step (expect s.Without) (λ _. expect s.Time >> (expect s.Zone >> pure zone.Without)) now run.0 tt (says_expect s.Without now run.0 run.1)
      ∙ step (expect s.Time) (λ _. expect s.Zone >> pure zone.Without) run.0 run.3.0 tt (says_expect s.Time run.0 run.3.0 run.3.1)
      ∙ step (expect s.Zone) (λ _. pure zone.Without) run.3.0 run.3.3.0 tt (says_expect s.Zone run.3.0 run.3.3.0 run.3.3.1),
  run.3.3.3,
)

square_read : (d : ℕ) (x : List ℕ) (rest : List Piece) (now next : Stream) → Run (p.array x ++ rest) d now next → Gives (square now) x rest d next
unfolding square digits same
square_read d [] rest now next run = (
  run.3.0,
  step (expect s.OpenSquare) (λ _. choose (sees s.CloseSquare) (expect s.CloseSquare >> pure []) square_number) now run.0 tt (says_expect s.OpenSquare now run.0 run.1)
      ∙ chosen (sees s.CloseSquare) (expect s.CloseSquare >> pure []) square_number run.0 (that_symbol s.CloseSquare run.0 run.3.0 run.3.1)
      ∙ step (expect s.CloseSquare) (λ _. pure []) run.0 run.3.0 tt (says_expect s.CloseSquare run.0 run.3.0 run.3.1),
  subst (λ k. Run rest k run.3.0 next) (back d run.2) run.3.3,
)
square_read d (n ∷ ns) rest now next run = (
  run.3.3.0,
  step (expect s.OpenSquare) (λ _. choose (sees s.CloseSquare) (expect s.CloseSquare >> pure []) square_number) now run.0 tt (says_expect s.OpenSquare now run.0 run.1)
      ∙ passed (sees s.CloseSquare) (expect s.CloseSquare >> pure []) square_number run.0 (says_begins s.CloseSquare (reading.Number (n ∷ ns)) run.0 run.3.0 run.3.1)
      ∙ step digits (λ m. expect s.CloseSquare >> pure m) run.0 run.3.0 (n ∷ ns) (says_token digits_of (n ∷ ns) (reading.Number (n ∷ ns)) run.0 run.3.0 run.3.1 refl)
      ∙ step (expect s.CloseSquare) (λ _. pure (n ∷ ns)) run.3.0 run.3.3.0 tt (says_expect s.CloseSquare run.3.0 run.3.3.0 run.3.3.1),
  subst (λ k. Run rest k run.3.3.0 next) (back d run.2) run.3.3.3,
)

opens_square : (d : ℕ) (x : List ℕ) (rest : List Piece) (now next : Stream) → Run (p.array x ++ rest) d now next → (u : Stream) × Says (reading.Symbol s.OpenSquare) now u
opens_square d [] rest now next run = (run.0, run.1)
opens_square d (n ∷ ns) rest now next run = (run.0, run.1)

some_square : (x : List ℕ) → 1 ≤ Rattle.sq_grammar.proofs.Runs.said (p.array x)
some_square [] = omega arith
some_square (n ∷ ns) = omega arith

square_item : (d : ℕ) → Item d (sees s.OpenSquare) square p.array (λ now. false)
square_item d = record {
  begun = λ x rest now next run stop. let o = opens_square d x rest now next run in that_symbol s.OpenSquare now o.0 o.1;
  stops = λ x rest now next run. refl;
  some = some_square;
  reads = λ x rest now next run stop. square_read d x rest now next run;
}

-- ---- types

-- each sign of a type that may not stand behind what came first
goes_from : (d : ℕ) (arrays : List (List ℕ)) (rest : List Piece) (next : Stream) → ((u : Stream) → Run rest d u next → goes_on_type u.tokens ≡ false) → (k : Symbol) → is_type_sign (reading.Symbol k) ≡ true → same s.OpenSquare k ≡ false
    → Lacks k (flat_map p.array arrays ++ rest) d next
goes_from d [] rest next ends k sign other u run = lacks k u sign (ends u run)
goes_from d (x ∷ xs) rest next ends k sign other u run =
    let o = opens_square d x (flat_map p.array xs ++ rest) u next (subst (λ ps. Run ps d u next) (append_assoc (p.array x) (flat_map p.array xs) rest) run) in
    other_symbol k s.OpenSquare u o.0 o.1 other

past_zone : (d : ℕ) (z : TimeZone) (rest : List Piece) (next : Stream) (k : Symbol) → same s.With k ≡ false → same s.Without k ≡ false → Lacks k rest d next → Lacks k (p.time_zone z ++ rest) d next
past_zone d zone.Unsaid rest next k a b ends u run = ends u run
past_zone d zone.With rest next k a b ends u run = other_symbol k s.With u run.0 run.1 a
past_zone d zone.Without rest next k a b ends u run = other_symbol k s.Without u run.0 run.1 b

past_size : (d : ℕ) (sizes : List (List ℕ)) (rest : List Piece) (next : Stream) (k : Symbol) → same s.Open k ≡ false → Lacks k rest d next → Lacks k (p.size sizes ++ rest) d next
past_size d [] rest next k a ends u run = ends u run
past_size d (n ∷ ns) rest next k a ends u run = other_symbol k s.Open u run.0 run.1 a

pub type_read : (d : ℕ) (x : TypeName) (rest : List Piece) (now next : Stream) → Run (p.type x ++ rest) d now next → ((u : Stream) → Run rest d u next → goes_on_type u.tokens ≡ false) → Gives (type now) x rest d next
unfolding type same
type_read d x rest now next run ends =
    let squares = flat_map p.array x.arrays ++ rest in
    let zoned = p.time_zone x.zone ++ squares in
    let sized = p.size x.size ++ zoned in
    let text : (((p.type_words x.word ++ p.size x.size) ++ p.time_zone x.zone) ++ flat_map p.array x.arrays) ++ rest ≡ p.type_words x.word ++ sized = simp append_assoc in
    let whole = subst (λ ps. Run ps d now next) text run.1 in
    let no_square = λ (k : Symbol) (sign : is_type_sign (reading.Symbol k) ≡ true) (other : same s.OpenSquare k ≡ false). goes_from d x.arrays rest next ends k sign other in
    let no_zone = λ (k : Symbol) (sign : is_type_sign (reading.Symbol k) ≡ true) (o : same s.OpenSquare k ≡ false) (a : same s.With k ≡ false) (b : same s.Without k ≡ false). past_zone d x.zone squares next k a b (no_square k sign o) in
    let words = words_read d x.word sized now next whole (λ u r. (
      past_size d x.size zoned next s.Dot refl (no_zone s.Dot refl refl refl refl) u r,
      past_size d x.size zoned next s.Precision refl (no_zone s.Precision refl refl refl refl) u r,
      past_size d x.size zoned next s.Varying refl (no_zone s.Varying refl refl refl refl) u r,
    )) in
    let sizes = size_read d x.size zoned words.0 next words.2 (no_zone s.Open refl refl refl refl) in
    let zones = time_zone_read d x.zone squares sizes.0 next sizes.2 (no_square s.With refl refl) (no_square s.Without refl refl) in
    let arrays = many_reads d (sees s.OpenSquare) square p.array (λ at. false) (square_item d) x.arrays rest zones.0 next zones.2 (λ u r. (lacks s.OpenSquare u refl (ends u r), refl)) in (
      arrays.0,
      step type_words (λ w. size >>= (λ n. time_zone >>= (λ z. many (sees s.OpenSquare) square >>= (λ a. fitting (record { word = w; size = n; zone = z; arrays = a }))))) now words.0 x.word words.1
          ∙ step size (λ n. time_zone >>= (λ z. many (sees s.OpenSquare) square >>= (λ a. fitting (record { word = x.word; size = n; zone = z; arrays = a })))) words.0 sizes.0 x.size sizes.1
          ∙ step time_zone (λ z. many (sees s.OpenSquare) square >>= (λ a. fitting (record { word = x.word; size = x.size; zone = z; arrays = a }))) sizes.0 zones.0 x.zone zones.1
          ∙ step (many (sees s.OpenSquare) square) (λ a. fitting (record { word = x.word; size = x.size; zone = x.zone; arrays = a })) zones.0 arrays.0 x.arrays arrays.1
          ∙ rw run.0 refl,
      arrays.2,
    )
