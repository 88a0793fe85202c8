-- What an expression begins with.
use Rattle.std.proofs.Common.{◌≡◌, ℕ, zero, suc, Bool, true, false, List, [], ◌∷◌, length, Some, None, refl, sym, ap, ◌∙◌}
use Rattle.std.specs.Prelude.{◌||◌}
use Rattle.sq_base.specs.declared.place.Place.{Place}
use Rattle.sq_syntax.specs.declared.symbol.Symbol.TheVariants as s
use Rattle.sq_syntax.specs.declared.symbol.Reading.{Reading}
use Rattle.sq_syntax.specs.declared.symbol.Reading.TheVariants as reading
use Rattle.sq_syntax.specs.declared.expr.Expression.{Expression}
use Rattle.sq_syntax.specs.declared.expr.Expression.TheVariants as e
use Rattle.sq_syntax.specs.declared.query.Query.{Query}
use Rattle.sq_syntax.specs.Facts.{Stream}
use Rattle.sq_grammar.specs.declared.start.Start.{Start}
use Rattle.sq_grammar.specs.declared.start.Start.TheVariants as start
use Rattle.sq_grammar.specs.Reading.{Outcome, Parser, and_then, ◌>>=◌, is, begins, many, many_from}
use Rattle.sq_grammar.specs.Ahead.{Lexemes}
use Rattle.sq_grammar.specs.Levels.{Expr, chain, chained, prefix, prefixed, signed, converted, collated, zoned, operation, negated, conjunction, disjunction}
use Rattle.sq_grammar.specs.Tests.{ranged, related, testing}
use Rattle.sq_grammar.specs.Primaries.{start_of, by_start, by_reading, primary_of, primary, subscripted, above_tests, expression}

-- ---- what was read was read from its first part

pub record Part {A B : Type 0} (o : Outcome A) (f : A → Parser B) (r : B × Stream) : Type 0 where
  pub value : A
  pub next : Stream
  pub is : o ≡ Some (value, next)
  pub more : f value next ≡ Some r

pub none_some : {A : Type 0} {x : A} → None ≡ Some x → ⊥
none_some h = cc

pub part_of : {A B : Type 0} (o : Outcome A) (f : A → Parser B) (r : B × Stream) → and_then o f ≡ Some r → Part o f r
part_of None f r h = absurd (none_some h)
part_of (Some (a, u)) f r h = record { value = a; next = u; is = refl; more = h }

-- ---- the readings that begin

abbrev pub is_start : Start → Bool
is_start start.Nothing = false
is_start _ = true

abbrev pub starts_primary : Reading → Bool
starts_primary (reading.Symbol x) = is_start (start_of x)
starts_primary (reading.Operator bytes) = false
starts_primary reading.Note = false
starts_primary _ = true

abbrev pub starts_signed : Reading → Bool
starts_signed r = is s.Minus r || (is s.Plus r || starts_primary r)

abbrev pub starts_negated : Reading → Bool
starts_negated r = is s.Not r || starts_signed r

abbrev pub head_fits : (Reading → Bool) → Lexemes → Bool
head_fits fits [] = false
head_fits fits (x ∷ rest) = fits x.reading

-- what is read by the parser begins so
abbrev pub Starts : (Reading → Bool) → Parser Expr → Type 0
Starts fits p = (now next : Stream) (x : Expr) → p now ≡ Some (x, next) → head_fits fits now.tokens ≡ true

pub chain_starts : {L : Type 0} (fits : Reading → Bool) (more : Stream → Bool) (link : Parser L) (place : L → Place) (make : Expr → List L → Expression) (operand : Parser Expr) → Starts fits operand → Starts fits (chain more link place make operand)
chain_starts fits more link place make operand st now next x h =
    let p = part_of (operand now) (λ first. many more link >>= (λ links. chained now place make first links)) (x, next) h in
    st now p.next p.value p.is

pub or_right : (a b : Bool) → b ≡ true → a || b ≡ true
or_right true b h = refl
or_right false b h = h

pub none_many : {L : Type 0} (more : Stream → Bool) (mark : Parser L) (k : ℕ) (now : Stream) → more now ≡ false → many_from more mark k now ≡ Some ([], now)
unfolding many_from
none_many more mark zero now h = refl
none_many more mark (suc k) now h = rw h refl

pub prefix_starts : {L : Type 0} (fits : Reading → Bool) (more : Stream → Bool) (mark : Parser L) (place : L → Place) (make : List L → Expr → Expression) (operand : Parser Expr)
    → ((now : Stream) → more now ≡ true → head_fits fits now.tokens ≡ true) → Starts fits operand → Starts fits (prefix more mark place make operand)
prefix_starts fits more mark place make operand marked st now next x h = by_more (more now) refl
  where
    by_more : (b : Bool) → more now ≡ b → head_fits fits now.tokens ≡ true
    by_more true e = marked now e
    by_more false e =
        let none = none_many more mark (length now.tokens) now e in
        let q = part_of (operand now) (λ y. prefixed now place make [] y) (x, next) (sym (ap (λ o. and_then o (λ marks. operand >>= (λ y. prefixed now place make marks y))) none) ∙ h) in
        st now q.next q.value q.is

started : (nested : Parser Expr) (inner : Parser Query) (x : Start) (now next : Stream) (y : Expr) → by_start nested inner x now ≡ Some (y, next) → is_start x ≡ true
started nested inner start.Nothing now next y h = absurd (none_some h)
started nested inner _ now next y h = refl

read_starts : (nested : Parser Expr) (inner : Parser Query) (r : Reading) (now next : Stream) (y : Expr) → by_reading nested inner r now ≡ Some (y, next) → starts_primary r ≡ true
read_starts nested inner (reading.Symbol x) now next y h = started nested inner (start_of x) now next y h
read_starts nested inner (reading.Operator bytes) now next y h = absurd (none_some h)
read_starts nested inner reading.Note now next y h = absurd (none_some h)
read_starts nested inner _ now next y h = refl

tokens_start : (nested : Parser Expr) (inner : Parser Query) (tokens : Lexemes) (now next : Stream) (y : Expr) → primary_of nested inner tokens now ≡ Some (y, next) → head_fits starts_primary tokens ≡ true
tokens_start nested inner [] now next y h = absurd (none_some h)
tokens_start nested inner (x ∷ rest) now next y h = read_starts nested inner x.reading now next y h

module _ (nested : Parser Expr) (inner : Parser Query) where
  primary_starts : Starts starts_primary (primary nested inner)
  unfolding primary
  primary_starts now next x h = tokens_start nested inner now.tokens now next x h

  subscripted_starts : Starts starts_primary (subscripted nested inner)
  unfolding subscripted
  subscripted_starts now next x h = let p = part_of (primary nested inner now) _ (x, next) h in primary_starts now p.next p.value p.is

  pub converted_starts : Starts starts_primary (converted (subscripted nested inner))
  unfolding converted
  converted_starts = chain_starts starts_primary _ _ _ e.Converted (subscripted nested inner) subscripted_starts

  head_signed : (tokens : Lexemes) → begins s.Minus tokens || begins s.Plus tokens ≡ true → head_fits starts_signed tokens ≡ true
  head_signed [] h = absurd (cc)
  head_signed (x ∷ rest) h = signs (is s.Minus x.reading) (is s.Plus x.reading) (starts_primary x.reading) h
    where
      signs : (a b c : Bool) → a || b ≡ true → a || (b || c) ≡ true
      signs true b c h = refl
      signs false true c h = refl
      signs false false c h = absurd (cc)

  as_signed : (tokens : Lexemes) → head_fits starts_primary tokens ≡ true → head_fits starts_signed tokens ≡ true
  as_signed [] h = absurd (cc)
  as_signed (x ∷ rest) h = or_right (is s.Minus x.reading) _ (or_right (is s.Plus x.reading) _ h)

  as_negated : (tokens : Lexemes) → head_fits starts_signed tokens ≡ true → head_fits starts_negated tokens ≡ true
  as_negated [] h = absurd (cc)
  as_negated (x ∷ rest) h = or_right (is s.Not x.reading) _ h

  head_negated : (tokens : Lexemes) → begins s.Not tokens ≡ true → head_fits starts_negated tokens ≡ true
  head_negated [] h = absurd (cc)
  head_negated (x ∷ rest) h = rw h refl

  pub signed_starts : Starts starts_signed (signed (converted (subscripted nested inner)))
  unfolding signed
  signed_starts = prefix_starts starts_signed _ _ _ e.Signed (converted (subscripted nested inner)) (λ now h. head_signed now.tokens h) (λ now next x h. as_signed now.tokens (converted_starts now next x h))

  pub collated_starts : (p : Parser Expr) → Starts starts_signed p → Starts starts_signed (collated p)
  unfolding collated
  collated_starts p st = chain_starts starts_signed _ _ _ e.Collated p st

  pub zoned_starts : (p : Parser Expr) → Starts starts_signed p → Starts starts_signed (zoned p)
  unfolding zoned
  zoned_starts p st = chain_starts starts_signed _ _ _ e.AtTimeZone p st

  pub operation_starts : (n : ℕ) (p : Parser Expr) → Starts starts_signed p → Starts starts_signed (operation n p)
  unfolding operation
  operation_starts n p st = chain_starts starts_signed _ _ _ e.Operation p st

  pub zone_operand_starts : Starts starts_signed (zoned (collated (signed (converted (subscripted nested inner)))))
  zone_operand_starts = zoned_starts _ (collated_starts _ signed_starts)

  pub above_starts : Starts starts_signed (above_tests nested inner)
  above_starts = operation_starts 6 _ (operation_starts 7 _ (operation_starts 8 _ (operation_starts 9 _ zone_operand_starts)))

  pub ranged_starts : (p : Parser Expr) → Starts starts_signed p → Starts starts_signed (ranged nested inner p)
  unfolding ranged
  ranged_starts p st now next x h = let q = part_of (p now) _ (x, next) h in st now q.next q.value q.is

  pub related_starts : (p : Parser Expr) → Starts starts_signed p → Starts starts_signed (related nested inner p)
  unfolding related
  related_starts p st now next x h = let q = part_of (p now) _ (x, next) h in st now q.next q.value q.is

  pub testing_starts : (p : Parser Expr) → Starts starts_signed p → Starts starts_signed (testing p)
  unfolding testing
  testing_starts p st now next x h = let q = part_of (p now) _ (x, next) h in st now q.next q.value q.is

  pub test_starts : Starts starts_signed (testing (related nested inner (ranged nested inner (above_tests nested inner))))
  test_starts = testing_starts _ (related_starts _ (ranged_starts _ above_starts))

  pub negated_starts : Starts starts_negated (negated (testing (related nested inner (ranged nested inner (above_tests nested inner)))))
  unfolding negated
  negated_starts = prefix_starts starts_negated _ _ _ e.Not _ (λ now h. head_negated now.tokens h) (λ now next x h. as_negated now.tokens (test_starts now next x h))

  pub expression_starts : Starts starts_negated (expression nested inner)
  unfolding expression conjunction disjunction
  expression_starts = chain_starts starts_negated _ _ _ e.Or _ (chain_starts starts_negated _ _ _ e.And _ negated_starts)
