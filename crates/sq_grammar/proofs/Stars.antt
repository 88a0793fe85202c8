-- An expression takes one token at most where a dot and a star stand behind that token.
use Rattle.std.proofs.Common.{◌≡◌, ℕ, suc, Bool, true, false, List, [], ◌∷◌, length, Option, Some, None, refl, sym, ap, subst, ◌∙◌}
use Rattle.std.specs.Prelude.{if◌then◌else◌}
use Rattle.sq_base.specs.declared.place.Place.{Place}
use Rattle.sq_syntax.specs.declared.symbol.Symbol.{Symbol}
use Rattle.sq_syntax.specs.declared.symbol.Symbol.TheVariants as s
use Rattle.sq_syntax.specs.declared.symbol.Reading.{Reading}
use Rattle.sq_syntax.specs.declared.symbol.Reading.TheVariants as reading
use Rattle.sq_syntax.specs.declared.symbol.Lexeme.{Lexeme}
use Rattle.sq_syntax.specs.declared.expr.Expression.{Expression}
use Rattle.sq_syntax.specs.Facts.{Stream}
use Rattle.sq_grammar.specs.Reading.{Outcome, Parser, and_then, ◌>>=◌, pure, expect, token, and_rest, is, many, many_from}
use Rattle.sq_grammar.specs.Ahead.{Lexemes}
use Rattle.sq_grammar.specs.Levels.{Expr, chain, chained, prefix, prefixed}
use Rattle.sq_grammar.specs.Queries.{begins_star_of}
use Rattle.sq_grammar.proofs.Complete.{same_some, goes_on}
use Rattle.sq_grammar.proofs.Joints.{false_true}
use Rattle.sq_grammar.proofs.Begins.{part_of, none_some, Starts, head_fits, none_many}

-- what a parser reads to its end does not begin with a name, a dot and a star
abbrev pub Unstarred : Parser Expr → Type 0
Unstarred expr = (now next : Stream) (x : Expr) → expr now ≡ Some (x, next) → goes_on 0 next ≡ false → begins_star_of now.tokens ≡ false

-- a dot, a star and tokens, from a number on
abbrev pub dotted : ℕ → Place → Place → Lexemes → Stream
dotted n a b rest = record { at = n; tokens = record { reading = reading.Symbol s.Dot; place = a } ∷ record { reading = reading.Symbol s.Times; place = b } ∷ rest }

-- the same behind a token
abbrev pub starred : ℕ → Lexeme → Place → Place → Lexemes → Stream
starred n x a b rest = record { at = n; tokens = x ∷ (dotted (suc n) a b rest).tokens }

-- what is read there is the one token
abbrev pub Single : {A : Type 0} → Parser A → Type 0
Single {A} p = (n : ℕ) (x : Lexeme) (a b : Place) (rest : Lexemes) (y : A) (next : Stream) → p (starred n x a b rest) ≡ Some (y, next) → next ≡ dotted (suc n) a b rest

-- what is read is read to one place
pub same_next : {A : Type 0} (o : Outcome A) (x y : A) (u v : Stream) → o ≡ Some (x, u) → o ≡ Some (y, v) → u ≡ v
same_next {A} o x y u v h k = ap (λ (p : A × Stream). p.1) (same_some (sym h ∙ k))

pub chain_single : {L : Type 0} (more : Stream → Bool) (link : Parser L) (place : L → Place) (make : Expr → List L → Expression) (operand : Parser Expr)
    → ((n : ℕ) (a b : Place) (rest : Lexemes) → more (dotted n a b rest) ≡ false) → Single operand → Single (chain more link place make operand)
chain_single more link place make operand ends one n x a b rest y next h =
    let now = starred n x a b rest in
    let q = part_of (operand now) (λ first. many more link >>= (λ links. chained now place make first links)) (y, next) h in
    let u = dotted (suc n) a b rest in
    let is_there = one n x a b rest q.value q.next q.is in
    let none = none_many more link (length u.tokens) u (ends (suc n) a b rest) in
    let last = subst (λ v. (many more link >>= (λ links. chained now place make q.value links)) v ≡ Some (y, next)) is_there q.more in
    same_next (and_then (many more link u) (λ links. chained now place make q.value links)) y q.value next u last (ap (λ o. and_then o (λ links. chained now place make q.value links)) none)

-- marks that begin there are the one token
some_marks : {L : Type 0} (more : Stream → Bool) (mark : Parser L) (n : ℕ) (x : Lexeme) (a b : Place) (rest : Lexemes) (ls : List L) (u : Stream)
    → more (starred n x a b rest) ≡ true → more (dotted (suc n) a b rest) ≡ false → Single mark → many more mark (starred n x a b rest) ≡ Some (ls, u) → u ≡ dotted (suc n) a b rest
unfolding many_from
some_marks {L} more mark n x a b rest ls u seen ends one h =
    let now = starred n x a b rest in
    let v = dotted (suc n) a b rest in
    let others = λ (l : L). many_from more mark (length v.tokens) >>= (λ ms. pure (l ∷ ms)) in
    let q = part_of (mark now) others (ls, u) (sym (ap (λ c. if c then (mark >>= others) now else Some ([], now)) seen) ∙ h) in
    let last = subst (λ w. others q.value w ≡ Some (ls, u)) (one n x a b rest q.value q.next q.is) q.more in
    same_next (others q.value v) ls (q.value ∷ []) u v last (ap (λ o. and_then o (λ ms. pure (q.value ∷ ms))) (none_many more mark (length v.tokens) v ends))

pub prefix_single : {L : Type 0} (fits : Reading → Bool) (more : Stream → Bool) (mark : Parser L) (place : L → Place) (make : List L → Expr → Expression) (operand : Parser Expr)
    → ((n : ℕ) (a b : Place) (rest : Lexemes) → more (dotted n a b rest) ≡ false) → Single mark → fits (reading.Symbol s.Dot) ≡ false → Starts fits operand → Single operand → Single (prefix more mark place make operand)
prefix_single {L} fits more mark place make operand ends one_mark dot st one n x a b rest y next h = by_more (more (starred n x a b rest)) refl
  where
    by_more : (c : Bool) → more (starred n x a b rest) ≡ c → next ≡ dotted (suc n) a b rest
    by_more false k =
        let now = starred n x a b rest in
        let behind = λ (marks : List L). operand >>= (λ z. prefixed now place make marks z) in
        let none = none_many more mark (length now.tokens) now k in
        let q = part_of (operand now) (λ z. prefixed now place make [] z) (y, next) (sym (ap (λ o. and_then o behind) none) ∙ h) in
        sym (same_next (Some (q.value, q.next)) q.value y q.next next refl q.more) ∙ one n x a b rest q.value q.next q.is
    by_more true k =
        let now = starred n x a b rest in
        let behind = λ (marks : List L). operand >>= (λ z. prefixed now place make marks z) in
        let q = part_of (many more mark now) behind (y, next) h in
        let u = some_marks more mark n x a b rest q.value q.next k (ends (suc n) a b rest) one_mark q.is in
        let r = part_of (operand q.next) (λ z. prefixed now place make q.value z) (y, next) q.more in
        absurd (false_true (sym dot ∙ subst (λ v. head_fits fits v.tokens ≡ true) u (st q.next r.next r.value r.is)))

-- ---- single tokens

and_rest_ends : {A : Type 0} (o : Option A) (u next : Stream) (y : A) → and_rest o u ≡ Some (y, next) → next ≡ u
and_rest_ends None u next y h = absurd (none_some h)
and_rest_ends (Some a) u next y h = same_next (Some (a, u)) y a next u h refl

pub token_single : {A : Type 0} (f : Reading → Place → Option A) → Single (token f)
token_single f n x a b rest y next h = and_rest_ends (f x.reading x.place) (dotted (suc n) a b rest) next y h

pub expect_single : (k : Symbol) → Single (expect k)
unfolding expect
expect_single k n x a b rest y next h = by_seen (is k x.reading) h
  where
    by_seen : (c : Bool) → ◌≡◌ {A = Outcome (Unit {0})} (if c then Some (tt, dotted (suc n) a b rest) else None) (Some (y, next)) → next ≡ dotted (suc n) a b rest
    by_seen false k = absurd (none_some k)
    by_seen true k = same_next (Some (tt, dotted (suc n) a b rest)) y tt next (dotted (suc n) a b rest) k refl
