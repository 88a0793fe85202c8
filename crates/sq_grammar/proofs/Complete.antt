-- What is spelled by a well-levelled tree is read as that tree: the steps, chains and prefixes.
use Rattle.std.proofs.Common.{◌≡◌, ℕ, suc, ◌+◌, ◌-◌, ◌≤◌, Bool, true, false, List, [], ◌∷◌, ◌++◌, Option, Some, None, refl, sym, ap, subst, ◌∙◌, arith, ◌⊎◌, inl, inr}
use Rattle.std.proofs.lemmas.Grind.{common_steps}
use Rattle.std.proofs.lemmas.Bool.{cases_lt, leb-true}
use denote.Enum.Bare.{true_same}
use Rattle.sq_base.specs.declared.place.Place.{Place}
use Rattle.sq_syntax.specs.contracts.symbol.Symbol.{the_type}
use Rattle.sq_syntax.specs.declared.symbol.Symbol.{Symbol}
use Rattle.sq_syntax.specs.declared.symbol.Reading.{Reading}
use Rattle.sq_syntax.specs.declared.symbol.Reading.TheVariants as reading
use Rattle.sq_syntax.specs.declared.expr.Expression.{Expression}
use Rattle.sq_syntax.specs.Facts.{Mark, Stream, Says, Along, first_place, Facts, Piece, Sort, from, built, sorted, only_if, all_hold}
use Rattle.sq_syntax.specs.Grammar.{tree_facts, expression_facts}
use Rattle.sq_grammar.specs.Reading.{Parser, and_then, ◌>>=◌, is, begins, sees, take_symbol, expect, take_as, token, same, here, place_of, node}
use Rattle.sq_grammar.specs.Ahead.{Lexemes, binding}
use Rattle.sq_grammar.specs.Levels.{Expr}
use Rattle.sq_grammar.proofs.Runs.{Run, along_split, run_of, said}

-- ---- steps

pub step : {A B : Type 0} (p : Parser A) (f : A → Parser B) (now next : Stream) (x : A) → p now ≡ Some (x, next) → (p >>= f) now ≡ f x next
step p f now next x h = ap (λ r. and_then r f) h

pub same_self : (x : Symbol) → same x x ≡ true
unfolding same
same_self x = true_same the_type x x refl

says_take : (x : Symbol) (n : ℕ) (tokens : Lexemes) (place : Place) (next : Stream) → tokens ≡ record { reading = reading.Symbol x; place = place } ∷ next.tokens → next.at ≡ suc n → take_symbol x n tokens ≡ Some (tt, next)
says_take x n tokens place next h c = rw (h, same_self x, sym c) refl

pub says_expect : (x : Symbol) (now next : Stream) → Says (reading.Symbol x) now next → expect x now ≡ Some (tt, next)
unfolding expect
says_expect x now next h = says_take x now.at now.tokens h.place next h.first h.counted

says_token_at : {A : Type 0} (f : Reading → Place → Option A) (a : A) (r : Reading) (n : ℕ) (tokens : Lexemes) (place : Place) (next : Stream)
    → tokens ≡ record { reading = r; place = place } ∷ next.tokens → next.at ≡ suc n → f r place ≡ Some a → take_as f n tokens ≡ Some (a, next)
says_token_at f a r n tokens place next h c e = rw (h, e, sym c) refl

-- a token that is read as something
pub says_token : {A : Type 0} (f : Reading → Place → Option A) (a : A) (r : Reading) (now next : Stream) (h : Says r now next) → f r h.place ≡ Some a → token f now ≡ Some (a, next)
says_token f a r now next h e = says_token_at f a r now.at now.tokens h.place next h.first h.counted e

-- what is asked of the tokens ahead is answered by the first
pub says_begins : (x : Symbol) (r : Reading) (now next : Stream) → Says r now next → sees x now ≡ is x r
says_begins x r now next h = ap (λ tokens. begins x tokens) h.first

pub says_place : (r : Reading) (now next : Stream) (h : Says r now next) → here now ≡ h.place
says_place r now next h = ap place_of h.first

pub same_some : {A : Type 0} {x y : A} → Some x ≡ Some y → x ≡ y
same_some h = cc

pub stood : (place : Place) (r : Reading) (now next : Stream) (h : Says r now next) → first_place now.tokens ≡ Some place → h.place ≡ place
stood place r now next h e = same_some (sym (ap first_place h.first) ∙ e)

pub stands_here : (place : Place) (tokens : Lexemes) → first_place tokens ≡ Some place → place_of tokens ≡ place
stands_here place [] h = absurd (cc)
stands_here place (x ∷ rest) h = same_some h

-- ---- trees

abbrev pub goes_on : ℕ → Stream → Bool
goes_on least now = from least (binding now.tokens)

-- a parser gives back each tree of a level and of a depth, where what follows does not go on with it
pub record Reads (d least : ℕ) (p : Parser Expr) : Type 0 where
  pub reads : (x : Expr) (now next : Stream) → from least (tree_facts x).level ≡ true → (tree_facts x).depth ≤ d → Along (tree_facts x).marks now next → goes_on least next ≡ false → p now ≡ Some (x, next)

pub only_if-from : (b : Bool) (n least : ℕ) → from least (only_if b n) ≡ true → b ≡ true
only_if-from true n least h = refl
only_if-from false n least h = absurd (cc)

pub only_if-some : (b : Bool) (n m : ℕ) → only_if b n ≡ Some m → (b ≡ true) × (n ≡ m)
only_if-some true n m h = (refl, cc)
only_if-some false n m h = absurd (cc)

-- here, or above
pub above : (least : ℕ) (found : Option ℕ) → from least found ≡ true → (found ≡ Some least) ⊎ (from (least + 1) found ≡ true)
above least None h = absurd (cc)
above least (Some n) h =
    elim (cases_lt least n) [
      | inl lt ↦ inr (grind (arith, common_steps))
      | inr le ↦ inl (let same : n ≡ least = omega (arith, leb-true least n h) in ap (λ k. Some k) same)
    ]

pub from-more : (least more : ℕ) (found : Option ℕ) → least ≤ more → from least found ≡ false → from more found ≡ false
from-more least more None le h = refl
from-more least more (Some n) le h = grind (arith, common_steps)

pub stops-more : (least more : ℕ) (now : Stream) → least ≤ more → goes_on least now ≡ false → goes_on more now ≡ false
stops-more least more now le h = from-more least more (binding now.tokens) le h

-- a node's tokens, apart from their numbers
pub record Framed (x : Expr) (now next : Stream) : Type 0 where
  pub first : x.first ≡ now.at
  pub along : Along (expression_facts x.form x.place).marks now next
  pub last : suc x.last ≡ next.at

pub framed : (x : Expr) (now next : Stream) → Along (tree_facts x).marks now next → Framed x now next
framed x now next h =
    let m = along_split (expression_facts x.form x.place).marks (Mark.ends x.last ∷ []) now next h.1 in
    record { first = h.0; along = subst (λ u. Along (expression_facts x.form x.place).marks now u) m.2.1 m.1; last = m.2.0 ∙ ap (λ (u : Stream). u.at) m.2.1 }

pub made : (x : Expr) (now next : Stream) (place : Place) (form : Expression) → Framed x now next → x.place ≡ place → x.form ≡ form → node now place form next ≡ Some (x, next)
made x now next place form f p e =
    let last : next.at - 1 ≡ x.last = omega (arith, f.last) in
    rw (last, sym f.first, sym p, sym e) refl

-- the pieces of a production are those of its tokens
pub opened : (sort : Sort) (level steps least d : ℕ) (pieces : List Piece) (x : Facts) (now next : Stream) → x ≡ sorted sort (built level steps pieces)
    → from least x.level ≡ true → x.depth ≤ d → Along x.marks now next → Run pieces d now next
opened sort level steps least d pieces x now next e st de a =
    run_of pieces 0 d now next
    (only_if-from (all_hold pieces) level least (subst (λ (y : Facts). from least y.level ≡ true) e st))
    (subst (λ (y : Facts). y.depth ≤ d) e de)
    (subst (λ (y : Facts). Along y.marks now next) e a)

-- ---- lists

module _ {A : Type 0} (d : ℕ) (more : Stream → Bool) (item : Parser A) (pieces : A → List Piece) (stop : Stream → Bool) where
  -- an item of a list gives itself back, begins as such, and ends what stands before it
  pub record Item : Type 0 where
    pub begun : (x : A) (rest : List Piece) (now next : Stream) → Run (pieces x ++ rest) d now next → ((u : Stream) → Run rest d u next → stop u ≡ false) → more now ≡ true
    pub stops : (x : A) (rest : List Piece) (now next : Stream) → Run (pieces x ++ rest) d now next → stop now ≡ false
    pub some : (x : A) → 1 ≤ said (pieces x)
    pub reads : (x : A) (rest : List Piece) (now next : Stream) → Run (pieces x ++ rest) d now next → ((u : Stream) → Run rest d u next → stop u ≡ false)
        → (u : Stream) × (item now ≡ Some (x, u)) × Run rest d u next
