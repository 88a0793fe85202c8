-- What an output begins with, so that no word before it is taken for one of its own.
use Rattle.std.proofs.Common.{◌≡◌, ℕ, Bool, true, false, [], ◌∷◌, Some, refl, sym, ap, ◌∙◌}
use Rattle.std.specs.Prelude.{if◌then◌else◌, ◌||◌}
use Rattle.sq_syntax.specs.declared.symbol.Symbol.{Symbol}
use Rattle.sq_syntax.specs.declared.symbol.Symbol.TheVariants as s
use Rattle.sq_syntax.specs.declared.symbol.Reading.{Reading}
use Rattle.sq_syntax.specs.declared.symbol.Reading.TheVariants as reading
use Rattle.sq_syntax.specs.declared.expr.Node.{Node}
use Rattle.sq_syntax.specs.declared.name.Identifier.{Identifier}
use Rattle.sq_syntax.specs.declared.query.Query.{Query}
use Rattle.sq_syntax.specs.declared.query.Output.{Output}
use Rattle.sq_syntax.specs.declared.query.Output.TheVariants as output_kind
use Rattle.sq_syntax.specs.Facts.{Stream}
use Rattle.sq_syntax.specs.Symbols.{is_name}
use Rattle.sq_grammar.specs.Reading.{Parser, ◌>>=◌, ◌>>◌, pure, choose, is, begins, sees, expect, and_rest, after}
use Rattle.sq_grammar.specs.Ahead.{Lexemes}
use Rattle.sq_grammar.specs.Levels.{Expr}
use Rattle.sq_grammar.specs.Names.{word_of, only, name}
use Rattle.sq_grammar.specs.Queries.{begins_star_of, label, output}
use Rattle.sq_grammar.proofs.Begins.{part_of, none_some, Starts, starts_negated, head_fits}
use Rattle.sq_grammar.proofs.Aliases.{apart, first_of, second_of}

-- ---- what an output begins with

abbrev pub starts_output : Reading → Bool
starts_output r = is s.Times r || (is_name r || starts_negated r)

head_less : (less more : Reading → Bool) → ((r : Reading) → less r ≡ true → more r ≡ true) → (tokens : Lexemes) → head_fits less tokens ≡ true → head_fits more tokens ≡ true
head_less less more h [] k = absurd (cc)
head_less less more h (x ∷ rest) k = h x.reading k

star_first : (tokens : Lexemes) → begins s.Times tokens ≡ true → head_fits starts_output tokens ≡ true
star_first [] h = absurd (cc)
star_first (x ∷ rest) h = first_of (is s.Times x.reading) _ h

pub name_first : (n : ℕ) (tokens : Lexemes) (y : Identifier) (next : Stream) → name (record { at = n; tokens = tokens }) ≡ Some (y, next) → head_fits is_name tokens ≡ true
unfolding name
name_first n [] y next h = absurd (none_some h)
name_first n (x ∷ rest) y next h = by_name (is_name x.reading) refl
  where
    by_name : (c : Bool) → is_name x.reading ≡ c → is_name x.reading ≡ true
    by_name true k = k
    by_name false k = absurd (none_some (sym (ap (λ d. and_rest (only d (word_of x.reading x.place)) (after n rest)) k) ∙ h))

module _ (expr : Parser Expr) (inner : Parser Query) (starts : Starts starts_negated expr) where
  abbrev star_of : Parser (Output Expr)
  star_of = name >>= (λ y. expect s.Dot >>= (λ _. expect s.Times >>= (λ _. pure (output_kind.StarOf y))))

  abbrev value : Parser (Output Expr)
  value = expr >>= (λ y. label >>= (λ z. pure (output_kind.Value y z)))

  abbrev either_output : Parser (Output Expr)
  either_output = choose (λ now. begins_star_of now.tokens) star_of value

  abbrev form : Parser (Output Expr)
  form = choose (sees s.Times) (expect s.Times >> pure output_kind.Star) either_output

  output_starts : (now next : Stream) (x : Node (Output Expr)) → output expr inner now ≡ Some (x, next) → head_fits starts_output now.tokens ≡ true
  unfolding output
  output_starts now next x h =
      let q = part_of (form now) _ (x, next) h in
      by_star (sees s.Times now) refl q.value q.next q.is
    where
      named : (y : Output Expr) (u : Stream) → star_of now ≡ Some (y, u) → head_fits starts_output now.tokens ≡ true
      named y u k =
          let q = part_of (name now) _ (y, u) k in
          head_less is_name starts_output (λ r d. second_of (is s.Times r) _ (first_of (is_name r) _ d)) now.tokens (name_first now.at now.tokens q.value q.next q.is)

      valued : (y : Output Expr) (u : Stream) → value now ≡ Some (y, u) → head_fits starts_output now.tokens ≡ true
      valued y u k =
          let q = part_of (expr now) _ (y, u) k in
          head_less starts_negated starts_output (λ r d. second_of (is s.Times r) _ (second_of (is_name r) _ d)) now.tokens (starts now q.next q.value q.is)

      by_name : (c : Bool) (y : Output Expr) (u : Stream) → (if c then star_of now else value now) ≡ Some (y, u) → head_fits starts_output now.tokens ≡ true
      by_name true y u k = named y u k
      by_name false y u k = valued y u k

      by_star : (c : Bool) → sees s.Times now ≡ c → (y : Output Expr) (u : Stream) → form now ≡ Some (y, u) → head_fits starts_output now.tokens ≡ true
      by_star true e y u k = star_first now.tokens e
      by_star false e y u k = by_name (begins_star_of now.tokens) y u (sym (ap (λ c. if c then (expect s.Times >> pure output_kind.Star) now else either_output now) e) ∙ k)

  -- no word that stands before the outputs is one
  pub output_lacks : (k : Symbol) → starts_output (reading.Symbol k) ≡ false → (now next : Stream) (x : Node (Output Expr)) → output expr inner now ≡ Some (x, next) → sees k now ≡ false
  output_lacks k outside now next x h = unseen now.tokens (output_starts now next x h)
    where
      unseen : (tokens : Lexemes) → head_fits starts_output tokens ≡ true → begins k tokens ≡ false
      unseen [] d = refl
      unseen (y ∷ rest) d = apart starts_output k y.reading d outside
