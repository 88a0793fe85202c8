-- No expression begins with a name, a dot and a star.
use Rattle.std.proofs.Common.{◌≡◌, ℕ, suc, Bool, true, false, Some, None, refl, sym, subst, ◌∙◌}
use Rattle.std.specs.Prelude.{if◌then◌else◌}
use Rattle.sq_base.specs.declared.place.Place.{Place}
use Rattle.sq_syntax.specs.declared.symbol.Symbol.{Symbol}
use Rattle.sq_syntax.specs.declared.symbol.Symbol.TheVariants as s
use Rattle.sq_syntax.specs.declared.symbol.Lexeme.{Lexeme}
use Rattle.sq_syntax.specs.declared.query.Query.{Query}
use Rattle.sq_syntax.specs.declared.name.Identifier.{Identifier}
use Rattle.sq_syntax.specs.declared.expr.Pool.{Pool}
use Rattle.sq_syntax.specs.Symbols.{among}
use Rattle.sq_syntax.specs.ExpressionPieces.{other_calls, pool_symbol}
use Rattle.sq_syntax.specs.declared.name.TypeWord.{TypeWord}
use Rattle.sq_syntax.specs.declared.name.TypeWord.TheVariants as type_word
use Rattle.sq_syntax.specs.Facts.{Stream}
use Rattle.sq_grammar.specs.declared.start.Start.TheVariants as start
use Rattle.sq_grammar.specs.Reading.{Parser, and_then, ◌>>=◌, ◌>>◌, pure, fail, choose, is, begins_both, sees, expect, token, same, here}
use Rattle.sq_grammar.specs.Ahead.{Lexemes, holds_query, is_some, types_text}
use Rattle.sq_grammar.specs.Names.{name, qualified_name, in_schema, column_name, named_type, type_words, two_words, type, call_name, call_of, if_call}
use Rattle.sq_grammar.specs.Levels.{Expr}
use Rattle.sq_grammar.specs.Primaries.{typed_text, column, calls, call, scalar, brackets, bracketed, named, exists, array, case, cast, pooled, null_if, extract, called_or, by_start}
use Rattle.sq_grammar.proofs.Begins.{part_of, none_some, Starts, starts_negated}
use Rattle.sq_grammar.proofs.Joints.{false_true}
use Rattle.sq_grammar.proofs.ReadNames.{passed}
use Rattle.sq_grammar.proofs.Stars.{dotted, starred, same_next, Single, token_single, expect_single}

-- nothing is read from a token, a dot and a star
abbrev pub Missing : {A : Type 0} → Parser A → Type 0
Missing {A} p = (n : ℕ) (x : Lexeme) (a b : Place) (rest : Lexemes) (y : A) (next : Stream) → p (starred n x a b rest) ≡ Some (y, next) → ⊥

-- nothing is read from a dot and a star
abbrev pub Refuses : {A : Type 0} → Parser A → Type 0
Refuses {A} p = (n : ℕ) (a b : Place) (rest : Lexemes) (y : A) (next : Stream) → p (dotted n a b rest) ≡ Some (y, next) → ⊥

pub missing_single : {A : Type 0} (p : Parser A) → Missing p → Single p
missing_single p m n x a b rest y next h = absurd (m n x a b rest y next h)

-- one token is read, and nothing from a dot and a star behind it
behind_one : {A B : Type 0} (p : Parser A) (f : A → Parser B) (n : ℕ) (x : Lexeme) (a b : Place) (rest : Lexemes) (z : B) (next : Stream) → Single p
    → ((y : A) → f y (dotted (suc n) a b rest) ≡ Some (z, next) → ⊥) → (p >>= f) (starred n x a b rest) ≡ Some (z, next) → ⊥
behind_one p f n x a b rest z next one none h =
    let q = part_of (p (starred n x a b rest)) f (z, next) h in
    none q.value (subst (λ v. f q.value v ≡ Some (z, next)) (one n x a b rest q.value q.next q.is) q.more)

-- a parser that starts so
missing_first : {A B : Type 0} (p : Parser A) (f : A → Parser B) (n : ℕ) (x : Lexeme) (a b : Place) (rest : Lexemes) (z : B) (next : Stream) → Missing p → (p >>= f) (starred n x a b rest) ≡ Some (z, next) → ⊥
missing_first p f n x a b rest z next m h =
    let q = part_of (p (starred n x a b rest)) f (z, next) h in
    m n x a b rest q.value q.next q.is

name_single : Single name
unfolding name
name_single = token_single _

qualified_missing : Missing qualified_name
unfolding qualified_name same expect name
qualified_missing n x a b rest y next h = behind_one name (λ z. choose (sees s.Dot) (in_schema z) (pure (record { schema = None; name = z }))) n x a b rest y next name_single (λ z k. none_some k) h

column_name_missing : Missing column_name
unfolding column_name same expect name
column_name_missing n x a b rest y next h = behind_one name _ n x a b rest y next name_single (λ z k. none_some k) h

either_missing : {A : Type 0} (test : Stream → Bool) (this other : Parser A) → Missing this → Missing other → Missing (choose test this other)
either_missing test this other m k n x a b rest y next h = by_test (test (starred n x a b rest)) h
  where
    by_test : (c : Bool) → (if c then this (starred n x a b rest) else other (starred n x a b rest)) ≡ Some (y, next) → ⊥
    by_test true l = m n x a b rest y next l
    by_test false l = k n x a b rest y next l

either_single : {A : Type 0} (test : Stream → Bool) (this other : Parser A) → Single this → Single other → Single (choose test this other)
either_single test this other m k n x a b rest y next h = by_test (test (starred n x a b rest)) h
  where
    by_test : (c : Bool) → (if c then this (starred n x a b rest) else other (starred n x a b rest)) ≡ Some (y, next) → next ≡ dotted (suc n) a b rest
    by_test true l = m n x a b rest y next l
    by_test false l = k n x a b rest y next l

-- two symbols, the second of which is no dot
two_missing : (k l : Symbol) (made : Place → TypeWord) → same s.Dot l ≡ false → Missing (two_words k l made)
unfolding expect
two_missing k l made other n x a b rest y next h =
    behind_one (expect k) (λ _. expect l >> pure (made (here (starred n x a b rest)))) n x a b rest y next (expect_single k) (λ z m. none_some (sym (dot_refused other) ∙ m)) h
  where
    dot_refused : same s.Dot l ≡ false → and_then (expect l (dotted (suc n) a b rest)) (λ _ now. Some (made (here (starred n x a b rest)), now)) ≡ None
    dot_refused e = rw e refl

type_words_missing : Missing type_words
unfolding type_words same
type_words_missing =
    let double = two_words s.Double s.Precision type_word.DoublePrecision in
    let varying = two_words s.Character s.Varying type_word.CharacterVarying in
    either_missing (λ now. begins_both s.Double s.Precision now.tokens) double (choose (λ now. begins_both s.Character s.Varying now.tokens) varying named_type)
    (two_missing s.Double s.Precision type_word.DoublePrecision refl)
    (either_missing (λ now. begins_both s.Character s.Varying now.tokens) varying named_type
    (two_missing s.Character s.Varying type_word.CharacterVarying refl)
    (λ n x a b rest y next h. missing_first qualified_name (λ z. pure (type_word.Named z)) n x a b rest y next qualified_missing h))

type_missing : Missing type
unfolding type
type_missing n x a b rest y next h = missing_first type_words _ n x a b rest y next type_words_missing h

typed_text_missing : Missing typed_text
unfolding typed_text
typed_text_missing n x a b rest y next h = missing_first type _ n x a b rest y next type_missing h

column_missing : Missing column
unfolding column
column_missing n x a b rest y next h = missing_first column_name _ n x a b rest y next column_name_missing h

if_call_keeps : (x y : Identifier) (u v : Stream) → if_call x u ≡ Some (y, v) → v ≡ u
if_call_keeps x y u v h = by_word (among other_calls x.name) h
  where
    by_word : (c : Bool) → (if c then fail else pure x) u ≡ Some (y, v) → v ≡ u
    by_word true k = absurd (none_some k)
    by_word false k = same_next (Some (x, u)) y x v u k refl

call_name_single : Single call_name
unfolding call_name
call_name_single n x a b rest y next h =
    let q = part_of (token call_of (starred n x a b rest)) if_call (y, next) h in
    if_call_keeps q.value y q.next next q.more ∙ token_single call_of n x a b rest q.value q.next q.is

call_missing : (nested : Parser Expr) (inner : Parser Query) → Missing (call nested inner)
unfolding call expect same
call_missing nested inner n x a b rest y next h = behind_one call_name _ n x a b rest y next call_name_single (λ z k. none_some k) h

module _ (nested : Parser Expr) (inner : Parser Query) (starts : Starts starts_negated nested) where
  nested_refuses : Refuses nested
  unfolding same
  nested_refuses n a b rest y next h = absurd (false_true (starts (dotted n a b rest) next y h))

  pub named_missing : Missing (named nested inner)
  named_missing =
      either_missing (λ now. types_text now.tokens) typed_text (choose (λ now. calls now.tokens) (call nested inner) column) typed_text_missing
      (either_missing (λ now. calls now.tokens) (call nested inner) column (call_missing nested inner) column_missing)

  bracketed_missing : Missing (bracketed nested inner)
  unfolding bracketed
  bracketed_missing n x a b rest y next h =
      behind_one (expect s.Open) _ n x a b rest y next (expect_single s.Open)
      (λ z k. let q = part_of (nested (dotted (suc n) a b rest)) _ (y, next) k in nested_refuses (suc n) a b rest q.value q.next q.is) h

  no_query : (n : ℕ) (x : Lexeme) (a b : Place) (rest : Lexemes) → holds_query (starred n x a b rest).tokens ≡ false
  unfolding holds_query same
  no_query n x a b rest = by_open (is s.Open x.reading)
    where
      by_open : (c : Bool) → is_some {A = Lexemes} (if c then None else None) ≡ false
      by_open true = refl
      by_open false = refl

  pub brackets_missing : Missing (brackets nested inner)
  brackets_missing n x a b rest y next h =
      bracketed_missing n x a b rest y next (sym (passed (λ now. holds_query now.tokens) (scalar nested inner) (bracketed nested inner) (starred n x a b rest) (no_query n x a b rest)) ∙ h)

  -- a word that a bracket follows, and what begins with it
  opens_missing : {A : Type 0} (k : Symbol) (more : Parser A) (n : ℕ) (x : Lexeme) (a b : Place) (rest : Lexemes) (y : A) (next : Stream) → (expect k >> (expect s.Open >> more)) (starred n x a b rest) ≡ Some (y, next) → ⊥
  unfolding expect same
  opens_missing k more n x a b rest y next h = behind_one (expect k) (λ _. expect s.Open >> more) n x a b rest y next (expect_single k) (λ z m. none_some m) h

  pub exists_missing : Missing (exists nested inner)
  unfolding exists
  exists_missing n x a b rest y next h = opens_missing s.Exists _ n x a b rest y next h

  pub cast_missing : Missing (cast nested inner)
  unfolding cast
  cast_missing n x a b rest y next h = opens_missing s.Cast _ n x a b rest y next h

  pub pooled_missing : (word : Pool) → Missing (pooled nested inner word)
  unfolding pooled
  pooled_missing word n x a b rest y next h = opens_missing (pool_symbol word) _ n x a b rest y next h

  pub null_if_missing : Missing (null_if nested inner)
  unfolding null_if
  null_if_missing n x a b rest y next h = opens_missing s.NullIf _ n x a b rest y next h

  pub extract_missing : Missing (extract nested inner)
  unfolding extract
  extract_missing n x a b rest y next h = opens_missing s.Extract _ n x a b rest y next h

  pub called_or_missing : (special : Parser Expr) → Missing special → Missing (called_or nested inner special)
  called_or_missing special m = either_missing (λ now. calls now.tokens) special (named nested inner) m named_missing

  -- a purpose is no star
  pub sqlc_missing : Missing (by_start nested inner start.Sqlc)
  unfolding same
  sqlc_missing n x a b rest y next h = named_missing n x a b rest y next h

  pub side_missing : Missing (by_start nested inner start.Side)
  side_missing = either_missing (λ now. calls now.tokens) (call nested inner) fail (call_missing nested inner) (λ n x a b rest y next h. none_some h)

  pub array_missing : Missing (array nested inner)
  unfolding array expect same
  array_missing n x a b rest y next h = behind_one (expect s.Array) _ n x a b rest y next (expect_single s.Array) (λ z m. none_some m) h

  pub case_missing : Missing (case nested inner)
  unfolding case expect same
  case_missing n x a b rest y next h =
      behind_one (expect s.Case) _ n x a b rest y next (expect_single s.Case)
      (λ z k.
      let q = part_of ((nested >>= (λ v. pure (Some v))) (dotted (suc n) a b rest)) _ (y, next) k in
      let r = part_of (nested (dotted (suc n) a b rest)) (λ v. pure (Some v)) (q.value, q.next) q.is in
      nested_refuses (suc n) a b rest r.value r.next r.is)
      h
