-- Names, types and lists are read as they are spelled, however deep their tokens nest.
use Rattle.std.proofs.Common.{◌≡◌, ℕ, zero, suc, ◌≤◌, Bool, true, false, List, [], ◌∷◌, ◌++◌, length, Some, refl, ap, subst, ◌∙◌, arith, map}
use Rattle.std.specs.Prelude.{flat_map, not}
use Rattle.sq_syntax.specs.declared.symbol.Symbol.{Symbol}
use Rattle.sq_syntax.specs.declared.symbol.Symbol.TheVariants as s
use Rattle.sq_syntax.specs.declared.symbol.Reading.TheVariants as reading
use Rattle.sq_syntax.specs.declared.name.Identifier.{Identifier}
use Rattle.sq_syntax.specs.declared.name.QualifiedName.{QualifiedName}
use Rattle.sq_syntax.specs.declared.name.TypeName.{TypeName}
use Rattle.sq_syntax.specs.Facts.{Stream, Says, Piece}
use Rattle.sq_syntax.specs.Symbols.{word_reading}
use Rattle.sq_syntax.specs.Pieces as p
use Rattle.sq_syntax.specs.ExpressionPieces.{is_field}
use Rattle.sq_syntax.specs.Schemas as z
use Rattle.sq_grammar.specs.Reading.{Outcome, Parser, ◌>>◌, sees, expect, optional, many, many_from}
use Rattle.sq_grammar.specs.Names.{name, qualified_name, type}
use Rattle.sq_grammar.specs.Queries.{bracketed_names, names}
use Rattle.sq_grammar.specs.Primaries.{a_text, text_of, a_field, field_of, word_text}
use Rattle.sq_grammar.specs.Statements.{sees_word, listed}
use Rattle.sq_grammar.specs.Schemas.{optional_word}
use Rattle.sq_grammar.proofs.Runs.{said, said_all, said_items}
use Rattle.sq_grammar.proofs.Complete.{says_expect, says_token}
use Rattle.sq_grammar.proofs.Joints.{false_true}
use Rattle.sq_grammar.proofs.ReadNames.{name_read, qualified_read}
use Rattle.sq_grammar.proofs.ReadTypes.{goes_on_type, that_symbol, type_read}
use Rattle.sq_grammar.proofs.Aliases.{names_read, bracketed_names_read}
use Rattle.sq_grammar.proofs.Testing.{optional_no, optional_yes}
use Rattle.sq_grammar.proofs.KeyWords.{says_word, that_word}
use Rattle.sq_grammar.proofs.Words.{field_again, only_if_holds}
use Rattle.sq_grammar.proofs.CommaLists.{comma_pieces, listed_pieces}
use Rattle.sq_grammar.proofs.Between.{Between, split, depth_of, run_between, given_alone, at_next, on, if_so, if_not}

-- the tokens that were read end where the part does
pub ended : {A : Type 0} {x : A} {u next : Stream} → u ≡ next → ◌≡◌ {A = Outcome A} (Some (x, u)) (Some (x, next))
ended {A} {x} h = ap (λ v. Some (x, v)) h

-- ---- names and types

pub name_alone : (x : Identifier) (now next : Stream) → Between (p.name x) now next → name now ≡ Some (x, next)
name_alone x now next h = given_alone (name_read (depth_of (p.name x)) x [] now next (run_between (p.name x) now next h))

pub qualified_alone : (x : QualifiedName) (now next : Stream) → Between (p.qualified_name x) now next → sees s.Dot next ≡ false → qualified_name now ≡ Some (x, next)
qualified_alone x now next h dot = given_alone (qualified_read (depth_of (p.qualified_name x)) x [] now next (run_between (p.qualified_name x) now next h) (λ u e. at_next (sees s.Dot) next u dot e))

pub type_alone : (x : TypeName) (now next : Stream) → Between (p.type x) now next → goes_on_type next.tokens ≡ false → type now ≡ Some (x, next)
type_alone x now next h end = given_alone (type_read (depth_of (p.type x)) x [] now next (run_between (p.type x) now next h) (λ u e. at_next (λ v. goes_on_type v.tokens) next u end e))

pub bracketed_alone : (xs : List Identifier) (now next : Stream) → Between (p.bracketed_names xs) now next → sees s.Open next ≡ false → bracketed_names now ≡ Some (xs, next)
bracketed_alone xs now next h bracket =
    given_alone (bracketed_names_read (depth_of (p.bracketed_names xs)) xs [] now next (run_between (p.bracketed_names xs) now next h) (λ u e. at_next (sees s.Open) next u bracket e))

pub names_alone : (x : Identifier) (xs : List Identifier) (now next : Stream) → Between (p.names (x ∷ xs)) now next → sees s.Comma next ≡ false → names now ≡ Some (x ∷ xs, next)
names_alone x xs now next h comma =
    given_alone (names_read (depth_of (p.names (x ∷ xs))) x xs [] now next (run_between (p.names (x ∷ xs)) now next h) (λ u e. at_next (sees s.Comma) next u comma e))

-- ---- words

pub text_alone : (bytes : List ℕ) (now next : Stream) → Between (z.label bytes) now next → a_text now ≡ Some (bytes, next)
unfolding a_text
text_alone bytes now next h = says_token text_of bytes (reading.Text bytes) now h.0 h.1 refl ∙ ended h.2

pub field_alone : (letters : List ℕ) (now next : Stream) → Between (z.any_word letters) now next → a_field now ≡ Some (letters, next)
unfolding a_field
field_alone letters now next h =
    says_token field_of letters (word_reading letters) now h.1.0 h.1.1 (only_if_holds (is_field (word_reading letters)) (word_text (word_reading letters)) h.0 ∙ field_again letters) ∙ ended h.1.2

pub optional_alone : (k : Symbol) (b : Bool) (now next : Stream) → Between (p.when b k) now next → sees k next ≡ false → optional k now ≡ Some (b, next)
optional_alone k true now next h e = optional_yes k now h.0 h.1 ∙ ended h.2
optional_alone k false now next h e = optional_no k now (ap (sees k) h ∙ e) ∙ ended h

pub optional_word_alone : (letters : List ℕ) (b : Bool) (now next : Stream) → Between (z.when_word b letters) now next → sees_word letters next ≡ false → optional_word letters now ≡ Some (b, next)
optional_word_alone letters true now next h e = if_so _ (that_word letters now h.0 h.1) (on _ (says_word letters now h.0 h.1) (ended h.2))
optional_word_alone letters false now next h e = if_not _ (ap (sees_word letters) h ∙ e) (ended h)

-- ---- lists

module _ {A : Type 0} (more : Stream → Bool) (item : Parser A) (pieces : A → List Piece) (over : Stream → Bool) where
  -- an item begins as such, ends where another begins, and is read where it may end
  pub record Several : Type 0 where
    pub begun : (x : A) (now next : Stream) → Between (pieces x) now next → more now ≡ true
    pub before : (x : A) (now next : Stream) → Between (pieces x) now next → over now ≡ true
    pub some : (x : A) → 1 ≤ said (pieces x)
    pub reads : (x : A) (now next : Stream) → Between (pieces x) now next → over next ≡ true → item now ≡ Some (x, next)

  module _ (it : Several) where
    pub items_over : (xs : List A) (now next : Stream) → Between (flat_map pieces xs) now next → over next ≡ true → over now ≡ true
    items_over [] now next h end = ap over h ∙ end
    items_over (x ∷ xs) now next h end = let m = split (pieces x) (flat_map pieces xs) now next h in it.before x now m.0 m.1

    no_more : (k : ℕ) (now next : Stream) → now ≡ next → more next ≡ false → many_from more item k now ≡ Some ([], next)
    unfolding many_from
    no_more zero now next h e = ended h
    no_more (suc k) now next h e = if_not _ (ap more h ∙ e) (ended h)

    counted : (xs : List A) (k : ℕ) (now next : Stream) → Between (flat_map pieces xs) now next → more next ≡ false → over next ≡ true → length xs ≤ k → many_from more item k now ≡ Some (xs, next)
    unfolding many_from
    counted [] k now next h none end le = no_more k now next h none
    counted (x ∷ xs) zero now next h none end le = absurd (omega (arith, le))
    counted (x ∷ xs) (suc k) now next h none end le =
        let m = split (pieces x) (flat_map pieces xs) now next h in
        if_so _ (it.begun x now m.0 m.1) (on _ (it.reads x now m.0 m.1 (items_over xs m.0 next m.2 end)) (on _ (counted xs k m.0 next m.2 none end (omega (arith, le))) refl))

    pub many_alone : (xs : List A) (now next : Stream) → Between (flat_map pieces xs) now next → more next ≡ false → over next ≡ true → many more item now ≡ Some (xs, next)
    many_alone xs now next h none end =
        let run = run_between (flat_map pieces xs) now next h in
        counted xs (length now.tokens) now next h none end (omega (arith, said_all (flat_map pieces xs ++ []) (depth_of (flat_map pieces xs)) now next run, said_items pieces it.some xs []))

module _ {A : Type 0} (item : Parser A) (pieces : A → List Piece) (over : Stream → Bool) where
  -- an item is read where it may end, as it may before a comma
  pub record Parted : Type 0 where
    pub reads : (x : A) (now next : Stream) → Between (pieces x) now next → over next ≡ true → item now ≡ Some (x, next)
    pub comma : (now next : Stream) → Says (reading.Symbol s.Comma) now next → over now ≡ true

  several : Parted → Several (sees s.Comma) (expect s.Comma >> item) (comma_pieces pieces) over
  several i = record {
    begun = λ x now next h. that_symbol s.Comma now h.0 h.1;
    before = λ x now next h. i.comma now h.0 h.1;
    some = λ x. omega arith;
    reads = λ x now next h end. on _ (says_expect s.Comma now h.0 h.1) (i.reads x h.0 next h.2 end);
  }

  pub listed_alone : Parted → (xs : List A) (now next : Stream) → not (p.is_empty xs) ≡ true → Between (p.listed (map pieces xs)) now next → sees s.Comma next ≡ false → over next ≡ true → listed item now ≡ Some (xs, next)
  listed_alone i [] now next some h comma end = absurd (false_true some)
  listed_alone i (x ∷ xs) now next some h comma end =
      let it = several i in
      let m = split (pieces x) (flat_map (comma_pieces pieces) xs) now next (subst (λ ps. Between ps now next) (listed_pieces pieces x xs) h) in
      let first_over = items_over (sees s.Comma) (expect s.Comma >> item) (comma_pieces pieces) over it xs m.0 next m.2 end in
      on _ (i.reads x now m.0 m.1 first_over) (on _ (many_alone (sees s.Comma) (expect s.Comma >> item) (comma_pieces pieces) over it xs m.0 next m.2 comma end) refl)
