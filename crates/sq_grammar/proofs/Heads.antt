-- What the first tokens tell of what stands there.
use Rattle.std.proofs.Common.{◌≡◌, ℕ, Bool, true, false, List, [], ◌∷◌, ◌++◌, Option, Some, None, refl, sym, ap, ◌∙◌}
use Rattle.std.specs.Prelude.{◌&&◌, not, bytes_eq, codes, flat_map}
use Rattle.std.proofs.lemmas.Slice.Eq.{bytes_eq-Decides}
use Rattle.sq_syntax.specs.declared.symbol.Symbol.{Symbol}
use Rattle.sq_syntax.specs.declared.symbol.Symbol.TheVariants as s
use Rattle.sq_syntax.specs.declared.symbol.Reading.{Reading}
use Rattle.sq_syntax.specs.declared.symbol.Reading.TheVariants as reading
use Rattle.sq_syntax.specs.declared.symbol.Lexeme.{Lexeme}
use Rattle.sq_syntax.specs.declared.name.Identifier.{Identifier}
use Rattle.sq_syntax.specs.declared.name.QualifiedName.{QualifiedName}
use Rattle.sq_syntax.specs.declared.name.TypeName.{TypeName}
use Rattle.sq_syntax.specs.declared.name.TypeWord.{TypeWord}
use Rattle.sq_syntax.specs.declared.name.TypeWord.TheVariants as type_word
use Rattle.sq_syntax.specs.Facts.{Stream, Says}
use Rattle.sq_syntax.specs.Pieces as p
use Rattle.sq_syntax.specs.Symbols.{text, words, find, by_symbol, word_reading, name_reading, identifier_reading, is_free, is_name, among, reserved_words}
use Rattle.sq_syntax.specs.Schemas.{is as is_letters}
use Rattle.sq_grammar.specs.Reading.{begins}
use Rattle.sq_grammar.specs.Ahead.{Lexemes}
use Rattle.sq_grammar.specs.Statements.{is_word, begins_word}
use Rattle.sq_grammar.specs.Schemas.{begins_letters, begins_sign}
use Rattle.sq_grammar.proofs.Begins.{none_some}
use Rattle.sq_grammar.proofs.Joints.{false_true}
use Rattle.sq_grammar.proofs.Aliases.{apart}
use Rattle.sq_grammar.proofs.ReadTypes.{is_type_sign, goes_on_type, and_false}
use Rattle.sq_grammar.proofs.Between.{Between, split}

-- ---- one token

-- the first token is of this class, or there is none
abbrev pub ends : (Reading → Bool) → Lexemes → Bool
ends class [] = true
ends class (x ∷ rest) = class x.reading

pub first_ends : (class : Reading → Bool) (r : Reading) (now next : Stream) → Says r now next → class r ≡ true → ends class now.tokens ≡ true
first_ends class r now next h e = ap (ends class) h.first ∙ e

pub no_symbol : (class : Reading → Bool) (k : Symbol) (tokens : Lexemes) → class (reading.Symbol k) ≡ false → ends class tokens ≡ true → begins k tokens ≡ false
no_symbol class k [] e h = refl
no_symbol class k (x ∷ rest) e h = apart class k x.reading h e

-- a reading of a class is no word outside of it
pub apart_word : (class : Reading → Bool) (letters : List ℕ) (r : Reading) → class r ≡ true → class (reading.Word letters) ≡ false → is_word letters r ≡ false
apart_word class letters (reading.Word word) h e = by_same (bytes_eq word letters) refl
  where
    by_same : (b : Bool) → bytes_eq word letters ≡ b → b ≡ false
    by_same false d = refl
    by_same true d = absurd (false_true (sym e ∙ ap (λ y. class (reading.Word y)) (sym ((bytes_eq-Decides word letters).0 d)) ∙ h))
apart_word class letters _ h e = refl

pub no_word : (class : Reading → Bool) (letters : List ℕ) (tokens : Lexemes) → class (reading.Word letters) ≡ false → ends class tokens ≡ true → begins_word letters tokens ≡ false
no_word class letters [] e h = refl
no_word class letters (x ∷ rest) e h = apart_word class letters x.reading h e

pub no_letters : (class : Reading → Bool) (letters : List ℕ) (tokens : Lexemes) → ((r : Reading) → class r ≡ true → is_letters letters r ≡ false) → ends class tokens ≡ true → begins_sign letters tokens ≡ false
no_letters class letters [] e h = refl
no_letters class letters (x ∷ rest) e h = e x.reading h

pub ends_other : (class other : Reading → Bool) (tokens : Lexemes) → ((r : Reading) → class r ≡ true → other r ≡ true) → ends class tokens ≡ true → ends other tokens ≡ true
ends_other class other [] e h = refl
ends_other class other (x ∷ rest) e h = e x.reading h

pub no_type : (class : Reading → Bool) (tokens : Lexemes) → ((r : Reading) → class r ≡ true → is_type_sign r ≡ false) → ends class tokens ≡ true → goes_on_type tokens ≡ false
no_type class [] e h = refl
no_type class (x ∷ rest) e h = e x.reading h

-- the first token has no such letters
pub other_letters : (letters : List ℕ) (r : Reading) (now next : Stream) → Says r now next → is_letters letters r ≡ false → begins_sign letters now.tokens ≡ false
other_letters letters r now next h e = ap (begins_sign letters) h.first ∙ e

-- letters that no word has
pub no_letters_no_word : (letters : List ℕ) (r : Reading) → is_letters letters r ≡ false → is_word letters r ≡ false
no_letters_no_word letters (reading.Word word) h = h
no_letters_no_word letters _ h = refl

-- ---- two tokens

false_and : (a b : Bool) → a ≡ false → a && b ≡ false
false_and true b h = absurd (cc)
false_and false b h = refl

second_unseen : (first second : List ℕ) (r : Reading) (tokens : Lexemes) (x : Lexeme) → x.reading ≡ r → begins_sign second tokens ≡ false → begins_letters first second (x ∷ tokens) ≡ false
second_unseen first second r [] x e h = refl
second_unseen first second r (y ∷ rest) x e h = and_false (is_letters first x.reading) (is_letters second y.reading) h

pub unlike_second : (first second : List ℕ) (r : Reading) (now next : Stream) → Says r now next → begins_sign second next.tokens ≡ false → begins_letters first second now.tokens ≡ false
unlike_second first second r now next h e = ap (begins_letters first second) h.first ∙ second_unseen first second r next.tokens (record { reading = r; place = h.place }) refl e

first_unseen : (first second : List ℕ) (r : Reading) (tokens : Lexemes) (x : Lexeme) → is_letters first x.reading ≡ false → begins_letters first second (x ∷ tokens) ≡ false
first_unseen first second r [] x h = refl
first_unseen first second r (y ∷ rest) x h = false_and (is_letters first x.reading) (is_letters second y.reading) h

pub unlike_first : (first second : List ℕ) (r : Reading) (now next : Stream) → Says r now next → is_letters first r ≡ false → begins_letters first second now.tokens ≡ false
unlike_first first second r now next h e = ap (begins_letters first second) h.first ∙ first_unseen first second r next.tokens (record { reading = r; place = h.place }) e

pub both_letters : (first second : List ℕ) (r q : Reading) (now u next : Stream) → Says r now u → Says q u next → is_letters first r ≡ true → is_letters second q ≡ true → begins_letters first second now.tokens ≡ true
both_letters first second r q now u next h k a b =
    ap (begins_letters first second) h.first ∙ ap (λ tokens. begins_letters first second (record { reading = r; place = h.place } ∷ tokens)) k.first ∙ rw (a, b) refl

-- ---- names

free_unreserved : (x : Symbol) → is_free x ≡ true → among reserved_words (text x) ≡ false
free_unreserved s.Arg h = refl
free_unreserved s.At h = refl
free_unreserved s.By h = refl
free_unreserved s.Character h = refl
free_unreserved s.Coalesce h = refl
free_unreserved s.Double h = refl
free_unreserved s.Extract h = refl
free_unreserved s.Filter h = refl
free_unreserved s.First h = refl
free_unreserved s.Greatest h = refl
free_unreserved s.Key h = refl
free_unreserved s.Last h = refl
free_unreserved s.Least h = refl
free_unreserved s.Locked h = refl
free_unreserved s.Materialized h = refl
free_unreserved s.Narg h = refl
free_unreserved s.No h = refl
free_unreserved s.NoWait h = refl
free_unreserved s.NullIf h = refl
free_unreserved s.Nulls h = refl
free_unreserved s.Of h = refl
free_unreserved s.Precision h = refl
free_unreserved s.Row h = refl
free_unreserved s.Rows h = refl
free_unreserved s.Share h = refl
free_unreserved s.Skip h = refl
free_unreserved s.Slice h = refl
free_unreserved s.Sqlc h = refl
free_unreserved s.Time h = refl
free_unreserved s.Unknown h = refl
free_unreserved s.Update h = refl
free_unreserved s.Varying h = refl
free_unreserved s.Without h = refl
free_unreserved s.Zone h = refl
free_unreserved _ h = absurd (false_true h)

pub not_true : (b : Bool) → not b ≡ true → b ≡ false
not_true false h = refl
not_true true h = absurd (cc)

unreserved_letters : (word letters : List ℕ) → among reserved_words letters ≡ true → among reserved_words word ≡ false → bytes_eq word letters ≡ false
unreserved_letters word letters e h = by_same (bytes_eq word letters) refl
  where
    by_same : (b : Bool) → bytes_eq word letters ≡ b → b ≡ false
    by_same false d = refl
    by_same true d = absurd (false_true (sym h ∙ ap (among reserved_words) ((bytes_eq-Decides word letters).0 d) ∙ e))

-- a name has not the letters of a reserved word
pub name_no_letters : (letters : List ℕ) (r : Reading) → among reserved_words letters ≡ true → is_name r ≡ true → is_letters letters r ≡ false
name_no_letters letters (reading.Symbol x) e h = unreserved_letters (text x) letters e (free_unreserved x h)
name_no_letters letters (reading.Word word) e h = unreserved_letters word letters e (not_true (among reserved_words word) h)
name_no_letters letters _ e h = unreserved_letters [] letters e refl

free_not : (x : Symbol) → is_free x ≡ true → bytes_eq (text x) (codes "not") ≡ false
free_not s.Arg h = refl
free_not s.At h = refl
free_not s.By h = refl
free_not s.Character h = refl
free_not s.Coalesce h = refl
free_not s.Double h = refl
free_not s.Extract h = refl
free_not s.Filter h = refl
free_not s.First h = refl
free_not s.Greatest h = refl
free_not s.Key h = refl
free_not s.Last h = refl
free_not s.Least h = refl
free_not s.Locked h = refl
free_not s.Materialized h = refl
free_not s.Narg h = refl
free_not s.Not h = absurd (false_true h)
free_not _ h = refl

-- no name has the letters of NOT
pub name_no_not : (x : Identifier) → is_name (identifier_reading x) ≡ true → is_letters (codes "not") (identifier_reading x) ≡ false
unfolding word_reading
name_no_not x h = by_quotes x.is_quoted x.name h
  where
    word_not : (word : List ℕ) (found : Option Symbol) → find words word ≡ found → is_name (by_symbol reading.Word word found) ≡ true → is_letters (codes "not") (by_symbol reading.Word word found) ≡ false
    word_not word (Some y) e k = free_not y k
    word_not word None e k = by_same (bytes_eq word (codes "not")) refl
      where
        by_same : (b : Bool) → bytes_eq word (codes "not") ≡ b → b ≡ false
        by_same false d = refl
        by_same true d = absurd (none_some (sym e ∙ ap (find words) ((bytes_eq-Decides word (codes "not")).0 d)))

    by_quotes : (is_quoted : Bool) (bytes : List ℕ) → is_name (name_reading is_quoted bytes) ≡ true → is_letters (codes "not") (name_reading is_quoted bytes) ≡ false
    by_quotes true bytes k = refl
    by_quotes false bytes k = word_not bytes (find words bytes) refl k

-- the first token is a name, and no NOT
pub record NameFirst (now : Stream) : Type 0 where
  pub reading : Reading
  pub next : Stream
  pub says : Says reading now next
  pub is : is_name reading ≡ true
  pub no_not : is_letters (codes "not") reading ≡ false

pub name_first : (x : Identifier) (now next : Stream) → Between (p.name x) now next → NameFirst now
name_first x now next h = record { reading = identifier_reading x; next = h.1.1.0; says = h.1.1.1; is = h.0; no_not = name_no_not x h.0 }

schema_first : (schema : Option Identifier) (x : Identifier) (now next : Stream) → Between (p.schema_name schema ++ p.name x) now next → NameFirst now
schema_first None x now next h = name_first x now next h
schema_first (Some y) x now next h = record { reading = identifier_reading y; next = h.1.1.0; says = h.1.1.1; is = h.0; no_not = name_no_not y h.0 }

pub qualified_first : (x : QualifiedName) (now next : Stream) → Between (p.qualified_name x) now next → NameFirst now
qualified_first x now next h = schema_first x.schema x.name now next h

words_first : (x : TypeWord) (now next : Stream) → Between (p.type_words x) now next → NameFirst now
words_first (type_word.Named x) now next h = qualified_first x now next h
words_first (type_word.DoublePrecision place) now next h = record { reading = reading.Symbol s.Double; next = h.1.0; says = h.1.1; is = refl; no_not = refl }
words_first (type_word.CharacterVarying place) now next h = record { reading = reading.Symbol s.Character; next = h.1.0; says = h.1.1; is = refl; no_not = refl }

pub type_first : (x : TypeName) (now next : Stream) → Between (p.type x) now next → NameFirst now
type_first x now next h =
    let a = split ((p.type_words x.word ++ p.size x.size) ++ p.time_zone x.zone) (flat_map p.array x.arrays) now next h.1 in
    let b = split (p.type_words x.word ++ p.size x.size) (p.time_zone x.zone) now a.0 a.1 in
    let c = split (p.type_words x.word) (p.size x.size) now b.0 b.1 in
    words_first x.word now c.0 c.1

pub first_is_name : (now : Stream) → NameFirst now → ends is_name now.tokens ≡ true
first_is_name now f = first_ends is_name f.reading now f.next f.says f.is

pub first_no_letters : (letters : List ℕ) (now : Stream) → among reserved_words letters ≡ true → NameFirst now → begins_sign letters now.tokens ≡ false
first_no_letters letters now e f = other_letters letters f.reading now f.next f.says (name_no_letters letters f.reading e f.is)

pub first_no_word : (letters : List ℕ) (now : Stream) → among reserved_words letters ≡ true → NameFirst now → begins_word letters now.tokens ≡ false
first_no_word letters now e f = ap (begins_word letters) f.says.first ∙ no_letters_no_word letters f.reading (name_no_letters letters f.reading e f.is)

-- a name is the first of two such words only where the second stands behind it
pub name_unlike : (first second : List ℕ) (x : Identifier) (now next : Stream) → Between (p.name x) now next → begins_sign second next.tokens ≡ false → begins_letters first second now.tokens ≡ false
name_unlike first second x now next h e = unlike_second first second (identifier_reading x) now h.1.1.0 h.1.1.1 (ap (λ (u : Stream). begins_sign second u.tokens) h.1.1.2 ∙ e)

schema_unlike : (first second : List ℕ) (schema : Option Identifier) (x : Identifier) (now next : Stream) → Between (p.schema_name schema ++ p.name x) now next → is_letters second (reading.Symbol s.Dot) ≡ false → begins_sign second next.tokens ≡ false → begins_letters first second now.tokens ≡ false
schema_unlike first second None x now next h dot e = name_unlike first second x now next h e
schema_unlike first second (Some y) x now next h dot e =
    let d = h.1.1 in
    unlike_second first second (identifier_reading y) now d.0 d.1 (other_letters second (reading.Symbol s.Dot) d.0 d.2.0 d.2.1 dot)

pub qualified_unlike : (first second : List ℕ) (x : QualifiedName) (now next : Stream) → Between (p.qualified_name x) now next → is_letters second (reading.Symbol s.Dot) ≡ false → begins_sign second next.tokens ≡ false → begins_letters first second now.tokens ≡ false
qualified_unlike first second x now next h dot e = schema_unlike first second x.schema x.name now next h dot e
