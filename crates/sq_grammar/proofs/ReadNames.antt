-- Names and types are read as they are spelled.
use Rattle.std.proofs.Common.{◌≡◌, ℕ, Bool, true, false, List, [], ◌∷◌, ◌++◌, Option, Some, None, refl, sym, ap, subst, ◌∙◌}
use Rattle.std.specs.Prelude.{if◌then◌else◌, bytes_eq}
use Rattle.std.proofs.lemmas.Slice.Eq.{bytes_eq-Decides}
use Rattle.sq_base.specs.declared.place.Place.{Place}
use Rattle.sq_syntax.specs.declared.symbol.Symbol.{Symbol}
use Rattle.sq_syntax.specs.declared.symbol.Symbol.TheVariants as s
use Rattle.sq_syntax.specs.declared.symbol.Reading.{Reading}
use Rattle.sq_syntax.specs.declared.symbol.Reading.TheVariants as reading
use Rattle.sq_syntax.specs.declared.name.Identifier.{Identifier}
use Rattle.sq_syntax.specs.declared.name.QualifiedName.{QualifiedName}
use Rattle.sq_syntax.specs.declared.name.ColumnName.{ColumnName}
use Rattle.sq_syntax.specs.declared.name.ColumnName.TheVariants as column
use Rattle.sq_syntax.specs.Symbols.{text, words, find, by_symbol, word_reading, name_reading, identifier_reading, is_name}
use Rattle.sq_syntax.specs.Facts.{Stream, Says, Piece, Turn, turn}
use Rattle.sq_syntax.specs.Pieces as p
use Rattle.sq_syntax.specs.Pieces.{sym as word, say, at}
use Rattle.sq_grammar.specs.Reading.{Parser, ◌>>=◌, pure, choose, sees, expect, is}
use Rattle.sq_grammar.specs.Names.{identifier, word_of, only, name_of, name, qualified_name, in_schema, column_name, second_part, third_part}
use Rattle.sq_grammar.proofs.Runs.{Run, spent}
use Rattle.sq_grammar.proofs.Complete.{step, says_expect, says_token, says_begins, same_self, stood}
use Rattle.sq_grammar.proofs.Chains.{Gives}

-- ---- words

same_symbol : {a b : Symbol} → Some a ≡ Some b → a ≡ b
same_symbol h = cc

find_step : (y x : Symbol) (bytes : List ℕ) (others : Option Symbol) (b : Bool) → bytes_eq (text y) bytes ≡ b → (others ≡ Some x → text x ≡ bytes) → (if b then Some y else others) ≡ Some x → text x ≡ bytes
find_step y x bytes others true e later h = ap text (sym (same_symbol h)) ∙ (bytes_eq-Decides (text y) bytes).0 e
find_step y x bytes others false e later h = later h

pub find_text : (symbols : List Symbol) (bytes : List ℕ) (x : Symbol) → find symbols bytes ≡ Some x → text x ≡ bytes
find_text [] bytes x h = absurd (cc)
find_text (y ∷ symbols) bytes x h = find_step y x bytes (find symbols bytes) (bytes_eq (text y) bytes) refl (find_text symbols bytes x) h

-- ---- names

pub only_holds : (b : Bool) (x : Option Identifier) → b ≡ true → only b x ≡ x
only_holds true x h = refl
only_holds false x h = absurd (cc)

word_found : (bytes : List ℕ) (found : Option Symbol) (place : Place) → find words bytes ≡ found → word_of (by_symbol reading.Word bytes found) place ≡ Some (identifier bytes false place)
word_found bytes None place h = refl
word_found bytes (Some x) place h = ap (λ b. Some (identifier b false place)) (find_text words bytes x h)

word_again : (bytes : List ℕ) (is_quoted : Bool) (place : Place) → word_of (name_reading is_quoted bytes) place ≡ Some (identifier bytes is_quoted place)
unfolding word_reading
word_again bytes true place = refl
word_again bytes false place = word_found bytes (find words bytes) place refl

pub identifier_again : (x : Identifier) → word_of (identifier_reading x) x.place ≡ Some x
identifier_again x = word_again x.name x.is_quoted x.place

pub name_turn : (r : Reading) → is_name r ≡ true → turn r ≡ Turn.neither
name_turn (reading.Symbol s.Open) h = absurd (cc)
name_turn (reading.Symbol s.OpenSquare) h = absurd (cc)
name_turn (reading.Symbol s.Case) h = absurd (cc)
name_turn (reading.Symbol s.Close) h = absurd (cc)
name_turn (reading.Symbol s.CloseSquare) h = absurd (cc)
name_turn (reading.Symbol s.End) h = absurd (cc)
name_turn (reading.Symbol _) h = refl
name_turn _ h = refl

pub name_read : (d : ℕ) (x : Identifier) (rest : List Piece) (now next : Stream) → Run (p.name x ++ rest) d now next → Gives (name now) x rest d next
unfolding name
name_read d x rest now next run =
    let h = run.1.1.1 in
    let r = identifier_reading x in
    let same = stood x.place r now run.1.1.0 h run.1.0 in (
      run.1.1.0,
      says_token name_of x r now run.1.1.0 h (only_holds (is_name r) (word_of r h.place) run.0 ∙ ap (λ place. word_of r place) same ∙ identifier_again x),
      subst (λ t. Run rest (spent t d) run.1.1.0 next) (name_turn r run.0) run.1.1.3,
    )

-- ---- names of several parts

unseen : (k : Symbol) (r : Reading) (now next : Stream) → Says r now next → is k r ≡ false → sees k now ≡ false
unseen k r now next h e = says_begins k r now next h ∙ e

seen : (k : Symbol) (now next : Stream) → Says (reading.Symbol k) now next → sees k now ≡ true
seen k now next h = says_begins k (reading.Symbol k) now next h ∙ same_self k

pub chosen : {A : Type 0} (test : Stream → Bool) (this other : Parser A) (now : Stream) → test now ≡ true → choose test this other now ≡ this now
chosen test this other now h = rw h refl

pub passed : {A : Type 0} (test : Stream → Bool) (this other : Parser A) (now : Stream) → test now ≡ false → choose test this other now ≡ other now
passed test this other now h = rw h refl

-- what stands behind some pieces does not begin with this symbol
abbrev pub Lacks : Symbol → List Piece → ℕ → Stream → Type 0
Lacks k rest d next = (u : Stream) → Run rest d u next → sees k u ≡ false

pub qualified_read : (d : ℕ) (x : QualifiedName) (rest : List Piece) (now next : Stream) → Run (p.qualified_name x ++ rest) d now next → Lacks s.Dot rest d next → Gives (qualified_name now) x rest d next
unfolding qualified_name
qualified_read d x rest now next run lacks = by_schema x.schema refl
  where
    by_schema : (schema : Option Identifier) → x.schema ≡ schema → Gives (qualified_name now) x rest d next
    by_schema None e =
        let run = subst (λ o. Run ((p.schema_name o ++ p.name x.name) ++ rest) d now next) e run in
        let n = name_read d x.name rest now next run in (
          n.0,
          step name (λ y. choose (sees s.Dot) (in_schema y) (pure (record { schema = None; name = y }))) now n.0 x.name n.1
              ∙ passed (sees s.Dot) (in_schema x.name) (pure (record { schema = None; name = x.name })) n.0 (lacks n.0 n.2)
              ∙ ap (λ o. Some (record { schema = o; name = x.name }, n.0)) (sym e),
          n.2,
        )
    by_schema (Some schema) e =
        let run = subst (λ o. Run ((p.schema_name o ++ p.name x.name) ++ rest) d now next) e run in
        let m = name_read d schema (word s.Dot ∷ p.name x.name ++ rest) now next run in
        let n = name_read d x.name rest m.2.0 next m.2.3 in (
          n.0,
          step name (λ y. choose (sees s.Dot) (in_schema y) (pure (record { schema = None; name = y }))) now m.0 schema m.1
              ∙ chosen (sees s.Dot) (in_schema schema) (pure (record { schema = None; name = schema })) m.0 (seen s.Dot m.0 m.2.0 m.2.1)
              ∙ step (expect s.Dot) (λ _. name >>= (λ y. pure (record { schema = Some schema; name = y }))) m.0 m.2.0 tt (says_expect s.Dot m.0 m.2.0 m.2.1)
              ∙ step name (λ y. pure (record { schema = Some schema; name = y })) m.2.0 n.0 x.name n.1
              ∙ ap (λ o. Some (record { schema = o; name = x.name }, n.0)) (sym e),
          n.2,
        )

pub column_read : (d : ℕ) (x : ColumnName) (rest : List Piece) (now next : Stream) → Run (p.column_name x ++ rest) d now next → Lacks s.Dot rest d next → Gives (column_name now) x rest d next
unfolding column_name
column_read d (column.Bare x) rest now next run lacks =
    let n = name_read d x rest now next run in (
      n.0,
      step name (λ y. choose (sees s.Dot) (second_part y) (pure (column.Bare y))) now n.0 x n.1
          ∙ passed (sees s.Dot) (second_part x) (pure (column.Bare x)) n.0 (lacks n.0 n.2),
      n.2,
    )
column_read d (column.OfRange x y) rest now next run lacks =
    let m = name_read d x (word s.Dot ∷ p.name y ++ rest) now next run in
    let n = name_read d y rest m.2.0 next m.2.3 in (
      n.0,
      step name (λ z. choose (sees s.Dot) (second_part z) (pure (column.Bare z))) now m.0 x m.1
          ∙ chosen (sees s.Dot) (second_part x) (pure (column.Bare x)) m.0 (seen s.Dot m.0 m.2.0 m.2.1)
          ∙ step (expect s.Dot) (λ _. name >>= (λ z. choose (sees s.Dot) (third_part x z) (pure (column.OfRange x z)))) m.0 m.2.0 tt (says_expect s.Dot m.0 m.2.0 m.2.1)
          ∙ step name (λ z. choose (sees s.Dot) (third_part x z) (pure (column.OfRange x z))) m.2.0 n.0 y n.1
          ∙ passed (sees s.Dot) (third_part x y) (pure (column.OfRange x y)) n.0 (lacks n.0 n.2),
      n.2,
    )
column_read d (column.OfTable x y z) rest now next run lacks =
    let l = name_read d x (word s.Dot ∷ p.name y ++ word s.Dot ∷ p.name z ++ rest) now next run in
    let m = name_read d y (word s.Dot ∷ p.name z ++ rest) l.2.0 next l.2.3 in
    let n = name_read d z rest m.2.0 next m.2.3 in (
      n.0,
      step name (λ w. choose (sees s.Dot) (second_part w) (pure (column.Bare w))) now l.0 x l.1
          ∙ chosen (sees s.Dot) (second_part x) (pure (column.Bare x)) l.0 (seen s.Dot l.0 l.2.0 l.2.1)
          ∙ step (expect s.Dot) (λ _. name >>= (λ w. choose (sees s.Dot) (third_part x w) (pure (column.OfRange x w)))) l.0 l.2.0 tt (says_expect s.Dot l.0 l.2.0 l.2.1)
          ∙ step name (λ w. choose (sees s.Dot) (third_part x w) (pure (column.OfRange x w))) l.2.0 m.0 y m.1
          ∙ chosen (sees s.Dot) (third_part x y) (pure (column.OfRange x y)) m.0 (seen s.Dot m.0 m.2.0 m.2.1)
          ∙ step (expect s.Dot) (λ _. name >>= (λ w. pure (column.OfTable x y w))) m.0 m.2.0 tt (says_expect s.Dot m.0 m.2.0 m.2.1)
          ∙ step name (λ w. pure (column.OfTable x y w)) m.2.0 n.0 z n.1,
      n.2,
    )
