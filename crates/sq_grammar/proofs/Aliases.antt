-- Lists of names, and the names of sources and outputs, are read as they are spelled.
use Rattle.std.proofs.Common.{◌≡◌, ℕ, ◌-◌, Bool, true, false, List, [], ◌∷◌, ◌++◌, Option, Some, None, refl, sym, ap, subst, ◌∙◌, arith, append_assoc}
use Rattle.std.specs.Prelude.{flat_map, ◌||◌}
use Rattle.std.proofs.lemmas.List.Folds.{flat_map-map}
use Rattle.sq_syntax.specs.declared.symbol.Symbol.{Symbol}
use Rattle.sq_syntax.specs.declared.symbol.Symbol.TheVariants as s
use Rattle.sq_syntax.specs.declared.symbol.Reading.{Reading}
use Rattle.sq_syntax.specs.declared.symbol.Reading.TheVariants as reading
use Rattle.sq_syntax.specs.declared.name.Identifier.{Identifier}
use Rattle.sq_syntax.specs.declared.query.Alias.{Alias}
use Rattle.sq_syntax.specs.declared.query.Label.{Label}
use Rattle.sq_syntax.specs.declared.query.Label.TheVariants as label_kind
use Rattle.sq_syntax.specs.Facts.{Stream, Says, Piece}
use Rattle.sq_syntax.specs.Symbols.{identifier_reading, is_bare_label}
use Rattle.sq_syntax.specs.Pieces as p
use Rattle.sq_syntax.specs.Pieces.{sym as word}
use Rattle.sq_syntax.specs.QueryPieces as f
use Rattle.sq_grammar.specs.Reading.{Parser, ◌>>=◌, ◌>>◌, pure, choose, is, begins, sees, expect, same, many}
use Rattle.sq_grammar.specs.Names.{name}
use Rattle.sq_grammar.specs.Queries.{bare_name, begins_label, next_name, names, in_brackets, bracketed_names, named, alias, some_alias, optional_alias, as_label, bare_label, label}
use Rattle.sq_grammar.proofs.Runs.{Run}
use Rattle.sq_grammar.proofs.Complete.{step, says_expect, says_begins, Item}
use Rattle.sq_grammar.proofs.Chains.{Gives, many_reads}
use Rattle.sq_grammar.proofs.Joints.{false_true, same_is}
use Rattle.sq_grammar.proofs.ReadNames.{Lacks, chosen, passed, name_read}
use Rattle.sq_grammar.proofs.ReadTypes.{other_symbol, that_symbol, back}
use Rattle.sq_grammar.proofs.QueryWords.{bare_name_read}

-- ---- what is told of a class of readings

-- a reading of a class is no symbol outside of it
pub apart : (class : Reading → Bool) (k : Symbol) (r : Reading) → class r ≡ true → class (reading.Symbol k) ≡ false → is k r ≡ false
apart class k (reading.Symbol x) h e = by_same (same x k) refl
  where
    by_same : (b : Bool) → same x k ≡ b → b ≡ false
    by_same false d = refl
    by_same true d = absurd (false_true (sym e ∙ ap (λ y. class (reading.Symbol y)) (sym (same_is x k d)) ∙ h))
apart class k _ h e = refl

pub unseen_word : (class : Reading → Bool) (k : Symbol) (r : Reading) (now next : Stream) → Says r now next → class r ≡ true → class (reading.Symbol k) ≡ false → sees k now ≡ false
unseen_word class k r now next h c e = says_begins k r now next h ∙ apart class k r c e

pub label_seen : (r : Reading) (now next : Stream) → Says r now next → begins_label now.tokens ≡ is_bare_label r
label_seen r now next h = ap (λ tokens. begins_label tokens) h.first

pub neither : (a b : Bool) → a ≡ false → b ≡ false → a || b ≡ false
neither false b h e = e
neither true b h e = h

pub neither_of : (a b : Bool) → a || b ≡ false → (a ≡ false) × (b ≡ false)
neither_of false b h = (refl, h)
neither_of true b h = absurd (cc)

pub second_of : (a b : Bool) → b ≡ true → a || b ≡ true
second_of false b h = h
second_of true b h = refl

pub first_of : (a b : Bool) → a ≡ true → a || b ≡ true
first_of true b h = refl
first_of false b h = absurd (cc)

-- ---- lists of names

abbrev pub comma_name : Identifier → List Piece
comma_name x = word s.Comma ∷ p.name x

pub names_pieces : (x : Identifier) (xs : List Identifier) → p.names (x ∷ xs) ≡ p.name x ++ flat_map comma_name xs
names_pieces x xs = ap (λ ps. p.name x ++ ps) (flat_map-map (λ (item : List Piece). word s.Comma ∷ item) p.name xs)

name_item : (d : ℕ) → Item d (sees s.Comma) next_name comma_name (λ now. false)
name_item d = record {
  begun = λ x rest now next run stop. that_symbol s.Comma now run.0 run.1;
  stops = λ x rest now next run. refl;
  some = λ x. omega arith;
  reads = λ x rest now next run stop.
      let n = name_read d x rest run.0 next run.3 in
      (n.0, step (expect s.Comma) (λ _. name) now run.0 tt (says_expect s.Comma now run.0 run.1) ∙ n.1, n.2);
}

pub names_read : (d : ℕ) (x : Identifier) (xs : List Identifier) (rest : List Piece) (now next : Stream) → Run (p.names (x ∷ xs) ++ rest) d now next → Lacks s.Comma rest d next → Gives (names now) (x ∷ xs) rest d next
unfolding names
names_read d x xs rest now next run ends =
    let r = subst (λ ps. Run (ps ++ rest) d now next) (names_pieces x xs) run in
    let first = name_read d x (flat_map comma_name xs ++ rest) now next r in
    let others = many_reads d (sees s.Comma) next_name comma_name (λ now. false) (name_item d) xs rest first.0 next first.2 (λ u w. (ends u w, refl)) in (
      others.0,
      step name (λ y. many (sees s.Comma) next_name >>= (λ ys. pure (y ∷ ys))) now first.0 x first.1
          ∙ step (many (sees s.Comma) next_name) (λ ys. pure (x ∷ ys)) first.0 others.0 xs others.1,
      others.2,
    )

pub in_brackets_read : (d : ℕ) (x : Identifier) (xs : List Identifier) (rest : List Piece) (now next : Stream) → Run (word s.Open ∷ p.names (x ∷ xs) ++ word s.Close ∷ rest) d now next → Gives (in_brackets now) (x ∷ xs) rest d next
unfolding same
in_brackets_read d x xs rest now next run =
    let n = names_read (d - 1) x xs (word s.Close ∷ rest) run.0 next run.3 (λ u r. other_symbol s.Comma s.Close u r.0 r.1 refl) in
    let c = n.2 in (
      c.0,
      step (expect s.Open) (λ _. names >>= (λ ys. expect s.Close >> pure ys)) now run.0 tt (says_expect s.Open now run.0 run.1)
          ∙ step names (λ ys. expect s.Close >> pure ys) run.0 n.0 (x ∷ xs) n.1
          ∙ step (expect s.Close) (λ _. pure (x ∷ xs)) n.0 c.0 tt (says_expect s.Close n.0 c.0 c.1),
      subst (λ k. Run rest k c.0 next) (back d run.2) c.3,
    )

pub bracketed_names_read : (d : ℕ) (xs : List Identifier) (rest : List Piece) (now next : Stream) → Run (p.bracketed_names xs ++ rest) d now next → Lacks s.Open rest d next → Gives (bracketed_names now) xs rest d next
unfolding bracketed_names
bracketed_names_read d [] rest now next run ends = (now, passed (sees s.Open) in_brackets (pure []) now (ends now run), run)
bracketed_names_read d (x ∷ xs) rest now next run ends =
    let r = subst (λ ps. Run ps d now next) (append_assoc (word s.Open ∷ p.names (x ∷ xs)) (word s.Close ∷ []) rest) run in
    let b = in_brackets_read d x xs rest now next r in
    (b.0, chosen (sees s.Open) in_brackets (pure []) now (that_symbol s.Open now run.0 run.1) ∙ b.1, b.2)

-- ---- names of sources

abbrev alias_of : Bool → Identifier → List Identifier → Alias
alias_of has_as x columns = record { has_as = has_as; name = x; columns = columns }

named_read : (d : ℕ) (has_as : Bool) (called : Parser Identifier) (x : Identifier) (columns : List Identifier) (rest : List Piece) (now u next : Stream) → called now ≡ Some (x, u)
    → Run (p.bracketed_names columns ++ rest) d u next → Lacks s.Open rest d next → Gives (named has_as called now) (alias_of has_as x columns) rest d next
named_read d has_as called x columns rest now u next h run ends =
    let b = bracketed_names_read d columns rest u next run ends in (
      b.0,
      step called (λ y. bracketed_names >>= (λ ys. pure (alias_of has_as y ys))) now u x h ∙ step bracketed_names (λ ys. pure (alias_of has_as x ys)) u b.0 columns b.1,
      b.2,
    )

alias_of_read : (d : ℕ) (has_as : Bool) (x : Identifier) (columns : List Identifier) (rest : List Piece) (now next : Stream) → Run (f.alias (alias_of has_as x columns) ++ rest) d now next → Lacks s.Open rest d next → Gives (alias now) (alias_of has_as x columns) rest d next
unfolding alias
alias_of_read d true x columns rest now next run ends =
    let n = name_read d x (p.bracketed_names columns ++ rest) run.0 next run.3 in
    let b = named_read d true name x columns rest run.0 n.0 next n.1 n.2 ends in (
      b.0,
      chosen (sees s.As) (expect s.As >> named true name) (named false bare_name) now (that_symbol s.As now run.0 run.1)
          ∙ step (expect s.As) (λ _. named true name) now run.0 tt (says_expect s.As now run.0 run.1)
          ∙ b.1,
      b.2,
    )
alias_of_read d false x columns rest now next run ends =
    let n = bare_name_read d x (p.bracketed_names columns ++ rest) now next run in
    let b = named_read d false bare_name x columns rest now n.0 next n.1 n.2 ends in (
      b.0,
      passed (sees s.As) (expect s.As >> named true name) (named false bare_name) now (unseen_word is_bare_label s.As (identifier_reading x) now run.1.1.0 run.1.1.1 run.0 refl) ∙ b.1,
      b.2,
    )

pub alias_read : (d : ℕ) (x : Alias) (rest : List Piece) (now next : Stream) → Run (f.alias x ++ rest) d now next → Lacks s.Open rest d next → Gives (alias now) x rest d next
alias_read d x rest now next run ends = alias_of_read d x.has_as x.name x.columns rest now next run ends

-- an alias begins with AS or with a name
alias_of_begins : (d : ℕ) (has_as : Bool) (x : Identifier) (columns : List Identifier) (rest : List Piece) (now next : Stream) → Run (f.alias (alias_of has_as x columns) ++ rest) d now next → sees s.As now || begins_label now.tokens ≡ true
alias_of_begins d true x columns rest now next run = first_of _ _ (that_symbol s.As now run.0 run.1)
alias_of_begins d false x columns rest now next run = second_of _ _ (label_seen (identifier_reading x) now run.1.1.0 run.1.1.1 ∙ run.0)

-- what stands behind does not go on with a name
abbrev pub EndsLabel : List Piece → ℕ → Stream → Type 0
EndsLabel rest d next = (u : Stream) → Run rest d u next → (sees s.As u ≡ false) × (begins_label u.tokens ≡ false)

pub optional_alias_read : (d : ℕ) (x : Option Alias) (rest : List Piece) (now next : Stream) → Run (f.optional_alias x ++ rest) d now next → EndsLabel rest d next → Lacks s.Open rest d next → Gives (optional_alias now) x rest d next
unfolding optional_alias
optional_alias_read d None rest now next run ends brackets = (
  now,
  passed (λ u. begins s.As u.tokens || begins_label u.tokens) some_alias (pure None) now (neither _ _ (ends now run).0 (ends now run).1),
  run,
)
optional_alias_read d (Some x) rest now next run ends brackets =
    let a = alias_read d x rest now next run brackets in (
      a.0,
      chosen (λ u. begins s.As u.tokens || begins_label u.tokens) some_alias (pure None) now (alias_of_begins d x.has_as x.name x.columns rest now next run)
          ∙ step alias (λ y. pure (Some y)) now a.0 x a.1,
      a.2,
    )

-- ---- names of outputs

pub label_read : (d : ℕ) (x : Label) (rest : List Piece) (now next : Stream) → Run (f.output_label x ++ rest) d now next → EndsLabel rest d next → Gives (label now) x rest d next
unfolding label
label_read d label_kind.Unsaid rest now next run ends = (
  now,
  passed (sees s.As) as_label (choose (λ u. begins_label u.tokens) bare_label (pure label_kind.Unsaid)) now (ends now run).0
      ∙ passed (λ u. begins_label u.tokens) bare_label (pure label_kind.Unsaid) now (ends now run).1,
  run,
)
label_read d (label_kind.As x) rest now next run ends =
    let n = name_read d x rest run.0 next run.3 in (
      n.0,
      chosen (sees s.As) as_label (choose (λ u. begins_label u.tokens) bare_label (pure label_kind.Unsaid)) now (that_symbol s.As now run.0 run.1)
          ∙ step (expect s.As) (λ _. name >>= (λ y. pure (label_kind.As y))) now run.0 tt (says_expect s.As now run.0 run.1)
          ∙ step name (λ y. pure (label_kind.As y)) run.0 n.0 x n.1,
      n.2,
    )
label_read d (label_kind.Bare x) rest now next run ends =
    let r = identifier_reading x in
    let n = bare_name_read d x rest now next run in (
      n.0,
      passed (sees s.As) as_label (choose (λ u. begins_label u.tokens) bare_label (pure label_kind.Unsaid)) now (unseen_word is_bare_label s.As r now run.1.1.0 run.1.1.1 run.0 refl)
          ∙ chosen (λ u. begins_label u.tokens) bare_label (pure label_kind.Unsaid) now (label_seen r now run.1.1.0 run.1.1.1 ∙ run.0)
          ∙ step bare_name (λ y. pure (label_kind.Bare y)) now n.0 x n.1,
      n.2,
    )
