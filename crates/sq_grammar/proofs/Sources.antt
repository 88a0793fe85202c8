-- Sources are read as they are spelled, over a parser of the items of FROM in brackets.
use Rattle.std.proofs.Common.{◌≡◌, ℕ, suc, ◌-◌, ◌≤◌, Bool, true, false, List, [], ◌∷◌, ◌++◌, length, Option, Some, None, refl, sym, ap, subst, ◌∙◌, arith}
use Rattle.std.proofs.lemmas.List.{append-nil}
use Rattle.sq_base.specs.declared.place.Place.{Place}
use Rattle.sq_syntax.specs.declared.symbol.Symbol.TheVariants as s
use Rattle.sq_syntax.specs.declared.symbol.Reading.TheVariants as reading
use Rattle.sq_syntax.specs.declared.name.Identifier.{Identifier}
use Rattle.sq_syntax.specs.declared.name.QualifiedName.{QualifiedName}
use Rattle.sq_syntax.specs.declared.expr.Node.{Node}
use Rattle.sq_syntax.specs.declared.query.Alias.{Alias}
use Rattle.sq_syntax.specs.declared.query.From.{From}
use Rattle.sq_syntax.specs.declared.query.Query.{Query}
use Rattle.sq_syntax.specs.declared.query.Source.{Source}
use Rattle.sq_syntax.specs.declared.query.Source.TheVariants as source_kind
use Rattle.sq_syntax.specs.Facts.{Stream, Says, Along, Facts, Piece, from, all_hold}
use Rattle.sq_syntax.specs.Symbols.{identifier_reading, is_bare_label}
use Rattle.sq_syntax.specs.Pieces as p
use Rattle.sq_syntax.specs.Pieces.{sym as word}
use Rattle.sq_syntax.specs.QueryPieces as f
use Rattle.sq_syntax.specs.Grammar.{from_facts, source_facts, query_facts}
use Rattle.sq_grammar.specs.Reading.{Parser, ◌>>=◌, ◌>>◌, pure, choose, sees, expect, same, here}
use Rattle.sq_grammar.specs.Ahead.{holds_query}
use Rattle.sq_grammar.specs.Names.{qualified_name}
use Rattle.sq_grammar.specs.Levels.{Expr}
use Rattle.sq_grammar.specs.Queries.{alias, optional_alias, derived, table, source}
use Rattle.sq_grammar.proofs.Runs.{Run}
use Rattle.sq_grammar.proofs.Complete.{step, says_expect, says_begins, only_if-from, stands_here}
use Rattle.sq_grammar.proofs.ReadsBelow.{is_over, ReadsBelow}
use Rattle.sq_grammar.proofs.ReadNames.{Lacks, chosen, passed, qualified_read}
use Rattle.sq_grammar.proofs.ReadTypes.{other_symbol, that_symbol, back}
use Rattle.sq_grammar.proofs.Aliases.{unseen_word, alias_read, optional_alias_read}
use Rattle.sq_grammar.proofs.Ranks.{rank, Behind, lacks_before, label_behind, behind_word}
use Rattle.sq_grammar.proofs.Fronts.{First, apart_open, schema_first}
use Rattle.sq_grammar.proofs.FromFronts.{Begun, wholly, from_lacks}
use Rattle.sq_grammar.proofs.FromShapes.{SourceShape, source_shape, source_node, table_facts, derived_facts, grouped_facts}
use Rattle.sq_grammar.proofs.HoldsQuery.{query_held}
use Rattle.sq_grammar.proofs.JoinWords.{says_fewer}
use Rattle.sq_grammar.proofs.Walks.{pieces_split, holds_split}

-- a parser gives back each item of FROM of this depth, where no more tokens are left than this
abbrev pub ReadsFrom : ℕ → ℕ → Parser From → Type 0
ReadsFrom k n p = (x : From) (now next : Stream) → from 0 (from_facts x).level ≡ true → (from_facts x).depth ≤ k → Along (from_facts x).marks now next → 3 ≤ rank next.tokens → length now.tokens ≤ n → p now ≡ Some (x, next)

-- the pieces of a production, by the facts of its tree
pub run_by : (x : Facts) (pieces : List Piece) → x ≡ f.whole_facts pieces → (d : ℕ) (now next : Stream) → from 0 x.level ≡ true → x.depth ≤ d → Along x.marks now next → Run pieces d now next
run_by x pieces e d now next h le a =
    wholly pieces d now next (subst (λ (y : Facts). from 0 y.level ≡ true) e h) (subst (λ (y : Facts). y.depth ≤ d) e le) (subst (λ (y : Facts). Along y.marks now next) e a)

-- nothing is left to be read
pub behind_end : (n d : ℕ) (next : Stream) → n ≤ rank next.tokens → Behind n [] d next
behind_end n d next h u run = subst (λ (v : Stream). n ≤ rank v.tokens) (sym run) h

pub run_end : (pieces : List Piece) (d : ℕ) (now next : Stream) → Run pieces d now next → Run (pieces ++ []) d now next
run_end pieces d now next run = subst (λ ps. Run ps d now next) (sym (append-nil pieces)) run

alias_undotted : (has_as : Bool) (x : Identifier) (columns : List Identifier) (d : ℕ) (now next : Stream) → Run (f.alias (record { has_as = has_as; name = x; columns = columns })) d now next → sees s.Dot now ≡ false
unfolding same
alias_undotted true x columns d now next run = other_symbol s.Dot s.As now run.0 run.1 refl
alias_undotted false x columns d now next run = unseen_word is_bare_label s.Dot (identifier_reading x) now run.1.1.0 run.1.1.1 run.0 refl

undotted : (x : Option Alias) (d : ℕ) (next : Stream) → 1 ≤ rank next.tokens → Lacks s.Dot (f.optional_alias x) d next
undotted None d next h u run = lacks_before s.Dot 1 [] d next (behind_end 1 d next h) (omega arith) u run
undotted (Some x) d next h u run = alias_undotted x.has_as x.name x.columns d u next run

over_close : (v w : Stream) → Says (reading.Symbol s.Close) v w → is_over v.tokens ≡ true
unfolding same
over_close v w h = ap is_over h.first

module _ (expr : Parser Expr) (inner : Parser Query) (k : ℕ) (queries : ReadsBelow k inner) (n : ℕ) (within : Parser From) (reads : ReadsFrom k n within) where
  abbrev grouped : Parser Source
  grouped = expect s.Open >>= (λ _. within >>= (λ x. expect s.Close >> pure (source_kind.Grouped x)))

  abbrev bracketed : Parser Source
  bracketed = choose (λ now. holds_query now.tokens) (derived expr inner) grouped

  abbrev form : Parser Source
  form = choose (sees s.Open) bracketed (table expr inner)

  table_read : (x : QualifiedName) (called : Option Alias) (now next : Stream) → First now → Run (p.qualified_name x ++ f.optional_alias called) k now next → 1 ≤ rank next.tokens → form now ≡ Some (source_kind.Table x called, next)
  unfolding table
  table_read x called now next first run stop =
      let ends = behind_end 1 k next stop in
      let q = qualified_read k x (f.optional_alias called) now next run (undotted called k next stop) in
      let a = optional_alias_read k called [] q.0 next (run_end (f.optional_alias called) k q.0 next q.2) (label_behind 1 [] k next ends (omega arith)) (lacks_before s.Open 1 [] k next ends (omega arith)) in
      passed (sees s.Open) bracketed (table expr inner) now (says_begins s.Open first.0 now first.1 first.2 ∙ apart_open first.0 first.3)
      ∙ step qualified_name (λ y. optional_alias >>= (λ z. pure (source_kind.Table y z))) now q.0 x q.1
      ∙ step optional_alias (λ z. pure (source_kind.Table x z)) q.0 a.0 called a.1
      ∙ ap (λ u. Some (source_kind.Table x called, u)) a.2

  derived_read : (x : Query) (called : Alias) (now next : Stream) → Run (word s.Open ∷ p.whole (query_facts x) ∷ word s.Close ∷ f.alias called) k now next → 1 ≤ rank next.tokens → form now ≡ Some (source_kind.Derived x called, next)
  unfolding derived
  derived_read x called now next run stop =
      let u = run.0 in
      let r = run.3 in
      let v = r.0 in
      let c = r.4 in
      let w = c.0 in
      let named = subst (λ d. Run (f.alias called) d w next) (back k run.2) c.3 in
      let a = alias_read k called [] w next (run_end (f.alias called) k w next named) (lacks_before s.Open 1 [] k next (behind_end 1 k next stop) (omega arith)) in
      chosen (sees s.Open) bracketed (table expr inner) now (that_symbol s.Open now u run.1)
      ∙ chosen (λ at. holds_query at.tokens) (derived expr inner) grouped now (query_held x now u v w run.1 r.1 r.3 c.1)
      ∙ step (expect s.Open) (λ _. inner >>= (λ y. expect s.Close >>= (λ _. alias >>= (λ z. pure (source_kind.Derived y z))))) now u tt (says_expect s.Open now u run.1)
      ∙ step inner (λ y. expect s.Close >>= (λ _. alias >>= (λ z. pure (source_kind.Derived y z)))) u v x (queries x u v r.1 (omega (arith, r.2, run.2)) r.3 (over_close v w c.1))
      ∙ step (expect s.Close) (λ _. alias >>= (λ z. pure (source_kind.Derived x z))) v w tt (says_expect s.Close v w c.1)
      ∙ step alias (λ z. pure (source_kind.Derived x z)) w a.0 called a.1
      ∙ ap (λ at. Some (source_kind.Derived x called, at)) a.2

  grouped_read : (x : From) (now next : Stream) → length now.tokens ≤ suc n → Run (word s.Open ∷ p.whole (from_facts x) ∷ word s.Close ∷ []) k now next → form now ≡ Some (source_kind.Grouped x, next)
  grouped_read x now next long run =
      let u = run.0 in
      let r = run.3 in
      let v = r.0 in
      let c = r.4 in
      let w = c.0 in
      let is_read = reads x u v r.1 (omega (arith, r.2)) r.3 (behind_word s.Close 3 v w c.1 (omega arith)) (omega (arith, long, says_fewer (reading.Symbol s.Open) now u run.1)) in
      chosen (sees s.Open) bracketed (table expr inner) now (that_symbol s.Open now u run.1)
      ∙ passed (λ at. holds_query at.tokens) (derived expr inner) grouped now (from_lacks x now u v run.1 r.1 r.3)
      ∙ step (expect s.Open) (λ _. within >>= (λ y. expect s.Close >> pure (source_kind.Grouped y))) now u tt (says_expect s.Open now u run.1)
      ∙ step within (λ y. expect s.Close >> pure (source_kind.Grouped y)) u v x is_read
      ∙ step (expect s.Close) (λ _. pure (source_kind.Grouped x)) v w tt (says_expect s.Close v w c.1)
      ∙ ap (λ at. Some (source_kind.Grouped x, at)) c.3

  form_read : (x : Source) → SourceShape x → (now next : Stream) → from 0 (source_facts x).level ≡ true → (source_facts x).depth ≤ k → Along (source_facts x).marks now next → 1 ≤ rank next.tokens → length now.tokens ≤ suc n → form now ≡ Some (x, next)
  form_read _ (SourceShape.table x called) now next h le a stop long =
      let pieces = p.qualified_name x ++ f.optional_alias called in
      let e = table_facts x called in
      let t = pieces_split (p.qualified_name x) (f.optional_alias called) now next (subst (λ (y : Facts). Along y.marks now next) e a) in
      let holds = holds_split (p.qualified_name x) (f.optional_alias called) (only_if-from (all_hold pieces) 0 0 (subst (λ (y : Facts). from 0 y.level ≡ true) e h)) in
      table_read x called now next (schema_first x.schema x.name now t.0 holds.0 t.1) (run_by _ pieces e k now next h le a) stop
  form_read _ (SourceShape.derived x called) now next h le a stop long = derived_read x called now next (run_by _ (word s.Open ∷ p.whole (query_facts x) ∷ word s.Close ∷ f.alias called) (derived_facts x called) k now next h le a) stop
  form_read _ (SourceShape.grouped x) now next h le a stop long = grouped_read x now next long (run_by _ (word s.Open ∷ p.whole (from_facts x) ∷ word s.Close ∷ []) (grouped_facts x) k now next h le a)

  abbrev source_of : Place → ℕ → ℕ → Source → Node Source
  source_of place first last x = record { place = place; first = first; last = last; form = x }

  pub source_read : (x : Node Source) (now next : Stream) → Begun (source_node x) k now next → 1 ≤ rank next.tokens → length now.tokens ≤ suc n → source expr inner within now ≡ Some (x, next)
  unfolding source
  source_read x now next b stop long =
      let last : next.at - 1 ≡ x.last = omega (arith, b.last) in
      step form (λ y at. Some (source_of (here now) now.at (at.at - 1) y, at)) now next x.form (form_read x.form (source_shape x.form) now next b.level b.depth b.along stop long)
      ∙ ap (λ m. Some (source_of (here now) now.at m x.form, next)) last
      ∙ ap (λ m. Some (source_of (here now) m x.last x.form, next)) (sym b.first)
      ∙ ap (λ place. Some (source_of place x.first x.last x.form, next)) (stands_here x.place now.tokens b.place)
