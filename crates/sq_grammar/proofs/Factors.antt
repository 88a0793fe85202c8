-- An operand of set operations is read as it is spelled.
use Rattle.std.proofs.Common.{◌≡◌, ℕ, ◌≤◌, Bool, true, false, List, [], ◌∷◌, Some, refl, sym, ap, subst, ◌∙◌}
use Rattle.std.specs.Prelude.{◌||◌}
use Rattle.sq_syntax.specs.declared.symbol.Symbol.{Symbol}
use Rattle.sq_syntax.specs.declared.symbol.Symbol.TheVariants as s
use Rattle.sq_syntax.specs.declared.symbol.Reading.{Reading}
use Rattle.sq_syntax.specs.declared.symbol.Reading.TheVariants as reading
use Rattle.sq_syntax.specs.declared.expr.Expression.TheOpen.{Factor-F}
use Rattle.sq_syntax.specs.declared.expr.Expression.TheViews.{roll-out-Factor, rolls-Core, rolls-Nested}
use Rattle.sq_syntax.specs.declared.query.Query.{Query}
use Rattle.sq_syntax.specs.declared.query.Factor.{Factor, out-Factor, roll-Factor}
use Rattle.sq_syntax.specs.declared.query.Factor.TheVariants as factor_kind
use Rattle.sq_syntax.specs.Facts.{Stream, Along, Facts, Piece, from}
use Rattle.sq_syntax.specs.Pieces as p
use Rattle.sq_syntax.specs.Pieces.{sym as word}
use Rattle.sq_syntax.specs.QueryPieces as f
use Rattle.sq_syntax.specs.Grammar.{factor_facts, query_facts, select_facts}
use Rattle.sq_grammar.specs.Reading.{Parser, ◌>>=◌, ◌>>◌, pure, is, begins, sees, expect, same}
use Rattle.sq_grammar.specs.Ahead.{Lexemes}
use Rattle.sq_grammar.specs.Levels.{Expr}
use Rattle.sq_grammar.specs.Queries.{select, factor}
use Rattle.sq_grammar.proofs.Runs.{Run}
use Rattle.sq_grammar.proofs.Complete.{step}
use Rattle.sq_grammar.proofs.Chains.{Gives}
use Rattle.sq_grammar.proofs.Begins.{Starts, starts_negated, head_fits}
use Rattle.sq_grammar.proofs.Stars.{Unstarred}
use Rattle.sq_grammar.proofs.Lists.{ReadsTo}
use Rattle.sq_grammar.proofs.Layers.{FactorLayer, factor_parts, factor_out}
use Rattle.sq_grammar.proofs.ReadsBelow.{ReadsBelow}
use Rattle.sq_grammar.proofs.Ranks.{Behind, rank}
use Rattle.sq_grammar.proofs.ReadNames.{chosen, passed}
use Rattle.sq_grammar.proofs.ReadTypes.{that_symbol}
use Rattle.sq_grammar.proofs.Aliases.{apart, first_of, second_of}
use Rattle.sq_grammar.proofs.FromFronts.{wholly}
use Rattle.sq_grammar.proofs.Withs.{bracketed_query}
use Rattle.sq_grammar.proofs.Selects.{select_read, select_begins}

-- what an operand begins with
abbrev pub starts_factor : Reading → Bool
starts_factor r = is s.Open r || is s.Select r

bracket_first : (tokens : Lexemes) → begins s.Open tokens ≡ true → head_fits starts_factor tokens ≡ true
bracket_first [] h = absurd (cc)
bracket_first (x ∷ rest) h = first_of (is s.Open x.reading) _ h

select_first : (tokens : Lexemes) → begins s.Select tokens ≡ true → head_fits starts_factor tokens ≡ true
select_first [] h = absurd (cc)
select_first (x ∷ rest) h = second_of (is s.Open x.reading) _ h

-- what begins so does not begin with another symbol
pub no_factor : (k : Symbol) (tokens : Lexemes) → starts_factor (reading.Symbol k) ≡ false → head_fits starts_factor tokens ≡ true → begins k tokens ≡ false
no_factor k [] outside h = refl
no_factor k (x ∷ rest) outside h = apart starts_factor k x.reading h outside

module _ (expr : Parser Expr) (inner : Parser Query) (k : ℕ) (read : ReadsTo k expr) (starts : Starts starts_negated expr) (unstarred : Unstarred expr) (queries : ReadsBelow k inner) where
  abbrev core : Parser Factor
  core = select expr inner >>= (λ y. pure (factor_kind.Core y))

  abbrev bracketed : Parser Factor
  bracketed = expect s.Open >>= (λ _. inner >>= (λ y. expect s.Close >> pure (factor_kind.Nested y)))

  abbrev pieces_of : FactorLayer → List Piece
  pieces_of (Factor-F.Core x) = p.whole (select_facts x) ∷ []
  pieces_of (Factor-F.Nested x) = word s.Open ∷ p.whole (query_facts x) ∷ word s.Close ∷ []

  facts_are : (l : FactorLayer) → f.factor_layer (factor_parts l) ≡ f.whole_facts (pieces_of l)
  facts_are (Factor-F.Core x) = refl
  facts_are (Factor-F.Nested x) = refl

  no_bracket : (tokens : Lexemes) → begins s.Select tokens ≡ true → begins s.Open tokens ≡ false
  unfolding same
  no_bracket [] h = refl
  no_bracket (x ∷ rest) h = apart (λ r. is s.Select r) s.Open x.reading h refl

  layer_read : (l : FactorLayer) (now next : Stream) → Run (pieces_of l) k now next → 8 ≤ rank next.tokens → factor expr inner now ≡ Some (roll-Factor l, next)
  unfolding factor
  layer_read (Factor-F.Core x) now next run behind =
      let a = subst (λ u. Along (select_facts x).marks now u) run.4 run.3 in
      passed (sees s.Open) bracketed core now (no_bracket now.tokens (select_begins expr inner k read starts unstarred queries x now next run.1 run.2 a))
      ∙ step (select expr inner) (λ y. pure (factor_kind.Core y)) now next x (select_read expr inner k read starts unstarred queries x now next run.1 run.2 a behind)
      ∙ ap (λ y. Some (y, next)) (sym (rolls-Core x))
  layer_read (Factor-F.Nested x) now next run behind =
      let g = bracketed_query factor_kind.Nested inner k queries x [] now next run in
      chosen (sees s.Open) bracketed core now (that_symbol s.Open now run.0 run.1)
      ∙ g.1
      ∙ ap (λ u. Some (factor_kind.Nested x, u)) g.2
      ∙ ap (λ y. Some (y, next)) (sym (rolls-Nested x))

  layer_begins : (l : FactorLayer) (now next : Stream) → Run (pieces_of l) k now next → head_fits starts_factor now.tokens ≡ true
  layer_begins (Factor-F.Core x) now next run =
      select_first now.tokens (select_begins expr inner k read starts unstarred queries x now next run.1 run.2 (subst (λ u. Along (select_facts x).marks now u) run.4 run.3))
  layer_begins (Factor-F.Nested x) now next run = bracket_first now.tokens (that_symbol s.Open now run.0 run.1)

  factor_run : (x : Factor) (now next : Stream) → from 0 (factor_facts x).level ≡ true → (factor_facts x).depth ≤ k → Along (factor_facts x).marks now next → Run (pieces_of (out-Factor x)) k now next
  factor_run x now next ok le a =
      let e = factor_out x ∙ facts_are (out-Factor x) in
      wholly (pieces_of (out-Factor x)) k now next
      (subst (λ (z : Facts). from 0 z.level ≡ true) e ok)
      (subst (λ (z : Facts). z.depth ≤ k) e le)
      (subst (λ (z : Facts). Along z.marks now next) e a)

  pub factor_read : (x : Factor) (rest : List Piece) (now next : Stream) → Run (p.whole (factor_facts x) ∷ rest) k now next → Behind 8 rest k next → Gives (factor expr inner now) x rest k next
  factor_read x rest now next run behind =
      let u = run.0 in
      let r = factor_run x now u run.1 run.2 run.3 in
      (u, layer_read (out-Factor x) now u r (behind u run.4) ∙ ap (λ y. Some (y, u)) (roll-out-Factor x), run.4)

  pub factor_begins : (x : Factor) (rest : List Piece) (now next : Stream) → Run (p.whole (factor_facts x) ∷ rest) k now next → head_fits starts_factor now.tokens ≡ true
  factor_begins x rest now next run = layer_begins (out-Factor x) now run.0 (factor_run x now run.0 run.1 run.2 run.3)
