-- The conditions of joins are read as they are spelled.
use Rattle.std.proofs.Common.{◌≡◌, ℕ, ◌-◌, false, List, [], ◌∷◌, ◌++◌, refl, subst, ◌∙◌, append_assoc}
use Rattle.sq_syntax.specs.declared.symbol.Symbol.TheVariants as s
use Rattle.sq_syntax.specs.declared.name.Identifier.{Identifier}
use Rattle.sq_syntax.specs.declared.query.Matched.{Matched}
use Rattle.sq_syntax.specs.declared.query.Matched.TheVariants as matched
use Rattle.sq_syntax.specs.declared.query.Query.{Query}
use Rattle.sq_syntax.specs.Facts.{Stream, Piece}
use Rattle.sq_syntax.specs.Pieces as p
use Rattle.sq_syntax.specs.Pieces.{sym as word}
use Rattle.sq_syntax.specs.QueryPieces as f
use Rattle.sq_grammar.specs.Reading.{Parser, ◌>>=◌, ◌>>◌, pure, sees, expect, same}
use Rattle.sq_grammar.specs.Levels.{Expr}
use Rattle.sq_grammar.specs.Queries.{in_brackets, condition}
use Rattle.sq_grammar.proofs.Runs.{Run}
use Rattle.sq_grammar.proofs.Complete.{step, says_expect, goes_on}
use Rattle.sq_grammar.proofs.Chains.{Gives}
use Rattle.sq_grammar.proofs.Joints.{false_true}
use Rattle.sq_grammar.proofs.Lists.{facts_of, ReadsTo}
use Rattle.sq_grammar.proofs.ReadNames.{chosen, passed}
use Rattle.sq_grammar.proofs.ReadTypes.{other_symbol, that_symbol}
use Rattle.sq_grammar.proofs.Aliases.{in_brackets_read}

module _ (expr : Parser Expr) (inner : Parser Query) (k : ℕ) (read : ReadsTo k expr) where
  abbrev by_on : Parser (Matched Expr)
  by_on = expect s.On >> (expr >>= (λ x. pure (matched.On x)))

  abbrev by_using : Parser (Matched Expr)
  by_using = expect s.Using >> (in_brackets >>= (λ xs. pure (matched.Using xs)))

  pub on_read : (x : Expr) (rest : List Piece) (now next : Stream) → Run (f.join_condition (matched.On (facts_of x)) ++ rest) k now next → ((u : Stream) → Run rest k u next → goes_on 0 u ≡ false) → Gives (condition expr inner now) (matched.On x) rest k next
  unfolding condition
  on_read x rest now next run stop =
      let u = run.0 in
      let r = run.3 in (
        r.0,
        chosen (sees s.On) by_on by_using now (that_symbol s.On now u run.1)
            ∙ step (expect s.On) (λ _. expr >>= (λ y. pure (matched.On y))) now u tt (says_expect s.On now u run.1)
            ∙ step expr (λ y. pure (matched.On y)) u r.0 x (read x u r.0 r.1 r.2 r.3 (stop r.0 r.4)),
        r.4,
      )

  pub using_read : (xs : List Identifier) (rest : List Piece) (now next : Stream) → Run (f.join_condition (matched.Using xs) ++ rest) k now next → Gives (condition expr inner now) (matched.Using xs) rest k next
  unfolding condition same
  using_read [] rest now next run = absurd (false_true run.3.3.0)
  using_read (x ∷ xs) rest now next run =
      let u = run.0 in
      let r = run.3 in
      let parts = subst (λ ps. Run ps (k - 1) r.0 next) (append_assoc (p.names (x ∷ xs)) (word s.Close ∷ []) rest) r.3.1 in
      let b = in_brackets_read k x xs rest u next (r.0, r.1, r.2, parts) in (
        b.0,
        passed (sees s.On) by_on by_using now (other_symbol s.On s.Using now u run.1 refl)
            ∙ step (expect s.Using) (λ _. in_brackets >>= (λ ys. pure (matched.Using ys))) now u tt (says_expect s.Using now u run.1)
            ∙ step in_brackets (λ ys. pure (matched.Using ys)) u b.0 (x ∷ xs) b.1,
        b.2,
      )
