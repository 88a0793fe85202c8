-- The body of a query is read as it is spelled: INTERSECT binds tighter than UNION and EXCEPT.
use Rattle.std.proofs.Common.{◌≡◌, ℕ, ◌≤◌, Bool, true, false, List, [], ◌∷◌, ◌++◌, Some, refl, arith}
use Rattle.std.specs.Prelude.{◌||◌}
use Rattle.sq_base.specs.declared.place.Place.{Place}
use Rattle.sq_syntax.specs.declared.symbol.Symbol.TheVariants as s
use Rattle.sq_syntax.specs.declared.symbol.Reading.TheVariants as reading
use Rattle.sq_syntax.specs.declared.query.Query.{Query}
use Rattle.sq_syntax.specs.declared.query.Factor.{Factor}
use Rattle.sq_syntax.specs.declared.query.Operands.{Operands}
use Rattle.sq_syntax.specs.declared.query.SetOperation.{SetOperation}
use Rattle.sq_syntax.specs.declared.query.SetOperation.TheVariants as set_operation
use Rattle.sq_syntax.specs.Facts.{Stream, Says, Facts, Piece}
use Rattle.sq_syntax.specs.Pieces as p
use Rattle.sq_syntax.specs.QueryPieces as f
use Rattle.sq_syntax.specs.QueryPieces.{set_symbol}
use Rattle.sq_syntax.specs.Grammar.{factor_facts}
use Rattle.sq_grammar.specs.Reading.{Parser, begins, sees}
use Rattle.sq_grammar.specs.Levels.{Expr}
use Rattle.sq_grammar.specs.Queries.{loose_operation, tight_operation, operands, factor, body}
use Rattle.sq_grammar.proofs.Runs.{Run}
use Rattle.sq_grammar.proofs.Chains.{Gives}
use Rattle.sq_grammar.proofs.Begins.{Starts, starts_negated, head_fits}
use Rattle.sq_grammar.proofs.Stars.{Unstarred}
use Rattle.sq_grammar.proofs.Lists.{ReadsTo}
use Rattle.sq_grammar.proofs.QueryFacts.{operands_facts, body_facts}
use Rattle.sq_grammar.proofs.ReadsBelow.{ReadsBelow}
use Rattle.sq_grammar.proofs.Ranks.{Behind, symbol_rank, unseen_before}
use Rattle.sq_grammar.proofs.ReadTypes.{that_symbol}
use Rattle.sq_grammar.proofs.Aliases.{first_of, second_of, neither}
use Rattle.sq_grammar.proofs.Factors.{starts_factor, factor_read, factor_begins}
use Rattle.sq_grammar.proofs.SetOperations.{fits, Operated, operands_read, operands_begin}

abbrev sees_loose : Stream → Bool
sees_loose now = begins s.Union now.tokens || begins s.Except now.tokens

abbrev factor_pieces : Facts → List Piece
factor_pieces x = p.whole x ∷ []

tight_is : (x : SetOperation) (place : Place) → fits true x ≡ true → tight_operation (reading.Symbol (set_symbol x)) place ≡ Some x
tight_is set_operation.Intersect place h = refl
tight_is set_operation.Union place h = absurd (cc)
tight_is set_operation.Except place h = absurd (cc)

tight_seen : (x : SetOperation) (now next : Stream) → fits true x ≡ true → Says (reading.Symbol (set_symbol x)) now next → sees s.Intersect now ≡ true
tight_seen set_operation.Intersect now next h says = that_symbol s.Intersect now next says
tight_seen set_operation.Union now next h says = absurd (cc)
tight_seen set_operation.Except now next h says = absurd (cc)

tight_ranked : (x : SetOperation) → fits true x ≡ true → 8 ≤ symbol_rank (set_symbol x)
tight_ranked set_operation.Intersect h = omega arith
tight_ranked set_operation.Union h = absurd (cc)
tight_ranked set_operation.Except h = absurd (cc)

loose_is : (x : SetOperation) (place : Place) → fits false x ≡ true → loose_operation (reading.Symbol (set_symbol x)) place ≡ Some x
loose_is set_operation.Union place h = refl
loose_is set_operation.Except place h = refl
loose_is set_operation.Intersect place h = absurd (cc)

loose_seen : (x : SetOperation) (now next : Stream) → fits false x ≡ true → Says (reading.Symbol (set_symbol x)) now next → sees_loose now ≡ true
loose_seen set_operation.Union now next h says = first_of (begins s.Union now.tokens) _ (that_symbol s.Union now next says)
loose_seen set_operation.Except now next h says = second_of (begins s.Union now.tokens) _ (that_symbol s.Except now next says)
loose_seen set_operation.Intersect now next h says = absurd (cc)

loose_ranked : (x : SetOperation) → fits false x ≡ true → 9 ≤ symbol_rank (set_symbol x)
loose_ranked set_operation.Union h = omega arith
loose_ranked set_operation.Except h = omega arith
loose_ranked set_operation.Intersect h = absurd (cc)

module _ (expr : Parser Expr) (inner : Parser Query) (k : ℕ) (read : ReadsTo k expr) (starts : Starts starts_negated expr) (unstarred : Unstarred expr) (queries : ReadsBelow k inner) where
  abbrev tight_operands : Parser (Operands Factor)
  tight_operands = operands (sees s.Intersect) tight_operation (factor expr inner)

  tight : Operated k 8 true factor_facts factor_pieces (factor expr inner) (sees s.Intersect) tight_operation
  tight = record {
    is = tight_is;
    seen = tight_seen;
    ranked = tight_ranked;
    unseen = λ u behind. unseen_before s.Intersect 9 u.tokens behind (omega arith);
    operand_read = factor_read expr inner k read starts unstarred queries;
    operand_begins = factor_begins expr inner k read starts unstarred queries;
  }

  loose : Operated k 9 false (operands_facts factor_facts) (f.operands true factor_pieces) tight_operands sees_loose loose_operation
  loose = record {
    is = loose_is;
    seen = loose_seen;
    ranked = loose_ranked;
    unseen = λ u behind. neither _ _ (unseen_before s.Union 10 u.tokens behind (omega arith)) (unseen_before s.Except 10 u.tokens behind (omega arith));
    operand_read = operands_read k 8 true factor_facts factor_pieces (factor expr inner) (sees s.Intersect) tight_operation tight;
    operand_begins = operands_begin k 8 true factor_facts factor_pieces (factor expr inner) (sees s.Intersect) tight_operation tight;
  }

  pub body_read : (x : Operands (Operands Factor)) (rest : List Piece) (now next : Stream) → Run (f.body (body_facts x) ++ rest) k now next → Behind 10 rest k next → Gives (body expr inner now) x rest k next
  unfolding body
  body_read x rest now next run behind = operands_read k 9 false (operands_facts factor_facts) (f.operands true factor_pieces) tight_operands sees_loose loose_operation loose x rest now next run behind

  pub body_begins : (x : Operands (Operands Factor)) (rest : List Piece) (now next : Stream) → Run (f.body (body_facts x) ++ rest) k now next → head_fits starts_factor now.tokens ≡ true
  body_begins x rest now next run = operands_begin k 9 false (operands_facts factor_facts) (f.operands true factor_pieces) tight_operands sees_loose loose_operation loose x rest now next run
