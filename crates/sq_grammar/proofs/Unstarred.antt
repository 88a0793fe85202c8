-- No expression that is read begins with a name, a dot and a star, where the dot does not go on with it.
use Rattle.std.proofs.Common.{◌≡◌, ℕ, suc, Bool, true, false, ◌∷◌, Some, refl, sym, ap, subst, ◌∙◌}
use Rattle.std.specs.Prelude.{if◌then◌else◌, ◌&&◌}
use Rattle.sq_base.specs.declared.place.Place.{Place}
use Rattle.sq_syntax.specs.declared.symbol.Symbol.{Symbol}
use Rattle.sq_syntax.specs.declared.symbol.Symbol.TheVariants as s
use Rattle.sq_syntax.specs.declared.symbol.Reading.{Reading}
use Rattle.sq_syntax.specs.declared.symbol.Reading.TheVariants as reading
use Rattle.sq_syntax.specs.declared.symbol.Lexeme.{Lexeme}
use Rattle.sq_syntax.specs.declared.expr.Expression.{Expression}
use Rattle.sq_syntax.specs.declared.expr.Expression.TheVariants as e
use Rattle.sq_syntax.specs.declared.expr.Constant.{Constant}
use Rattle.sq_syntax.specs.declared.expr.Constant.TheVariants as constant
use Rattle.sq_syntax.specs.declared.expr.Parameter.{Parameter}
use Rattle.sq_syntax.specs.declared.expr.Parameter.TheVariants as parameter
use Rattle.sq_syntax.specs.declared.expr.Moment.{Moment}
use Rattle.sq_syntax.specs.ExpressionPieces.{moment_symbol}
use Rattle.sq_syntax.specs.declared.query.Query.{Query}
use Rattle.sq_syntax.specs.Facts.{Stream}
use Rattle.sq_grammar.specs.declared.start.Start.{Start}
use Rattle.sq_grammar.specs.declared.start.Start.TheVariants as start
use Rattle.sq_grammar.specs.Reading.{Outcome, Parser, ◌>>=◌, pure, choose, is, sees, expect, token, same, many, here, node, many_from}
use Rattle.sq_grammar.specs.Ahead.{Lexemes}
use Rattle.sq_grammar.specs.Levels.{Expr, chained, signed, sign, negation, converted, collated, zoned, sees_link, operation, negated, conjunction, disjunction}
use Rattle.sq_grammar.specs.Tests.{range_after, ranged, relation_after, related, test_after, testing}
use Rattle.sq_grammar.specs.Primaries.{start_of, constant_at, parameter_at, moment_at, named, brackets, exists, array, case, cast, pooled, null_if, extract, called_or, by_start, by_reading, primary, takes_index, index, index_place, subscripted, above_tests, expression}
use Rattle.sq_grammar.proofs.Begins.{part_of, none_some, Starts, starts_primary, starts_signed, starts_negated, converted_starts, test_starts}
use Rattle.sq_grammar.proofs.Stars.{dotted, starred, same_next, Single, token_single, expect_single, chain_single, prefix_single, Unstarred}
use Rattle.sq_grammar.specs.Queries.{begins_star_of}
use Rattle.sq_grammar.proofs.Runs.{both}
use Rattle.sq_grammar.proofs.Complete.{goes_on}
use Rattle.sq_grammar.proofs.Joints.{false_true, same_is}
use Rattle.sq_grammar.proofs.Singles as m

-- a node of what one token is read as
single_node : {A : Type 0} (p : Parser A) (make : A → Expression) → Single p → Single (λ start. (p >>= (λ y. node start (here start) (make y))) start)
single_node p make one n x a b rest y next h =
    let now = starred n x a b rest in
    let q = part_of (p now) (λ z. node now (here now) (make z)) (y, next) h in
    same_next (node now (here now) (make q.value) q.next) y _ next q.next q.more refl ∙ one n x a b rest q.value q.next q.is

module _ (nested : Parser Expr) (inner : Parser Query) (starts : Starts starts_negated nested) where
  constant_single : (x : Constant) → Single (constant_at x)
  constant_single x n a b c rest y next h = single_node (token (λ r place. Some x)) e.Constant (token_single (λ r place. Some x)) n a b c rest y next h

  parameter_single : (x : Parameter) → Single (parameter_at x)
  parameter_single x n a b c rest y next h = single_node (token (λ r place. Some x)) e.Parameter (token_single (λ r place. Some x)) n a b c rest y next h

  moment_single : (x : Moment) → Single (moment_at x)
  moment_single x n a b c rest y next h = single_node (expect (moment_symbol x)) (λ _. e.Moment x) (expect_single (moment_symbol x)) n a b c rest y next h

  named_single : Single (named nested inner)
  named_single = m.missing_single (named nested inner) (m.named_missing nested inner starts)

  called_single : (special : Parser Expr) → m.Missing special → Single (called_or nested inner special)
  called_single special missing = m.missing_single (called_or nested inner special) (m.called_or_missing nested inner starts special missing)

  started : (x : Start) → Single (by_start nested inner x)
  started start.True = constant_single constant.True
  started start.False = constant_single constant.False
  started start.Null = constant_single constant.Null
  started (start.Moment x) = moment_single x
  started start.Brackets = m.missing_single (brackets nested inner) (m.brackets_missing nested inner starts)
  started start.Exists = m.missing_single (exists nested inner) (m.exists_missing nested inner starts)
  started start.Array = m.missing_single (array nested inner) (m.array_missing nested inner starts)
  started start.Case = m.missing_single (case nested inner) (m.case_missing nested inner starts)
  started start.Cast = m.missing_single (cast nested inner) (m.cast_missing nested inner starts)
  started (start.Pooled word) = called_single (pooled nested inner word) (m.pooled_missing nested inner starts word)
  started start.NullIf = called_single (null_if nested inner) (m.null_if_missing nested inner starts)
  started start.Extract = called_single (extract nested inner) (m.extract_missing nested inner starts)
  started start.Sqlc = m.missing_single (by_start nested inner start.Sqlc) (m.sqlc_missing nested inner starts)
  started start.Side = m.missing_single (by_start nested inner start.Side) (m.side_missing nested inner starts)
  started start.Named = named_single
  started start.Nothing = λ n x a b rest y next h. absurd (none_some h)

  read_single : (r : Reading) → Single (by_reading nested inner r)
  read_single (reading.Symbol x) = started (start_of x)
  read_single (reading.Word word) = named_single
  read_single (reading.Quoted word) = named_single
  read_single (reading.Text bytes) = constant_single (constant.Text bytes)
  read_single (reading.EText bytes) = constant_single (constant.EText bytes)
  read_single (reading.Dollar bytes) = constant_single (constant.Dollar bytes)
  read_single (reading.Number bytes) = constant_single (constant.Number bytes)
  read_single (reading.Parameter bytes) = parameter_single (parameter.Numbered bytes)
  read_single (reading.Named word) = parameter_single (parameter.Named word)
  read_single (reading.Operator bytes) = λ n x a b rest y next h. absurd (none_some h)
  read_single reading.Note = λ n x a b rest y next h. absurd (none_some h)

  primary_single : Single (primary nested inner)
  unfolding primary
  primary_single n x a b rest y next h = read_single x.reading n x a b rest y next h

  -- what reads a first part, and stops before a dot
  first_single : (p : Parser Expr) (f : Stream → Expr → Parser Expr) → Single p → ((now : Stream) (y : Expr) (n : ℕ) (a b : Place) (rest : Lexemes) → f now y (dotted n a b rest) ≡ Some (y, dotted n a b rest))
      → Single (λ start. (p >>= f start) start)
  first_single p f one stops n x a b rest y next h =
      let now = starred n x a b rest in
      let v = dotted (suc n) a b rest in
      let q = part_of (p now) (f now) (y, next) h in
      let last = subst (λ u. f now q.value u ≡ Some (y, next)) (one n x a b rest q.value q.next q.is) q.more in
      same_next (f now q.value v) y q.value next v last (stops now q.value (suc n) a b rest)

  subscripted_single : Single (subscripted nested inner)
  unfolding subscripted same many_from
  subscripted_single n x a b rest y next h =
      first_single (primary nested inner) (λ start first. choose (λ now. takes_index first.form) (many (sees s.OpenSquare) (index nested inner) >>= chained start (index_place nested inner) e.Subscript first) (pure first)) primary_single
      stops n x a b rest y next h
    where
      by_index : (c : Bool) (first : Expr) (v : Stream) → ◌≡◌ {A = Outcome Expr} (if c then Some (first, v) else Some (first, v)) (Some (first, v))
      by_index true first v = refl
      by_index false first v = refl

      stops : (now : Stream) (first : Expr) (k : ℕ) (c d : Place) (others : Lexemes) → choose (λ at. takes_index first.form) (many (sees s.OpenSquare) (index nested inner) >>= chained now (index_place nested inner) e.Subscript first) (pure first) (dotted k c d others) ≡ Some (first, dotted k c d others)
      stops now first k c d others = by_index (takes_index first.form) first (dotted k c d others)

  converted_single : Single (converted (subscripted nested inner))
  unfolding converted same
  converted_single = chain_single _ _ _ e.Converted (subscripted nested inner) (λ n a b rest. refl) subscripted_single

  signed_single : Single (signed (converted (subscripted nested inner)))
  unfolding signed sign same
  signed_single = prefix_single starts_primary _ _ _ e.Signed (converted (subscripted nested inner)) (λ n a b rest. refl) (token_single _) refl (converted_starts nested inner) converted_single

  collated_single : (p : Parser Expr) → Single p → Single (collated p)
  unfolding collated same
  collated_single p one = chain_single _ _ _ e.Collated p (λ n a b rest. refl) one

  zoned_single : (p : Parser Expr) → Single p → Single (zoned p)
  unfolding zoned same
  zoned_single p one = chain_single _ _ _ e.AtTimeZone p (λ n a b rest. refl) one

  operation_single : (n : ℕ) (p : Parser Expr) → Single p → Single (operation n p)
  unfolding operation sees_link
  operation_single k p one = chain_single _ _ _ e.Operation p (λ n a b rest. refl) one

  above_single : Single (above_tests nested inner)
  above_single = operation_single 6 _ (operation_single 7 _ (operation_single 8 _ (operation_single 9 _ (zoned_single _ (collated_single _ signed_single)))))

  ranged_single : (p : Parser Expr) → Single p → Single (ranged nested inner p)
  unfolding ranged same
  ranged_single p one = first_single p (λ start left now. range_after nested inner p start (here now) left now) one (λ now y n a b rest. refl)

  related_single : (p : Parser Expr) → Single p → Single (related nested inner p)
  unfolding related
  related_single p one = first_single p (λ start left now. relation_after nested inner p start (here now) left now) one (λ now y n a b rest. refl)

  testing_single : (p : Parser Expr) → Single p → Single (testing p)
  unfolding testing same
  testing_single p one = first_single p (λ start left now. test_after p start (here now) left now) one (λ now y n a b rest. refl)

  test_single : Single (testing (related nested inner (ranged nested inner (above_tests nested inner))))
  test_single = testing_single _ (related_single _ (ranged_single _ above_single))

  negation_single : Single negation
  unfolding negation
  negation_single n x a b rest y next h =
      let now = starred n x a b rest in
      let q = part_of (expect s.Not now) (λ _. pure (here now)) (y, next) h in
      sym (same_next (Some (here now, q.next)) (here now) y q.next next refl q.more) ∙ expect_single s.Not n x a b rest q.value q.next q.is

  negated_single : Single (negated (testing (related nested inner (ranged nested inner (above_tests nested inner)))))
  unfolding negated same
  negated_single = prefix_single starts_signed _ _ _ e.Not (testing (related nested inner (ranged nested inner (above_tests nested inner)))) (λ n a b rest. refl) negation_single refl (test_starts nested inner) test_single

  conjunction_single : (p : Parser Expr) → Single p → Single (conjunction p)
  unfolding conjunction same
  conjunction_single p one = chain_single _ _ _ e.And p (λ n a b rest. refl) one

  disjunction_single : (p : Parser Expr) → Single p → Single (disjunction p)
  unfolding disjunction same
  disjunction_single p one = chain_single _ _ _ e.Or p (λ n a b rest. refl) one

  expression_single : Single (expression nested inner)
  unfolding expression
  expression_single = disjunction_single _ (conjunction_single _ negated_single)

-- ---- no name, dot and star

not_starred : (p : Parser Expr) → Single p → (n : ℕ) (x : Lexeme) (a b : Place) (r t : Reading) (rest : Lexemes) (y : Expr) (next : Stream) → r ≡ reading.Symbol s.Dot → t ≡ reading.Symbol s.Times
    → p (record { at = n; tokens = x ∷ record { reading = r; place = a } ∷ record { reading = t; place = b } ∷ rest }) ≡ Some (y, next) → goes_on 0 next ≡ false → ⊥
not_starred p one n x a b r t rest y next dot times h stop =
    let at_dot = subst (λ q. p (record { at = n; tokens = x ∷ record { reading = q; place = a } ∷ record { reading = t; place = b } ∷ rest }) ≡ Some (y, next)) dot h in
    let at_star = subst (λ q. p (record { at = n; tokens = x ∷ record { reading = reading.Symbol s.Dot; place = a } ∷ record { reading = q; place = b } ∷ rest }) ≡ Some (y, next)) times at_dot in
    false_true (sym stop ∙ ap (λ u. goes_on 0 u) (one n x a b rest y next at_star))

pub symbol_is : (k : Symbol) (r : Reading) → is k r ≡ true → r ≡ reading.Symbol k
symbol_is k (reading.Symbol x) h = ap (λ y. reading.Symbol y) (same_is x k h)
symbol_is k _ h = absurd (cc)

single_unstarred : (p : Parser Expr) → Single p → (n : ℕ) (tokens : Lexemes) (y : Expr) (next : Stream) → p (record { at = n; tokens = tokens }) ≡ Some (y, next) → goes_on 0 next ≡ false → begins_star_of tokens ≡ false
single_unstarred p one n (x ∷ d ∷ t ∷ rest) y next h stop = by_both (is s.Dot d.reading && is s.Times t.reading) refl
  where
    by_both : (c : Bool) → is s.Dot d.reading && is s.Times t.reading ≡ c → is s.Dot d.reading && is s.Times t.reading ≡ false
    by_both false k = k
    by_both true k = let parts = both _ _ k in absurd (not_starred p one n x d.place t.place d.reading t.reading rest y next (symbol_is s.Dot d.reading parts.0) (symbol_is s.Times t.reading parts.1) h stop)
single_unstarred p one n _ y next h stop = refl

pub expression_unstarred : (nested : Parser Expr) (inner : Parser Query) → Starts starts_negated nested → Unstarred (expression nested inner)
expression_unstarred nested inner starts now next x h stop = single_unstarred (expression nested inner) (expression_single nested inner starts) now.at now.tokens x next h stop
