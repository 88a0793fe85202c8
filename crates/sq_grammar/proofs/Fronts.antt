-- What an expression begins with, and what stands behind its first operand.
use Rattle.std.proofs.Common.{◌≡◌, Bool, true, false, List, ◌++◌, Option, Some, None, refl, sym, ap, subst, ◌∙◌, ◌⊎◌, inl, inr}
use Rattle.std.specs.Prelude.{flat_map, ◌||◌, if◌then◌else◌}
use Rattle.sq_syntax.specs.declared.symbol.Symbol.TheVariants as s
use Rattle.sq_syntax.specs.declared.symbol.Reading.{Reading}
use Rattle.sq_syntax.specs.declared.symbol.Reading.TheVariants as reading
use Rattle.sq_syntax.specs.declared.name.Identifier.{Identifier}
use Rattle.sq_syntax.specs.declared.name.ColumnName.{ColumnName}
use Rattle.sq_syntax.specs.declared.name.ColumnName.TheVariants as column
use Rattle.sq_syntax.specs.declared.name.TypeWord.{TypeWord}
use Rattle.sq_syntax.specs.declared.name.TypeWord.TheVariants as type_word
use Rattle.sq_syntax.specs.declared.name.TypeName.{TypeName}
use Rattle.sq_syntax.specs.declared.expr.Constant.{Constant}
use Rattle.sq_syntax.specs.declared.expr.Constant.TheVariants as constant
use Rattle.sq_syntax.specs.declared.expr.Parameter.{Parameter}
use Rattle.sq_syntax.specs.declared.expr.Parameter.TheVariants as parameter
use Rattle.sq_syntax.specs.declared.expr.Pool.{Pool}
use Rattle.sq_syntax.specs.declared.expr.Pool.TheVariants as pool
use Rattle.sq_syntax.specs.declared.expr.Moment.{Moment}
use Rattle.sq_syntax.specs.declared.expr.Moment.TheVariants as moment
use Rattle.sq_syntax.specs.declared.expr.Operator.{Operator}
use Rattle.sq_syntax.specs.declared.expr.Operator.TheVariants as operator
use Rattle.sq_syntax.specs.declared.expr.Comparison.{Comparison}
use Rattle.sq_syntax.specs.declared.expr.Comparison.TheVariants as comparison
use Rattle.sq_syntax.specs.declared.expr.Matching.{Matching}
use Rattle.sq_syntax.specs.declared.expr.Matching.TheVariants as matching
use Rattle.sq_syntax.specs.declared.expr.Test.{Test}
use Rattle.sq_syntax.specs.declared.expr.Test.TheVariants as test
use Rattle.sq_syntax.specs.Symbols.{identifier_reading, is_name}
use Rattle.sq_syntax.specs.Facts.{Stream, Says, Along, Facts, Piece, marks_of, all_hold}
use Rattle.sq_syntax.specs.Pieces as p
use Rattle.sq_syntax.specs.Pieces.{say}
use Rattle.sq_syntax.specs.ExpressionPieces as g
use Rattle.sq_syntax.specs.ExpressionPieces.{expression_layer}
use Rattle.sq_grammar.specs.Reading.{is, same}
use Rattle.sq_grammar.specs.Ahead.{closed, begins_core, follows_query, goes_on_query, close_query, queried}
use Rattle.sq_grammar.proofs.Runs.{both}
use Rattle.sq_grammar.proofs.Joints.{false_true}
use Rattle.sq_grammar.proofs.Walks.{pieces_split, holds_split}

-- what the tokens of an expression tell of brackets round it: if a query's brackets come first, the expression is these, or goes on as no query does
pub record Front (x : Facts) (u v : Stream) : Type 0 where
  pub core : begins_core u.tokens ≡ false
  pub found : (queried u.tokens ≡ None) ⊎ ((w : Stream) × (queried u.tokens ≡ Some w.tokens) × (((g.is_scalar x ≡ true) × (w ≡ v)) ⊎ (goes_on_query w.tokens ≡ false)))

-- ---- the first token

abbrev pub is_apart : Reading → Bool
is_apart (reading.Symbol s.Open) = false
is_apart (reading.Symbol s.Select) = false
is_apart (reading.Symbol s.With) = false
is_apart _ = true

pub apart_core : (r : Reading) → is_apart r ≡ true → is s.Select r || is s.With r ≡ false
unfolding same
apart_core (reading.Symbol s.Select) h = absurd (cc)
apart_core (reading.Symbol s.With) h = absurd (cc)
apart_core (reading.Symbol _) h = refl
apart_core _ h = refl

pub apart_open : (r : Reading) → is_apart r ≡ true → is s.Open r ≡ false
unfolding same
apart_open (reading.Symbol s.Open) h = absurd (cc)
apart_open (reading.Symbol _) h = refl
apart_open _ h = refl

-- a first token
abbrev pub First : Stream → Type 0
First u = (r : Reading) × (v : Stream) × Says r u v × (is_apart r ≡ true)

pub front_first : (x : Facts) (u v : Stream) → First u → Front x u v
front_first x u v f = record {
  core = ap begins_core f.2.first ∙ apart_core f.0 f.3;
  found = inl (ap queried f.2.first ∙ ap (λ b. if b then (if begins_core f.1.tokens then closed f.1.tokens 1 else close_query (queried f.1.tokens)) else None) (apart_open f.0 f.3));
}

pub name_apart : (r : Reading) → is_name r ≡ true → is_apart r ≡ true
name_apart (reading.Symbol s.Open) h = absurd (cc)
name_apart (reading.Symbol s.Select) h = absurd (cc)
name_apart (reading.Symbol s.With) h = absurd (cc)
name_apart (reading.Symbol _) h = refl
name_apart _ h = refl

pub call_apart : (r : Reading) → g.is_call_reading r ≡ true → is_apart r ≡ true
call_apart (reading.Symbol s.Open) h = absurd (cc)
call_apart (reading.Symbol s.Select) h = absurd (cc)
call_apart (reading.Symbol s.With) h = absurd (cc)
call_apart (reading.Symbol _) h = refl
call_apart _ h = refl

pub constant_apart : (x : Constant) → is_apart (g.constant_reading x) ≡ true
constant_apart (constant.Number bytes) = refl
constant_apart (constant.Text bytes) = refl
constant_apart (constant.EText bytes) = refl
constant_apart (constant.Dollar bytes) = refl
constant_apart constant.True = refl
constant_apart constant.False = refl
constant_apart constant.Null = refl

pub pool_apart : (x : Pool) → is_apart (reading.Symbol (g.pool_symbol x)) ≡ true
pool_apart pool.Coalesce = refl
pool_apart pool.Greatest = refl
pool_apart pool.Least = refl

pub moment_apart : (x : Moment) → is_apart (reading.Symbol (g.moment_symbol x)) ≡ true
moment_apart moment.CurrentDate = refl
moment_apart moment.CurrentTimestamp = refl
moment_apart moment.LocalTimestamp = refl

pub sign_apart : (b : Bool) → is_apart (reading.Symbol (if b then s.Minus else s.Plus)) ≡ true
sign_apart true = refl
sign_apart false = refl

pub parameter_first : (x : Parameter) (u v : Stream) → Along (marks_of (g.parameter_pieces x)) u v → First u
parameter_first (parameter.Numbered bytes) u v a = (reading.Parameter bytes, a.0, a.1, refl)
parameter_first (parameter.Named x) u v a = (reading.Named x, a.0, a.1, refl)
parameter_first (parameter.Called found x) u v a = (reading.Symbol s.Sqlc, a.0, a.1, refl)

pub column_first : (x : ColumnName) (u v : Stream) → all_hold (p.column_name x) ≡ true → Along (marks_of (p.column_name x)) u v → First u
column_first (column.Bare x) u v h a = (identifier_reading x, a.1.0, a.1.1, name_apart (identifier_reading x) (both _ _ h).0)
column_first (column.OfRange x y) u v h a = (identifier_reading x, a.1.0, a.1.1, name_apart (identifier_reading x) (both _ _ h).0)
column_first (column.OfTable x y z) u v h a = (identifier_reading x, a.1.0, a.1.1, name_apart (identifier_reading x) (both _ _ h).0)

pub schema_first : (schema : Option Identifier) (x : Identifier) (u v : Stream) → all_hold (p.schema_name schema ++ p.name x) ≡ true → Along (marks_of (p.schema_name schema ++ p.name x)) u v → First u
schema_first None x u v h a = (identifier_reading x, a.1.0, a.1.1, name_apart (identifier_reading x) (both _ _ h).0)
schema_first (Some y) x u v h a = (identifier_reading y, a.1.0, a.1.1, name_apart (identifier_reading y) (both _ _ h).0)

pub words_first : (x : TypeWord) (u v : Stream) → all_hold (p.type_words x) ≡ true → Along (marks_of (p.type_words x)) u v → First u
words_first (type_word.Named q) u v h a = schema_first q.schema q.name u v h a
words_first (type_word.DoublePrecision place) u v h a = (reading.Symbol s.Double, a.1.0, a.1.1, refl)
words_first (type_word.CharacterVarying place) u v h a = (reading.Symbol s.Character, a.1.0, a.1.1, refl)

pub front_of : (a b : List Piece) (u v : Stream) → all_hold (a ++ b) ≡ true → Along (marks_of (a ++ b)) u v → ((w : Stream) → all_hold a ≡ true → Along (marks_of a) u w → First u) → First u
front_of a b u v h along k = let t = pieces_split a b u v along in k t.0 (holds_split a b h).0 t.1

pub type_first : (x : TypeName) (rest : List Piece) (u v : Stream) → all_hold (p.type x ++ rest) ≡ true → Along (marks_of (p.type x ++ rest)) u v → First u
type_first x rest u v h along =
    let words = p.type_words x.word in
    front_of (p.type x) rest u v h along (λ w h along.
    front_of ((words ++ p.size x.size) ++ p.time_zone x.zone) (flat_map p.array x.arrays) u w (both _ _ h).1 along (λ w h along.
    front_of (words ++ p.size x.size) (p.time_zone x.zone) u w h along (λ w h along.
    front_of words (p.size x.size) u w h along (λ w h along. words_first x.word u w h along))))

-- ---- the token behind a first operand

pub front_left : (x y : Facts) (u w v : Stream) → Front y u w → goes_on_query w.tokens ≡ false → Front x u v
front_left x y u w v f stop = record {
  core = f.core;
  found = elim f.found [
    | inl none ↦ inl none
    | inr some ↦ inr (
      some.0,
      some.1,
      inr (elim some.2 [
        | inl whole ↦ subst (λ (z : Stream). goes_on_query z.tokens ≡ false) (sym whole.1) stop
        | inr other ↦ other
      ]),
    )
  ];
}

pub not_follow : (r : Reading) (w v : Stream) → Says r w v → follows_query r ≡ false → goes_on_query w.tokens ≡ false
not_follow r w v h k = ap goes_on_query h.first ∙ k

pub operator_goes : (x : Operator) → follows_query (g.operator_reading x) ≡ false
operator_goes operator.Power = refl
operator_goes operator.Times = refl
operator_goes operator.Divide = refl
operator_goes operator.Modulo = refl
operator_goes operator.Plus = refl
operator_goes operator.Minus = refl
operator_goes (operator.Comparison comparison.Less) = refl
operator_goes (operator.Comparison comparison.Greater) = refl
operator_goes (operator.Comparison comparison.Equal) = refl
operator_goes (operator.Comparison comparison.LessEqual) = refl
operator_goes (operator.Comparison comparison.GreaterEqual) = refl
operator_goes (operator.Comparison comparison.NotEqual) = refl
operator_goes (operator.Other bytes) = refl

pub comparison_goes : (x : Comparison) → follows_query (reading.Symbol (g.comparison_symbol x)) ≡ false
comparison_goes x = operator_goes (operator.Comparison x)

pub matching_goes : (x : Matching) → follows_query (reading.Symbol (g.matching_symbol x)) ≡ false
matching_goes matching.Like = refl
matching_goes matching.Ilike = refl

pub test_goes : (x : Test) (w v : Stream) → Along (marks_of (g.test_words x)) w v → goes_on_query w.tokens ≡ false
test_goes test.Null w v a = not_follow (reading.Symbol s.Is) w a.0 a.1 refl
test_goes test.NotNull w v a = not_follow (reading.Symbol s.Is) w a.0 a.1 refl
test_goes test.True w v a = not_follow (reading.Symbol s.Is) w a.0 a.1 refl
test_goes test.NotTrue w v a = not_follow (reading.Symbol s.Is) w a.0 a.1 refl
test_goes test.False w v a = not_follow (reading.Symbol s.Is) w a.0 a.1 refl
test_goes test.NotFalse w v a = not_follow (reading.Symbol s.Is) w a.0 a.1 refl
test_goes test.Unknown w v a = not_follow (reading.Symbol s.Is) w a.0 a.1 refl
test_goes test.NotUnknown w v a = not_follow (reading.Symbol s.Is) w a.0 a.1 refl
test_goes test.NullWord w v a = not_follow (reading.Symbol s.IsNull) w a.0 a.1 refl
test_goes test.NotNullWord w v a = not_follow (reading.Symbol s.NotNull) w a.0 a.1 refl

-- ---- brackets

pub front_scalar : (x : Facts) (u v : Stream) (w : Stream) → g.is_scalar x ≡ true → (u1 : Stream) → Says (reading.Symbol s.Open) u u1 → queried u.tokens ≡ Some w.tokens → w ≡ v → Front x u v
unfolding same
front_scalar x u v w scalar u1 o h e = record { core = ap begins_core o.first; found = inr (w, h, inl (scalar, e)) }

-- a query's brackets that come first, and what stands behind them
abbrev pub Found : Facts → Stream → Stream → Type 0
Found x u v = (queried u.tokens ≡ None) ⊎ ((w : Stream) × (queried u.tokens ≡ Some w.tokens) × (((g.is_scalar x ≡ true) × (w ≡ v)) ⊎ (goes_on_query w.tokens ≡ false)))

-- they are no query that goes on
pub ended : (x : Facts) (w v : Stream) → (g.is_scalar x ≡ false) ⊎ (goes_on_query v.tokens ≡ false) → ((g.is_scalar x ≡ true) × (w ≡ v)) ⊎ (goes_on_query w.tokens ≡ false) → goes_on_query w.tokens ≡ false
ended x w v other (inr goes) = goes
ended x w v (inl plain) (inl whole) = absurd (false_true (sym plain ∙ whole.0))
ended x w v (inr stop) (inl whole) = subst (λ (z : Stream). goes_on_query z.tokens ≡ false) (sym whole.1) stop

pub unclosed : (x : Facts) (u v : Stream) → (g.is_scalar x ≡ false) ⊎ (goes_on_query v.tokens ≡ false) → Found x u v → close_query (queried u.tokens) ≡ None
unclosed x u v other (inl none) = ap close_query none
unclosed x u v other (inr some) = ap close_query some.1 ∙ ap (λ b. if b then closed some.0.tokens 1 else None) (ended x some.0 v other some.2)

pub unqueried : (x : Facts) (now u v : Stream) → Says (reading.Symbol s.Open) now u → (g.is_scalar x ≡ false) ⊎ (goes_on_query v.tokens ≡ false) → Front x u v → queried now.tokens ≡ None
unfolding same
unqueried x now u v o other f =
    ap queried o.first
    ∙ ap (λ b. if b then closed u.tokens 1 else close_query (queried u.tokens)) f.core
    ∙ unclosed x u v other f.found

pub front_brackets : (x y : Facts) (u u1 w v : Stream) → Says (reading.Symbol s.Open) u u1 → g.is_scalar y ≡ false → Front y u1 w → Front x u v
unfolding same
front_brackets x y u u1 w v o plain f = record { core = ap begins_core o.first; found = inl (unqueried y u u1 w o (inl plain) f) }
