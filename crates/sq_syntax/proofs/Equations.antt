-- What the definitions say of each kind of tree.
use Rattle.std.proofs.Common.{◌≡◌, ℕ, Bool, List, Option, sym, ap, subst, ◌∙◌}
use Rattle.sq_base.specs.declared.place.Place.{Place}
use Rattle.sq_syntax.specs.declared.name.Identifier.{Identifier}
use Rattle.sq_syntax.specs.declared.name.ColumnName.{ColumnName}
use Rattle.sq_syntax.specs.declared.name.TypeName.{TypeName}
use Rattle.sq_syntax.specs.declared.expr.Node.{Node}
use Rattle.sq_syntax.specs.declared.expr.Constant.{Constant}
use Rattle.sq_syntax.specs.declared.expr.Parameter.{Parameter}
use Rattle.sq_syntax.specs.declared.expr.Arm.{Arm}
use Rattle.sq_syntax.specs.declared.expr.Pool.{Pool}
use Rattle.sq_syntax.specs.declared.expr.Moment.{Moment}
use Rattle.sq_syntax.specs.declared.expr.Arguments.{Arguments}
use Rattle.sq_syntax.specs.declared.expr.Index.{Index}
use Rattle.sq_syntax.specs.declared.expr.Conversion.{Conversion}
use Rattle.sq_syntax.specs.declared.expr.Sign.{Sign}
use Rattle.sq_syntax.specs.declared.expr.Collation.{Collation}
use Rattle.sq_syntax.specs.declared.expr.Joint.{Joint}
use Rattle.sq_syntax.specs.declared.expr.Link.{Link}
use Rattle.sq_syntax.specs.declared.expr.Matching.{Matching}
use Rattle.sq_syntax.specs.declared.expr.Comparison.{Comparison}
use Rattle.sq_syntax.specs.declared.expr.Operator.{Operator}
use Rattle.sq_syntax.specs.declared.expr.Quantifier.{Quantifier}
use Rattle.sq_syntax.specs.declared.expr.Test.{Test}
use Rattle.sq_syntax.specs.declared.query.Query.{Query}
use Rattle.sq_syntax.specs.declared.expr.Expression.{Expression, roll-Expression, out-Expression}
use Rattle.sq_syntax.specs.declared.expr.Expression.TheFolds.{fold-roll-Expression, map-Expression}
use Rattle.sq_syntax.specs.declared.expr.Expression.TheViews.{roll-out-Expression, rolls-Constant, rolls-Parameter, rolls-Column, rolls-Bracketed, rolls-Scalar, rolls-Exists, rolls-ArrayList, rolls-ArrayQuery, rolls-Case, rolls-Cast, rolls-TypedText, rolls-Pooled, rolls-NullIf, rolls-Extract, rolls-Moment, rolls-Call, rolls-Subscript, rolls-Converted, rolls-Signed, rolls-Collated, rolls-AtTimeZone, rolls-Operation, rolls-Between, rolls-InList, rolls-InQuery, rolls-Like, rolls-Compared, rolls-AnyArray, rolls-AnyQuery, rolls-Tested, rolls-Distinct, rolls-Not, rolls-And, rolls-Or}
use Rattle.sq_syntax.specs.declared.expr.Expression.TheOpen.{Expression-F}
use Rattle.sq_syntax.specs.declared.expr.Expression.TheVariants as e
use Rattle.sq_syntax.specs.declared.query.Factor.{Factor}
use Rattle.sq_syntax.specs.declared.query.Join.{Join}
use Rattle.sq_syntax.specs.declared.query.Source.{Source}
use Rattle.sq_syntax.specs.declared.query.From.{From}
use Rattle.sq_syntax.specs.declared.query.Select.{Select}
use Rattle.sq_syntax.specs.Facts.{Facts}
use Rattle.sq_syntax.specs.Pieces.{Placed}
use Rattle.sq_syntax.specs.ExpressionPieces.{expression_layer}
use Rattle.sq_syntax.specs.QueryPieces.{source_layer, join_layer, from_layer, select_layer, factor_layer, query_layer}
use Rattle.sq_syntax.specs.Grammar.{expression_facts, factor_facts, join_facts, source_facts, from_facts, query_facts, select_facts}

abbrev pub ExpressionLayer : Type 0
ExpressionLayer = Expression-F Expression Factor Join Source From Query Select

-- a layer with the facts of each part in its place
abbrev pub layer_facts : ExpressionLayer → Expression-F Placed Facts Facts Facts Facts Facts Facts
layer_facts = map-Expression Expression Factor Join Source From Query Select Placed Facts Facts Facts Facts Facts Facts expression_facts factor_facts join_facts source_facts from_facts query_facts select_facts

-- every expression is of one of these kinds
pub data Shape : Expression → Type 0 where
  constant : (x : Constant) → Shape (e.Constant x)
  parameter : (x : Parameter) → Shape (e.Parameter x)
  column : (x : ColumnName) → Shape (e.Column x)
  bracketed : (x : Node Expression) → Shape (e.Bracketed x)
  scalar : (x : Query) → Shape (e.Scalar x)
  exists : (x : Query) → Shape (e.Exists x)
  array_list : (xs : List (Node Expression)) → Shape (e.ArrayList xs)
  array_query : (x : Query) → Shape (e.ArrayQuery x)
  case : (x : Option (Node Expression)) (arms : List (Arm (Node Expression))) (last : Option (Node Expression)) → Shape (e.Case x arms last)
  cast : (x : Node Expression) (to : TypeName) → Shape (e.Cast x to)
  typed_text : (to : TypeName) (text : List ℕ) → Shape (e.TypedText to text)
  pooled : (word : Pool) (xs : List (Node Expression)) → Shape (e.Pooled word xs)
  null_if : (x : Node Expression) (y : Node Expression) → Shape (e.NullIf x y)
  extract : (word : List ℕ) (x : Node Expression) → Shape (e.Extract word x)
  moment : (x : Moment) → Shape (e.Moment x)
  call : (x : Identifier) (within : Arguments (Node Expression)) (last : Option (Node Expression)) → Shape (e.Call x within last)
  subscript : (x : Node Expression) (links : List (Index (Node Expression))) → Shape (e.Subscript x links)
  converted : (x : Node Expression) (links : List Conversion) → Shape (e.Converted x links)
  signed : (signs : List Sign) (x : Node Expression) → Shape (e.Signed signs x)
  collated : (x : Node Expression) (links : List Collation) → Shape (e.Collated x links)
  at_time_zone : (x : Node Expression) (links : List (Joint (Node Expression))) → Shape (e.AtTimeZone x links)
  operation : (x : Node Expression) (links : List (Link (Node Expression))) → Shape (e.Operation x links)
  between : (x : Node Expression) (negated : Bool) (symmetric : Bool) (low : Node Expression) (high : Node Expression) → Shape (e.Between x negated symmetric low high)
  in_list : (x : Node Expression) (negated : Bool) (xs : List (Node Expression)) → Shape (e.InList x negated xs)
  in_query : (x : Node Expression) (negated : Bool) (query : Query) → Shape (e.InQuery x negated query)
  like : (x : Node Expression) (negated : Bool) (word : Matching) (y : Node Expression) → Shape (e.Like x negated word y)
  compared : (x : Node Expression) (by : Comparison) (y : Node Expression) → Shape (e.Compared x by y)
  any_array : (x : Node Expression) (by : Operator) (word : Quantifier) (y : Node Expression) → Shape (e.AnyArray x by word y)
  any_query : (x : Node Expression) (by : Operator) (word : Quantifier) (query : Query) → Shape (e.AnyQuery x by word query)
  tested : (x : Node Expression) (test : Test) → Shape (e.Tested x test)
  distinct : (x : Node Expression) (negated : Bool) (y : Node Expression) → Shape (e.Distinct x negated y)
  not : (places : List Place) (x : Node Expression) → Shape (e.Not places x)
  and : (x : Node Expression) (links : List (Joint (Node Expression))) → Shape (e.And x links)
  or : (x : Node Expression) (links : List (Joint (Node Expression))) → Shape (e.Or x links)

layer_shape : (d : ExpressionLayer) → Shape (roll-Expression d)
layer_shape (Expression-F.Constant x) = subst Shape (sym (rolls-Constant x)) (Shape.constant x)
layer_shape (Expression-F.Parameter x) = subst Shape (sym (rolls-Parameter x)) (Shape.parameter x)
layer_shape (Expression-F.Column x) = subst Shape (sym (rolls-Column x)) (Shape.column x)
layer_shape (Expression-F.Bracketed x) = subst Shape (sym (rolls-Bracketed x)) (Shape.bracketed x)
layer_shape (Expression-F.Scalar x) = subst Shape (sym (rolls-Scalar x)) (Shape.scalar x)
layer_shape (Expression-F.Exists x) = subst Shape (sym (rolls-Exists x)) (Shape.exists x)
layer_shape (Expression-F.ArrayList xs) = subst Shape (sym (rolls-ArrayList xs)) (Shape.array_list xs)
layer_shape (Expression-F.ArrayQuery x) = subst Shape (sym (rolls-ArrayQuery x)) (Shape.array_query x)
layer_shape (Expression-F.Case x arms last) = subst Shape (sym (rolls-Case x arms last)) (Shape.case x arms last)
layer_shape (Expression-F.Cast x to) = subst Shape (sym (rolls-Cast x to)) (Shape.cast x to)
layer_shape (Expression-F.TypedText to text) = subst Shape (sym (rolls-TypedText to text)) (Shape.typed_text to text)
layer_shape (Expression-F.Pooled word xs) = subst Shape (sym (rolls-Pooled word xs)) (Shape.pooled word xs)
layer_shape (Expression-F.NullIf x y) = subst Shape (sym (rolls-NullIf x y)) (Shape.null_if x y)
layer_shape (Expression-F.Extract word x) = subst Shape (sym (rolls-Extract word x)) (Shape.extract word x)
layer_shape (Expression-F.Moment x) = subst Shape (sym (rolls-Moment x)) (Shape.moment x)
layer_shape (Expression-F.Call x within last) = subst Shape (sym (rolls-Call x within last)) (Shape.call x within last)
layer_shape (Expression-F.Subscript x links) = subst Shape (sym (rolls-Subscript x links)) (Shape.subscript x links)
layer_shape (Expression-F.Converted x links) = subst Shape (sym (rolls-Converted x links)) (Shape.converted x links)
layer_shape (Expression-F.Signed signs x) = subst Shape (sym (rolls-Signed signs x)) (Shape.signed signs x)
layer_shape (Expression-F.Collated x links) = subst Shape (sym (rolls-Collated x links)) (Shape.collated x links)
layer_shape (Expression-F.AtTimeZone x links) = subst Shape (sym (rolls-AtTimeZone x links)) (Shape.at_time_zone x links)
layer_shape (Expression-F.Operation x links) = subst Shape (sym (rolls-Operation x links)) (Shape.operation x links)
layer_shape (Expression-F.Between x negated symmetric low high) = subst Shape (sym (rolls-Between x negated symmetric low high)) (Shape.between x negated symmetric low high)
layer_shape (Expression-F.InList x negated xs) = subst Shape (sym (rolls-InList x negated xs)) (Shape.in_list x negated xs)
layer_shape (Expression-F.InQuery x negated query) = subst Shape (sym (rolls-InQuery x negated query)) (Shape.in_query x negated query)
layer_shape (Expression-F.Like x negated word y) = subst Shape (sym (rolls-Like x negated word y)) (Shape.like x negated word y)
layer_shape (Expression-F.Compared x by y) = subst Shape (sym (rolls-Compared x by y)) (Shape.compared x by y)
layer_shape (Expression-F.AnyArray x by word y) = subst Shape (sym (rolls-AnyArray x by word y)) (Shape.any_array x by word y)
layer_shape (Expression-F.AnyQuery x by word query) = subst Shape (sym (rolls-AnyQuery x by word query)) (Shape.any_query x by word query)
layer_shape (Expression-F.Tested x test) = subst Shape (sym (rolls-Tested x test)) (Shape.tested x test)
layer_shape (Expression-F.Distinct x negated y) = subst Shape (sym (rolls-Distinct x negated y)) (Shape.distinct x negated y)
layer_shape (Expression-F.Not places x) = subst Shape (sym (rolls-Not places x)) (Shape.not places x)
layer_shape (Expression-F.And x links) = subst Shape (sym (rolls-And x links)) (Shape.and x links)
layer_shape (Expression-F.Or x links) = subst Shape (sym (rolls-Or x links)) (Shape.or x links)

pub shape : (x : Expression) → Shape x
shape x = subst Shape (roll-out-Expression x) (layer_shape (out-Expression x))

at_layer : (d : ExpressionLayer) → expression_facts (roll-Expression d) ≡ expression_layer (layer_facts d)
unfolding expression_facts factor_facts join_facts source_facts from_facts query_facts select_facts
at_layer d = fold-roll-Expression Placed Facts Facts Facts Facts Facts Facts expression_layer factor_layer join_layer source_layer from_layer query_layer select_layer d

pub facts-constant : (x : Constant) (p : Place) → expression_facts (e.Constant x) p ≡ expression_layer (layer_facts (Expression-F.Constant x)) p
facts-constant x p = ap (λ x. expression_facts x p) (sym (rolls-Constant x)) ∙ ap (λ f. f p) (at_layer (Expression-F.Constant x))

pub facts-parameter : (x : Parameter) (p : Place) → expression_facts (e.Parameter x) p ≡ expression_layer (layer_facts (Expression-F.Parameter x)) p
facts-parameter x p = ap (λ x. expression_facts x p) (sym (rolls-Parameter x)) ∙ ap (λ f. f p) (at_layer (Expression-F.Parameter x))

pub facts-column : (x : ColumnName) (p : Place) → expression_facts (e.Column x) p ≡ expression_layer (layer_facts (Expression-F.Column x)) p
facts-column x p = ap (λ x. expression_facts x p) (sym (rolls-Column x)) ∙ ap (λ f. f p) (at_layer (Expression-F.Column x))

pub facts-bracketed : (x : Node Expression) (p : Place) → expression_facts (e.Bracketed x) p ≡ expression_layer (layer_facts (Expression-F.Bracketed x)) p
facts-bracketed x p = ap (λ x. expression_facts x p) (sym (rolls-Bracketed x)) ∙ ap (λ f. f p) (at_layer (Expression-F.Bracketed x))

pub facts-scalar : (x : Query) (p : Place) → expression_facts (e.Scalar x) p ≡ expression_layer (layer_facts (Expression-F.Scalar x)) p
facts-scalar x p = ap (λ x. expression_facts x p) (sym (rolls-Scalar x)) ∙ ap (λ f. f p) (at_layer (Expression-F.Scalar x))

pub facts-exists : (x : Query) (p : Place) → expression_facts (e.Exists x) p ≡ expression_layer (layer_facts (Expression-F.Exists x)) p
facts-exists x p = ap (λ x. expression_facts x p) (sym (rolls-Exists x)) ∙ ap (λ f. f p) (at_layer (Expression-F.Exists x))

pub facts-array_list : (xs : List (Node Expression)) (p : Place) → expression_facts (e.ArrayList xs) p ≡ expression_layer (layer_facts (Expression-F.ArrayList xs)) p
facts-array_list xs p = ap (λ x. expression_facts x p) (sym (rolls-ArrayList xs)) ∙ ap (λ f. f p) (at_layer (Expression-F.ArrayList xs))

pub facts-array_query : (x : Query) (p : Place) → expression_facts (e.ArrayQuery x) p ≡ expression_layer (layer_facts (Expression-F.ArrayQuery x)) p
facts-array_query x p = ap (λ x. expression_facts x p) (sym (rolls-ArrayQuery x)) ∙ ap (λ f. f p) (at_layer (Expression-F.ArrayQuery x))

pub facts-case : (x : Option (Node Expression)) (arms : List (Arm (Node Expression))) (last : Option (Node Expression)) (p : Place) → expression_facts (e.Case x arms last) p ≡ expression_layer (layer_facts (Expression-F.Case x arms last)) p
facts-case x arms last p = ap (λ x. expression_facts x p) (sym (rolls-Case x arms last)) ∙ ap (λ f. f p) (at_layer (Expression-F.Case x arms last))

pub facts-cast : (x : Node Expression) (to : TypeName) (p : Place) → expression_facts (e.Cast x to) p ≡ expression_layer (layer_facts (Expression-F.Cast x to)) p
facts-cast x to p = ap (λ x. expression_facts x p) (sym (rolls-Cast x to)) ∙ ap (λ f. f p) (at_layer (Expression-F.Cast x to))

pub facts-typed_text : (to : TypeName) (text : List ℕ) (p : Place) → expression_facts (e.TypedText to text) p ≡ expression_layer (layer_facts (Expression-F.TypedText to text)) p
facts-typed_text to text p = ap (λ x. expression_facts x p) (sym (rolls-TypedText to text)) ∙ ap (λ f. f p) (at_layer (Expression-F.TypedText to text))

pub facts-pooled : (word : Pool) (xs : List (Node Expression)) (p : Place) → expression_facts (e.Pooled word xs) p ≡ expression_layer (layer_facts (Expression-F.Pooled word xs)) p
facts-pooled word xs p = ap (λ x. expression_facts x p) (sym (rolls-Pooled word xs)) ∙ ap (λ f. f p) (at_layer (Expression-F.Pooled word xs))

pub facts-null_if : (x : Node Expression) (y : Node Expression) (p : Place) → expression_facts (e.NullIf x y) p ≡ expression_layer (layer_facts (Expression-F.NullIf x y)) p
facts-null_if x y p = ap (λ x. expression_facts x p) (sym (rolls-NullIf x y)) ∙ ap (λ f. f p) (at_layer (Expression-F.NullIf x y))

pub facts-extract : (word : List ℕ) (x : Node Expression) (p : Place) → expression_facts (e.Extract word x) p ≡ expression_layer (layer_facts (Expression-F.Extract word x)) p
facts-extract word x p = ap (λ x. expression_facts x p) (sym (rolls-Extract word x)) ∙ ap (λ f. f p) (at_layer (Expression-F.Extract word x))

pub facts-moment : (x : Moment) (p : Place) → expression_facts (e.Moment x) p ≡ expression_layer (layer_facts (Expression-F.Moment x)) p
facts-moment x p = ap (λ x. expression_facts x p) (sym (rolls-Moment x)) ∙ ap (λ f. f p) (at_layer (Expression-F.Moment x))

pub facts-call : (x : Identifier) (within : Arguments (Node Expression)) (last : Option (Node Expression)) (p : Place) → expression_facts (e.Call x within last) p ≡ expression_layer (layer_facts (Expression-F.Call x within last)) p
facts-call x within last p = ap (λ x. expression_facts x p) (sym (rolls-Call x within last)) ∙ ap (λ f. f p) (at_layer (Expression-F.Call x within last))

pub facts-subscript : (x : Node Expression) (links : List (Index (Node Expression))) (p : Place) → expression_facts (e.Subscript x links) p ≡ expression_layer (layer_facts (Expression-F.Subscript x links)) p
facts-subscript x links p = ap (λ x. expression_facts x p) (sym (rolls-Subscript x links)) ∙ ap (λ f. f p) (at_layer (Expression-F.Subscript x links))

pub facts-converted : (x : Node Expression) (links : List Conversion) (p : Place) → expression_facts (e.Converted x links) p ≡ expression_layer (layer_facts (Expression-F.Converted x links)) p
facts-converted x links p = ap (λ x. expression_facts x p) (sym (rolls-Converted x links)) ∙ ap (λ f. f p) (at_layer (Expression-F.Converted x links))

pub facts-signed : (signs : List Sign) (x : Node Expression) (p : Place) → expression_facts (e.Signed signs x) p ≡ expression_layer (layer_facts (Expression-F.Signed signs x)) p
facts-signed signs x p = ap (λ x. expression_facts x p) (sym (rolls-Signed signs x)) ∙ ap (λ f. f p) (at_layer (Expression-F.Signed signs x))

pub facts-collated : (x : Node Expression) (links : List Collation) (p : Place) → expression_facts (e.Collated x links) p ≡ expression_layer (layer_facts (Expression-F.Collated x links)) p
facts-collated x links p = ap (λ x. expression_facts x p) (sym (rolls-Collated x links)) ∙ ap (λ f. f p) (at_layer (Expression-F.Collated x links))

pub facts-at_time_zone : (x : Node Expression) (links : List (Joint (Node Expression))) (p : Place) → expression_facts (e.AtTimeZone x links) p ≡ expression_layer (layer_facts (Expression-F.AtTimeZone x links)) p
facts-at_time_zone x links p = ap (λ x. expression_facts x p) (sym (rolls-AtTimeZone x links)) ∙ ap (λ f. f p) (at_layer (Expression-F.AtTimeZone x links))

pub facts-operation : (x : Node Expression) (links : List (Link (Node Expression))) (p : Place) → expression_facts (e.Operation x links) p ≡ expression_layer (layer_facts (Expression-F.Operation x links)) p
facts-operation x links p = ap (λ x. expression_facts x p) (sym (rolls-Operation x links)) ∙ ap (λ f. f p) (at_layer (Expression-F.Operation x links))

pub facts-between : (x : Node Expression) (negated : Bool) (symmetric : Bool) (low : Node Expression) (high : Node Expression) (p : Place) → expression_facts (e.Between x negated symmetric low high) p ≡ expression_layer (layer_facts (Expression-F.Between x negated symmetric low high)) p
facts-between x negated symmetric low high p = ap (λ x. expression_facts x p) (sym (rolls-Between x negated symmetric low high)) ∙ ap (λ f. f p) (at_layer (Expression-F.Between x negated symmetric low high))

pub facts-in_list : (x : Node Expression) (negated : Bool) (xs : List (Node Expression)) (p : Place) → expression_facts (e.InList x negated xs) p ≡ expression_layer (layer_facts (Expression-F.InList x negated xs)) p
facts-in_list x negated xs p = ap (λ x. expression_facts x p) (sym (rolls-InList x negated xs)) ∙ ap (λ f. f p) (at_layer (Expression-F.InList x negated xs))

pub facts-in_query : (x : Node Expression) (negated : Bool) (query : Query) (p : Place) → expression_facts (e.InQuery x negated query) p ≡ expression_layer (layer_facts (Expression-F.InQuery x negated query)) p
facts-in_query x negated query p = ap (λ x. expression_facts x p) (sym (rolls-InQuery x negated query)) ∙ ap (λ f. f p) (at_layer (Expression-F.InQuery x negated query))

pub facts-like : (x : Node Expression) (negated : Bool) (word : Matching) (y : Node Expression) (p : Place) → expression_facts (e.Like x negated word y) p ≡ expression_layer (layer_facts (Expression-F.Like x negated word y)) p
facts-like x negated word y p = ap (λ x. expression_facts x p) (sym (rolls-Like x negated word y)) ∙ ap (λ f. f p) (at_layer (Expression-F.Like x negated word y))

pub facts-compared : (x : Node Expression) (by : Comparison) (y : Node Expression) (p : Place) → expression_facts (e.Compared x by y) p ≡ expression_layer (layer_facts (Expression-F.Compared x by y)) p
facts-compared x by y p = ap (λ x. expression_facts x p) (sym (rolls-Compared x by y)) ∙ ap (λ f. f p) (at_layer (Expression-F.Compared x by y))

pub facts-any_array : (x : Node Expression) (by : Operator) (word : Quantifier) (y : Node Expression) (p : Place) → expression_facts (e.AnyArray x by word y) p ≡ expression_layer (layer_facts (Expression-F.AnyArray x by word y)) p
facts-any_array x by word y p = ap (λ x. expression_facts x p) (sym (rolls-AnyArray x by word y)) ∙ ap (λ f. f p) (at_layer (Expression-F.AnyArray x by word y))

pub facts-any_query : (x : Node Expression) (by : Operator) (word : Quantifier) (query : Query) (p : Place) → expression_facts (e.AnyQuery x by word query) p ≡ expression_layer (layer_facts (Expression-F.AnyQuery x by word query)) p
facts-any_query x by word query p = ap (λ x. expression_facts x p) (sym (rolls-AnyQuery x by word query)) ∙ ap (λ f. f p) (at_layer (Expression-F.AnyQuery x by word query))

pub facts-tested : (x : Node Expression) (test : Test) (p : Place) → expression_facts (e.Tested x test) p ≡ expression_layer (layer_facts (Expression-F.Tested x test)) p
facts-tested x test p = ap (λ x. expression_facts x p) (sym (rolls-Tested x test)) ∙ ap (λ f. f p) (at_layer (Expression-F.Tested x test))

pub facts-distinct : (x : Node Expression) (negated : Bool) (y : Node Expression) (p : Place) → expression_facts (e.Distinct x negated y) p ≡ expression_layer (layer_facts (Expression-F.Distinct x negated y)) p
facts-distinct x negated y p = ap (λ x. expression_facts x p) (sym (rolls-Distinct x negated y)) ∙ ap (λ f. f p) (at_layer (Expression-F.Distinct x negated y))

pub facts-not : (places : List Place) (x : Node Expression) (p : Place) → expression_facts (e.Not places x) p ≡ expression_layer (layer_facts (Expression-F.Not places x)) p
facts-not places x p = ap (λ x. expression_facts x p) (sym (rolls-Not places x)) ∙ ap (λ f. f p) (at_layer (Expression-F.Not places x))

pub facts-and : (x : Node Expression) (links : List (Joint (Node Expression))) (p : Place) → expression_facts (e.And x links) p ≡ expression_layer (layer_facts (Expression-F.And x links)) p
facts-and x links p = ap (λ x. expression_facts x p) (sym (rolls-And x links)) ∙ ap (λ f. f p) (at_layer (Expression-F.And x links))

pub facts-or : (x : Node Expression) (links : List (Joint (Node Expression))) (p : Place) → expression_facts (e.Or x links) p ≡ expression_layer (layer_facts (Expression-F.Or x links)) p
facts-or x links p = ap (λ x. expression_facts x p) (sym (rolls-Or x links)) ∙ ap (λ f. f p) (at_layer (Expression-F.Or x links))
