-- Every source and every join is of one of these kinds, and what its facts are.
use Rattle.std.proofs.Common.{◌≡◌, List, [], ◌∷◌, ◌++◌, Option, sym, ap, subst, ◌∙◌, map}
use Rattle.sq_base.specs.declared.place.Place.{Place}
use Rattle.sq_syntax.specs.declared.symbol.Symbol.TheVariants as s
use Rattle.sq_syntax.specs.declared.name.Identifier.{Identifier}
use Rattle.sq_syntax.specs.declared.name.QualifiedName.{QualifiedName}
use Rattle.sq_syntax.specs.declared.expr.Node.{Node}
use Rattle.sq_syntax.specs.declared.expr.Expression.TheFolds.{fold-roll-Join, fold-roll-Source, fold-roll-From}
use Rattle.sq_syntax.specs.declared.expr.Expression.TheViews.{roll-out-Join, roll-out-Source, roll-out-From, rolls-Table, rolls-Derived, rolls-Grouped, rolls-Cross, rolls-Matched}
use Rattle.sq_syntax.specs.declared.expr.Expression.TheOpen.{Join-F, Source-F}
use Rattle.sq_syntax.specs.declared.query.Alias.{Alias}
use Rattle.sq_syntax.specs.declared.query.From.{From, roll-From, out-From}
use Rattle.sq_syntax.specs.declared.query.Join.{Join, roll-Join, out-Join}
use Rattle.sq_syntax.specs.declared.query.Join.TheVariants as join_kind
use Rattle.sq_syntax.specs.declared.query.JoinKind.{JoinKind}
use Rattle.sq_syntax.specs.declared.query.Matched.TheVariants as matched
use Rattle.sq_syntax.specs.declared.query.Query.{Query}
use Rattle.sq_syntax.specs.declared.query.Source.{Source, roll-Source, out-Source}
use Rattle.sq_syntax.specs.declared.query.Source.TheVariants as source_kind
use Rattle.sq_syntax.specs.Facts.{Facts}
use Rattle.sq_syntax.specs.Pieces as p
use Rattle.sq_syntax.specs.Pieces.{Placed, sym as word, at}
use Rattle.sq_syntax.specs.ExpressionPieces.{expression_layer}
use Rattle.sq_syntax.specs.QueryPieces as f
use Rattle.sq_syntax.specs.QueryPieces.{source_layer, join_layer, from_layer, select_layer, factor_layer, query_layer}
use Rattle.sq_syntax.specs.Grammar.{expression_facts, factor_facts, join_facts, source_facts, from_facts, query_facts, select_facts}
use Rattle.sq_grammar.specs.Levels.{Expr}
use Rattle.sq_grammar.proofs.Layers.{JoinLayer, SourceLayer, FromLayer, join_parts, source_parts, from_parts}
use Rattle.sq_grammar.proofs.Lists.{facts_of}

abbrev pub source_node : Node Source → Node Facts
source_node x = record { place = x.place; first = x.first; last = x.last; form = source_facts x.form }

-- ---- sources

pub data SourceShape : Source → Type 0 where
  table : (x : QualifiedName) (called : Option Alias) → SourceShape (source_kind.Table x called)
  derived : (x : Query) (called : Alias) → SourceShape (source_kind.Derived x called)
  grouped : (x : From) → SourceShape (source_kind.Grouped x)

layer_source : (l : SourceLayer) → SourceShape (roll-Source l)
layer_source (Source-F.Table x called) = subst SourceShape (sym (rolls-Table x called)) (SourceShape.table x called)
layer_source (Source-F.Derived x called) = subst SourceShape (sym (rolls-Derived x called)) (SourceShape.derived x called)
layer_source (Source-F.Grouped x) = subst SourceShape (sym (rolls-Grouped x)) (SourceShape.grouped x)

pub source_shape : (x : Source) → SourceShape x
source_shape x = subst SourceShape (roll-out-Source x) (layer_source (out-Source x))

source_at : (l : SourceLayer) → source_facts (roll-Source l) ≡ source_layer (source_parts l)
unfolding expression_facts factor_facts join_facts source_facts from_facts query_facts select_facts
source_at l = fold-roll-Source Placed Facts Facts Facts Facts Facts Facts expression_layer factor_layer join_layer source_layer from_layer query_layer select_layer l

pub table_facts : (x : QualifiedName) (called : Option Alias) → source_facts (source_kind.Table x called) ≡ f.whole_facts (p.qualified_name x ++ f.optional_alias called)
table_facts x called = ap source_facts (sym (rolls-Table x called)) ∙ source_at (Source-F.Table x called)

pub derived_facts : (x : Query) (called : Alias) → source_facts (source_kind.Derived x called) ≡ f.whole_facts (word s.Open ∷ p.whole (query_facts x) ∷ word s.Close ∷ f.alias called)
derived_facts x called = ap source_facts (sym (rolls-Derived x called)) ∙ source_at (Source-F.Derived x called)

pub grouped_facts : (x : From) → source_facts (source_kind.Grouped x) ≡ f.whole_facts (word s.Open ∷ p.whole (from_facts x) ∷ word s.Close ∷ [])
grouped_facts x = ap source_facts (sym (rolls-Grouped x)) ∙ source_at (Source-F.Grouped x)

-- ---- joins

pub data JoinShape : Join → Type 0 where
  cross : (place : Place) (x : Node Source) → JoinShape (join_kind.Cross place x)
  on : (place : Place) (kind : JoinKind) (x : Node Source) (by : Expr) → JoinShape (join_kind.Matched place kind x (matched.On by))
  using : (place : Place) (kind : JoinKind) (x : Node Source) (by : List Identifier) → JoinShape (join_kind.Matched place kind x (matched.Using by))

layer_join : (l : JoinLayer) → JoinShape (roll-Join l)
layer_join (Join-F.Cross place x) = subst JoinShape (sym (rolls-Cross place x)) (JoinShape.cross place x)
layer_join (Join-F.Matched place kind x (matched.On by)) = subst JoinShape (sym (rolls-Matched place kind x (matched.On by))) (JoinShape.on place kind x by)
layer_join (Join-F.Matched place kind x (matched.Using by)) = subst JoinShape (sym (rolls-Matched place kind x (matched.Using by))) (JoinShape.using place kind x by)

pub join_shape : (x : Join) → JoinShape x
join_shape x = subst JoinShape (roll-out-Join x) (layer_join (out-Join x))

join_at : (l : JoinLayer) → join_facts (roll-Join l) ≡ join_layer (join_parts l)
unfolding expression_facts factor_facts join_facts source_facts from_facts query_facts select_facts
join_at l = fold-roll-Join Placed Facts Facts Facts Facts Facts Facts expression_layer factor_layer join_layer source_layer from_layer query_layer select_layer l

pub cross_facts : (place : Place) (x : Node Source) → join_facts (join_kind.Cross place x) ≡ f.whole_facts (at place ∷ word s.Cross ∷ word s.Join ∷ p.whole (f.begun (source_node x)) ∷ [])
cross_facts place x = ap join_facts (sym (rolls-Cross place x)) ∙ join_at (Join-F.Cross place x)

pub on_facts : (place : Place) (kind : JoinKind) (x : Node Source) (by : Expr)
    → join_facts (join_kind.Matched place kind x (matched.On by)) ≡ f.whole_facts (at place ∷ f.join_words kind ++ p.whole (f.begun (source_node x)) ∷ f.join_condition (matched.On (facts_of by)))
on_facts place kind x by = ap join_facts (sym (rolls-Matched place kind x (matched.On by))) ∙ join_at (Join-F.Matched place kind x (matched.On by))

pub using_facts : (place : Place) (kind : JoinKind) (x : Node Source) (by : List Identifier)
    → join_facts (join_kind.Matched place kind x (matched.Using by)) ≡ f.whole_facts (at place ∷ f.join_words kind ++ p.whole (f.begun (source_node x)) ∷ f.join_condition (matched.Using by))
using_facts place kind x by = ap join_facts (sym (rolls-Matched place kind x (matched.Using by))) ∙ join_at (Join-F.Matched place kind x (matched.Using by))

-- ---- items of FROM

abbrev pub from_of : Node Source → List Join → From
from_of x joins = roll-From (record { source = x; joins = joins })

pub data FromShape : From → Type 0 where
  joined : (x : Node Source) (joins : List Join) → FromShape (from_of x joins)

layer_from : (l : FromLayer) → FromShape (roll-From l)
layer_from l = FromShape.joined l.source l.joins

pub from_shape : (x : From) → FromShape x
from_shape x = subst FromShape (roll-out-From x) (layer_from (out-From x))

from_at : (l : FromLayer) → from_facts (roll-From l) ≡ from_layer (from_parts l)
unfolding expression_facts factor_facts join_facts source_facts from_facts query_facts select_facts
from_at l = fold-roll-From Placed Facts Facts Facts Facts Facts Facts expression_layer factor_layer join_layer source_layer from_layer query_layer select_layer l

pub joined_facts : (x : Node Source) (joins : List Join) → from_facts (from_of x joins) ≡ f.whole_facts (p.whole (f.begun (source_node x)) ∷ map p.whole (map join_facts joins))
joined_facts x joins = from_at (record { source = x; joins = joins })
