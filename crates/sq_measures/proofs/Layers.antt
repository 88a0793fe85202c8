-- The facts of each kind of tree, by those of its parts.
use Rattle.std.proofs.Common.{◌≡◌}
use Rattle.sq_syntax.specs.declared.expr.Expression.{Expression, out-Expression}
use Rattle.sq_syntax.specs.declared.expr.Expression.TheFolds.{fold_out-Expression, fold_out-Factor, fold_out-Join, fold_out-Source, fold_out-From, fold_out-Query, fold_out-Select, map-Expression, map-Factor, map-Join, map-Source, map-From, map-Query, map-Select}
use Rattle.sq_syntax.specs.declared.expr.Expression.TheOpen.{Expression-F, Factor-F, Join-F, Source-F, From-F, Query-F, Select-F}
use Rattle.sq_syntax.specs.declared.query.Factor.{Factor, out-Factor}
use Rattle.sq_syntax.specs.declared.query.Join.{Join, out-Join}
use Rattle.sq_syntax.specs.declared.query.Source.{Source, out-Source}
use Rattle.sq_syntax.specs.declared.query.From.{From, out-From}
use Rattle.sq_syntax.specs.declared.query.Query.{Query, out-Query}
use Rattle.sq_syntax.specs.declared.query.Select.{Select, out-Select}
use Rattle.sq_syntax.specs.Facts.{Facts}
use Rattle.sq_syntax.specs.Pieces.{Placed}
use Rattle.sq_syntax.specs.ExpressionPieces.{expression_layer}
use Rattle.sq_syntax.specs.QueryPieces.{source_layer, join_layer, from_layer, select_layer, factor_layer, query_layer}
use Rattle.sq_syntax.specs.Grammar.{expression_facts, factor_facts, join_facts, source_facts, from_facts, query_facts, select_facts}

abbrev pub ExpressionLayer : Type 0
ExpressionLayer = Expression-F Expression Factor Join Source From Query Select

abbrev pub expression_parts : ExpressionLayer → Expression-F Placed Facts Facts Facts Facts Facts Facts
expression_parts = map-Expression Expression Factor Join Source From Query Select Placed Facts Facts Facts Facts Facts Facts expression_facts factor_facts join_facts source_facts from_facts query_facts select_facts

pub expression_out : (x : Expression) → expression_facts x ≡ expression_layer (expression_parts (out-Expression x))
unfolding expression_facts factor_facts join_facts source_facts from_facts query_facts select_facts
expression_out x = fold_out-Expression Placed Facts Facts Facts Facts Facts Facts expression_layer factor_layer join_layer source_layer from_layer query_layer select_layer x

abbrev pub FactorLayer : Type 0
FactorLayer = Factor-F Expression Factor Join Source From Query Select

abbrev pub factor_parts : FactorLayer → Factor-F Placed Facts Facts Facts Facts Facts Facts
factor_parts = map-Factor Expression Factor Join Source From Query Select Placed Facts Facts Facts Facts Facts Facts expression_facts factor_facts join_facts source_facts from_facts query_facts select_facts

pub factor_out : (x : Factor) → factor_facts x ≡ factor_layer (factor_parts (out-Factor x))
unfolding expression_facts factor_facts join_facts source_facts from_facts query_facts select_facts
factor_out x = fold_out-Factor Placed Facts Facts Facts Facts Facts Facts expression_layer factor_layer join_layer source_layer from_layer query_layer select_layer x

abbrev pub JoinLayer : Type 0
JoinLayer = Join-F Expression Factor Join Source From Query Select

abbrev pub join_parts : JoinLayer → Join-F Placed Facts Facts Facts Facts Facts Facts
join_parts = map-Join Expression Factor Join Source From Query Select Placed Facts Facts Facts Facts Facts Facts expression_facts factor_facts join_facts source_facts from_facts query_facts select_facts

pub join_out : (x : Join) → join_facts x ≡ join_layer (join_parts (out-Join x))
unfolding expression_facts factor_facts join_facts source_facts from_facts query_facts select_facts
join_out x = fold_out-Join Placed Facts Facts Facts Facts Facts Facts expression_layer factor_layer join_layer source_layer from_layer query_layer select_layer x

abbrev pub SourceLayer : Type 0
SourceLayer = Source-F Expression Factor Join Source From Query Select

abbrev pub source_parts : SourceLayer → Source-F Placed Facts Facts Facts Facts Facts Facts
source_parts = map-Source Expression Factor Join Source From Query Select Placed Facts Facts Facts Facts Facts Facts expression_facts factor_facts join_facts source_facts from_facts query_facts select_facts

pub source_out : (x : Source) → source_facts x ≡ source_layer (source_parts (out-Source x))
unfolding expression_facts factor_facts join_facts source_facts from_facts query_facts select_facts
source_out x = fold_out-Source Placed Facts Facts Facts Facts Facts Facts expression_layer factor_layer join_layer source_layer from_layer query_layer select_layer x

abbrev pub FromLayer : Type 0
FromLayer = From-F Expression Factor Join Source From Query Select

abbrev pub from_parts : FromLayer → From-F Placed Facts Facts Facts Facts Facts Facts
from_parts = map-From Expression Factor Join Source From Query Select Placed Facts Facts Facts Facts Facts Facts expression_facts factor_facts join_facts source_facts from_facts query_facts select_facts

pub from_out : (x : From) → from_facts x ≡ from_layer (from_parts (out-From x))
unfolding expression_facts factor_facts join_facts source_facts from_facts query_facts select_facts
from_out x = fold_out-From Placed Facts Facts Facts Facts Facts Facts expression_layer factor_layer join_layer source_layer from_layer query_layer select_layer x

abbrev pub QueryLayer : Type 0
QueryLayer = Query-F Expression Factor Join Source From Query Select

abbrev pub query_parts : QueryLayer → Query-F Placed Facts Facts Facts Facts Facts Facts
query_parts = map-Query Expression Factor Join Source From Query Select Placed Facts Facts Facts Facts Facts Facts expression_facts factor_facts join_facts source_facts from_facts query_facts select_facts

pub query_out : (x : Query) → query_facts x ≡ query_layer (query_parts (out-Query x))
unfolding expression_facts factor_facts join_facts source_facts from_facts query_facts select_facts
query_out x = fold_out-Query Placed Facts Facts Facts Facts Facts Facts expression_layer factor_layer join_layer source_layer from_layer query_layer select_layer x

abbrev pub SelectLayer : Type 0
SelectLayer = Select-F Expression Factor Join Source From Query Select

abbrev pub select_parts : SelectLayer → Select-F Placed Facts Facts Facts Facts Facts Facts
select_parts = map-Select Expression Factor Join Source From Query Select Placed Facts Facts Facts Facts Facts Facts expression_facts factor_facts join_facts source_facts from_facts query_facts select_facts

pub select_out : (x : Select) → select_facts x ≡ select_layer (select_parts (out-Select x))
unfolding expression_facts factor_facts join_facts source_facts from_facts query_facts select_facts
select_out x = fold_out-Select Placed Facts Facts Facts Facts Facts Facts expression_layer factor_layer join_layer source_layer from_layer query_layer select_layer x
