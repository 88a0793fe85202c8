-- The grammar of queries (PostgreSQL manual, SELECT): the pieces of each production.
use Rattle.std.specs.Prelude.{Bool, true, false, not, if◌then◌else◌, List, [], ◌∷◌, ◌++◌, map, flat_map, Option, Some, None}
use Rattle.sq_syntax.specs.declared.symbol.Symbol.{Symbol}
use Rattle.sq_syntax.specs.declared.symbol.Symbol.TheVariants as s
use Rattle.sq_syntax.specs.declared.name.Identifier.{Identifier}
use Rattle.sq_syntax.specs.declared.expr.Node.{Node}
use Rattle.sq_syntax.specs.declared.expr.Expression.TheOpen.{Factor-F, Join-F, Source-F, From-F, Query-F, Select-F}
use Rattle.sq_syntax.specs.declared.query.With.{With}
use Rattle.sq_syntax.specs.declared.query.Materialized.{Materialized}
use Rattle.sq_syntax.specs.declared.query.Materialized.TheVariants as materialized
use Rattle.sq_syntax.specs.declared.query.Operands.{Operands}
use Rattle.sq_syntax.specs.declared.query.SetLink.{SetLink}
use Rattle.sq_syntax.specs.declared.query.SetOperation.{SetOperation}
use Rattle.sq_syntax.specs.declared.query.SetOperation.TheVariants as set_operation
use Rattle.sq_syntax.specs.declared.query.Quantity.{Quantity}
use Rattle.sq_syntax.specs.declared.query.Quantity.TheVariants as quantity
use Rattle.sq_syntax.specs.declared.query.Distinctness.{Distinctness}
use Rattle.sq_syntax.specs.declared.query.Distinctness.TheVariants as distinctness
use Rattle.sq_syntax.specs.declared.query.Output.{Output}
use Rattle.sq_syntax.specs.declared.query.Output.TheVariants as output
use Rattle.sq_syntax.specs.declared.query.Label.{Label}
use Rattle.sq_syntax.specs.declared.query.Label.TheVariants as label
use Rattle.sq_syntax.specs.declared.query.JoinKind.{JoinKind}
use Rattle.sq_syntax.specs.declared.query.JoinKind.TheVariants as join_kind
use Rattle.sq_syntax.specs.declared.query.Matched.{Matched}
use Rattle.sq_syntax.specs.declared.query.Matched.TheVariants as matched
use Rattle.sq_syntax.specs.declared.query.Alias.{Alias}
use Rattle.sq_syntax.specs.declared.query.Limit.{Limit}
use Rattle.sq_syntax.specs.declared.query.Limit.TheVariants as limit
use Rattle.sq_syntax.specs.declared.query.Offset.{Offset}
use Rattle.sq_syntax.specs.declared.query.RowWord.{RowWord}
use Rattle.sq_syntax.specs.declared.query.RowWord.TheVariants as row_word
use Rattle.sq_syntax.specs.declared.query.Lock.{Lock}
use Rattle.sq_syntax.specs.declared.query.Strength.{Strength}
use Rattle.sq_syntax.specs.declared.query.Strength.TheVariants as strength
use Rattle.sq_syntax.specs.declared.query.Waiting.{Waiting}
use Rattle.sq_syntax.specs.declared.query.Waiting.TheVariants as waiting
use Rattle.sq_syntax.specs.Facts.{Mark, Facts, Piece, built, numbered}
use Rattle.sq_syntax.specs.Pieces.{Pieces, sym, at, some, listed, Placed, Operand, part, whole, list, name, bare_name, names, bracketed_names, qualified_name}
use Rattle.sq_syntax.specs.ExpressionPieces.{order}

-- ---- sources and joins

abbrev pub whole_facts : Pieces → Facts
whole_facts pieces = built 0 0 pieces

-- a part whose place is that of its first token
abbrev pub begun : Node Facts → Facts
begun x = numbered x.first x.last (whole_facts (at x.place ∷ whole x.form ∷ []))

abbrev pub alias : Alias → Pieces
alias x = (if x.has_as then sym s.As ∷ name x.name else bare_name x.name) ++ bracketed_names x.columns

abbrev pub optional_alias : Option Alias → Pieces
optional_alias None = []
optional_alias (Some x) = alias x

abbrev pub source_layer : Source-F Placed Facts Facts Facts Facts Facts Facts → Facts
source_layer (Source-F.Table x called) = whole_facts (qualified_name x ++ optional_alias called)
source_layer (Source-F.Derived query called) = whole_facts (sym s.Open ∷ whole query ∷ sym s.Close ∷ alias called)
source_layer (Source-F.Grouped x) = whole_facts (sym s.Open ∷ whole x ∷ sym s.Close ∷ [])

abbrev pub join_words : JoinKind → Pieces
join_words join_kind.Unsaid = sym s.Join ∷ []
join_words join_kind.Inner = sym s.Inner ∷ sym s.Join ∷ []
join_words join_kind.Left = sym s.Left ∷ sym s.Join ∷ []
join_words join_kind.LeftOuter = sym s.Left ∷ sym s.Outer ∷ sym s.Join ∷ []
join_words join_kind.Right = sym s.Right ∷ sym s.Join ∷ []
join_words join_kind.RightOuter = sym s.Right ∷ sym s.Outer ∷ sym s.Join ∷ []
join_words join_kind.Full = sym s.Full ∷ sym s.Join ∷ []
join_words join_kind.FullOuter = sym s.Full ∷ sym s.Outer ∷ sym s.Join ∷ []

abbrev pub join_condition : Matched Operand → Pieces
join_condition (matched.On x) = sym s.On ∷ part 0 x ∷ []
join_condition (matched.Using xs) = sym s.Using ∷ sym s.Open ∷ some xs ∷ names xs ++ sym s.Close ∷ []

abbrev pub join_layer : Join-F Placed Facts Facts Facts Facts Facts Facts → Facts
join_layer (Join-F.Cross place x) = whole_facts (at place ∷ sym s.Cross ∷ sym s.Join ∷ whole (begun x) ∷ [])
join_layer (Join-F.Matched place kind x by) = whole_facts (at place ∷ join_words kind ++ whole (begun x) ∷ join_condition by)

abbrev pub from_layer : From-F Placed Facts Facts Facts Facts Facts Facts → Facts
from_layer x = whole_facts (whole (begun x.source) ∷ map whole x.joins)

-- ---- queries

abbrev pub output_label : Label → Pieces
output_label label.Unsaid = []
output_label (label.As x) = sym s.As ∷ name x
output_label (label.Bare x) = bare_name x

abbrev pub shown : Output Operand → Pieces
shown output.Star = sym s.Times ∷ []
shown (output.StarOf x) = name x ++ sym s.Dot ∷ sym s.Times ∷ []
shown (output.Value x last) = part 0 x ∷ output_label last

abbrev pub output_pieces : Node (Output Operand) → Pieces
output_pieces x = Piece.mark (Mark.begins x.first) ∷ at x.place ∷ shown x.form ++ Piece.mark (Mark.ends x.last) ∷ []

abbrev pub distinct_words : Distinctness Operand → Pieces
distinct_words distinctness.Unsaid = []
distinct_words distinctness.All = sym s.All ∷ []
distinct_words distinctness.Distinct = sym s.Distinct ∷ []
distinct_words (distinctness.On xs) = sym s.Distinct ∷ sym s.On ∷ sym s.Open ∷ some xs ∷ list xs ++ sym s.Close ∷ []

abbrev pub from : List Facts → Pieces
from [] = []
from (x ∷ xs) = sym s.From ∷ listed (map (λ y. whole y ∷ []) (x ∷ xs))

-- a word and an expression, where there is one
abbrev pub optional : Symbol → Option Operand → Pieces
optional word None = []
optional word (Some x) = sym word ∷ part 0 x ∷ []

abbrev pub group : List Operand → Pieces
group [] = []
group (x ∷ xs) = sym s.Group ∷ sym s.By ∷ list (x ∷ xs)

abbrev pub select_layer : Select-F Placed Facts Facts Facts Facts Facts Facts → Facts
select_layer x = whole_facts (sym s.Select ∷ distinct_words x.distinct ++ some x.outputs ∷ listed (map output_pieces x.outputs) ++ from x.from ++ optional s.Where x.condition ++ group x.group ++ optional s.Having x.having)

abbrev pub factor_layer : Factor-F Placed Facts Facts Facts Facts Facts Facts → Facts
factor_layer (Factor-F.Core x) = whole_facts (whole x ∷ [])
factor_layer (Factor-F.Nested x) = whole_facts (sym s.Open ∷ whole x ∷ sym s.Close ∷ [])

abbrev pub set_symbol : SetOperation → Symbol
set_symbol set_operation.Union = s.Union
set_symbol set_operation.Except = s.Except
set_symbol set_operation.Intersect = s.Intersect

-- INTERSECT binds tighter
abbrev pub is_tight : SetOperation → Bool
is_tight set_operation.Intersect = true
is_tight _ = false

abbrev pub quantity_words : Quantity → Pieces
quantity_words quantity.Unsaid = []
quantity_words quantity.All = sym s.All ∷ []
quantity_words quantity.Distinct = sym s.Distinct ∷ []

abbrev pub set_link : {A : Type 0} → Bool → (A → Pieces) → SetLink A → Pieces
set_link tight pieces x = Piece.need (if tight then is_tight x.operation else not (is_tight x.operation)) ∷ at x.place ∷ sym (set_symbol x.operation) ∷ quantity_words x.quantity ++ pieces x.operand

abbrev pub operands : {A : Type 0} → Bool → (A → Pieces) → Operands A → Pieces
operands tight pieces x = pieces x.first ++ flat_map (set_link tight pieces) x.links

-- UNION and EXCEPT over INTERSECT
abbrev pub body : Operands (Operands Facts) → Pieces
body = operands false (operands true (λ x. whole x ∷ []))

abbrev pub materialized_words : Materialized → Pieces
materialized_words materialized.Unsaid = []
materialized_words materialized.Yes = sym s.Materialized ∷ []
materialized_words materialized.No = sym s.Not ∷ sym s.Materialized ∷ []

abbrev pub with_query : With Facts → Pieces
with_query x = name x.name ++ bracketed_names x.columns ++ sym s.As ∷ materialized_words x.materialized ++ sym s.Open ∷ whole x.query ∷ sym s.Close ∷ []

abbrev pub with_queries : List (With Facts) → Pieces
with_queries [] = []
with_queries (x ∷ xs) = sym s.With ∷ listed (map with_query (x ∷ xs))

abbrev pub limit_pieces : Option (Limit Operand) → Pieces
limit_pieces None = []
limit_pieces (Some limit.All) = sym s.Limit ∷ sym s.All ∷ []
limit_pieces (Some (limit.Count x)) = sym s.Limit ∷ part 0 x ∷ []

abbrev pub row_words : RowWord → Pieces
row_words row_word.Unsaid = []
row_words row_word.Row = sym s.Row ∷ []
row_words row_word.Rows = sym s.Rows ∷ []

abbrev pub offset : Option (Offset Operand) → Pieces
offset None = []
offset (Some x) = sym s.Offset ∷ part 0 x.count ∷ row_words x.word

abbrev pub strength_words : Strength → Pieces
strength_words strength.Update = sym s.Update ∷ []
strength_words strength.NoKeyUpdate = sym s.No ∷ sym s.Key ∷ sym s.Update ∷ []
strength_words strength.Share = sym s.Share ∷ []
strength_words strength.KeyShare = sym s.Key ∷ sym s.Share ∷ []

abbrev pub lock_names : List Identifier → Pieces
lock_names [] = []
lock_names (x ∷ xs) = sym s.Of ∷ names (x ∷ xs)

abbrev pub waiting_words : Waiting → Pieces
waiting_words waiting.Unsaid = []
waiting_words waiting.NoWait = sym s.NoWait ∷ []
waiting_words waiting.SkipLocked = sym s.Skip ∷ sym s.Locked ∷ []

abbrev pub lock : Lock → Pieces
lock x = sym s.For ∷ strength_words x.strength ++ lock_names x.of ++ waiting_words x.waiting

abbrev pub query_layer : Query-F Placed Facts Facts Facts Facts Facts Facts → Facts
query_layer x = numbered x.first x.last (whole_facts (at x.place ∷ with_queries x.with ++ body x.body ++ order x.order ++ limit_pieces x.limit ++ offset x.offset ++ flat_map lock x.locks))
