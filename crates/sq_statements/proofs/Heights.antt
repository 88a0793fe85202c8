-- The height of a statement is the greatest of its parts.
use Rattle.std.proofs.Common.{◌≡◌, ℕ, zero, suc, ◌+◌, ◌<◌, Bool, true, false, List, [], ◌∷◌, ◌++◌, Option, Some, None, refl, ap, ◌∙◌, arith, map, take, get_or, length}
use Rattle.std.specs.Prelude.{codes, flat_map, if◌then◌else◌, max}
use Rattle.sq_base.specs.declared.place.Place.{Place}
use Rattle.sq_syntax.specs.declared.symbol.Symbol.{Symbol}
use Rattle.sq_syntax.specs.declared.symbol.Symbol.TheVariants as s
use Rattle.sq_syntax.specs.declared.name.Identifier.{Identifier}
use Rattle.sq_syntax.specs.declared.expr.Node.{Node}
use Rattle.sq_syntax.specs.declared.expr.Expression.{Expression}
use Rattle.sq_syntax.specs.declared.query.From.{From}
use Rattle.sq_syntax.specs.declared.query.Label.{Label}
use Rattle.sq_syntax.specs.declared.query.Label.TheVariants as label
use Rattle.sq_syntax.specs.declared.query.Materialized.{Materialized}
use Rattle.sq_syntax.specs.declared.query.Materialized.TheVariants as materialized
use Rattle.sq_syntax.specs.declared.query.Output.{Output}
use Rattle.sq_syntax.specs.declared.query.Output.TheVariants as output
use Rattle.sq_syntax.specs.declared.query.Query.{Query}
use Rattle.sq_syntax.specs.declared.query.With.{With}
use Rattle.sq_syntax.specs.declared.statement.Assignment.{Assignment}
use Rattle.sq_syntax.specs.declared.statement.Conflict.{Conflict}
use Rattle.sq_syntax.specs.declared.statement.Conflict.TheVariants as conflict_kind
use Rattle.sq_syntax.specs.declared.statement.ConflictTarget.{ConflictTarget}
use Rattle.sq_syntax.specs.declared.statement.ConflictTarget.TheVariants as target
use Rattle.sq_syntax.specs.declared.statement.Delete.{Delete}
use Rattle.sq_syntax.specs.declared.statement.Given.{Given}
use Rattle.sq_syntax.specs.declared.statement.Given.TheVariants as given_kind
use Rattle.sq_syntax.specs.declared.statement.Insert.{Insert}
use Rattle.sq_syntax.specs.declared.statement.InsertSource.{InsertSource}
use Rattle.sq_syntax.specs.declared.statement.InsertSource.TheVariants as source_kind
use Rattle.sq_syntax.specs.declared.statement.Statement.TheVariants as statement
use Rattle.sq_syntax.specs.declared.statement.TableAlias.{TableAlias}
use Rattle.sq_syntax.specs.declared.statement.Update.{Update}
use Rattle.sq_syntax.specs.declared.statement.ValuesRow.{ValuesRow}
use Rattle.sq_syntax.specs.Facts.{Mark, Piece, highest}
use Rattle.sq_syntax.specs.Grammar.{from_facts, from_height}
use Rattle.sq_syntax.specs.Pieces as p
use Rattle.sq_syntax.specs.Pieces.{Pieces, sym as word, listed, whole}
use Rattle.sq_syntax.specs.QueryPieces as q
use Rattle.sq_syntax.specs.Statements as st
use Rattle.sq_measures.proofs.Weights.{Weighs, nil, whole_weight}
use Rattle.sq_measures.proofs.WeightNames as names
use Rattle.sq_statements.specs.Heights.{greatest, given_height, row_height, source_height, assignment_height, condition_height, target_height, optional_target_height, conflict_height, with_height, output_height, shown_height, insert_height, update_height, delete_height}

-- ---- turns

pub one_more : {A : Type 0} (of : A → ℕ) (xs : List A) (i : ℕ) (x : A) → i < length xs → x ≡ get_or xs i x → greatest of (take (i + 1) xs) ≡ max (greatest of (take i xs)) (of x)
one_more of [] i x less is = absurd (omega (arith, less))
one_more of (y ∷ xs) zero x less is = omega (arith, ap of is)
one_more of (y ∷ xs) (suc i) x less is =
    let next : suc i + 1 ≡ suc (i + 1) = omega arith in
    rw next (omega (arith, one_more of xs i x (omega (arith, less)) is))

-- ---- pieces

joined : (a b : Pieces) → highest (a ++ b) ≡ max (highest a) (highest b)
joined [] b = omega arith
joined (Piece.mark m ∷ a) b = joined a b
joined (Piece.need holds ∷ a) b = joined a b
joined (Piece.part least x ∷ a) b = omega (arith, joined a b)

-- pieces in which no part stands
flat : {a : Pieces} → Weighs a [] → highest a ≡ 0
flat {a} w = whole_weight a [] w (λ y. y.height)

before : {a : Pieces} (b : Pieces) → Weighs a [] → highest (a ++ b) ≡ highest b
before {a} b w = omega (arith, joined a b, flat w)

module _ {A : Type 0} (pieces : A → Pieces) (height : A → ℕ) (one : (x : A) → highest (pieces x) ≡ height x) where
  others : (xs : List A) → highest (flat_map (λ item. word s.Comma ∷ item) (map pieces xs)) ≡ greatest height xs
  others [] = refl
  others (x ∷ xs) = omega (arith, joined (pieces x) (flat_map (λ item. word s.Comma ∷ item) (map pieces xs)), one x, others xs)

  items : (xs : List A) → highest (listed (map pieces xs)) ≡ greatest height xs
  items [] = refl
  items (x ∷ xs) = omega (arith, joined (pieces x) (flat_map (λ item. word s.Comma ∷ item) (map pieces xs)), one x, others xs)

-- ---- what columns get

given : (x : Given) → highest (st.given x) ≡ given_height x
given (given_kind.Default place) = refl
given (given_kind.Expression x) = omega arith

values_row : (x : ValuesRow) → highest (st.values_row x) ≡ row_height x
values_row x = omega (arith, joined (listed (map st.given x.values)) (word s.Close ∷ []), items st.given given_height given x.values)

source : (x : InsertSource) → highest (st.source x) ≡ source_height x
source (source_kind.Values rows) = items st.values_row row_height values_row rows
source (source_kind.Query x) = omega arith
source source_kind.DefaultValues = refl

assignment : (x : Assignment) → highest (st.assignment x) ≡ assignment_height x
assignment x = before (word s.Equal ∷ st.given x.value) (names.name x.column) ∙ given x.value

assignments : (xs : List Assignment) → highest (st.assignments xs) ≡ greatest assignment_height xs
assignments xs = items st.assignment assignment_height assignment xs

-- ---- clauses

condition : (x : Option (Node Expression)) → highest (st.condition x) ≡ condition_height x
condition None = refl
condition (Some x) = omega arith

conflict_target : (x : ConflictTarget) → highest (st.conflict_target x) ≡ target_height x
conflict_target (target.Columns xs x) = before (word s.Close ∷ st.condition x) (names.names xs) ∙ condition x
conflict_target (target.Constraint x) = flat (names.name x)

optional_target : (x : Option ConflictTarget) → highest (st.optional_target x) ≡ optional_target_height x
optional_target None = refl
optional_target (Some x) = conflict_target x

conflict : (x : Option Conflict) → highest (st.conflict x) ≡ conflict_height x
conflict None = refl
conflict (Some (conflict_kind.Nothing place x)) =
    omega (arith, joined (st.optional_target x) (st.word (codes "do") ∷ st.word (codes "nothing") ∷ []), optional_target x)
conflict (Some (conflict_kind.Update place x sets y)) =
    let target = p.at place ∷ word s.On ∷ st.word (codes "conflict") ∷ st.conflict_target x in
    let action = st.word (codes "do") ∷ word s.Update ∷ st.assignments sets in
    omega (arith, joined (target ++ action) (st.condition y), joined target action, conflict_target x, assignments sets, condition y)

from : (before : Symbol) (xs : List From) → highest (st.sources before xs) ≡ greatest from_height xs
from before [] = refl
from before (x ∷ xs) = items (λ y. whole (from_facts y) ∷ []) from_height (λ y. omega arith) (x ∷ xs)

label_words : (x : Label) → highest (q.output_label x) ≡ 0
label_words label.Unsaid = refl
label_words (label.As x) = flat (names.name x)
label_words (label.Bare x) = flat (names.bare_name x)

shown : (x : Output (Node Expression)) → highest (q.shown (st.output_form x)) ≡ output_height x
shown output.Star = refl
shown (output.StarOf x) = before (word s.Dot ∷ word s.Times ∷ []) (names.name x)
shown (output.Value x last) = omega (arith, label_words last)

output_pieces : (x : Node (Output (Node Expression))) → highest (q.output_pieces (st.output_facts x)) ≡ shown_height x
output_pieces x = omega (arith, joined (q.shown (st.output_form x.form)) (Piece.mark (Mark.ends x.last) ∷ []), shown x.form)

returning : (xs : List (Node (Output (Node Expression)))) → highest (st.returning xs) ≡ greatest shown_height xs
returning [] = refl
returning (x ∷ xs) = items (λ y. q.output_pieces (st.output_facts y)) shown_height output_pieces (x ∷ xs)

-- ---- WITH

materialized_words : (x : Materialized) → highest (q.materialized_words x) ≡ 0
materialized_words materialized.Unsaid = refl
materialized_words materialized.Yes = refl
materialized_words materialized.No = refl

with_query : (x : With Query) → highest (q.with_query (st.with_facts x)) ≡ with_height x
with_query x =
    let called = p.name x.name ++ p.bracketed_names x.columns in
    let words = called ++ word s.As ∷ q.materialized_words x.materialized in
    omega (
      arith,
      joined words (word s.Open ∷ whole (st.with_facts x).query ∷ word s.Close ∷ []),
      joined called (word s.As ∷ q.materialized_words x.materialized),
      joined (p.name x.name) (p.bracketed_names x.columns),
      flat (names.name x.name),
      flat (names.bracketed_names x.columns),
      materialized_words x.materialized,
    )

map_twice : {A B C : Type 0} (f : B → C) (g : A → B) (xs : List A) → map f (map g xs) ≡ map (λ x. f (g x)) xs
map_twice f g [] = refl
map_twice f g (x ∷ xs) = ap (λ ys. f (g x) ∷ ys) (map_twice f g xs)

with_queries : (xs : List (With Query)) → highest (q.with_queries (map st.with_facts xs)) ≡ greatest with_height xs
with_queries [] = refl
with_queries (x ∷ xs) = ap (λ ps. highest (listed ps)) (map_twice q.with_query st.with_facts (x ∷ xs)) ∙ items (λ y. q.with_query (st.with_facts y)) with_height with_query (x ∷ xs)

-- ---- names of the changed table

as_name : (x : Option Identifier) → Weighs (st.as_name x) []
as_name None = nil
as_name (Some x) = names.says s.As (names.name x)

alias_name : (x : Identifier) (c : Bool) → Weighs (if c then word s.As ∷ p.name x else p.bare_name x) []
alias_name x true = names.says s.As (names.name x)
alias_name x false = names.bare_name x

table_alias : (x : Option TableAlias) → Weighs (st.table_alias x) []
table_alias None = nil
table_alias (Some x) = alias_name x.name x.has_as

-- ---- statements

behind : (place : Place) (a : Pieces) → highest (p.at place ∷ a) ≡ highest a
behind place a = refl

pub insert_is : (x : Insert) → st.statement_height (statement.Insert x) ≡ insert_height x
insert_is x =
    let into = st.word (codes "insert") ∷ st.word (codes "into") ∷ p.qualified_name x.table in
    let table = q.with_queries (map st.with_facts x.with) ++ into in
    let called = table ++ st.as_name x.alias in
    let columns = called ++ p.bracketed_names x.columns in
    let given = columns ++ st.source x.source in
    let acted = given ++ st.conflict x.conflict in
    omega (
      arith,
      behind x.place (acted ++ st.returning x.returning),
      joined acted (st.returning x.returning),
      joined given (st.conflict x.conflict),
      joined columns (st.source x.source),
      joined called (p.bracketed_names x.columns),
      joined table (st.as_name x.alias),
      joined (q.with_queries (map st.with_facts x.with)) into,
      flat (names.qualified x.table),
      flat (as_name x.alias),
      flat (names.bracketed_names x.columns),
      with_queries x.with,
      source x.source,
      conflict x.conflict,
      returning x.returning,
    )

pub update_is : (x : Update) → st.statement_height (statement.Update x) ≡ update_height x
update_is x =
    let of = word s.Update ∷ p.qualified_name x.table in
    let table = q.with_queries (map st.with_facts x.with) ++ of in
    let called = table ++ Piece.need (st.leaves_set x.alias) ∷ st.table_alias x.alias in
    let set = called ++ st.assignments x.sets in
    let sourced = set ++ st.sources s.From x.from in
    let held = sourced ++ st.condition x.condition in
    omega (
      arith,
      behind x.place (held ++ st.returning x.returning),
      joined held (st.returning x.returning),
      joined sourced (st.condition x.condition),
      joined set (st.sources s.From x.from),
      joined called (st.assignments x.sets),
      joined table (Piece.need (st.leaves_set x.alias) ∷ st.table_alias x.alias),
      joined (q.with_queries (map st.with_facts x.with)) of,
      flat (names.qualified x.table),
      flat (table_alias x.alias),
      with_queries x.with,
      assignments x.sets,
      from s.From x.from,
      condition x.condition,
      returning x.returning,
    )

pub delete_is : (x : Delete) → st.statement_height (statement.Delete x) ≡ delete_height x
delete_is x =
    let of = st.word (codes "delete") ∷ word s.From ∷ p.qualified_name x.table in
    let table = q.with_queries (map st.with_facts x.with) ++ of in
    let called = table ++ st.table_alias x.alias in
    let sourced = called ++ st.sources s.Using x.using in
    let held = sourced ++ st.condition x.condition in
    omega (
      arith,
      behind x.place (held ++ st.returning x.returning),
      joined held (st.returning x.returning),
      joined sourced (st.condition x.condition),
      joined called (st.sources s.Using x.using),
      joined table (st.table_alias x.alias),
      joined (q.with_queries (map st.with_facts x.with)) of,
      flat (names.qualified x.table),
      flat (table_alias x.alias),
      with_queries x.with,
      from s.Using x.using,
      condition x.condition,
      returning x.returning,
    )
