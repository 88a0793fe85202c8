-- Tokens nest as deep as the statement that they spell.
use Rattle.std.proofs.Common.{◌≡◌, ℕ, Bool, true, false, List, [], ◌∷◌, ◌++◌, Option, Some, None, refl, ap, ◌∙◌, map}
use Rattle.std.specs.Prelude.{max, flat_map, codes}
use Rattle.sq_syntax.specs.declared.symbol.Symbol.{Symbol}
use Rattle.sq_syntax.specs.declared.symbol.Symbol.TheVariants as s
use Rattle.sq_syntax.specs.declared.name.Identifier.{Identifier}
use Rattle.sq_syntax.specs.declared.name.QualifiedName.{QualifiedName}
use Rattle.sq_syntax.specs.declared.expr.Node.{Node}
use Rattle.sq_syntax.specs.declared.query.From.{From}
use Rattle.sq_syntax.specs.declared.query.Label.{Label}
use Rattle.sq_syntax.specs.declared.query.Label.TheVariants as label
use Rattle.sq_syntax.specs.declared.query.Materialized.{Materialized}
use Rattle.sq_syntax.specs.declared.query.Materialized.TheVariants as materialized
use Rattle.sq_syntax.specs.declared.query.Output.{Output}
use Rattle.sq_syntax.specs.declared.query.Output.TheVariants as output
use Rattle.sq_syntax.specs.declared.query.Query.{Query}
use Rattle.sq_syntax.specs.declared.query.With.{With}
use Rattle.sq_syntax.specs.declared.statement.Assignment.{Assignment}
use Rattle.sq_syntax.specs.declared.statement.Conflict.{Conflict}
use Rattle.sq_syntax.specs.declared.statement.Conflict.TheVariants as conflict_kind
use Rattle.sq_syntax.specs.declared.statement.ConflictTarget.{ConflictTarget}
use Rattle.sq_syntax.specs.declared.statement.ConflictTarget.TheVariants as target_kind
use Rattle.sq_syntax.specs.declared.statement.Delete.{Delete}
use Rattle.sq_syntax.specs.declared.statement.Given.{Given}
use Rattle.sq_syntax.specs.declared.statement.Given.TheVariants as given_kind
use Rattle.sq_syntax.specs.declared.statement.Insert.{Insert}
use Rattle.sq_syntax.specs.declared.statement.InsertSource.{InsertSource}
use Rattle.sq_syntax.specs.declared.statement.InsertSource.TheVariants as source_kind
use Rattle.sq_syntax.specs.declared.statement.Statement.{Statement}
use Rattle.sq_syntax.specs.declared.statement.Statement.TheVariants as statement_kind
use Rattle.sq_syntax.specs.declared.statement.TableAlias.{TableAlias}
use Rattle.sq_syntax.specs.declared.statement.Update.{Update}
use Rattle.sq_syntax.specs.declared.statement.ValuesRow.{ValuesRow}
use Rattle.sq_syntax.specs.declared.token.Token.{Token}
use Rattle.sq_base.specs.declared.place.Place.{Place}
use Rattle.sq_syntax.specs.Facts.{Mark, Piece, from, marks_of, all_hold, readings, turn, opens, depth_before, deepest}
use Rattle.sq_syntax.specs.Pieces as p
use Rattle.sq_syntax.specs.Pieces.{sym as word, at}
use Rattle.sq_syntax.specs.QueryPieces as f
use Rattle.sq_syntax.specs.Grammar.{query_facts, from_facts, nesting_depth}
use Rattle.sq_syntax.specs.Statements as c
use Rattle.sq_syntax.specs.Statements.{word as key_word, changed, statement_facts, IsStatement}
use Rattle.sq_grammar.specs.Levels.{Expr}
use Rattle.sq_grammar.proofs.Runs.{both}
use Rattle.sq_grammar.proofs.Complete.{only_if-from}
use Rattle.sq_grammar.proofs.Walks.{from_zero, depth_split}
use Rattle.sq_grammar.proofs.Nesting.{NestsAsDeep, tree_nests, from_nests, query_nests, lexemes_depth, along_depth, max_zero}

-- each part of these pieces nests as deep as it says
abbrev Deep : List Piece → Type 0
Deep [] = Unit {0}
Deep (Piece.mark m ∷ pieces) = Deep pieces
Deep (Piece.need holds ∷ pieces) = Deep pieces
Deep (Piece.part least x ∷ pieces) = NestsAsDeep x × Deep pieces

pieces_nest : (pieces : List Piece) → Deep pieces → all_hold pieces ≡ true → (n : ℕ) → depth_before (readings (marks_of pieces)) n ≡ deepest pieces n
pieces_nest [] d h n = refl
pieces_nest (Piece.mark (Mark.says r) ∷ pieces) d h n = ap (opens (turn r)) (pieces_nest pieces d h n)
pieces_nest (Piece.mark (Mark.stands_at place) ∷ pieces) d h n = pieces_nest pieces d h n
pieces_nest (Piece.mark (Mark.begins i) ∷ pieces) d h n = pieces_nest pieces d h n
pieces_nest (Piece.mark (Mark.ends i) ∷ pieces) d h n = pieces_nest pieces d h n
pieces_nest (Piece.need holds ∷ pieces) d h n = pieces_nest pieces d (both holds (all_hold pieces) h).1 n
pieces_nest (Piece.part least x ∷ pieces) d h n =
    let b = both (from least x.level) (all_hold pieces) h in
    depth_split x.marks (marks_of pieces) n ∙ d.0 (from_zero least x.level b.0) (depth_before (readings (marks_of pieces)) n) ∙ ap (λ m. max x.depth m) (pieces_nest pieces d.1 b.1 n)

also : (a b : List Piece) → Deep a → Deep b → Deep (a ++ b)
also [] b d e = e
also (Piece.mark m ∷ a) b d e = also a b d e
also (Piece.need holds ∷ a) b d e = also a b d e
also (Piece.part least x ∷ a) b d e = (d.0, also a b d.1 e)

-- ---- lists

more_deep : {A : Type 0} (pieces : A → List Piece) → ((x : A) → Deep (pieces x)) → (xs : List A) → Deep (flat_map (λ (item : List Piece). word s.Comma ∷ item) (map pieces xs))
more_deep pieces d [] = tt
more_deep pieces d (x ∷ xs) = also (word s.Comma ∷ pieces x) (flat_map (λ (item : List Piece). word s.Comma ∷ item) (map pieces xs)) (d x) (more_deep pieces d xs)

listed_deep : {A : Type 0} (pieces : A → List Piece) → ((x : A) → Deep (pieces x)) → (xs : List A) → Deep (p.listed (map pieces xs))
listed_deep pieces d [] = tt
listed_deep pieces d (x ∷ xs) = also (pieces x) (flat_map (λ (item : List Piece). word s.Comma ∷ item) (map pieces xs)) (d x) (more_deep pieces d xs)

-- ---- names

qualified_deep : (x : QualifiedName) → Deep (p.qualified_name x)
qualified_deep x = by_schema x.schema
  where
    by_schema : (schema : Option Identifier) → Deep (p.schema_name schema ++ p.name x.name)
    by_schema None = tt
    by_schema (Some y) = tt

names_deep : (xs : List Identifier) → Deep (p.names xs)
names_deep xs = listed_deep p.name (λ x. tt) xs

bracketed_deep : (xs : List Identifier) → Deep (p.bracketed_names xs)
bracketed_deep [] = tt
bracketed_deep (x ∷ xs) = also (word s.Open ∷ p.names (x ∷ xs)) (word s.Close ∷ []) (names_deep (x ∷ xs)) tt

as_name_deep : (x : Option Identifier) → Deep (c.as_name x)
as_name_deep None = tt
as_name_deep (Some x) = tt

alias_deep : (x : Option TableAlias) → Deep (c.table_alias x)
alias_deep None = tt
alias_deep (Some x) = by_as x.has_as x.name
  where
    by_as : (has_as : Bool) (y : Identifier) → Deep (c.table_alias (Some (record { has_as = has_as; name = y })))
    by_as true y = tt
    by_as false y = tt

-- ---- clauses

materialized_deep : (x : Materialized) → Deep (f.materialized_words x)
materialized_deep materialized.Unsaid = tt
materialized_deep materialized.Yes = tt
materialized_deep materialized.No = tt

with_deep : (x : With Query) → Deep (f.with_query (c.with_facts x))
with_deep x =
    let named = also (p.name x.name) (p.bracketed_names x.columns) tt (bracketed_deep x.columns) in
    let words = also (p.name x.name ++ p.bracketed_names x.columns) (word s.As ∷ f.materialized_words x.materialized) named (materialized_deep x.materialized) in
    also (p.name x.name ++ p.bracketed_names x.columns ++ word s.As ∷ f.materialized_words x.materialized) (word s.Open ∷ p.whole (query_facts x.query) ∷ word s.Close ∷ []) words (query_nests x.query, tt)

more_withs_deep : (xs : List (With Query)) → Deep (flat_map (λ (item : List Piece). word s.Comma ∷ item) (map f.with_query (map c.with_facts xs)))
more_withs_deep [] = tt
more_withs_deep (x ∷ xs) = also (word s.Comma ∷ f.with_query (c.with_facts x)) (flat_map (λ (item : List Piece). word s.Comma ∷ item) (map f.with_query (map c.with_facts xs))) (with_deep x) (more_withs_deep xs)

withs_deep : (xs : List (With Query)) → Deep (f.with_queries (map c.with_facts xs))
withs_deep [] = tt
withs_deep (x ∷ xs) = also (word s.With ∷ f.with_query (c.with_facts x)) (flat_map (λ (item : List Piece). word s.Comma ∷ item) (map f.with_query (map c.with_facts xs))) (with_deep x) (more_withs_deep xs)

condition_deep : (x : Option Expr) → Deep (c.condition x)
condition_deep None = tt
condition_deep (Some x) = (tree_nests x, tt)

label_deep : (x : Label) → Deep (f.output_label x)
label_deep label.Unsaid = tt
label_deep (label.As x) = tt
label_deep (label.Bare x) = tt

shown_deep : (x : Output Expr) → Deep (f.shown (c.output_form x))
shown_deep output.Star = tt
shown_deep (output.StarOf x) = tt
shown_deep (output.Value x y) = (tree_nests x, label_deep y)

output_deep : (x : Node (Output Expr)) → Deep (f.output_pieces (c.output_facts x))
output_deep x = also (Piece.mark (Mark.begins x.first) ∷ at x.place ∷ f.shown (c.output_form x.form)) (Piece.mark (Mark.ends x.last) ∷ []) (shown_deep x.form) tt

returning_deep : (xs : List (Node (Output Expr))) → Deep (c.returning xs)
returning_deep [] = tt
returning_deep (x ∷ xs) = listed_deep (λ y. f.output_pieces (c.output_facts y)) output_deep (x ∷ xs)

sources_deep : (before : Symbol) (xs : List From) → Deep (c.sources before xs)
sources_deep before [] = tt
sources_deep before (x ∷ xs) = listed_deep (λ y. p.whole (from_facts y) ∷ []) (λ y. (from_nests y, tt)) (x ∷ xs)

-- ---- what columns get

given_deep : (x : Given) → Deep (c.given x)
given_deep (given_kind.Default place) = tt
given_deep (given_kind.Expression x) = (tree_nests x, tt)

row_deep : (x : ValuesRow) → Deep (c.values_row x)
row_deep x = also (at x.place ∷ word s.Open ∷ p.some x.values ∷ p.listed (map c.given x.values)) (word s.Close ∷ []) (listed_deep c.given given_deep x.values) tt

source_deep : (x : InsertSource) → Deep (c.source x)
source_deep (source_kind.Values xs) = listed_deep c.values_row row_deep xs
source_deep (source_kind.Query x) = (query_nests x, tt)
source_deep source_kind.DefaultValues = tt

assignment_deep : (x : Assignment) → Deep (c.assignment x)
assignment_deep x = also (p.name x.column) (word s.Equal ∷ c.given x.value) tt (given_deep x.value)

assignments_deep : (xs : List Assignment) → Deep (c.assignments xs)
assignments_deep xs = listed_deep c.assignment assignment_deep xs

target_deep : (x : ConflictTarget) → Deep (c.conflict_target x)
target_deep (target_kind.Columns xs x) = also (word s.Open ∷ p.some xs ∷ p.names xs) (word s.Close ∷ c.condition x) (names_deep xs) (condition_deep x)
target_deep (target_kind.Constraint x) = tt

optional_deep : (x : Option ConflictTarget) → Deep (c.optional_target x)
optional_deep None = tt
optional_deep (Some x) = target_deep x

conflict_deep : (x : Option Conflict) → Deep (c.conflict x)
conflict_deep None = tt
conflict_deep (Some (conflict_kind.Nothing place x)) =
    also (at place ∷ word s.On ∷ key_word (codes "conflict") ∷ c.optional_target x) (key_word (codes "do") ∷ key_word (codes "nothing") ∷ []) (optional_deep x) tt
conflict_deep (Some (conflict_kind.Update place x sets y)) =
    let front = at place ∷ word s.On ∷ key_word (codes "conflict") ∷ c.conflict_target x in
    let action = key_word (codes "do") ∷ word s.Update ∷ c.assignments sets in
    also (front ++ action) (c.condition y) (also (front) (action) (target_deep x) (assignments_deep sets)) (condition_deep y)

-- ---- statements

insert_deep : (x : Insert) → Deep (c.insert_pieces x)
insert_deep x =
    let a = f.with_queries (map c.with_facts x.with) in
    let b = key_word (codes "insert") ∷ key_word (codes "into") ∷ p.qualified_name x.table in
    let n = c.as_name x.alias in
    let l = p.bracketed_names x.columns in
    let o = c.source x.source in
    let g = c.conflict x.conflict in
    let r = c.returning x.returning in
    also (a ++ b ++ n ++ l ++ o ++ g) r
    (also (a ++ b ++ n ++ l ++ o) g
    (also (a ++ b ++ n ++ l) o
    (also (a ++ b ++ n) l (also (a ++ b) n (also a b (withs_deep x.with) (qualified_deep x.table)) (as_name_deep x.alias)) (bracketed_deep x.columns))
    (source_deep x.source)) (conflict_deep x.conflict)) (returning_deep x.returning)

update_deep : (x : Update) → Deep (c.update_pieces x)
update_deep x =
    let a = f.with_queries (map c.with_facts x.with) in
    let b = word s.Update ∷ p.qualified_name x.table in
    let n = Piece.need (c.leaves_set x.alias) ∷ c.table_alias x.alias in
    let l = c.assignments x.sets in
    let o = c.sources s.From x.from in
    let g = c.condition x.condition in
    let r = c.returning x.returning in
    also (a ++ b ++ n ++ l ++ o ++ g) r
    (also (a ++ b ++ n ++ l ++ o) g
    (also (a ++ b ++ n ++ l) o
    (also (a ++ b ++ n) l (also (a ++ b) n (also a b (withs_deep x.with) (qualified_deep x.table)) (alias_deep x.alias)) (assignments_deep x.sets))
    (sources_deep s.From x.from)) (condition_deep x.condition)) (returning_deep x.returning)

delete_deep : (x : Delete) → Deep (c.delete_pieces x)
delete_deep x =
    let a = f.with_queries (map c.with_facts x.with) in
    let b = key_word (codes "delete") ∷ word s.From ∷ p.qualified_name x.table in
    let n = c.table_alias x.alias in
    let o = c.sources s.Using x.using in
    let g = c.condition x.condition in
    let r = c.returning x.returning in
    also (a ++ b ++ n ++ o ++ g) r
    (also (a ++ b ++ n ++ o) g
    (also (a ++ b ++ n) o (also (a ++ b) n (also a b (withs_deep x.with) (qualified_deep x.table)) (alias_deep x.alias)) (sources_deep s.Using x.using))
    (condition_deep x.condition)) (returning_deep x.returning)

changed_nests : (place : Place) (first last : ℕ) (pieces : List Piece) → Deep pieces → from 0 (changed place first last pieces).level ≡ true → depth_before (readings (changed place first last pieces).marks) 0 ≡ (changed place first last pieces).depth
changed_nests place first last pieces d h =
    depth_split (marks_of (at place ∷ pieces)) (Mark.ends last ∷ []) 0 ∙ pieces_nest (at place ∷ pieces) d (only_if-from (all_hold (at place ∷ pieces)) 0 0 h) 0

statement_nests : (x : Statement) → from 0 (statement_facts x).level ≡ true → depth_before (readings (statement_facts x).marks) 0 ≡ (statement_facts x).depth
statement_nests (statement_kind.Query x) h = query_nests x h 0 ∙ max_zero (query_facts x).depth
statement_nests (statement_kind.Insert x) h = changed_nests x.place x.first x.last (c.insert_pieces x) (insert_deep x) h
statement_nests (statement_kind.Update x) h = changed_nests x.place x.first x.last (c.update_pieces x) (update_deep x) h
statement_nests (statement_kind.Delete x) h = changed_nests x.place x.first x.last (c.delete_pieces x) (delete_deep x) h

pub statement_depth : (tokens : List Token) (x : Statement) → IsStatement tokens x → nesting_depth tokens ≡ (statement_facts x).depth
statement_depth tokens x h = lexemes_depth tokens 0 ∙ along_depth (statement_facts x).marks _ _ h.0 0 ∙ statement_nests x h.1
