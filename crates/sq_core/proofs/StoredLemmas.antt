-- The SELECT of one column gives what is stored.
use Rattle.std.proofs.Common.{◌≡◌, ℕ, Bool, true, false, if◌then◌else◌, List, [], ◌∷◌, map, flat_map, Option, Some, None, slice_get, unwrap_or, refl, ap, subst, ◌∙◌, option_map}
use Rattle.std.proofs.lemmas.Option.{slice_get-map}
use Rattle.std.specs.List.{AllByRecursion}
use Rattle.std.specs.Prelude.{IsSomeAnd}
use Rattle.sq_base.specs.declared.types.PgType.{PgType}
use Rattle.sq_catalog.specs.Contents.{Contents}
use Rattle.sq_catalog.specs.declared.table.Column.{Column as TableColumn}
use Rattle.sq_catalog.specs.declared.table.Table.{Table as CatalogTable}
use Rattle.sq_core.specs.declared.node.Node.{Node, Row_of-Node, end_of-Node, more_of-Node, items-the_row-Node, items_hidden-the_row-Node-0}
use Rattle.sq_core.specs.declared.node.Node.TheBlock as block
use Rattle.sq_core.specs.declared.node.Node.TheVariants.{Column}
use Rattle.sq_core.specs.declared.node.Query.TheVariants.{Select as SelectQuery}
use Rattle.sq_core.specs.declared.node.Source.{Source, Row_of-Source, end_of-Source, more_of-Source, items-the_row-Source, items_hidden-the_row-Source-2}
use Rattle.sq_core.specs.declared.node.Source.TheVariants.{Table}
use Rattle.sq_core.specs.declared.routine.Manner.{Manner}
use Rattle.sq_shown.specs.declared.signature.Param.{Param}
use Rattle.sq_core.specs.Answer.{Gives, ◌>>=◌, go_on, pure, stuck, all_of}
use Rattle.sq_core.specs.Frames.{Answered, Drawn, Frame, One, Joined, Setting, enter, one_row, no_rows, both_rows, nulls}
use Rattle.sq_core.specs.Items.{Item, Run, found}
use Rattle.sq_core.specs.Joins.{kept, crossed}
use Rattle.sq_core.specs.Laws.{value_in, GivesStored, HasColumn}
use Rattle.sq_core.specs.Operations.{Meaning, evaluate, expect}
use Rattle.sq_core.specs.Queries.{alone, arranged_by, Rows, frames_of, stored, nothing_drawn, drawn_all, own_rows, own_groups, with_all, beside, selected}
use Rattle.sq_core.specs.Run.{node_run, node_runs, query_run, source_run, source_runs}
use Rattle.sq_core.specs.Statements.{outermost}
use Rattle.sq_core.specs.Values.{Value, Null, Row, Database, DatabaseFits, kind, Fits, RowsFit, fits, tag, Tag, column_kind, table_kinds}
use Rattle.sq_core.proofs.FrameLemmas.{Leads, get_leads}
use Rattle.sq_core.proofs.ValueLemmas.{fits_tag}

module _ (contents : Contents) (params : List Param) (database : Database) (arguments : List Value) where
  runs-items : (n : _) (row : Row_of-Node n) → node_runs contents params database arguments row ≡ map (node_run contents params database arguments) (items-the_row-Node n row)
  runs-items _ end_of-Node = refl
  runs-items _ (more_of-Node node rest) = ap (λ ms. node_run contents params database arguments node ∷ ms) (runs-items _ rest)

  pub runs-hidden : (nodes : List Node) → node_runs contents params database arguments (block.hidden-the_row-Node-0 nodes) ≡ map (node_run contents params database arguments) nodes
  runs-hidden nodes = runs-items _ (block.hidden-the_row-Node-0 nodes) ∙ ap (map (node_run contents params database arguments)) (items_hidden-the_row-Node-0 nodes)

  sources-items : (n : _) (row : Row_of-Source n) → source_runs contents params database arguments row ≡ map (source_run contents params database arguments) (items-the_row-Source n row)
  sources-items _ end_of-Source = refl
  sources-items _ (more_of-Source source rest) = ap (λ ms. source_run contents params database arguments source ∷ ms) (sources-items _ rest)

  sources-hidden : (from : List Source) → source_runs contents params database arguments (block.hidden-the_row-Source-2 from) ≡ map (source_run contents params database arguments) from
  sources-hidden from = sources-items _ (block.hidden-the_row-Source-2 from) ∙ ap (map (source_run contents params database arguments)) (items_hidden-the_row-Source-2 from)

  -- the run of a SELECT over lists
  pub query_run-Select : (manner : Manner) (from : List Source) (conditions groups having outputs keys : List Node) (setting : Setting) → query_run contents params database arguments (SelectQuery manner from conditions groups having outputs keys) setting
      ≡ drawn_all (map (source_run contents params database arguments) from) setting
      >>= selected manner (map (node_run contents params database arguments) conditions) (map (node_run contents params database arguments) groups) (map (node_run contents params database arguments) having)
      (map (node_run contents params database arguments) outputs) (map (node_run contents params database arguments) keys) setting
  query_run-Select manner from conditions groups having outputs keys setting = λ i. drawn_all (sources-hidden from i) setting
      >>= selected manner (runs-hidden conditions i) (runs-hidden groups i) (runs-hidden having i) (runs-hidden outputs i) (runs-hidden keys i) setting

-- without a condition all are kept
kept_none : {A : Type 0} (place : A → Setting) (xs : List A) (oracle : List Item) → kept [] place xs oracle ≡ Gives xs oracle
kept_none place [] oracle = refl
kept_none place (x ∷ xs) oracle = ap (λ answer. go_on answer (λ rest. pure (x ∷ rest))) (kept_none place xs oracle)

crossed_alone : (rows : List Row) → flat_map (λ l. map (λ r. both_rows l r []) (no_rows ∷ [])) (map one_row rows) ≡ map one_row rows
crossed_alone [] = refl
crossed_alone (row ∷ rows) = ap (λ rest. one_row row ∷ rest) (crossed_alone rows)

-- the frames of rows with all rows beside them
frames_beside : (all : List Joined) (groups : List (List Joined)) (rows : List Row) → map (with_all all groups) (map (λ joined. One joined []) (map one_row rows)) ≡ map (λ row. One (one_row row) all) rows
frames_beside all groups [] = refl
frames_beside all groups (row ∷ rows) = ap (λ frames. One (one_row row) all ∷ frames) (frames_beside all groups rows)

-- a value that is there and has the tag
abbrev IsHeld : Tag → Option Value → Type 0
IsHeld of value = IsSomeAnd value (λ v. Fits (kind of true) v)

held_given : (of : Tag) (value : Option Value) (oracle : List Item) → IsHeld of value → (found value >>= expect of) oracle ≡ Gives (unwrap_or value Null) oracle
held_given of (Some v) oracle held = tested (fits (kind of true) v) held
  where
    tested : (b : Bool) → b ≡ true → (if b then pure v else stuck) oracle ≡ Gives v oracle
    tested true holds = refl
    tested false holds = cc
held_given of None oracle held = absurd held

-- one value for each row
values_given : (of : Tag) (column : ℕ) (rows : List Row) (oracle : List Item) → AllByRecursion (λ row. IsHeld of (slice_get row column)) rows
    → all_of (map (λ row. all_of ((found (slice_get row column) >>= expect of) ∷ [])) rows) oracle ≡ Gives (map (λ row. value_in column row ∷ []) rows) oracle
values_given of column [] oracle held = refl
values_given of column (row ∷ rows) oracle held =
    ap (λ answer. go_on (go_on answer (λ a. all_of [] >>= (λ rest. pure (a ∷ rest)))) (λ a. all_of (map (λ row. all_of ((found (slice_get row column) >>= expect of) ∷ [])) rows) >>= (λ rest. pure (a ∷ rest)))) (held_given of (slice_get row column) oracle held.0)
    ∙ ap (λ answer. go_on answer (λ rest. pure ((value_in column row ∷ []) ∷ rest))) (values_given of column rows oracle held.1)

module _ (contents : Contents) (database : Database) (table column : ℕ) (of : PgType) where
  -- the column's run
  abbrev column_run : Meaning
  column_run = node_run contents [] database [] (Column (record { depth = 0; range = 0; column = column }) of)

  -- the same for the frames of the rows
  frames_given : (all : List Joined) (rows : List Row) (oracle : List Item) → AllByRecursion (λ row. IsHeld (tag contents of) (slice_get row column)) rows
      → all_of (map (λ frame. evaluate (column_run ∷ []) (enter outermost frame)) (map (λ row. One (one_row row) all) rows)) oracle ≡ Gives (map (λ row. value_in column row ∷ []) rows) oracle
  frames_given all rows oracle held = ap (λ runs. all_of runs oracle) (same rows) ∙ values_given (tag contents of) column rows oracle held
    where
      same : (rows : List Row) → map (λ frame. evaluate (column_run ∷ []) (enter outermost frame)) (map (λ row. One (one_row row) all) rows) ≡ map (λ row. all_of ((found (slice_get row column) >>= expect (tag contents of)) ∷ [])) rows
      same [] = refl
      same (row ∷ rows) = ap (λ rest. all_of ((found (slice_get row column) >>= expect (tag contents of)) ∷ []) ∷ rest) (same rows)

  no_keys : (frames : List Frame) (oracle : List Item) → all_of (map (λ frame. evaluate [] (enter outermost frame)) frames) oracle ≡ Gives (map (λ frame. []) frames) oracle
  no_keys [] oracle = refl
  no_keys (frame ∷ frames) oracle = ap (λ answer. go_on answer (λ rest. pure ([] ∷ rest))) (no_keys frames oracle)

  abbrev plain : Manner
  plain = record { grouped = false; distinct = false; ordered = false }

  -- what is left after WHERE
  abbrev rest_of_select : List Joined → Run Answered
  rest_of_select rows = kept [] (enter outermost) (map (λ row. One row []) rows)
      >>= (λ frames. all_of (map (λ frame. evaluate (column_run ∷ []) (enter outermost frame)) (beside frames))
      >>= (λ answers. all_of (map (λ frame. evaluate [] (enter outermost frame)) (beside frames))
      >>= (λ values. arranged_by plain answers >>= (λ rows. pure (record { blank = nulls (column_run ∷ []); rows = rows })))))

  abbrev after_having : List Frame → Run Answered
  after_having frames = all_of (map (λ frame. evaluate (column_run ∷ []) (enter outermost frame)) (beside frames))
      >>= (λ answers. all_of (map (λ frame. evaluate [] (enter outermost frame)) (beside frames))
      >>= (λ values. arranged_by plain answers >>= (λ rows. pure (record { blank = nulls (column_run ∷ []); rows = rows }))))

  abbrev stored_rows : List Row → Answered
  stored_rows rows = record { blank = Null ∷ []; rows = map (λ row. value_in column row ∷ []) rows }

  outputs_given : (rows : List Row) (oracle : List Item) → AllByRecursion (λ row. IsHeld (tag contents of) (slice_get row column)) rows
      → after_having (map (λ joined. One joined []) (map one_row rows)) oracle ≡ Gives (stored_rows rows) oracle
  outputs_given rows oracle held =
      let frames : List Frame = map (λ joined. One joined []) (map one_row rows) in
      let whole : List Frame = beside frames in
      let same : whole ≡ map (λ row. One (one_row row) (own_rows frames)) rows = frames_beside (own_rows frames) (own_groups frames) rows in
      ap (λ fs. go_on (all_of (map (λ frame. evaluate (column_run ∷ []) (enter outermost frame)) fs) oracle) (λ answers. all_of (map (λ frame. evaluate [] (enter outermost frame)) whole)
      >>= (λ values. arranged_by plain answers >>= (λ rows. pure (record { blank = nulls (column_run ∷ []); rows = rows }))))) same
      ∙ ap (λ answer. go_on answer (λ answers. all_of (map (λ frame. evaluate [] (enter outermost frame)) whole)
      >>= (λ values. arranged_by plain answers >>= (λ rows. pure (record { blank = nulls (column_run ∷ []); rows = rows }))))) (frames_given (own_rows frames) rows oracle held)
      ∙ ap (λ answer. go_on answer (λ values. arranged_by plain (map (λ row. value_in column row ∷ []) rows) >>= (λ rows. pure (record { blank = nulls (column_run ∷ []); rows = rows })))) (no_keys whole oracle)

  selected_given : (blank : Joined) (rows : List Row) (oracle : List Item) → AllByRecursion (λ row. IsHeld (tag contents of) (slice_get row column)) rows
      → selected plain [] [] [] (column_run ∷ []) [] outermost (record { blank = blank; rows = map one_row rows }) oracle ≡ Gives (stored_rows rows) oracle
  selected_given blank rows oracle held =
      ap (λ answer. go_on (go_on (go_on answer (frames_of Rows [] outermost)) (kept [] (enter outermost))) after_having) (kept_none (λ row. enter outermost (One row [])) (map one_row rows) oracle)
      ∙ ap (λ answer. go_on answer after_having) (kept_none (enter outermost) (map (λ joined. One joined []) (map one_row rows)) oracle)
      ∙ outputs_given rows oracle held

  -- the rows of a table hold the column
  rows_hold : (t : CatalogTable) (rows : List Row) → IsSomeAnd (slice_get t.columns column) (λ c. c.of ≡ of) → RowsFit (table_kinds contents t) rows → AllByRecursion (λ row. IsHeld (tag contents of) (slice_get row column)) rows
  rows_hold t [] has fit = tt
  rows_hold t (row ∷ rows) has fit = (row_holds (slice_get t.columns column) (slice_get row column) has leads, rows_hold t rows has fit.1)
    where
      leads : Leads Fits (option_map (column_kind contents) (slice_get t.columns column)) (slice_get row column)
      leads = subst (λ o. Leads Fits o (slice_get row column)) (slice_get-map (column_kind contents) t.columns column) (get_leads Fits (table_kinds contents t) row column fit.0)

      row_holds : (c : Option TableColumn) (v : Option Value) → IsSomeAnd c (λ c. c.of ≡ of) → Leads Fits (option_map (column_kind contents) c) v → IsHeld (tag contents of) v
      row_holds (Some c) (Some v) same fit = fits_tag (column_kind contents c) (tag contents of) v (ap (tag contents) same) fit
      row_holds (Some c) None same fit = absurd fit
      row_holds None v same fit = absurd same

  drawn_given : (t : Option CatalogTable) (found_rows : Option (List Row)) (rows : List Row) (oracle : List Item) → found_rows ≡ Some rows → IsSomeAnd t (λ t. IsSomeAnd (slice_get t.columns column) (λ c. c.of ≡ of))
      → Leads (λ t rows. RowsFit (table_kinds contents t) rows) t found_rows
      → (found found_rows >>= (λ rows. pure (alone (stored t rows))) >>= (λ left. pure (crossed left nothing_drawn)) >>= selected plain [] [] [] (column_run ∷ []) [] outermost) oracle ≡ Gives (stored_rows rows) oracle
  drawn_given (Some t) (Some own) rows oracle same has fit =
      let equal : own ≡ rows = ap (λ o. unwrap_or o []) same in
      let drawn : Drawn = crossed (alone (stored (Some t) own)) nothing_drawn in
      ap (λ js. selected plain [] [] [] (column_run ∷ []) [] outermost (record { blank = drawn.blank; rows = js }) oracle) (crossed_alone own)
      ∙ selected_given drawn.blank own oracle (rows_hold t own has fit)
      ∙ ap (λ rs. Gives (stored_rows rs) oracle) equal
  drawn_given (Some t) None rows oracle same has fit = absurd fit
  drawn_given None found_rows rows oracle same has fit = absurd has

  query_given : (rows : List Row) (oracle : List Item) → DatabaseFits contents database → slice_get database table ≡ Some rows → HasColumn contents table column of
      → query_run contents [] database [] (SelectQuery plain (Table table ∷ []) [] [] [] (Column (record { depth = 0; range = 0; column = column }) of ∷ []) []) outermost oracle ≡ Gives (stored_rows rows) oracle
  query_given rows oracle fitting same has =
      (λ i. query_run-Select contents [] database [] plain (Table table ∷ []) [] [] [] (Column (record { depth = 0; range = 0; column = column }) of ∷ []) [] outermost i oracle)
      ∙ tables (slice_get contents.tables table) (slice_get database table)
      ∙ drawn_given (slice_get contents.tables table) (slice_get database table) rows oracle same has (get_leads (λ t rows. RowsFit (table_kinds contents t) rows) contents.tables database table fitting)
    where
      tables : (t : Option CatalogTable) (own : Option (List Row))
          → (found own >>= (λ rows. pure (alone (stored t rows))) >>= (λ left. drawn_all [] outermost >>= (λ right. pure (crossed left right))) >>= selected plain [] [] [] (column_run ∷ []) [] outermost) oracle
          ≡ (found own >>= (λ rows. pure (alone (stored t rows))) >>= (λ left. pure (crossed left nothing_drawn)) >>= selected plain [] [] [] (column_run ∷ []) [] outermost) oracle
      tables t (Some own) = refl
      tables t None = refl

pub column_stored : (contents : Contents) (database : Database) (table column : ℕ) (of : PgType) (rows : List Row) → DatabaseFits contents database → slice_get database table ≡ Some rows → HasColumn contents table column of
    → GivesStored contents database table column of rows
column_stored contents database table column of rows fitting same has language oracle =
    ap (λ answer. go_on answer (λ (answered : Answered). pure (record { rows = answered.rows; database = database }))) (query_given contents database table column of rows oracle fitting same has)
