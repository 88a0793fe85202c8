-- What the files of a block say.
use Rattle.std.proofs.Common.{◌≡◌, ◌≢◌, ◌<◌, ◌^◌, ℕ, zero, suc, ◌&&◌, ◌==◌, true, false, List, [], ◌∷◌, ◌++◌, length, map, take, drop, nat_eq, nat_le, Option, None, Some, Ok, refl, sym, ◌∙◌, ap, subst, inl, inr, arith, slice_get}
use Rattle.std.specs.Prelude.{codes, find}
use Rattle.std.specs.Option.{option_map}
use Rattle.std.specs.List.{AllByRecursion, AllZip, list_all, list_any, flat_map}
use Rattle.std.proofs.lemmas.Bool.{cases_Bool, eq-eqb, eqb-true}
use Rattle.std.proofs.lemmas.List.{append-nil}
use Rattle.std.proofs.lemmas.Option.{same_Some}
use Rattle.sq_catalog.specs.Contents.{Contents}
use Rattle.sq_catalog.specs.Catalogue.{empty}
use Rattle.sq_catalog.specs.declared.table.Column.{Column as TableColumn}
use Rattle.sq_catalog.specs.declared.table.Table.{Table}
use Rattle.sq_core.specs.Answer.{Answer, Gives, Fault, Stuck, AnswerKeeps}
use Rattle.sq_shown.specs.Identifiers.{constant_name, model_identifier, package_name}
use Rattle.sq_shown.specs.Layout as layout
use Rattle.sq_shown.specs.Names.{clash, has_equal}
use Rattle.sq_core.specs.Changes.{Outcomes}
use Rattle.sq_core.specs.Client.{output_form}
use Rattle.sq_core.specs.Columns.{ArePrinted, Prints, ShowsColumns, select as select_core}
use Rattle.sq_core.specs.Forms.{Form}
use Rattle.sq_core.specs.declared.weak.Weak.{Weak}
use Rattle.sq_shown.specs.Signature.{fields, shown, shown_columns}
use Rattle.sq_core.specs.Sound.{IsTyped, NeverStuck, AnswerFits, run}
use Rattle.sq_shown.specs.Words.{is_word}
use Rattle.sq_shown.specs.declared.declaration.ModelDecl.{ModelDecl}
use Rattle.sq_shown.specs.declared.declaration.QueryFile.{QueryFile}
use Rattle.sq_shown.specs.declared.declaration.QuerySig.{QuerySig}
use Rattle.sq_core.specs.declared.statement.CoreStatement.{CoreStatement}
use Rattle.sq_core.specs.declared.node.Node.{Node}
use Rattle.sq_shown.specs.declared.signature.Language.TheVariants.{Go}
use Rattle.sq_shown.specs.declared.signature.Output.{Output as OutputColumn}
use Rattle.sq_shown.specs.declared.signature.Param.{Param}
use Rattle.sq_shown.specs.declared.signature.Shown.{Shown}
use Rattle.sq_shown.specs.declared.signature.ShownField.{ShownField}
use Rattle.sq_catalog.specs.Kept.{IsCatalogue, IsTable, table_ids, are_apart}
use Rattle.sq_migrate.specs.Replay.{replayed}
use Rattle.sq_reader.specs.Readable.{IsReadable, IsReadableModel, IsReadableQuery, IsReadableFile, model_with, is_run}
use Rattle.sq_reader.specs.Items.{fields_stand}
use Rattle.sq_reader.specs.Reading.{Reads}
use Rattle.sq_reader.specs.declared.parts.Class.TheVariants.{Word}
use Rattle.sq_run.specs.declared.judge.Judged.{Judged}
use Rattle.sq_run.specs.declared.query.Query.{Query}
use Rattle.sq_run.specs.declared.sources.SourceFile.{SourceFile}
use Rattle.sq_run.specs.Headline.{ReturnsFit, RunsAsPrinted, SaysQuery}
use Rattle.sq_run.specs.Judged.{judged, output_of, model_used, are_all_columns, have_names}
use Rattle.sq_run.specs.Project.{models_of, model_of, file_name, declared}
use Rattle.sq_run.specs.Names.{is_identifier}
use Rattle.sq_run.specs.Query.{query_of}
use Rattle.sq_lexer.specs.Printed.{spelling, printed, AreSimple}
use Rattle.sq_lexer.specs.Respelling.{ListedAs}
use Rattle.sq_lexer.specs.TokenList.{token_list}
use Rattle.sq_syntax.specs.Tokens.{has_mark}
use Rattle.sq_syntax.specs.declared.ddl.Ddl.{Ddl}
use Rattle.sq_syntax.specs.declared.token.Token.{Token}
use Rattle.sq_run.proofs.FirstTypes.{HasFirst, HasFirstTypes, ShowsFirst, TextIsWritten, are_printed, at_place, names_show, columns_print}
use Rattle.sq_run.proofs.Models.{ComesFrom, names_size, names_come, some_outputs, all_outputs, both}
use Rattle.sq_run.proofs.Placeless.{same_judged}
use Rattle.sq_run.proofs.FileNames.{IsApart, files_apart, is_slash, no_last_part, no_slash}
use Rattle.sq_run.proofs.Origins.{IsRead, FromSchema, FromText, FromTable, query_from, table_from}
use Rattle.sq_run.proofs.Declared.{FromQuery}
use Rattle.sq_run.proofs.Readables.{HasFirstForms, columns_form, all_fields_form, fields_spelled, models_stand, own_stands, row_spelled, word_run}
use Rattle.sq_run.proofs.Simple.{query_simple, query_unmarked}

-- what is known of every replay, every core and every layout
pub record Laws : Type 0 where
  pub begins : IsCatalogue empty
  pub replays : (contents : Contents) (statements : List Ddl) → IsCatalogue contents → IsCatalogue (replayed contents statements).catalogue
  pub sound : (contents : Contents) (weak : Weak) (core : CoreStatement) (params : List Param) (outputs : List OutputColumn) → IsTyped contents weak core params outputs → NeverStuck contents weak core params outputs
  pub typed : (contents : Contents) (weak : Weak) (place : ℕ) (nodes : List Node) (outputs : List OutputColumn) → ArePrinted outputs → ShowsColumns contents place nodes outputs → IsTyped contents weak (select_core place nodes) [] outputs
  pub written : (contents : Contents) → TextIsWritten contents
  pub read : (package_name : List ℕ) (models : List ModelDecl) (files : List QueryFile) → IsReadable package_name models files → Reads (layout.layout package_name models files) (map (λ (query : QuerySig). shown query.signature) (layout.queries_of files))
  pub models : (schema name : List ℕ) → is_word (model_identifier schema name) ≡ true
  pub constants : (query : List ℕ) → is_word query ≡ true → is_word (constant_name query) ≡ true
  pub packages : (out : List ℕ) → is_word (package_name out) ≡ true
  pub rows : (query : List ℕ) → is_word query ≡ true → is_word (query ++ codes "Row") ≡ true
  pub field_words : (columns : List OutputColumn) → list_all (λ (f : ShownField). is_word f.name) (fields columns) ≡ true
  pub column_words : (columns : List OutputColumn) → list_all (λ (f : ShownField). is_word f.name) (shown_columns columns) ≡ true
  pub fields_apart : (columns : List OutputColumn) → length columns < 2 ^ 64 → has_equal (map (λ (f : ShownField). f.name) (fields columns)) ≡ false
  pub again : (file : ℕ) (bytes : List ℕ) (tokens : List Token) (skipped count other : ℕ) → token_list file bytes ≡ Ok tokens → AreSimple (take count (drop skipped tokens)) → has_mark (printed (take count (drop skipped tokens))) ≡ false
      → ListedAs other (printed (take count (drop skipped tokens))) (map spelling (take count (drop skipped tokens)))
  pub columns_apart : (columns : List OutputColumn) → length columns < 2 ^ 64 → has_equal (map (λ (f : ShownField). f.name) (shown_columns columns)) ≡ false

-- Go alone counts
abbrev go_counts : Weak
go_counts = record { go = true; python = false }

-- what a run gives fits what is printed
answer_fits : {Item : Type 0} (contents : Contents) (outputs : List OutputColumn) (answer : Answer Item Outcomes) → AnswerKeeps (AnswerFits contents outputs) answer
    → AnswerKeeps (ReturnsFit contents (map (output_form Go contents) outputs)) answer
answer_fits contents outputs (Gives outcomes oracle) fits = fits.printed Go
answer_fits contents outputs Fault fits = tt
answer_fits contents outputs Stuck fits = fits

runs_as_printed : (contents : Contents) (core : CoreStatement) (outputs : List OutputColumn) (columns : List ShownField) → NeverStuck contents go_counts core [] outputs → AllZip (Prints Go contents) outputs columns
    → RunsAsPrinted contents core outputs columns
runs_as_printed contents core outputs columns never prints = record {
  prints = prints;
  runs = λ database arguments fits bound oracle.
      answer_fits contents outputs (run Go contents [] core database arguments oracle) (never.answers_fit Go database arguments refl fits bound oracle);
}

identifier_word : (name : List ℕ) → is_identifier name ≡ true → is_word name ≡ true
identifier_word [] is = absurd (cc is)
identifier_word (b ∷ name) is = (both _ _ is).1

map_first : (columns : List TableColumn) → AllByRecursion HasFirst columns → AllByRecursion ShowsFirst (map output_of columns)
map_first [] all = tt
map_first (c ∷ columns) all = (all.0, map_first columns all.1)

some_shown : (outputs : List OutputColumn) → outputs ≢ [] → 0 < length (shown_columns outputs)
some_shown [] some = absurd (some refl)
some_shown (output ∷ []) some = omega arith
some_shown (output ∷ second ∷ outputs) some = omega arith

several_shown : (outputs : List OutputColumn) → nat_le 2 (length outputs) ≡ true → shown_columns outputs ≡ fields outputs
several_shown [] several = absurd (cc several)
several_shown (output ∷ []) several = absurd (cc several)
several_shown (output ∷ second ∷ outputs) several = refl

-- the identifier of a model that is used is that of some model
model_named : (models : List ModelDecl) (id : Option ℕ) (identifier : List ℕ) → layout.model_of models id ≡ Some identifier → (model : ModelDecl) × (layout.model_name model ≡ identifier)
model_named models None identifier is = absurd (cc is)
model_named models (Some wanted) identifier is = by_found (find (λ (model : ModelDecl). nat_eq model.id wanted) models) is
  where
    by_found : (found : Option ModelDecl) → option_map layout.model_name found ≡ Some identifier → (model : ModelDecl) × (layout.model_name model ≡ identifier)
    by_found None is = absurd (cc is)
    by_found (Some model) is = (model, same_Some _ _ is)

-- an id that is another than all of these is another than that at a place
other_there : (id : ℕ) (tables : List Table) (place : ℕ) (table : Table) → AllByRecursion (λ other. id ≢ other) (table_ids tables) → slice_get tables place ≡ Some table → id ≢ table.id
other_there id [] place table all there = absurd (cc there)
other_there id (t ∷ tables) zero table all there = λ same. all.0 (same ∙ ap (λ (x : Table). x.id) (sym (same_Some _ _ there)))
other_there id (t ∷ tables) (suc place) table all there = other_there id tables place table all.1 there

-- the model that is found by the id of a table is that of the table
own_model : (tables : List Table) (place : ℕ) (table : Table) → are_apart (table_ids tables) → slice_get tables place ≡ Some table → find (λ (model : ModelDecl). nat_eq model.id table.id) (map model_of tables) ≡ Some (model_of table)
own_model [] place table apart there = absurd (cc there)
own_model (t ∷ tables) zero table apart there =
    subst (λ (x : Table). find (λ (model : ModelDecl). nat_eq model.id x.id) (map model_of (t ∷ tables)) ≡ Some (model_of x)) (same_Some _ _ there)
    (rw (eq-eqb t.id t.id refl) refl)
own_model (t ∷ tables) (suc place) table apart there = elim (cases_Bool (nat_eq t.id table.id)) [
  | inl same ↦ absurd (other_there t.id tables place table apart.0 there (eqb-true t.id table.id same))
  | inr other ↦ rw other (own_model tables place table apart.1 there)
]

-- a model that is used is that of the table, for all its columns
record UsesOwn (table : Table) (outputs : List OutputColumn) (other : ModelDecl) : Type 0 where
  several : nat_le 2 (length outputs) ≡ true
  whole : are_all_columns outputs table.columns ≡ true
  own : other ≡ model_of table

used_own : (tables : List Table) (place : ℕ) (table : Table) (outputs : List OutputColumn) (other : ModelDecl) → are_apart (table_ids tables) → slice_get tables place ≡ Some table → model_with (map model_of tables) (model_used table outputs) ≡ Some other → UsesOwn table outputs other
used_own tables place table outputs other apart there is = elim (cases_Bool (nat_le 2 (length outputs) && are_all_columns outputs table.columns)) [
  | inl used ↦
      let parts = both (nat_le 2 (length outputs)) (are_all_columns outputs table.columns) used in
      let found : find (λ (model : ModelDecl). nat_eq model.id table.id) (map model_of tables) ≡ Some other = rw used at is in
      record { several = parts.0; whole = parts.1; own = same_Some _ _ (sym found ∙ own_model tables place table apart there) }
  | inr none ↦ absurd (cc (rw none at is))
]

-- the printed text of a query has its tokens again
respelled : (laws : Laws) (number : ℕ) (source : List ℕ) (tokens : List Token) → token_list number source ≡ Ok tokens → (query : Query) → (text : FromText tokens query) → ListedAs 1 (printed text.statement) (map spelling text.statement)
respelled laws number source tokens listed query text =
    subst (λ (ts : List Token). ListedAs 1 (printed ts) (map spelling ts)) (sym text.stretch)
    (laws.again number source tokens 1 text.count 1 listed (subst AreSimple text.stretch (query_simple text.statement query.select text.reads))
    (subst (λ (ts : List Token). has_mark (printed ts) ≡ false) text.stretch (query_unmarked text.statement query.select text.reads)))

-- the shown signatures of all queries
abbrev pub signatures_of : List QueryFile → List Shown
signatures_of files = map (λ (query : QuerySig). shown query.signature) (layout.queries_of files)

-- the queries of a file can be read again
abbrev HasReadable : List ModelDecl → QueryFile → Type 0
HasReadable models file = AllByRecursion (IsReadableQuery models (layout.query_imports models file.queries)) file.queries

-- what the sources of a block say, and what is written for them
pub record Said (contents : Contents) (files : List SourceFile) (written : List QueryFile) : Type 0 where
  pub says : AllZip (SaysQuery contents) files (signatures_of written)
  pub reads : (own_package : List ℕ) → is_word own_package ≡ true → clash (models_of contents) written ≡ false → Reads (layout.layout own_package (models_of contents) written) (signatures_of written)

-- a file of queries is named after its source
abbrev pub IsNamed : QueryFile → Type 0
IsNamed file = (path : List ℕ) × (file.source ≡ file_name path)

pub all_named : (contents : Contents) (files : List SourceFile) (written : List QueryFile) → AllZip (FromQuery contents) files written → AllByRecursion IsNamed written
all_named contents [] [] from = tt
all_named contents [] (w ∷ written) from = absurd from
all_named contents (file ∷ files) [] from = absurd from
all_named contents (file ∷ files) (w ∷ written) from = ((file.path, ap (λ (x : QueryFile). x.source) from.0.is), all_named contents files written from.1)

readable_files : (models : List ModelDecl) (files : List QueryFile) → AllByRecursion IsNamed files → AllByRecursion (λ (file : QueryFile). IsApart (layout.query_path file.source)) files → AllByRecursion (HasReadable models) files → AllByRecursion (IsReadableFile models) files
readable_files models [] named apart each = tt
readable_files models (file ∷ files) named apart each =
    let slash : list_any is_slash file.source ≡ false = rw named.0.1 (no_slash named.0.0) in (
      record {
        no_database = no_last_part (codes "db.go") file.source slash apart.0.database;
        no_models = no_last_part (codes "models.go") file.source slash apart.0.models;
        each_query = each.0;
      },
      readable_files models files named.1 apart.1 each.1,
    )

module _ (laws : Laws) (contents : Contents) (schema : FromSchema contents) where
  abbrev models : List ModelDecl
  models = models_of contents

  identifier_run : (id : Option ℕ) (identifier : List ℕ) → layout.model_of models id ≡ Some identifier → is_run Word identifier ≡ true
  identifier_run id identifier is =
      let model = model_named models id identifier is in
      subst (λ (x : List ℕ). is_run Word x ≡ true) model.1 (word_run (layout.model_name model.0) (laws.models model.0.schema model.0.name))

  -- a query with these outputs can be read again
  readable_as : (table : Table) (query : Query) (found : Judged) (outputs : List OutputColumn) → found.columns ≡ outputs → found.model ≡ model_used table outputs → is_identifier query.name ≡ true → AllByRecursion ShowsFirst outputs → outputs ≢ [] → length outputs < 2 ^ 64
      → ((other : ModelDecl) → model_with models (model_used table outputs) ≡ Some other → shown_columns outputs ≡ fields other.columns) → IsReadableQuery models (layout.query_imports models (declared query found ∷ [])) (declared query found)
  readable_as table query found outputs columns_is model_is named types some few whole =
      let word : is_word query.name ≡ true = identifier_word query.name named in
      let forms = columns_form outputs types in
      let id = layout.model_of models (model_used table outputs) in
      let row_word = word_run (query.name ++ codes "Row") (laws.rows query.name word) in
      record {
        query_word = word_run query.name word;
        constant_word = word_run (constant_name query.name) (laws.constants query.name word);
        row_word = row_word;
        row_spelled = rw (columns_is, model_is) (row_spelled id query.name (shown_columns outputs) forms row_word (identifier_run (model_used table outputs)));
        columns_spelled = rw columns_is (fields_spelled (shown_columns outputs) forms (laws.column_words outputs));
        columns_apart = rw columns_is (laws.columns_apart outputs few);
        query_types = rw (columns_is, model_is, append-nil) (own_stands id (shown_columns outputs) forms);
        command = refl;
        some_column = rw columns_is (some_shown outputs some);
        modelled = rw (columns_is, model_is) whole;
      }

  -- a judged query that was read
  module _ (file : SourceFile) (read : IsRead file) (query : Query) (annotated : query_of file.tokens ≡ Some query) (found : Judged) (judges : judged contents query.select ≡ Ok found) where
    text : FromText file.tokens query
    text = query_from file.tokens query annotated

    from : FromTable contents query.select found
    from = table_from contents query.select found judges

    abbrev the_table : Table
    the_table = from.table

    first : HasFirstTypes the_table
    first = at_place HasFirstTypes contents.tables from.place the_table schema.first from.there

    is_table : IsTable the_table
    is_table = at_place IsTable contents.tables from.place the_table schema.kept.tables from.there

    abbrev outputs : List OutputColumn
    outputs = from.columns.1

    columns_is : found.columns ≡ outputs
    columns_is = ap (λ (j : Judged). j.columns) from.is

    model_is : found.model ≡ model_used the_table outputs
    model_is = ap (λ (j : Judged). j.model) from.is

    core_is : found.core ≡ select_core from.place from.columns.0
    core_is = ap (λ (j : Judged). j.core) from.is

    come : AllByRecursion (ComesFrom the_table.columns) outputs
    come = names_come the_table query.select.outputs from.columns from.judges

    -- what is shown of a query whose model is used
    shown_whole : (other : ModelDecl) → model_with models (model_used the_table outputs) ≡ Some other → shown_columns outputs ≡ fields other.columns
    shown_whole other is =
        let used = used_own contents.tables from.place the_table outputs other schema.kept.apart from.there is in
        let whole = both (length outputs == length the_table.columns) (have_names outputs the_table.columns) used.whole in
        several_shown outputs used.several ∙ ap fields (all_outputs the_table.columns is_table.distinct outputs come (eqb-true (length outputs) (length the_table.columns) whole.0) whole.1)
        ∙ ap (λ (m : ModelDecl). fields m.columns) (sym used.own)

    said : SaysQuery contents file (shown (declared query found).signature)
    said =
        let shows = names_show the_table query.select.outputs from.columns first from.judges in
        let prints = columns_print contents (laws.written contents) outputs shows.types in
        let typed : IsTyped contents go_counts (select_core from.place from.columns.0) [] outputs =
        laws.typed contents go_counts from.place from.columns.0 outputs (are_printed outputs shows.types) (rw from.there shows.shows) in
        let never : NeverStuck contents go_counts found.core [] outputs = subst (λ (core : CoreStatement). NeverStuck contents go_counts core [] outputs) (sym core_is) (laws.sound contents go_counts (select_core from.place from.columns.0) [] outputs typed) in
        let again = respelled laws read.number read.bytes file.tokens read.listed query text in
        record {
          query = query;
          found = found;
          annotated = annotated;
          judges = judges;
          shows = refl;
          text = rw (text.text, again.listed) (same_judged contents text.statement again.tokens query.select found again.same text.reads judges);
          runs = rw columns_is (runs_as_printed contents found.core outputs (shown_columns outputs) never prints);
        }

    readable : IsReadableQuery models (layout.query_imports models (declared query found ∷ [])) (declared query found)
    readable =
        let count = names_size the_table query.select.outputs from.columns from.judges in
        readable_as the_table query found outputs columns_is model_is text.named (names_show the_table query.select.outputs from.columns first from.judges).types (some_outputs the_table query.select.outputs from.columns text.some from.judges)
        (omega (arith, count, text.small, read.small)) shown_whole

  -- the models of tables with these types have their forms
  models_form : (tables : List Table) → AllByRecursion HasFirstTypes tables → AllByRecursion HasFirstForms (map model_of tables)
  models_form [] all = tt
  models_form (t ∷ tables) all = (all_fields_form (map output_of t.columns) (map_first t.columns all.0), models_form tables all.1)

  models_readable : (imports : List (List ℕ)) (ms : List ModelDecl) → AllByRecursion HasFirstForms ms → AllByRecursion (λ (model : ModelDecl). fields_stand imports (fields model.columns) ≡ true) ms → AllByRecursion (IsReadableModel imports) ms
  models_readable imports [] forms stand = tt
  models_readable imports (m ∷ ms) forms stand = (
    record {
      model_word = word_run (layout.model_name m) (laws.models m.schema m.name);
      fields_spelled = fields_spelled (fields m.columns) forms.0 (laws.field_words m.columns);
      model_types = stand.0;
    },
    models_readable imports ms forms.1 stand.1,
  )

  each_readable : AllByRecursion (IsReadableModel (layout.sql_import (flat_map layout.model_forms models))) models
  each_readable =
      let forms = models_form contents.tables schema.first in
      models_readable (layout.sql_import (flat_map layout.model_forms models)) models forms (models_stand models forms)

  all_said : (files : List SourceFile) (written : List QueryFile) → AllByRecursion IsRead files → AllZip (FromQuery contents) files written → AllZip (SaysQuery contents) files (signatures_of written) × AllByRecursion (HasReadable models) written
  all_said [] [] read chosen = (tt, tt)
  all_said [] (w ∷ written) read chosen = absurd chosen
  all_said (file ∷ files) [] read chosen = absurd chosen
  all_said (file ∷ files) (w ∷ written) read chosen =
      let one = chosen.0 in
      let later = all_said files written read.1 chosen.1 in
      let says = said file read.0 one.query one.annotated one.found one.judges in
      let reads = readable file read.0 one.query one.annotated one.found one.judges in
      subst (λ (x : QueryFile). AllZip (SaysQuery contents) (file ∷ files) (signatures_of (x ∷ written)) × AllByRecursion (HasReadable models) (x ∷ written)) (sym one.is) ((says, later.0), ((reads, tt), later.1))

  -- what the sources of a block say, and what is written for them
  pub says_over : (files : List SourceFile) (written : List QueryFile) → AllByRecursion IsRead files → AllZip (FromQuery contents) files written → Said contents files written
  says_over files written read from =
      let all = all_said files written read from in
      record {
        says = all.0;
        reads = λ own_package word apart.
            laws.read own_package models written (record {
              package_word = word_run own_package word;
              each_model = each_readable;
              each_file = readable_files models written (all_named contents files written from) (files_apart models written apart) all.1;
              no_clash = apart;
            });
      }
