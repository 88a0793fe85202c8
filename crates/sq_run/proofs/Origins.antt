-- Where a catalogue, a query's text and its columns come from.
use Rattle.std.proofs.Common.{◌≡◌, ◌≢◌, ◌≤◌, ℕ, ◌-◌, ◌&&◌, not, Bool, true, false, List, [], ◌∷◌, length, take, drop, Option, None, Some, Result, Ok, Err, refl, sym, ◌∙◌, ap, subst, inl, inr, arith, slice_get}
use Rattle.sq_base.specs.declared.code.Code.TheVariants as code
use Rattle.std.specs.Prelude.{codes, if◌then◌else◌}
use Rattle.std.specs.List.{AllByRecursion, AllZip, list_all}
use Rattle.std.specs.Option.{option_map}
use Rattle.std.proofs.lemmas.Bool.{cases_Bool}
use Rattle.std.proofs.lemmas.List.{length-drop}
use Rattle.std.proofs.lemmas.Option.{same_Some}
use Rattle.sq_base.specs.declared.file.File.{File}
use Rattle.sq_base.specs.declared.refusal.Refusal.{Refusal}
use Rattle.sq_catalog.specs.Contents.{Contents}
use Rattle.sq_catalog.specs.Catalogue.{empty, placed_table, place_of_table}
use Rattle.sq_catalog.specs.declared.table.Table.{Table}
use Rattle.sq_core.specs.Columns.{select as select_core}
use Rattle.sq_core.specs.declared.node.Node.{Node}
use Rattle.sq_shown.specs.declared.signature.Output.{Output as OutputColumn}
use Rattle.sq_lexer.specs.Printed.{printed}
use Rattle.sq_lexer.specs.TokenList.{token_list}
use Rattle.sq_catalog.specs.Kept.{IsCatalogue}
use Rattle.sq_migrate.specs.Replay.{replayed}
use Rattle.sq_syntax.specs.declared.ddl.Ddl.{Ddl}
use Rattle.sq_syntax.specs.declared.token.Token.{Token}
use Rattle.sq_syntax.specs.declared.token.TokenKind.{TokenKind}
use Rattle.sq_syntax.specs.declared.token.TokenKind.TheVariants.{Word, Quoted, Text, EText, Dollar, Number, Parameter, Named, Operator, Punct, Note}
use Rattle.sq_plan.specs.declared.halt.Finding.{Finding}
use Rattle.sq_plan.specs.Findings.{of_whole}
use Rattle.sq_run.specs.declared.judge.Judged.{Judged}
use Rattle.sq_plan.specs.declared.entries.Purpose.{Purpose}
use Rattle.sq_run.specs.declared.query.Query.{Query}
use Rattle.sq_run.specs.declared.statements.Select.{Select}
use Rattle.sq_run.specs.Judged.{judged, judged_names, judged_select, model_used, unknown}
use Rattle.sq_base.specs.declared.limits.TheConstants.{MOST_FILE_BYTES}
use Rattle.sq_run.specs.declared.sources.SourceFile.{SourceFile}
use Rattle.sq_base.specs.Tree.{TreeState}
use Rattle.sq_plan.specs.declared.entries.Purpose.TheVariants.{Schema}
use Rattle.sq_plan.specs.declared.halt.Halt.{Halt}
use Rattle.sq_plan.specs.Asked.{Follows, Judges, nothing_asked}
use Rattle.sq_plan.specs.Folds.{so_far, Makes}
use Rattle.sq_run.specs.Project.{sources, schema_read}
use Rattle.sq_plan.specs.declared.so_far.SoFar.{SoFar}
use Rattle.sq_plan.proofs.Folds.{folded_keeps, made_then, made_stopped}
use Rattle.sq_run.specs.Schema.{read_ddl, replay_of, statements, without_notes, after_read, after_statement, after_file, all_made, has_first_types, has_enums, has_domains, is_built, catalogue_by, catalogue_of}
use Rattle.sq_run.specs.Names.{is_identifier}
use Rattle.sq_run.specs.Query.{behind, before_end, query_name, noted_name, annotation, annotated, named_statement, query_in, query_of}
use Rattle.sq_run.specs.Statements.{one_statement, select}
use Rattle.sq_run.proofs.FirstTypes.{HasFirstTypes, tables_first, placed_there, same_ok}
use Rattle.sq_run.proofs.OkSteps.{bind_some}
use Rattle.sq_run.proofs.Sizes.{list_size, query_size, statement_size}
use Rattle.sq_plan.specs.Sources.{bytes_read}
use Rattle.sq_plan.proofs.Marked.{bytes_read_size}
use Rattle.sq_run.proofs.Plans.{FromSource}

-- the tokens of a source that was read
pub record IsRead (file : SourceFile) : Type 0 where
  pub number : ℕ
  pub bytes : List ℕ
  pub listed : token_list number bytes ≡ Ok file.tokens
  pub small : length file.tokens ≤ MOST_FILE_BYTES

pub all_read : (purpose : Purpose) (held : List File) (paths : List (List ℕ)) (files : List SourceFile) → AllZip (FromSource purpose held) paths files → AllByRecursion IsRead files
all_read purpose held [] [] from = tt
all_read purpose held [] (file ∷ files) from = absurd from
all_read purpose held (path ∷ paths) [] from = absurd from
all_read purpose held (path ∷ paths) (file ∷ files) from =
    let one = from.0 in
    let read = bytes_read purpose one.bytes in
    (record { number = one.number; bytes = read; listed = one.listed; small = omega (arith, list_size one.number read file.tokens one.listed, bytes_read_size purpose one.bytes, one.fits) }, all_read purpose held paths files from.1)

-- the catalogue of a schema that was read
pub schema_then : (path : List ℕ) (paths : List (List ℕ)) (start : SoFar Contents) (old new : TreeState) (done : SoFar Contents) (r : Result Contents Halt)
    → start ≡ so_far empty [] → Makes after_file start (sources Schema paths) old new (Ok done) → Judges (catalogue_by path done.made done.found) r → Follows (schema_read path paths) old new r
schema_then path paths start old new done r begins makes judges =
    made_then after_file (so_far empty []) (sources Schema paths) old new done (λ (d : SoFar Contents). catalogue_by path d.made d.found) r
    (subst (λ (s : SoFar Contents). Makes after_file s (sources Schema paths) old new (Ok done)) begins makes) judges

pub schema_stopped : (path : List ℕ) (paths : List (List ℕ)) (start : SoFar Contents) (old new : TreeState) (halt : Halt)
    → Makes after_file start (sources Schema paths) old new (Err halt) → Follows (schema_read path paths) old new (Err halt)
schema_stopped path paths start old new halt makes = made_stopped after_file start (sources Schema paths) (λ schema _. nothing_asked (catalogue_of path schema)) old new halt makes

-- the catalogue keeps its rules, and its columns have the types whose forms are built
pub record FromSchema (contents : Contents) : Type 0 where
  pub kept : IsCatalogue contents
  pub first : AllByRecursion HasFirstTypes contents.tables

-- a schema's catalogue is what its files make, where the forms of all its types are built
catalogue_ok : (path : List ℕ) (made contents : Contents) (findings : List Finding) → catalogue_by path made findings ≡ Ok contents → (made ≡ contents) × (is_built made ≡ true)
catalogue_ok path made contents [] is = by_built (is_built made) refl is
  where
    by_built : (built : Bool) → is_built made ≡ built → ◌≡◌ {A = Result Contents (List Finding)} (if built then Ok made else Err (of_whole path code.NotYet [] ∷ [])) (Ok contents) → (made ≡ contents) × (is_built made ≡ true)
    by_built true there is = (cc is, there)
    by_built false there is = absurd (cc is)
catalogue_ok path made contents (finding ∷ findings) is = absurd (cc is)

-- the columns of a catalogue that is built
built_first : (contents : Contents) → is_built contents ≡ true → AllByRecursion HasFirstTypes contents.tables
built_first contents is = by_kinds (has_enums contents) (has_domains contents) is
  where
    by_kinds : (enums domains : Bool) → (not enums && (not domains && list_all has_first_types contents.tables)) ≡ true → AllByRecursion HasFirstTypes contents.tables
    by_kinds true domains is = absurd (cc is)
    by_kinds false true is = absurd (cc is)
    by_kinds false false is = tables_first contents.tables is

-- what a replay keeps is kept by what is made of a schema
module _ (replay_keeps : (c : Contents) (statements : List Ddl) → IsCatalogue c → IsCatalogue (replayed c statements).catalogue) where
  abbrev Keeps : SoFar Contents → Type 0
  Keeps done = IsCatalogue done.made

  statement_keeps : (path : List ℕ) (done : SoFar Contents) (tokens : List Token) → Keeps done → Keeps (after_statement path done tokens)
  unfolding replay_of
  statement_keeps path done [] kept = kept
  statement_keeps path done (token ∷ tokens) kept = by_read (read_ddl (token ∷ tokens))
    where
      by_read : (read : Result (Option Ddl) Refusal) → Keeps (after_read path done read)
      by_read (Ok None) = kept
      by_read (Ok (Some statement)) = replay_keeps done.made (statement ∷ []) kept
      by_read (Err refused) = kept

  file_keeps : (done : SoFar Contents) (file : SourceFile) → Keeps done → Keeps (after_file done file)
  file_keeps done file kept = folded_keeps Keeps (after_statement file.path) (statement_keeps file.path) done (statements (without_notes file.tokens)) kept

  pub schema_from : IsCatalogue empty → (path : List ℕ) (schema : List SourceFile) (contents : Contents) → catalogue_of path schema ≡ Ok contents → FromSchema contents
  schema_from empty_kept path schema contents is =
      let all = all_made schema in
      let ok = catalogue_ok path all.made contents all.found is in
      subst FromSchema ok.0 (record { kept = folded_keeps Keeps after_file file_keeps (so_far empty []) schema empty_kept; first = built_first all.made ok.1 })

-- the parts of a query's file
pub record FromText (tokens : List Token) (query : Query) : Type 0 where
  pub statement : List Token
  pub count : ℕ
  pub stretch : statement ≡ take count (drop 1 tokens)
  pub reads : select statement ≡ Some query.select
  pub text : query.text ≡ printed statement
  pub named : is_identifier query.name ≡ true
  pub small : length query.select.outputs ≤ length tokens
  pub some : query.select.outputs ≢ []

name_ok : (text name : List ℕ) → query_name text ≡ Some name → is_identifier name ≡ true
unfolding query_name
name_ok text name is = elim (cases_Bool (is_identifier text)) [
  | inl good ↦ subst (λ (t : List ℕ). is_identifier t ≡ true) (same_Some _ _ (rw good at is)) good
  | inr bad ↦ absurd (cc (rw bad at is))
]

noted_ok : (bytes name : List ℕ) → noted_name bytes ≡ Some name → is_identifier name ≡ true
unfolding noted_name
noted_ok bytes name is =
    let rest = bind_some (behind (codes "-- name: ") bytes) _ name is in
    let front = bind_some (before_end (codes " :many") rest.0) _ name rest.2 in
    name_ok front.0 name front.2

annotation_ok : (kind : TokenKind) (bytes name : List ℕ) → annotation kind bytes ≡ Some name → is_identifier name ≡ true
annotation_ok Note bytes name is = noted_ok bytes name is
annotation_ok Word bytes name is = absurd (cc is)
annotation_ok Quoted bytes name is = absurd (cc is)
annotation_ok Text bytes name is = absurd (cc is)
annotation_ok EText bytes name is = absurd (cc is)
annotation_ok Dollar bytes name is = absurd (cc is)
annotation_ok Number bytes name is = absurd (cc is)
annotation_ok Parameter bytes name is = absurd (cc is)
annotation_ok Named bytes name is = absurd (cc is)
annotation_ok Operator bytes name is = absurd (cc is)
annotation_ok Punct bytes name is = absurd (cc is)

annotated_ok : (tokens : List Token) (r : List ℕ × List Token) → annotated tokens ≡ Some r → (is_identifier r.0 ≡ true) × (r.1 ≡ drop 1 tokens)
unfolding annotated
annotated_ok [] r is = absurd (cc is)
annotated_ok (t ∷ ts) r is = by_name (annotation t.kind t.bytes) refl is
  where
    by_name : (name : Option (List ℕ)) → annotation t.kind t.bytes ≡ name → option_map (λ n. (n, ts)) name ≡ Some r → (is_identifier r.0 ≡ true) × (r.1 ≡ ts)
    by_name None there is = absurd (cc is)
    by_name (Some n) there is =
        let same = same_Some _ _ is in
        (subst (λ (x : List ℕ × List Token). is_identifier x.0 ≡ true) same (annotation_ok t.kind t.bytes n there), ap (λ (x : List ℕ × List Token). x.1) (sym same))

-- where a named statement stands in its file
record FromNamed (tokens : List Token) (found : List ℕ × List Token) : Type 0 where
  pub count : ℕ
  pub stretch : found.1 ≡ take count (drop 1 tokens)
  pub named : is_identifier found.0 ≡ true
  pub small : length found.1 ≤ length tokens

named_from : (tokens : List Token) (found : List ℕ × List Token) → named_statement tokens ≡ Some found → FromNamed tokens found
unfolding named_statement
named_from tokens found is =
    let noted = bind_some (annotated tokens) _ found is in
    let statement = bind_some (one_statement noted.0.1) _ found noted.2 in
    let about = annotated_ok tokens noted.0 noted.1 in
    let cut = statement_size noted.0.1 statement.0 statement.1 in
    subst (FromNamed tokens) (same_Some _ _ statement.2) (record {
      count = length noted.0.1 - 1;
      stretch = cut.1 ∙ ap (λ (ts : List Token). take (length noted.0.1 - 1) ts) about.1;
      named = about.0;
      small = omega (arith, cut.0, ap length about.1, length-drop 1 tokens);
    })

pub query_from : (tokens : List Token) (query : Query) → query_of tokens ≡ Some query → FromText tokens query
unfolding query_of query_in
query_from tokens query is =
    let found = bind_some (named_statement tokens) _ query is in
    let about = named_from tokens found.0 found.1 in
    let chosen = bind_some (select found.0.1) _ query found.2 in
    let size = query_size found.0.1 chosen.0 chosen.1 in
    subst (FromText tokens) (same_Some _ _ chosen.2) (record {
      statement = found.0.1;
      count = about.count;
      stretch = about.stretch;
      reads = chosen.1;
      text = refl;
      named = about.named;
      small = omega (arith, size.0, about.small);
      some = size.1;
    })

-- where a query's columns come from
pub record FromTable (contents : Contents) (query : Select) (found : Judged) : Type 0 where
  pub place : ℕ
  pub table : Table
  pub there : slice_get contents.tables place ≡ Some table
  pub columns : List Node × List OutputColumn
  pub judges : judged_names table query.outputs ≡ Ok columns
  pub is : found ≡ record { core = select_core place columns.0; columns = columns.1; model = model_used table columns.1 }

pub table_from : (contents : Contents) (query : Select) (found : Judged) → judged contents query ≡ Ok found → FromTable contents query found
unfolding judged
table_from contents query found is = by_table (placed_table contents (codes "public") query.table.name) refl is
  where
    by_names : (place : ℕ) (table : Table) → slice_get contents.tables place ≡ Some table → (answer : Result (List Node × List OutputColumn) Refusal) → judged_names table query.outputs ≡ answer → judged_select place table answer ≡ Ok found → FromTable contents query found
    by_names place table there (Err refusal) names is = absurd (cc is)
    by_names place table there (Ok columns) names is = record { place = place; table = table; there = there; columns = columns; judges = names; is = sym (same_ok _ _ _ refl is) }

    by_table : (placed : Option (ℕ × Table)) → placed_table contents (codes "public") query.table.name ≡ placed
        → ◌≡◌ {A = Result Judged Refusal} (elim placed [ None ↦ Err (unknown code.UnknownTable query.table) | Some t ↦ judged_select t.0 t.1 (judged_names t.1 query.outputs) ]) (Ok found) → FromTable contents query found
    by_table None at is = absurd (cc is)
    by_table (Some t) at is = by_names t.0 t.1 (placed_there contents.tables (place_of_table contents (codes "public") query.table.name) t at) (judged_names t.1 query.outputs) refl is
