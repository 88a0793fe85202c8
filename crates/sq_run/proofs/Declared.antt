-- What the files of queries are declared to be, one after another, over one catalogue.
use Rattle.std.proofs.Common.{◌≡◌, ◌≢◌, ℕ, List, [], ◌∷◌, ◌++◌, Option, None, Some, Result, Ok, Err, refl, sym, ◌∙◌, ap, subst, append_assoc}
use Rattle.std.proofs.lemmas.List.{append-nil}
use Rattle.std.specs.List.{AllZip}
use Rattle.sq_base.specs.Tree.{TreeState}
use Rattle.sq_base.specs.declared.refusal.Refusal.{Refusal}
use Rattle.sq_catalog.specs.Contents.{Contents}
use Rattle.sq_shown.specs.declared.declaration.QueryFile.{QueryFile}
use Rattle.sq_shown.specs.declared.declaration.QuerySig.{QuerySig}
use Rattle.sq_syntax.specs.declared.token.Token.{Token}
use Rattle.sq_plan.specs.declared.entries.Purpose.TheVariants.{Queries}
use Rattle.sq_plan.specs.declared.halt.Finding.{Finding}
use Rattle.sq_plan.specs.declared.halt.Halt.{Halt}
use Rattle.sq_plan.specs.declared.so_far.SoFar.{SoFar}
use Rattle.sq_plan.specs.Asked.{Follows, Judges, nothing_asked, and_then}
use Rattle.sq_plan.specs.Findings.{in_source}
use Rattle.sq_plan.specs.Folds.{so_far, folded, unless_found, value_unless, Makes}
use Rattle.sq_plan.proofs.Folds.{made_then, made_stopped}
use Rattle.sq_run.specs.declared.judge.Judged.{Judged}
use Rattle.sq_run.specs.declared.query.Query.{Query}
use Rattle.sq_run.specs.declared.sources.SourceFile.{SourceFile}
use Rattle.sq_run.specs.Judged.{judged}
use Rattle.sq_run.specs.Parsed.{statement_check}
use Rattle.sq_run.specs.Project.{declared, declared_by, judged_query, judged_read, judged_statement, after_judged, after_queries, declared_in, file_name, sources, queries_read}
use Rattle.sq_run.specs.Query.{named_statement, query_in, query_of}

-- A CATALOGUE AND WHAT IS DECLARED OVER IT

abbrev Over : Type 0
Over = Contents × SoFar (List QueryFile)

-- the catalogue stays, and what is declared goes on
abbrev over : Over → SourceFile → Over
over all file = (all.0, after_queries all.0 all.1 file)

-- the catalogue stays to the end
over_all : (contents : Contents) (done : SoFar (List QueryFile)) (files : List SourceFile) → folded over (contents, done) files ≡ (contents, folded (after_queries contents) done files)
over_all contents done [] = refl
over_all contents done (file ∷ files) = over_all contents (after_queries contents done file) files

abbrev nothing : SoFar (List QueryFile)
nothing = so_far [] []

-- what was declared of files that were read
pub queries_then : (contents : Contents) (paths : List (List ℕ)) (start : Over) (old new : TreeState) (all : Over) (r : Result (List QueryFile) Halt)
    → start ≡ (contents, nothing) → Makes over start (sources Queries paths) old new (Ok all) → Judges (unless_found all.1) r → Follows (queries_read contents paths) old new r
queries_then contents paths start old new all r begins makes judges =
    subst (λ (answer : List SourceFile → Result (List QueryFile) (List Finding)). Follows (λ files. and_then (sources Queries paths files) (λ queries. nothing_asked (answer queries))) old new r)
    (λ i files. unless_found ((over_all contents nothing files i).1))
    (made_then over (contents, nothing) (sources Queries paths) old new all (λ a. unless_found a.1) r (subst (λ (s : Over). Makes over s (sources Queries paths) old new (Ok all)) begins makes) judges)

pub queries_stopped : (contents : Contents) (paths : List (List ℕ)) (start : Over) (old new : TreeState) (halt : Halt)
    → Makes over start (sources Queries paths) old new (Err halt) → Follows (queries_read contents paths) old new (Err halt)
queries_stopped contents paths start old new halt makes = made_stopped over start (sources Queries paths) (λ queries _. nothing_asked (declared_in contents queries)) old new halt makes

-- WHERE A DECLARED FILE COMES FROM

-- a file of queries at a path, with this one
abbrev pub file_with : List ℕ → Query → Judged → QueryFile
file_with path query judged = record { source = file_name path; queries = declared query judged ∷ [] }

-- what a source of queries was judged to be
pub record FromQuery (contents : Contents) (file : SourceFile) (written : QueryFile) : Type 0 where
  pub query : Query
  pub annotated : query_of file.tokens ≡ Some query
  pub found : Judged
  pub judges : judged contents query.select ≡ Ok found
  pub is : written ≡ file_with file.path query found

-- the query of a file is that of its named statement
query_named : (tokens : List Token) (found : List ℕ × List Token) → named_statement tokens ≡ Some found → query_of tokens ≡ query_in found.0 found.1
unfolding query_of
query_named tokens found there = rw there refl

-- what an annotated statement that is accepted was judged to be
record FromStatement (contents : Contents) (tokens : List Token) (query : QuerySig) : Type 0 where
  own : Query
  annotated : query_of tokens ≡ Some own
  found : Judged
  judges : judged contents own.select ≡ Ok found
  is : query ≡ declared own found

statement_ok : (contents : Contents) (tokens : List Token) (query : QuerySig) → judged_statement contents (named_statement tokens) ≡ Ok query → FromStatement contents tokens query
statement_ok contents tokens query is = by_named (named_statement tokens) refl is
  where
    by_judged : (own : Query) → query_of tokens ≡ Some own → (answer : Result Judged Refusal) → judged contents own.select ≡ answer → declared_by own answer ≡ Ok query → FromStatement contents tokens query
    by_judged own there (Err refusal) judges is = absurd (cc is)
    by_judged own there (Ok found) judges is = record { own = own; annotated = there; found = found; judges = judges; is = cc is }

    by_query : (found : Option Query) → query_of tokens ≡ found → judged_query contents found ≡ Ok query → FromStatement contents tokens query
    by_query None there is = absurd (cc is)
    by_query (Some own) there is = by_judged own there (judged contents own.select) refl is

    by_read : (found : List ℕ × List Token) → query_of tokens ≡ query_in found.0 found.1 → (read : Result (Unit {0}) Refusal) → judged_read contents (query_in found.0 found.1) read ≡ Ok query → FromStatement contents tokens query
    by_read found there (Err refusal) is = absurd (cc is)
    by_read found there (Ok read) is = by_query (query_in found.0 found.1) there is

    by_named : (found : Option (List ℕ × List Token)) → named_statement tokens ≡ found → judged_statement contents found ≡ Ok query → FromStatement contents tokens query
    by_named None there is = absurd (cc is)
    by_named (Some found) there is = by_read found (query_named tokens found there) (statement_check found.1) is

-- something is found behind a finding
found_more : (found : List Finding) (finding : Finding) → found ++ finding ∷ [] ≢ []
found_more [] finding is = absurd (cc is)
found_more (f ∷ found) finding is = absurd (cc is)

-- a file behind which nothing is found
record FromFile (contents : Contents) (done : SoFar (List QueryFile)) (file : SourceFile) : Type 0 where
  nothing_found : done.found ≡ []
  written : QueryFile
  from : FromQuery contents file written
  made : (after_queries contents done file).made ≡ done.made ++ written ∷ []

-- the queries of a file whose statement is judged to be this
abbrev answered : SoFar (List QueryFile) → SourceFile → Result QuerySig Refusal → SoFar (List QuerySig)
answered done file answer = after_judged file.path (so_far [] done.found) answer

file_ok : (contents : Contents) (done : SoFar (List QueryFile)) (file : SourceFile) → (after_queries contents done file).found ≡ [] → FromFile contents done file
file_ok contents done file is = by_judged (judged_statement contents (named_statement file.tokens)) refl is
  where
    by_judged : (answer : Result QuerySig Refusal) → judged_statement contents (named_statement file.tokens) ≡ answer → (answered done file answer).found ≡ [] → FromFile contents done file
    by_judged (Err refusal) there is = absurd (found_more done.found (in_source file.path refusal) is)
    by_judged (Ok query) there is =
        let from = statement_ok contents file.tokens query there in
        record {
          nothing_found = is;
          written = file_with file.path from.own from.found;
          from = record { query = from.own; annotated = from.annotated; found = from.found; judges = from.judges; is = refl };
          made = ap (λ (answer : Result QuerySig Refusal). done.made ++ record { source = file_name file.path; queries = (answered done file answer).made } ∷ []) there
              ∙ ap (λ (q : QuerySig). done.made ++ record { source = file_name file.path; queries = q ∷ [] } ∷ []) from.is;
        }

-- files behind which nothing is found
record FromFiles (contents : Contents) (done : SoFar (List QueryFile)) (files : List SourceFile) : Type 0 where
  nothing_found : done.found ≡ []
  written : List QueryFile
  from : AllZip (FromQuery contents) files written
  made : (folded (after_queries contents) done files).made ≡ done.made ++ written

files_ok : (contents : Contents) (done : SoFar (List QueryFile)) (files : List SourceFile) → (folded (after_queries contents) done files).found ≡ [] → FromFiles contents done files
files_ok contents done [] is = record { nothing_found = is; written = []; from = tt; made = sym (append-nil done.made) }
files_ok contents done (file ∷ files) is =
    let later = files_ok contents (after_queries contents done file) files is in
    let first = file_ok contents done file later.nothing_found in
    record {
      nothing_found = first.nothing_found;
      written = first.written ∷ later.written;
      from = (first.from, later.from);
      made = later.made ∙ ap (λ (made : List QueryFile). made ++ later.written) first.made ∙ append_assoc done.made (first.written ∷ []) later.written;
    }

unless_ok : (made written : List QueryFile) (found : List Finding) → value_unless made found ≡ Ok written → (made ≡ written) × (found ≡ [])
unless_ok made written [] is = (cc is, refl)
unless_ok made written (finding ∷ found) is = absurd (cc is)

-- the files of queries of an accepted block
pub queries_ok : (contents : Contents) (files : List SourceFile) (written : List QueryFile) → declared_in contents files ≡ Ok written → AllZip (FromQuery contents) files written
queries_ok contents files written is =
    let all = folded (after_queries contents) nothing files in
    let ok = unless_ok all.made written all.found is in
    let from = files_ok contents nothing files ok.1 in
    subst (AllZip (FromQuery contents) files) (sym from.made ∙ ok.0) from.from
