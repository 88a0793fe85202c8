-- The queries of WITH are read as they are spelled.
use Rattle.std.proofs.Common.{◌≡◌, ℕ, true, false, List, [], ◌∷◌, ◌++◌, refl, ap, subst, ◌∙◌, arith, append_assoc, map}
use Rattle.std.specs.Prelude.{flat_map}
use Rattle.std.proofs.lemmas.List.Folds.{flat_map-map}
use Rattle.std.proofs.lemmas.Simd.{map-map}
use Rattle.sq_syntax.specs.declared.symbol.Symbol.TheVariants as s
use Rattle.sq_syntax.specs.declared.symbol.Reading.TheVariants as reading
use Rattle.sq_syntax.specs.declared.name.Identifier.{Identifier}
use Rattle.sq_syntax.specs.declared.query.Query.{Query}
use Rattle.sq_syntax.specs.declared.query.With.{With}
use Rattle.sq_syntax.specs.declared.query.Materialized.{Materialized}
use Rattle.sq_syntax.specs.declared.query.Materialized.TheVariants as materialized
use Rattle.sq_syntax.specs.Facts.{Stream, Says, Piece}
use Rattle.sq_syntax.specs.Grammar.{query_facts}
use Rattle.sq_syntax.specs.Pieces as p
use Rattle.sq_syntax.specs.Pieces.{sym as word}
use Rattle.sq_syntax.specs.QueryPieces as f
use Rattle.sq_grammar.specs.Reading.{Parser, ◌>>=◌, ◌>>◌, pure, choose, sees, expect, same, many}
use Rattle.sq_grammar.specs.Names.{name}
use Rattle.sq_grammar.specs.Levels.{Expr}
use Rattle.sq_grammar.specs.Queries.{bracketed_names, materialized_words, with_query, with_queries}
use Rattle.sq_grammar.proofs.Runs.{Run}
use Rattle.sq_grammar.proofs.Complete.{step, says_expect, same_self, Item}
use Rattle.sq_grammar.proofs.Chains.{Gives, many_reads}
use Rattle.sq_grammar.proofs.ReadNames.{Lacks, chosen, passed, name_read}
use Rattle.sq_grammar.proofs.ReadTypes.{other_symbol, that_symbol, back}
use Rattle.sq_grammar.proofs.QueryFacts.{with_facts}
use Rattle.sq_grammar.proofs.Aliases.{bracketed_names_read}
use Rattle.sq_grammar.proofs.ReadsBelow.{is_over, ReadsBelow}

abbrev yes : Parser Materialized
yes = expect s.Materialized >> pure materialized.Yes

abbrev no : Parser Materialized
no = expect s.Not >> (expect s.Materialized >> pure materialized.No)

abbrev perhaps_no : Parser Materialized
perhaps_no = choose (sees s.Not) no (pure materialized.Unsaid)

materialized_read : (d : ℕ) (x : Materialized) (rest : List Piece) (now next : Stream) → Run (f.materialized_words x ++ rest) d now next → Lacks s.Materialized rest d next → Lacks s.Not rest d next → Gives (materialized_words now) x rest d next
unfolding materialized_words same
materialized_read d materialized.Unsaid rest now next run plain negated = (now, passed (sees s.Materialized) yes perhaps_no now (plain now run) ∙ passed (sees s.Not) no (pure materialized.Unsaid) now (negated now run), run)
materialized_read d materialized.Yes rest now next run plain negated = (
  run.0,
  chosen (sees s.Materialized) yes perhaps_no now (that_symbol s.Materialized now run.0 run.1) ∙ step (expect s.Materialized) (λ _. pure materialized.Yes) now run.0 tt (says_expect s.Materialized now run.0 run.1),
  run.3,
)
materialized_read d materialized.No rest now next run plain negated =
    let u = run.0 in
    let v = run.3.0 in (
      v,
      passed (sees s.Materialized) yes perhaps_no now (other_symbol s.Materialized s.Not now u run.1 refl)
          ∙ chosen (sees s.Not) no (pure materialized.Unsaid) now (that_symbol s.Not now u run.1)
          ∙ step (expect s.Not) (λ _. expect s.Materialized >> pure materialized.No) now u tt (says_expect s.Not now u run.1)
          ∙ step (expect s.Materialized) (λ _. pure materialized.No) u v tt (says_expect s.Materialized u v run.3.1),
      run.3.3,
    )

-- a bracket that closes ends a query
pub close_over : (now next : Stream) → Says (reading.Symbol s.Close) now next → is_over now.tokens ≡ true
close_over now next h = ap is_over h.first ∙ same_self s.Close

-- a query in brackets, of what is left of the depth
pub bracketed_query : {A : Type 0} (make : Query → A) (inner : Parser Query) (k : ℕ) → ReadsBelow k inner → (x : Query) (rest : List Piece) (now next : Stream) → Run (word s.Open ∷ p.whole (query_facts x) ∷ word s.Close ∷ rest) k now next
    → Gives ((expect s.Open >>= (λ _. inner >>= (λ y. expect s.Close >> pure (make y)))) now) (make x) rest k next
bracketed_query make inner k queries x rest now next run =
    let u = run.0 in
    let q = run.3 in
    let c = q.4 in (
      c.0,
      step (expect s.Open) (λ _. inner >>= (λ y. expect s.Close >> pure (make y))) now u tt (says_expect s.Open now u run.1)
          ∙ step inner (λ y. expect s.Close >> pure (make y)) u q.0 x (queries x u q.0 q.1 (omega (arith, q.2, run.2)) q.3 (close_over q.0 c.0 c.1))
          ∙ step (expect s.Close) (λ _. pure (make x)) q.0 c.0 tt (says_expect s.Close q.0 c.0 c.1),
      subst (λ n. Run rest n c.0 next) (back k run.2) c.3,
    )

abbrev pub comma_with : With Query → List Piece
comma_with x = word s.Comma ∷ f.with_query (with_facts x)

withs_pieces : (x : With Query) (xs : List (With Query)) → p.listed (map f.with_query (map with_facts (x ∷ xs))) ≡ f.with_query (with_facts x) ++ flat_map comma_with xs
withs_pieces x xs =
    ap (λ ps. f.with_query (with_facts x) ++ ps) (
    ap (λ ps. flat_map (λ item. word s.Comma ∷ item) ps) (map-map f.with_query with_facts xs) ∙ flat_map-map (λ (item : List Piece). word s.Comma ∷ item) (λ (y : With Query). f.with_query (with_facts y)) xs)

module _ (expr : Parser Expr) (inner : Parser Query) (k : ℕ) (queries : ReadsBelow k inner) where
  abbrev with_of : Identifier → List Identifier → Materialized → Query → With Query
  with_of x columns words query = record { name = x; columns = columns; materialized = words; query = query }

  -- what stands behind AS
  abbrev behind_as : Identifier → List Identifier → Parser (With Query)
  behind_as x columns = materialized_words >>= (λ words. expect s.Open >>= (λ _. inner >>= (λ y. expect s.Close >> pure (with_of x columns words y))))

  with_read : (x : With Query) (rest : List Piece) (now next : Stream) → Run (f.with_query (with_facts x) ++ rest) k now next → Gives (with_query expr inner now) x rest k next
  unfolding with_query same
  with_read x rest now next run =
      let held = word s.Open ∷ p.whole (query_facts x.query) ∷ word s.Close ∷ [] in
      let words = f.materialized_words x.materialized in
      let columns = p.bracketed_names x.columns in
      let front = p.name x.name ++ columns in
      let all = subst (λ ps. Run ps k now next) (append_assoc (front ++ word s.As ∷ words) held rest ∙ append_assoc front (word s.As ∷ words) (held ++ rest) ∙ append_assoc (p.name x.name) columns (word s.As ∷ words ++ (held ++ rest))) run in
      let a = name_read k x.name (columns ++ (word s.As ∷ words ++ (held ++ rest))) now next all in
      let b = bracketed_names_read k x.columns (word s.As ∷ words ++ (held ++ rest)) a.0 next a.2 (λ u r. other_symbol s.Open s.As u r.0 r.1 refl) in
      let c = b.2 in
      let m = materialized_read k x.materialized (held ++ rest) c.0 next c.3 (λ u r. other_symbol s.Materialized s.Open u r.0 r.1 refl) (λ u r. other_symbol s.Not s.Open u r.0 r.1 refl) in
      let q = bracketed_query (with_of x.name x.columns x.materialized) inner k queries x.query rest m.0 next m.2 in (
        q.0,
        step name (λ y. bracketed_names >>= (λ ys. expect s.As >> behind_as y ys)) now a.0 x.name a.1
            ∙ step bracketed_names (λ ys. expect s.As >> behind_as x.name ys) a.0 b.0 x.columns b.1
            ∙ step (expect s.As) (λ _. behind_as x.name x.columns) b.0 c.0 tt (says_expect s.As b.0 c.0 c.1)
            ∙ step materialized_words (λ words. expect s.Open >>= (λ _. inner >>= (λ y. expect s.Close >> pure (with_of x.name x.columns words y)))) c.0 m.0 x.materialized m.1
            ∙ q.1,
        q.2,
      )

  abbrev next_with : Parser (With Query)
  next_with = expect s.Comma >> with_query expr inner

  with_item : Item k (sees s.Comma) next_with comma_with (λ now. false)
  with_item = record {
    begun = λ x rest now next run stop. that_symbol s.Comma now run.0 run.1;
    stops = λ x rest now next run. refl;
    some = λ x. omega arith;
    reads = λ x rest now next run stop.
        let t = with_read x rest run.0 next run.3 in
        (t.0, step (expect s.Comma) (λ _. with_query expr inner) now run.0 tt (says_expect s.Comma now run.0 run.1) ∙ t.1, t.2);
  }

  abbrev with_items : Parser (List (With Query))
  with_items = expect s.With >>= (λ _. with_query expr inner >>= (λ y. many (sees s.Comma) next_with >>= (λ ys. pure (y ∷ ys))))

  pub withs_read : (xs : List (With Query)) (rest : List Piece) (now next : Stream) → Run (f.with_queries (map with_facts xs) ++ rest) k now next → Lacks s.With rest k next → Lacks s.Comma rest k next → Gives (with_queries expr inner now) xs rest k next
  unfolding with_queries
  withs_read [] rest now next run with comma = (now, passed (sees s.With) with_items (pure []) now (with now run), run)
  withs_read (x ∷ xs) rest now next run with comma =
      let u = run.0 in
      let more = flat_map comma_with xs in
      let parts = subst (λ ps. Run ps k u next) (ap (λ ps. ps ++ rest) (withs_pieces x xs) ∙ append_assoc (f.with_query (with_facts x)) more rest) run.3 in
      let t = with_read x (more ++ rest) u next parts in
      let others = many_reads k (sees s.Comma) next_with comma_with (λ v. false) with_item xs rest t.0 next t.2 (λ v r. (comma v r, refl)) in (
        others.0,
        chosen (sees s.With) with_items (pure []) now (that_symbol s.With now u run.1)
            ∙ step (expect s.With) (λ _. with_query expr inner >>= (λ y. many (sees s.Comma) next_with >>= (λ ys. pure (y ∷ ys)))) now u tt (says_expect s.With now u run.1)
            ∙ step (with_query expr inner) (λ y. many (sees s.Comma) next_with >>= (λ ys. pure (y ∷ ys))) u t.0 x t.1
            ∙ step (many (sees s.Comma) next_with) (λ ys. pure (x ∷ ys)) t.0 others.0 xs others.1,
        others.2,
      )
