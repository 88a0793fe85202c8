-- A select is read as it is spelled.
use Rattle.std.proofs.Common.{◌≡◌, ℕ, ◌≤◌, true, List, [], ◌∷◌, ◌++◌, Option, Some, refl, sym, ap, subst, ◌∙◌, arith, append_assoc, map}
use Rattle.std.specs.Prelude.{option_map}
use Rattle.std.proofs.lemmas.List.{append-nil}
use Rattle.sq_syntax.specs.declared.symbol.Symbol.TheVariants as s
use Rattle.sq_syntax.specs.declared.expr.Node.{Node}
use Rattle.sq_syntax.specs.declared.expr.Expression.TheViews.{roll-out-Select}
use Rattle.sq_syntax.specs.declared.query.Query.{Query}
use Rattle.sq_syntax.specs.declared.query.From.{From}
use Rattle.sq_syntax.specs.declared.query.Select.{Select, out-Select, roll-Select}
use Rattle.sq_syntax.specs.declared.query.Distinctness.{Distinctness}
use Rattle.sq_syntax.specs.declared.query.Output.{Output}
use Rattle.sq_syntax.specs.Facts.{Stream, Piece, Along, Facts, from}
use Rattle.sq_syntax.specs.Pieces as p
use Rattle.sq_syntax.specs.Pieces.{sym as word}
use Rattle.sq_syntax.specs.QueryPieces as f
use Rattle.sq_syntax.specs.Grammar.{from_facts, select_facts}
use Rattle.sq_grammar.specs.Reading.{Parser, ◌>>=◌, ◌>>◌, pure, sees, expect, same, many}
use Rattle.sq_grammar.specs.Levels.{Expr}
use Rattle.sq_grammar.specs.Queries.{distinct, output, from_clause, clause, group, select}
use Rattle.sq_grammar.proofs.Runs.{Run}
use Rattle.sq_grammar.proofs.Complete.{step, says_expect}
use Rattle.sq_grammar.proofs.Chains.{Gives}
use Rattle.sq_grammar.proofs.Begins.{Starts, starts_negated}
use Rattle.sq_grammar.proofs.Stars.{Unstarred}
use Rattle.sq_grammar.proofs.Lists.{facts_of, ReadsTo}
use Rattle.sq_grammar.proofs.Layers.{SelectLayer, select_out}
use Rattle.sq_grammar.proofs.QueryFacts.{distinct_facts, output_facts, select_parts_of}
use Rattle.sq_grammar.proofs.ReadsBelow.{ReadsBelow}
use Rattle.sq_grammar.proofs.Ranks.{Behind, rank, lacks_before, stops_behind, label_behind, behind_word}
use Rattle.sq_grammar.proofs.Aliases.{neither}
use Rattle.sq_grammar.proofs.Clauses.{past_optional, past_group, clause_read, group_read}
use Rattle.sq_grammar.proofs.Distinct.{EndsOutput, distinct_read}
use Rattle.sq_grammar.proofs.Outputs.{outputs_read}
use Rattle.sq_grammar.proofs.OutputStarts.{output_lacks}
use Rattle.sq_grammar.proofs.FromClauses.{from_read}
use Rattle.sq_grammar.proofs.FromFronts.{wholly}
use Rattle.sq_grammar.proofs.Joints.{false_true}
use Rattle.sq_grammar.proofs.Named.{run_part}
use Rattle.sq_grammar.proofs.ReadTypes.{that_symbol}

past_from : (xs : List From) (n m d : ℕ) (rest : List Piece) (next : Stream) → n ≤ 4 → n ≤ m → Behind m rest d next → Behind n (f.from (map from_facts xs) ++ rest) d next
past_from [] n m d rest next low less behind u run = omega (arith, less, behind u run)
past_from (x ∷ xs) n m d rest next low less behind u run = behind_word s.From n u run.0 run.1 low

pub output_behind : (rest : List Piece) (d : ℕ) (next : Stream) → Behind 4 rest d next → EndsOutput rest d next
output_behind rest d next behind u run =
    neither _ _ (stops_behind 4 rest d next behind (omega arith) u run) (
    neither _ _ (label_behind 4 rest d next behind (omega arith) u run).0 (
    neither _ _ (label_behind 4 rest d next behind (omega arith) u run).1 (lacks_before s.Time 4 rest d next behind (omega arith) u run)))

abbrev selected : Distinctness Expr → List (Node (Output Expr)) → List From → Option Expr → List Expr → Option Expr → SelectLayer
selected words outputs sources condition grouping having = record { distinct = words; outputs = outputs; from = sources; condition = condition; group = grouping; having = having }

-- what stands behind the outputs
abbrev clauses : List From → Option Expr → List Expr → Option Expr → List Piece → List Piece
clauses sources condition grouping having rest =
    f.from (map from_facts sources) ++ (f.optional s.Where (option_map facts_of condition) ++ (f.group (map facts_of grouping) ++ (f.optional s.Having (option_map facts_of having) ++ rest)))

abbrev outputs_of : List (Node (Output Expr)) → List Piece
outputs_of outputs = p.some (map output_facts outputs) ∷ p.listed (map f.output_pieces (map output_facts outputs))

abbrev select_pieces : Distinctness Expr → List (Node (Output Expr)) → List From → Option Expr → List Expr → Option Expr → List Piece
select_pieces words outputs sources condition grouping having =
    word s.Select ∷ f.distinct_words (distinct_facts words) ++ outputs_of outputs ++ f.from (map from_facts sources) ++ f.optional s.Where (option_map facts_of condition) ++ f.group (map facts_of grouping)
    ++ f.optional s.Having (option_map facts_of having)

regrouped : (words : Distinctness Expr) (outputs : List (Node (Output Expr))) (sources : List From) (condition : Option Expr) (grouping : List Expr) (having : Option Expr) (rest : List Piece)
    → select_pieces words outputs sources condition grouping having ++ rest ≡ word s.Select ∷ f.distinct_words (distinct_facts words) ++ (outputs_of outputs ++ clauses sources condition grouping having rest)
regrouped words outputs sources condition grouping having rest =
    let a = word s.Select ∷ f.distinct_words (distinct_facts words) in
    let b = outputs_of outputs in
    let c = f.from (map from_facts sources) in
    let w = f.optional s.Where (option_map facts_of condition) in
    let g = f.group (map facts_of grouping) in
    let h = f.optional s.Having (option_map facts_of having) in
    append_assoc (a ++ b ++ c ++ w ++ g) h rest ∙ append_assoc (a ++ b ++ c ++ w) g (h ++ rest) ∙ append_assoc (a ++ b ++ c) w (g ++ (h ++ rest)) ∙ append_assoc (a ++ b) c (w ++ (g ++ (h ++ rest)))
    ∙ append_assoc a b (c ++ (w ++ (g ++ (h ++ rest))))

module _ (expr : Parser Expr) (inner : Parser Query) (k : ℕ) (read : ReadsTo k expr) (starts : Starts starts_negated expr) (unstarred : Unstarred expr) (queries : ReadsBelow k inner) where
  abbrev next_output : Parser (Node (Output Expr))
  next_output = expect s.Comma >> output expr inner

  abbrev made : Distinctness Expr → List (Node (Output Expr)) → List From → Option Expr → List Expr → Option Expr → Select
  made words outputs sources condition grouping having = roll-Select (selected words outputs sources condition grouping having)

  abbrev to_having : Distinctness Expr → List (Node (Output Expr)) → List From → Option Expr → List Expr → Parser Select
  to_having words outputs sources condition grouping = clause expr inner s.Having >>= (λ having. pure (made words outputs sources condition grouping having))

  abbrev to_group : Distinctness Expr → List (Node (Output Expr)) → List From → Option Expr → Parser Select
  to_group words outputs sources condition = group expr inner >>= to_having words outputs sources condition

  abbrev to_condition : Distinctness Expr → List (Node (Output Expr)) → List From → Parser Select
  to_condition words outputs sources = clause expr inner s.Where >>= to_group words outputs sources

  abbrev to_from : Distinctness Expr → List (Node (Output Expr)) → Parser Select
  to_from words outputs = from_clause expr inner >>= to_condition words outputs

  abbrev to_others : Distinctness Expr → Node (Output Expr) → Parser Select
  to_others words x = many (sees s.Comma) next_output >>= (λ others. to_from words (x ∷ others))

  abbrev to_outputs : Distinctness Expr → Parser Select
  to_outputs words = output expr inner >>= to_others words

  parts_read : (words : Distinctness Expr) (x : Node (Output Expr)) (xs : List (Node (Output Expr))) (sources : List From) (condition : Option Expr) (grouping : List Expr) (having : Option Expr) (rest : List Piece) (now next : Stream)
      → Run (select_pieces words (x ∷ xs) sources condition grouping having ++ rest) k now next → Behind 8 rest k next → Gives (select expr inner now) (made words (x ∷ xs) sources condition grouping having) rest k next
  unfolding select same
  parts_read words x xs sources condition grouping having rest now next run behind =
      let last = f.optional s.Having (option_map facts_of having) ++ rest in
      let grouped = f.group (map facts_of grouping) ++ last in
      let filtered = f.optional s.Where (option_map facts_of condition) ++ grouped in
      let tail = f.from (map from_facts sources) ++ filtered in
      let before_having : Behind 7 last k next = past_optional s.Having having 7 8 k rest next (omega arith) (omega arith) behind in
      let before_group : Behind 6 grouped k next = past_group grouping 6 7 k last next (omega arith) (omega arith) before_having in
      let before_where : Behind 5 filtered k next = past_optional s.Where condition 5 6 k grouped next (omega arith) (omega arith) before_group in
      let before_from : Behind 4 tail k next = past_from sources 4 5 k filtered next (omega arith) (omega arith) before_where in
      let outputs_at = λ (u : Stream) (r : Run (outputs_of (x ∷ xs) ++ tail) k u next). outputs_read expr inner k read starts unstarred x xs tail u next r.1 (output_behind tail k next before_from) (lacks_before s.Comma 4 tail k next before_from (omega arith)) in
      let all = subst (λ ps. Run ps k now next) (regrouped words (x ∷ xs) sources condition grouping having rest) run in
      let u = all.0 in
      let d = distinct_read expr inner k read starts words (outputs_of (x ∷ xs) ++ tail) u next all.3
      (λ v r. let o = (outputs_at v r).first in (output_lacks expr inner starts s.All refl v _ x o, output_lacks expr inner starts s.Distinct refl v _ x o, output_lacks expr inner starts s.On refl v _ x o)) in
      let o = outputs_at d.0 d.2 in
      let m = o.others in
      let a = from_read expr inner k read queries sources filtered m.0 next m.2 before_where in
      let w = clause_read expr inner k read s.Where condition grouped a.0 next refl a.2 before_group in
      let g = group_read expr inner k read grouping last w.0 next w.2 before_having in
      let h = clause_read expr inner k read s.Having having rest g.0 next refl g.2 behind in (
        h.0,
        step (expect s.Select) (λ _. distinct expr inner >>= to_outputs) now u tt (says_expect s.Select now u all.1)
            ∙ step (distinct expr inner) to_outputs u d.0 words d.1
            ∙ step (output expr inner) (to_others words) d.0 o.next_of x o.first
            ∙ step (many (sees s.Comma) next_output) (λ others. to_from words (x ∷ others)) o.next_of m.0 xs m.1
            ∙ step (from_clause expr inner) (to_condition words (x ∷ xs)) m.0 a.0 sources a.1
            ∙ step (clause expr inner s.Where) (to_group words (x ∷ xs) sources) a.0 w.0 condition w.1
            ∙ step (group expr inner) (to_having words (x ∷ xs) sources condition) w.0 g.0 grouping g.1
            ∙ step (clause expr inner s.Having) (λ y. pure (made words (x ∷ xs) sources condition grouping y)) g.0 h.0 having h.1,
        h.2,
      )

  layer_read : (words : Distinctness Expr) (outputs : List (Node (Output Expr))) (sources : List From) (condition : Option Expr) (grouping : List Expr) (having : Option Expr) (now next : Stream)
      → Run (select_pieces words outputs sources condition grouping having ++ []) k now next → 8 ≤ rank next.tokens → select expr inner now ≡ Some (made words outputs sources condition grouping having, next)
  layer_read words [] sources condition grouping having now next run behind =
      let all = subst (λ ps. Run ps k now next) (regrouped words [] sources condition grouping having []) run in
      let m = run_part (f.distinct_words (distinct_facts words)) (outputs_of [] ++ clauses sources condition grouping having []) k all.0 next all.3 in
      absurd (false_true m.4.0)
  layer_read words (x ∷ xs) sources condition grouping having now next run behind =
      let g = parts_read words x xs sources condition grouping having [] now next run (λ u r. omega (arith, behind, ap (λ (v : Stream). rank v.tokens) r)) in
      g.1 ∙ ap (λ u. Some (made words (x ∷ xs) sources condition grouping having, u)) g.2

  select_run : (x : Select) (now next : Stream) → from 0 (select_facts x).level ≡ true → (select_facts x).depth ≤ k → Along (select_facts x).marks now next
      → let l = out-Select x in Run (select_pieces l.distinct l.outputs l.from l.condition l.group l.having) k now next
  select_run x now next ok le a =
      let l = out-Select x in
      let e = select_out x ∙ ap f.select_layer (select_parts_of l) in
      wholly (select_pieces l.distinct l.outputs l.from l.condition l.group l.having) k now next
      (subst (λ (z : Facts). from 0 z.level ≡ true) e ok)
      (subst (λ (z : Facts). z.depth ≤ k) e le)
      (subst (λ (z : Facts). Along z.marks now next) e a)

  pub select_read : (x : Select) (now next : Stream) → from 0 (select_facts x).level ≡ true → (select_facts x).depth ≤ k → Along (select_facts x).marks now next → 8 ≤ rank next.tokens → select expr inner now ≡ Some (x, next)
  select_read x now next ok le a behind =
      let l = out-Select x in
      let run = select_run x now next ok le a in
      layer_read l.distinct l.outputs l.from l.condition l.group l.having now next (subst (λ ps. Run ps k now next) (sym (append-nil (select_pieces l.distinct l.outputs l.from l.condition l.group l.having))) run) behind
      ∙ ap (λ y. Some (y, next)) (roll-out-Select x)

  pub select_begins : (x : Select) (now next : Stream) → from 0 (select_facts x).level ≡ true → (select_facts x).depth ≤ k → Along (select_facts x).marks now next → sees s.Select now ≡ true
  select_begins x now next ok le a =
      let l = out-Select x in
      let pieces = select_pieces l.distinct l.outputs l.from l.condition l.group l.having in
      let run = subst (λ ps. Run ps k now next) (sym (append-nil pieces) ∙ regrouped l.distinct l.outputs l.from l.condition l.group l.having []) (select_run x now next ok le a) in
      that_symbol s.Select now run.0 run.1
