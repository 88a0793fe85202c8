-- The clauses of a query that hold expressions are read as they are spelled.
use Rattle.std.proofs.Common.{◌≡◌, ℕ, suc, ◌≤◌, false, List, [], ◌∷◌, ◌++◌, Option, Some, None, refl, subst, ◌∙◌, arith, map}
use Rattle.std.specs.Prelude.{option_map}
use Rattle.sq_syntax.specs.declared.symbol.Symbol.{Symbol}
use Rattle.sq_syntax.specs.declared.symbol.Symbol.TheVariants as s
use Rattle.sq_syntax.specs.declared.symbol.Reading.TheVariants as reading
use Rattle.sq_syntax.specs.declared.expr.Sort.{Sort as SortItem}
use Rattle.sq_syntax.specs.declared.query.Query.{Query}
use Rattle.sq_syntax.specs.declared.query.Limit.{Limit}
use Rattle.sq_syntax.specs.declared.query.Limit.TheVariants as limit_kind
use Rattle.sq_syntax.specs.declared.query.Offset.{Offset}
use Rattle.sq_syntax.specs.declared.query.RowWord.{RowWord}
use Rattle.sq_syntax.specs.declared.query.RowWord.TheVariants as row_word
use Rattle.sq_syntax.specs.Facts.{Stream, Piece, Turn, turn}
use Rattle.sq_syntax.specs.Pieces as p
use Rattle.sq_syntax.specs.Pieces.{sym as word}
use Rattle.sq_syntax.specs.ExpressionPieces as g
use Rattle.sq_syntax.specs.QueryPieces as f
use Rattle.sq_grammar.specs.Reading.{Parser, ◌>>=◌, ◌>>◌, pure, choose, begins, begins_both, sees, expect}
use Rattle.sq_grammar.specs.Ahead.{Lexemes}
use Rattle.sq_grammar.specs.Levels.{Expr}
use Rattle.sq_grammar.specs.Primaries.{order}
use Rattle.sq_grammar.specs.Tests.{list}
use Rattle.sq_grammar.specs.Queries.{clause, group, limit, offset, row_words}
use Rattle.sq_grammar.proofs.Runs.{Run, spent}
use Rattle.sq_grammar.proofs.Complete.{step, says_expect, goes_on}
use Rattle.sq_grammar.proofs.Chains.{Gives}
use Rattle.sq_grammar.proofs.Joints.{says_goes}
use Rattle.sq_grammar.proofs.Lists.{facts_of, ReadsTo, list_over}
use Rattle.sq_grammar.proofs.Sorts.{sort_facts, order_read}
use Rattle.sq_grammar.proofs.QueryFacts.{limit_facts, offset_facts}
use Rattle.sq_grammar.proofs.QueryWords.{row_read}
use Rattle.sq_grammar.proofs.ReadNames.{chosen, passed}
use Rattle.sq_grammar.proofs.ReadTypes.{that_symbol}
use Rattle.sq_grammar.proofs.Aliases.{neither}
use Rattle.sq_grammar.proofs.Ranks.{Behind, symbol_rank, lacks_before, stops_behind, list_behind, behind_word}

-- ---- what stands behind, past a clause that may be there

pub past_optional : (k : Symbol) (x : Option Expr) (n m d : ℕ) (rest : List Piece) (next : Stream) → n ≤ symbol_rank k → n ≤ m → Behind m rest d next → Behind n (f.optional k (option_map facts_of x) ++ rest) d next
past_optional k None n m d rest next low less behind u run = omega (arith, less, behind u run)
past_optional k (Some x) n m d rest next low less behind u run = behind_word k n u run.0 run.1 low

pub past_group : (xs : List Expr) (n m d : ℕ) (rest : List Piece) (next : Stream) → n ≤ 6 → n ≤ m → Behind m rest d next → Behind n (f.group (map facts_of xs) ++ rest) d next
past_group [] n m d rest next low less behind u run = omega (arith, less, behind u run)
past_group (x ∷ xs) n m d rest next low less behind u run = behind_word s.Group n u run.0 run.1 low

pub past_order : (xs : List (SortItem Expr)) (n m d : ℕ) (rest : List Piece) (next : Stream) → n ≤ 10 → n ≤ m → Behind m rest d next → Behind n (g.order (map sort_facts xs) ++ rest) d next
past_order [] n m d rest next low less behind u run = omega (arith, less, behind u run)
past_order (x ∷ xs) n m d rest next low less behind u run = behind_word s.Order n u run.0 run.1 low

pub past_limit : (x : Option (Limit Expr)) (n m d : ℕ) (rest : List Piece) (next : Stream) → n ≤ 11 → n ≤ m → Behind m rest d next → Behind n (f.limit_pieces (limit_facts x) ++ rest) d next
past_limit None n m d rest next low less behind u run = omega (arith, less, behind u run)
past_limit (Some limit_kind.All) n m d rest next low less behind u run = behind_word s.Limit n u run.0 run.1 low
past_limit (Some (limit_kind.Count x)) n m d rest next low less behind u run = behind_word s.Limit n u run.0 run.1 low

pub past_offset : (x : Option (Offset Expr)) (n m d : ℕ) (rest : List Piece) (next : Stream) → n ≤ 12 → n ≤ m → Behind m rest d next → Behind n (f.offset (offset_facts x) ++ rest) d next
past_offset None n m d rest next low less behind u run = omega (arith, less, behind u run)
past_offset (Some x) n m d rest next low less behind u run = behind_word s.Offset n u run.0 run.1 low

pub unseen_first : (x y : Symbol) (tokens : Lexemes) → begins x tokens ≡ false → begins_both x y tokens ≡ false
unseen_first x y [] h = refl
unseen_first x y (z ∷ rest) h = rw h refl

-- what stands behind DISTINCT
abbrev pub EndsDistinct : List Piece → ℕ → Stream → Type 0
EndsDistinct rest k next = (u : Stream) → Run rest k u next → (sees s.All u ≡ false) × (sees s.Distinct u ≡ false) × (sees s.On u ≡ false)

module _ (expr : Parser Expr) (inner : Parser Query) (k : ℕ) (read : ReadsTo k expr) where
  pub clause_read : (t : Symbol) (x : Option Expr) (rest : List Piece) (now next : Stream) → turn (reading.Symbol t) ≡ Turn.neither → Run (f.optional t (option_map facts_of x) ++ rest) k now next → Behind (suc (symbol_rank t)) rest k next → Gives (clause expr inner t now) x rest k next
  unfolding clause
  clause_read t None rest now next flat run behind = (now, passed (sees t) (expect t >> (expr >>= (λ y. pure (Some y)))) (pure None) now (lacks_before t (suc (symbol_rank t)) rest k next behind (omega arith) now run), run)
  clause_read t (Some x) rest now next flat run behind =
      let u = run.0 in
      let r = subst (λ w. Run (p.part 0 (facts_of x) ∷ rest) (spent w k) u next) flat run.3 in (
        r.0,
        chosen (sees t) (expect t >> (expr >>= (λ y. pure (Some y)))) (pure None) now (that_symbol t now u run.1)
            ∙ step (expect t) (λ _. expr >>= (λ y. pure (Some y))) now u tt (says_expect t now u run.1)
            ∙ step expr (λ y. pure (Some y)) u r.0 x (read x u r.0 r.1 r.2 r.3 (stops_behind (suc (symbol_rank t)) rest k next behind (omega arith) r.0 r.4)),
        r.4,
      )

  pub group_read : (xs : List Expr) (rest : List Piece) (now next : Stream) → Run (f.group (map facts_of xs) ++ rest) k now next → Behind 7 rest k next → Gives (group expr inner now) xs rest k next
  unfolding group
  group_read [] rest now next run behind = (now, passed (sees s.Group) (expect s.Group >> (expect s.By >> list expr inner)) (pure []) now (lacks_before s.Group 7 rest k next behind (omega arith) now run), run)
  group_read (x ∷ xs) rest now next run behind =
      let u = run.0 in
      let v = run.3.0 in
      let l = list_over expr inner k read x xs rest v next run.3.3 (list_behind 7 rest k next behind (omega arith)) in (
        l.0,
        chosen (sees s.Group) (expect s.Group >> (expect s.By >> list expr inner)) (pure []) now (that_symbol s.Group now u run.1)
            ∙ step (expect s.Group) (λ _. expect s.By >> list expr inner) now u tt (says_expect s.Group now u run.1)
            ∙ step (expect s.By) (λ _. list expr inner) u v tt (says_expect s.By u v run.3.1)
            ∙ l.1,
        l.2,
      )

  pub sorts_read : (xs : List (SortItem Expr)) (rest : List Piece) (now next : Stream) → Run (g.order (map sort_facts xs) ++ rest) k now next → Behind 11 rest k next → Gives (order expr inner now) xs rest k next
  sorts_read xs rest now next run behind =
      order_read k expr inner k read xs rest now next run
      (λ u r. neither _ _ (stops_behind 11 rest k next behind (omega arith) u r) (neither _ _ (lacks_before s.Asc 11 rest k next behind (omega arith) u r) (neither _ _ (lacks_before s.Desc 11 rest k next behind (omega arith) u r) (lacks_before s.Nulls 11 rest k next behind (omega arith) u r))))
      (λ u r. (lacks_before s.Comma 11 rest k next behind (omega arith) u r, lacks_before s.Order 11 rest k next behind (omega arith) u r))

  abbrev counted : Parser (Option (Limit Expr))
  counted = expr >>= (λ y. pure (Some (limit_kind.Count y)))

  abbrev all_rows : Parser (Option (Limit Expr))
  all_rows = expect s.All >> pure (Some limit_kind.All)

  abbrev limited : Parser (Option (Limit Expr))
  limited = expect s.Limit >> choose (sees s.All) all_rows counted

  pub limit_read : (x : Option (Limit Expr)) (rest : List Piece) (now next : Stream) → Run (f.limit_pieces (limit_facts x) ++ rest) k now next → Behind 12 rest k next
      → ((y : Expr) (u v : Stream) → expr u ≡ Some (y, v) → sees s.All u ≡ false) → Gives (limit expr inner now) x rest k next
  unfolding limit
  limit_read None rest now next run behind first = (now, passed (sees s.Limit) limited (pure None) now (lacks_before s.Limit 12 rest k next behind (omega arith) now run), run)
  limit_read (Some limit_kind.All) rest now next run behind first =
      let u = run.0 in
      let v = run.3.0 in (
        v,
        chosen (sees s.Limit) limited (pure None) now (that_symbol s.Limit now u run.1)
            ∙ step (expect s.Limit) (λ _. choose (sees s.All) all_rows counted) now u tt (says_expect s.Limit now u run.1)
            ∙ chosen (sees s.All) all_rows counted u (that_symbol s.All u v run.3.1)
            ∙ step (expect s.All) (λ _. pure (Some limit_kind.All)) u v tt (says_expect s.All u v run.3.1),
        run.3.3,
      )
  limit_read (Some (limit_kind.Count x)) rest now next run behind first =
      let u = run.0 in
      let r = run.3 in
      let is_read = read x u r.0 r.1 r.2 r.3 (stops_behind 12 rest k next behind (omega arith) r.0 r.4) in (
        r.0,
        chosen (sees s.Limit) limited (pure None) now (that_symbol s.Limit now u run.1)
            ∙ step (expect s.Limit) (λ _. choose (sees s.All) all_rows counted) now u tt (says_expect s.Limit now u run.1)
            ∙ passed (sees s.All) all_rows counted u (first x u r.0 is_read)
            ∙ step expr (λ y. pure (Some (limit_kind.Count y))) u r.0 x is_read,
        r.4,
      )

  row_stops : (x : RowWord) (rest : List Piece) (next : Stream) → Behind 13 rest k next → (u : Stream) → Run (f.row_words x ++ rest) k u next → goes_on 0 u ≡ false
  row_stops row_word.Unsaid rest next behind u run = stops_behind 13 rest k next behind (omega arith) u run
  row_stops row_word.Row rest next behind u run = says_goes 0 (reading.Symbol s.Row) u run.0 run.1
  row_stops row_word.Rows rest next behind u run = says_goes 0 (reading.Symbol s.Rows) u run.0 run.1

  abbrev some_offset : Parser (Option (Offset Expr))
  some_offset = expect s.Offset >>= (λ _. expr >>= (λ y. row_words >>= (λ z. pure (Some (record { count = y; word = z })))))

  pub offset_read : (x : Option (Offset Expr)) (rest : List Piece) (now next : Stream) → Run (f.offset (offset_facts x) ++ rest) k now next → Behind 13 rest k next → Gives (offset expr inner now) x rest k next
  unfolding offset
  offset_read None rest now next run behind = (now, passed (sees s.Offset) some_offset (pure None) now (lacks_before s.Offset 13 rest k next behind (omega arith) now run), run)
  offset_read (Some x) rest now next run behind =
      let u = run.0 in
      let r = run.3 in
      let w = row_read k x.word rest r.0 next r.4 (lacks_before s.Row 13 rest k next behind (omega arith)) (lacks_before s.Rows 13 rest k next behind (omega arith)) in (
        w.0,
        chosen (sees s.Offset) some_offset (pure None) now (that_symbol s.Offset now u run.1)
            ∙ step (expect s.Offset) (λ _. expr >>= (λ y. row_words >>= (λ z. pure (Some (record { count = y; word = z }))))) now u tt (says_expect s.Offset now u run.1)
            ∙ step expr (λ y. row_words >>= (λ z. pure (Some (record { count = y; word = z })))) u r.0 x.count (read x.count u r.0 r.1 r.2 r.3 (row_stops x.word rest next behind r.0 r.4))
            ∙ step row_words (λ z. pure (Some (record { count = x.count; word = z }))) r.0 w.0 x.word w.1,
        w.2,
      )
