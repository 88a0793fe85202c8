use Rattle.std.proofs.Common.{◌≡◌, ℕ, ◌≤◌, Bool, true, false, List, [], ◌∷◌, ◌++◌, Option, Some, None, refl, sym, ap, subst, ◌∙◌, arith, append_assoc, map}
use Rattle.std.specs.Prelude.{flat_map, ◌||◌}
use Rattle.std.proofs.lemmas.List.Folds.{flat_map-map}
use Rattle.sq_syntax.specs.declared.symbol.Symbol.TheVariants as s
use Rattle.sq_syntax.specs.declared.symbol.Reading.TheVariants as reading
use Rattle.sq_syntax.specs.Facts.{Stream, Says, Along, Piece, from}
use Rattle.sq_syntax.specs.Pieces.{Operand, Placed, at, sym as word, say, is_empty}
use Rattle.sq_syntax.specs.ExpressionPieces as g
use Rattle.sq_syntax.specs.Grammar.{tree_facts}
use Rattle.sq_grammar.specs.Reading.{Parser, ◌>>=◌, ◌>>◌, pure, sees, expect, same, token}
use Rattle.sq_grammar.proofs.Runs.{Run}
use Rattle.sq_grammar.proofs.Complete.{step, says_expect, says_token, Item, goes_on}
use Rattle.sq_syntax.specs.Pieces as p
use Rattle.sq_grammar.proofs.Begins.{head_fits}
use Rattle.sq_grammar.proofs.Joints.{says_goes, false_true}
use Rattle.sq_syntax.specs.declared.query.Query.{Query}
use Rattle.sq_grammar.specs.Reading.{choose, optional}
use Rattle.sq_grammar.specs.Levels.{Expr}
use Rattle.sq_grammar.proofs.Chains.{Gives}
use Rattle.sq_grammar.proofs.Begins.{starts_negated}
use Rattle.sq_grammar.proofs.ReadNames.{chosen, passed}
use Rattle.sq_grammar.proofs.ReadTypes.{other_symbol, that_symbol}
use Rattle.std.proofs.lemmas.Simd.{map-map}
use Rattle.std.specs.Prelude.{◌<◌}
use Rattle.sq_grammar.specs.Reading.{many}
use Rattle.sq_grammar.proofs.Complete.{Item}
use Rattle.sq_grammar.proofs.Chains.{many_reads, next_stops}
use Rattle.sq_grammar.proofs.Testing.{optional_no, optional_yes}
use Rattle.sq_grammar.proofs.Lists.{Inside, Looks}
use Rattle.sq_grammar.specs.Tests.{list}
use Rattle.sq_grammar.proofs.Lists.{facts_of, EndsList, list_read, close_ends}
use Rattle.std.specs.Prelude.{option_map}
use Rattle.sq_syntax.specs.declared.expr.Sort.{Sort as SortItem}
use Rattle.sq_syntax.specs.declared.expr.Direction.{Direction}
use Rattle.sq_syntax.specs.declared.expr.Direction.TheVariants as direction
use Rattle.sq_syntax.specs.declared.expr.Nulls.{Nulls}
use Rattle.sq_syntax.specs.declared.expr.Nulls.TheVariants as nulls
use Rattle.sq_syntax.specs.declared.expr.Arguments.{Arguments}
use Rattle.sq_syntax.specs.declared.expr.Arguments.TheVariants as arguments
use Rattle.sq_grammar.specs.Primaries.{direction_of, nulls_word, nulls_of, sort, next_sort, order_items, order, argument_list, within_call, filtered, filter}
use Rattle.sq_grammar.proofs.Words.{refuses}
use Rattle.sq_grammar.proofs.Lists.{optional_read}

-- ---- the items of ORDER BY

-- what stands behind an item of ORDER BY
abbrev pub EndsItem : List Piece → ℕ → Stream → Type 0
EndsItem rest k next = (u : Stream) → Run rest k u next → (goes_on 0 u ≡ false) × (sees s.Asc u ≡ false) × (sees s.Desc u ≡ false) × (sees s.Nulls u ≡ false)

direction_read : (k : ℕ) (x : Direction) (rest : List Piece) (now next : Stream) (nested : Parser Expr) (inner : Parser Query) → Run (g.sort_direction x ++ rest) k now next → ((u : Stream) → Run rest k u next → (sees s.Asc u ≡ false) × (sees s.Desc u ≡ false))
    → Gives (direction_of nested inner now) x rest k next
unfolding same
direction_read k direction.Unsaid rest now next nested inner run ends = (
  now,
  passed (sees s.Asc) (expect s.Asc >> pure direction.Ascending) (choose (sees s.Desc) (expect s.Desc >> pure direction.Descending) (pure direction.Unsaid)) now (ends now run).0
      ∙ passed (sees s.Desc) (expect s.Desc >> pure direction.Descending) (pure direction.Unsaid) now (ends now run).1,
  run,
)
direction_read k direction.Ascending rest now next nested inner run ends = (
  run.0,
  chosen (sees s.Asc) (expect s.Asc >> pure direction.Ascending) (choose (sees s.Desc) (expect s.Desc >> pure direction.Descending) (pure direction.Unsaid)) now (that_symbol s.Asc now run.0 run.1)
      ∙ step (expect s.Asc) (λ _. pure direction.Ascending) now run.0 tt (says_expect s.Asc now run.0 run.1),
  run.3,
)
direction_read k direction.Descending rest now next nested inner run ends = (
  run.0,
  passed (sees s.Asc) (expect s.Asc >> pure direction.Ascending) (choose (sees s.Desc) (expect s.Desc >> pure direction.Descending) (pure direction.Unsaid)) now (other_symbol s.Asc s.Desc now run.0 run.1 refl)
      ∙ chosen (sees s.Desc) (expect s.Desc >> pure direction.Descending) (pure direction.Unsaid) now (that_symbol s.Desc now run.0 run.1)
      ∙ step (expect s.Desc) (λ _. pure direction.Descending) now run.0 tt (says_expect s.Desc now run.0 run.1),
  run.3,
)

nulls_read : (k : ℕ) (x : Nulls) (rest : List Piece) (now next : Stream) (nested : Parser Expr) (inner : Parser Query) → Run (g.sort_nulls x ++ rest) k now next → ((u : Stream) → Run rest k u next → sees s.Nulls u ≡ false) → Gives (nulls_of nested inner now) x rest k next
nulls_read k nulls.Unsaid rest now next nested inner run ends = (now, passed (sees s.Nulls) (expect s.Nulls >> token (nulls_word nested inner)) (pure nulls.Unsaid) now (ends now run), run)
nulls_read k nulls.First rest now next nested inner run ends = (
  run.3.0,
  chosen (sees s.Nulls) (expect s.Nulls >> token (nulls_word nested inner)) (pure nulls.Unsaid) now (that_symbol s.Nulls now run.0 run.1)
      ∙ step (expect s.Nulls) (λ _. token (nulls_word nested inner)) now run.0 tt (says_expect s.Nulls now run.0 run.1)
      ∙ says_token (nulls_word nested inner) nulls.First (reading.Symbol s.First) run.0 run.3.0 run.3.1 refl,
  run.3.3,
)
nulls_read k nulls.Last rest now next nested inner run ends = (
  run.3.0,
  chosen (sees s.Nulls) (expect s.Nulls >> token (nulls_word nested inner)) (pure nulls.Unsaid) now (that_symbol s.Nulls now run.0 run.1)
      ∙ step (expect s.Nulls) (λ _. token (nulls_word nested inner)) now run.0 tt (says_expect s.Nulls now run.0 run.1)
      ∙ says_token (nulls_word nested inner) nulls.Last (reading.Symbol s.Last) run.0 run.3.0 run.3.1 refl,
  run.3.3,
)

abbrev pub sort_facts : SortItem Expr → SortItem Operand
sort_facts x = record { key = facts_of x.key; direction = x.direction; nulls = x.nulls }

abbrev pub sort_pieces : SortItem Expr → List Piece
sort_pieces x = g.sort (sort_facts x)

-- nothing of an item stands before its words
after_direction : (k : ℕ) (x : Nulls) (rest : List Piece) (next : Stream) → EndsItem rest k next → (u : Stream) → Run (g.sort_nulls x ++ rest) k u next → (sees s.Asc u ≡ false) × (sees s.Desc u ≡ false)
unfolding same
after_direction k nulls.Unsaid rest next ends u run = ((ends u run).1, (ends u run).2)
after_direction k nulls.First rest next ends u run = (other_symbol s.Asc s.Nulls u run.0 run.1 refl, other_symbol s.Desc s.Nulls u run.0 run.1 refl)
after_direction k nulls.Last rest next ends u run = (other_symbol s.Asc s.Nulls u run.0 run.1 refl, other_symbol s.Desc s.Nulls u run.0 run.1 refl)

nulls_stop : (k : ℕ) (x : Nulls) (rest : List Piece) (next : Stream) → EndsItem rest k next → (u : Stream) → Run (g.sort_nulls x ++ rest) k u next → goes_on 0 u ≡ false
nulls_stop k nulls.Unsaid rest next ends u run = (ends u run).0
nulls_stop k nulls.First rest next ends u run = says_goes 0 (reading.Symbol s.Nulls) u run.0 run.1
nulls_stop k nulls.Last rest next ends u run = says_goes 0 (reading.Symbol s.Nulls) u run.0 run.1

key_stop : (k : ℕ) (x : Direction) (y : Nulls) (rest : List Piece) (next : Stream) → EndsItem rest k next → (u : Stream) → Run (g.sort_direction x ++ (g.sort_nulls y ++ rest)) k u next → goes_on 0 u ≡ false
key_stop k direction.Unsaid y rest next ends u run = nulls_stop k y rest next ends u run
key_stop k direction.Ascending y rest next ends u run = says_goes 0 (reading.Symbol s.Asc) u run.0 run.1
key_stop k direction.Descending y rest next ends u run = says_goes 0 (reading.Symbol s.Desc) u run.0 run.1

abbrev pub comma_sort : SortItem Expr → List Piece
comma_sort x = word s.Comma ∷ sort_pieces x

abbrev pub sorts_pieces : SortItem Expr → List (SortItem Expr) → List Piece
sorts_pieces x xs = word s.Order ∷ word s.By ∷ sort_pieces x ++ flat_map comma_sort xs

pub order_pieces : (x : SortItem Expr) (xs : List (SortItem Expr)) → g.order (map sort_facts (x ∷ xs)) ≡ sorts_pieces x xs
order_pieces x xs = ap (λ ps. word s.Order ∷ word s.By ∷ sort_pieces x ++ ps) (ap (λ ps. flat_map (λ item. word s.Comma ∷ item) ps) (map-map g.sort sort_facts xs) ∙ flat_map-map (λ (item : List Piece). word s.Comma ∷ item) sort_pieces xs)

-- each test of what stands behind a list of items
abbrev pub EndsItems : List Piece → ℕ → Stream → Type 0
EndsItems rest k next = EndsItem rest k next × ((u : Stream) → Run rest k u next → sees s.Comma u ≡ false)

module _ (d : ℕ) (nested : Parser Expr) (inner : Parser Query) (k : ℕ)
    (read : (x : Expr) (now next : Stream) → from 0 (tree_facts x).level ≡ true → (tree_facts x).depth ≤ k → Along (tree_facts x).marks now next → goes_on 0 next ≡ false → nested now ≡ Some (x, next)) where
  sort_read : (x : SortItem Expr) (rest : List Piece) (now next : Stream) → Run (sort_pieces x ++ rest) k now next → EndsItem rest k next → Gives (sort nested inner now) x rest k next
  unfolding sort
  sort_read x rest now next run ends =
      let u = run.0 in
      let t = subst (λ ps. Run ps k u next) (append_assoc (g.sort_direction x.direction) (g.sort_nulls x.nulls) rest) run.4 in
      let way = direction_read k x.direction (g.sort_nulls x.nulls ++ rest) u next nested inner t (after_direction k x.nulls rest next ends) in
      let last = nulls_read k x.nulls rest way.0 next nested inner way.2 (λ v w. (ends v w).3) in (
        last.0,
        step nested (λ a. direction_of nested inner >>= (λ b. nulls_of nested inner >>= (λ c. pure (record { key = a; direction = b; nulls = c })))) now u x.key (read x.key now u run.1 run.2 run.3 (key_stop k x.direction x.nulls rest next ends u t))
            ∙ step (direction_of nested inner) (λ b. nulls_of nested inner >>= (λ c. pure (record { key = x.key; direction = b; nulls = c }))) u way.0 x.direction way.1
            ∙ step (nulls_of nested inner) (λ c. pure (record { key = x.key; direction = x.direction; nulls = c })) way.0 last.0 x.nulls last.1,
        last.2,
      )

  abbrev pub item_goes_on : Stream → Bool
  item_goes_on now = goes_on 0 now || (sees s.Asc now || (sees s.Desc now || sees s.Nulls now))

  neither_of : (a b : Bool) → a || b ≡ false → (a ≡ false) × (b ≡ false)
  neither_of false b h = (refl, h)
  neither_of true b h = absurd (cc)

  item_ends : (rest : List Piece) (next : Stream) → ((u : Stream) → Run rest k u next → item_goes_on u ≡ false) → EndsItem rest k next
  item_ends rest next stop u run =
      let a = neither_of _ _ (stop u run) in
      let b = neither_of _ _ a.1 in
      let c = neither_of _ _ b.1 in
      (a.0, b.0, c.0, c.1)

  none_of : (a b c e : Bool) → a ≡ false → b ≡ false → c ≡ false → e ≡ false → a || (b || (c || e)) ≡ false
  none_of false false false false h i j l = refl
  none_of false false false true h i j l = l
  none_of false false true e h i j l = j
  none_of false true c e h i j l = i
  none_of true b c e h i j l = h

  comma_stops : (now next : Stream) → Says (reading.Symbol s.Comma) now next → item_goes_on now ≡ false
  unfolding same
  comma_stops now next h = none_of _ _ _ _ (says_goes 0 (reading.Symbol s.Comma) now next h) (other_symbol s.Asc s.Comma now next h refl) (other_symbol s.Desc s.Comma now next h refl) (other_symbol s.Nulls s.Comma now next h refl)

  sort_item : Item k (sees s.Comma) (next_sort nested inner) comma_sort item_goes_on
  sort_item = record {
    begun = λ x rest now next run stop. that_symbol s.Comma now run.0 run.1;
    stops = λ x rest now next run. comma_stops now run.0 run.1;
    some = λ x. omega arith;
    reads = λ x rest now next run stop.
        let t = sort_read x rest run.0 next run.3 (item_ends rest next stop) in
        (t.0, step (expect s.Comma) (λ _. sort nested inner) now run.0 tt (says_expect s.Comma now run.0 run.1) ∙ t.1, t.2);
  }

  pub order_read : (xs : List (SortItem Expr)) (rest : List Piece) (now next : Stream) → Run (g.order (map sort_facts xs) ++ rest) k now next → ((u : Stream) → Run rest k u next → item_goes_on u ≡ false) → ((u : Stream) → Run rest k u next → (sees s.Comma u ≡ false) × (sees s.Order u ≡ false))
      → Gives (order nested inner now) xs rest k next
  unfolding order order_items
  order_read [] rest now next run stop ends = (now, passed (sees s.Order) (order_items nested inner) (pure []) now (ends now run).1, run)
  order_read (x ∷ xs) rest now next run stop ends =
      let more = flat_map comma_sort xs ++ rest in
      let r = subst (λ ps. Run (ps ++ rest) k now next) (order_pieces x xs) run in
      let b = r.3 in
      let t = subst (λ ps. Run ps k b.0 next) (append_assoc (sort_pieces x) (flat_map comma_sort xs) rest) b.3 in
      let first = sort_read x more b.0 next t (item_ends more next (λ u w. next_stops k (sees s.Comma) (next_sort nested inner) comma_sort item_goes_on sort_item xs rest u next w stop)) in
      let others = many_reads k (sees s.Comma) (next_sort nested inner) comma_sort item_goes_on sort_item xs rest first.0 next first.2 (λ u w. ((ends u w).0, stop u w)) in (
        others.0,
        chosen (sees s.Order) (order_items nested inner) (pure []) now (that_symbol s.Order now r.0 r.1)
            ∙ step (expect s.Order) (λ _. expect s.By >>= (λ _. sort nested inner >>= (λ a. many (sees s.Comma) (next_sort nested inner) >>= (λ more_of. pure (a ∷ more_of))))) now r.0 tt (says_expect s.Order now r.0 r.1)
            ∙ step (expect s.By) (λ _. sort nested inner >>= (λ a. many (sees s.Comma) (next_sort nested inner) >>= (λ more_of. pure (a ∷ more_of)))) r.0 b.0 tt (says_expect s.By r.0 b.0 b.1)
            ∙ step (sort nested inner) (λ a. many (sees s.Comma) (next_sort nested inner) >>= (λ more_of. pure (a ∷ more_of))) b.0 first.0 x first.1
            ∙ step (many (sees s.Comma) (next_sort nested inner)) (λ more_of. pure (x ∷ more_of)) first.0 others.0 xs others.1,
        others.2,
      )

-- ---- what stands in the brackets of a call

abbrev pub argument_facts : Arguments Expr → Arguments Operand
argument_facts arguments.Star = arguments.Star
argument_facts (arguments.List distinct xs items) = arguments.List distinct (map facts_of xs) (map sort_facts items)

pub filter_read : (d : ℕ) (nested : Parser Expr) (inner : Parser Query) → Inside d nested inner → (x : Option Expr) (now next : Stream) → Run (g.filter (option_map facts_of x)) d now next → (sees s.Filter next ≡ false) → filter nested inner now ≡ Some (x, next)
unfolding filter
filter_read d nested inner i None now next run ends = passed (sees s.Filter) (filtered nested inner) (pure None) now (subst (λ u. sees s.Filter u ≡ false) (sym run) ends) ∙ ap (λ u. Some (None, u)) run
filter_read d nested inner i (Some x) now next run ends =
    let o = run.3 in
    let w = o.3 in
    let v = w.3 in
    let c = v.4 in
    chosen (sees s.Filter) (filtered nested inner) (pure None) now (that_symbol s.Filter now run.0 run.1)
    ∙ step (expect s.Filter) (λ _. expect s.Open >>= (λ _. expect s.Where >>= (λ _. nested >>= (λ y. expect s.Close >>= (λ _. pure (Some y)))))) now run.0 tt (says_expect s.Filter now run.0 run.1)
    ∙ step (expect s.Open) (λ _. expect s.Where >>= (λ _. nested >>= (λ y. expect s.Close >>= (λ _. pure (Some y))))) run.0 o.0 tt (says_expect s.Open run.0 o.0 o.1)
    ∙ step (expect s.Where) (λ _. nested >>= (λ y. expect s.Close >>= (λ _. pure (Some y)))) o.0 w.0 tt (says_expect s.Where o.0 w.0 w.1)
    ∙ step nested (λ y. expect s.Close >>= (λ _. pure (Some y))) w.0 v.0 x (i.reads x w.0 v.0 v.1 (omega (arith, v.2, o.2)) v.3 (says_goes 0 (reading.Symbol s.Close) v.0 c.0 c.1))
    ∙ step (expect s.Close) (λ _. pure (Some x)) v.0 c.0 tt (says_expect s.Close v.0 c.0 c.1)
    ∙ ap (λ u. Some (Some x, u)) c.3

module _ (d : ℕ) (nested : Parser Expr) (inner : Parser Query) (i : Inside d nested inner) (k : ℕ) (less : k < d) where
  unfoldable pub close_tail : List Piece → List Piece
  close_tail rest = word s.Close ∷ rest

  reads_key : (x : Expr) (now next : Stream) → from 0 (tree_facts x).level ≡ true → (tree_facts x).depth ≤ k → Along (tree_facts x).marks now next → goes_on 0 next ≡ false → nested now ≡ Some (x, next)
  reads_key x now next sx de a stop = i.reads x now next sx (omega (arith, de, less)) a stop

  order_ends : (items : List (SortItem Expr)) (rest : List Piece) (next : Stream) → EndsList (g.order (map sort_facts items) ++ close_tail rest) k next
  unfolding close_tail same
  order_ends [] rest next u run = (says_goes 0 (reading.Symbol s.Close) u run.0 run.1, other_symbol s.Comma s.Close u run.0 run.1 refl)
  order_ends (x ∷ xs) rest next u run = (says_goes 0 (reading.Symbol s.Order) u run.0 run.1, other_symbol s.Comma s.Order u run.0 run.1 refl)

  list_and_order : (distinct : Bool) (x : Expr) (xs : List Expr) (items : List (SortItem Expr)) (rest : List Piece) (now next : Stream) → Run (p.list (map facts_of (x ∷ xs)) ++ (g.order (map sort_facts items) ++ close_tail rest)) k now next
      → Gives (argument_list nested inner distinct now) (arguments.List distinct (x ∷ xs) items) (close_tail rest) k next
  unfolding close_tail same
  list_and_order distinct x xs items rest now next run =
      let l = list_read d nested inner i k less x xs (g.order (map sort_facts items) ++ close_tail rest) now next run (order_ends items rest next) in
      let o = order_read d nested inner k reads_key items (close_tail rest) l.0 next l.2
      (λ u r. none_of d nested inner k reads_key _ _ _ _ (says_goes 0 (reading.Symbol s.Close) u r.0 r.1) (other_symbol s.Asc s.Close u r.0 r.1 refl) (other_symbol s.Desc s.Close u r.0 r.1 refl) (other_symbol s.Nulls s.Close u r.0 r.1 refl))
      (λ u r. (other_symbol s.Comma s.Close u r.0 r.1 refl, other_symbol s.Order s.Close u r.0 r.1 refl)) in (
        o.0,
        step (list nested inner) (λ ys. order nested inner >>= (λ zs. pure (arguments.List distinct ys zs))) now l.0 (x ∷ xs) l.1
            ∙ step (order nested inner) (λ zs. pure (arguments.List distinct (x ∷ xs) zs)) l.0 o.0 items o.1,
        o.2,
      )

  first_begins : (x : Expr) (xs : List Expr) (items : List (SortItem Expr)) (rest : List Piece) (now next : Stream) → Run (p.list (map facts_of (x ∷ xs)) ++ (g.order (map sort_facts items) ++ close_tail rest)) k now next → head_fits starts_negated now.tokens ≡ true
  first_begins x xs items rest now next run =
      let f = Rattle.sq_grammar.proofs.Lists.list_first d nested inner i k less x xs (g.order (map sort_facts items) ++ close_tail rest) now next run (order_ends items rest next) in
      f.begun

  pub within_read : (x : Arguments Expr) (rest : List Piece) (now next : Stream) → Run (g.argument_pieces (argument_facts x) ++ close_tail rest) k now next → Gives (within_call nested inner now) x (close_tail rest) k next
  unfolding within_call close_tail same
  within_read arguments.Star rest now next run = (
    run.0,
    chosen (sees s.Times) (expect s.Times >> pure arguments.Star) (choose (sees s.Close) (pure (arguments.List false [] [])) (optional s.Distinct >>= argument_list nested inner)) now (that_symbol s.Times now run.0 run.1)
        ∙ step (expect s.Times) (λ _. pure arguments.Star) now run.0 tt (says_expect s.Times now run.0 run.1),
    run.3,
  )
  within_read (arguments.List false [] []) rest now next run = (
    now,
    passed (sees s.Times) (expect s.Times >> pure arguments.Star) (choose (sees s.Close) (pure (arguments.List false [] [])) (optional s.Distinct >>= argument_list nested inner)) now (other_symbol s.Times s.Close now run.1.0 run.1.1 refl)
        ∙ chosen (sees s.Close) (pure (arguments.List false [] [])) (optional s.Distinct >>= argument_list nested inner) now (that_symbol s.Close now run.1.0 run.1.1),
    run.1,
  )
  within_read (arguments.List true [] []) rest now next run = absurd (false_true run.0)
  within_read (arguments.List false [] (y ∷ ys)) rest now next run = absurd (false_true run.0)
  within_read (arguments.List true [] (y ∷ ys)) rest now next run = absurd (false_true run.0)
  within_read (arguments.List false (x ∷ xs) items) rest now next run =
      let text : (p.list (map facts_of (x ∷ xs)) ++ g.order (map sort_facts items)) ++ close_tail rest ≡ p.list (map facts_of (x ∷ xs)) ++ (g.order (map sort_facts items) ++ close_tail rest) = append_assoc (p.list (map facts_of (x ∷ xs))) (g.order (map sort_facts items)) (close_tail rest) in
      let r = subst (λ ps. Run ps k now next) text run.1 in
      let b = first_begins x xs items rest now next r in
      let l = list_and_order false x xs items rest now next r in (
        l.0,
        passed (sees s.Times) (expect s.Times >> pure arguments.Star) (choose (sees s.Close) (pure (arguments.List false [] [])) (optional s.Distinct >>= argument_list nested inner)) now (refuses s.Times refl now.tokens b)
            ∙ passed (sees s.Close) (pure (arguments.List false [] [])) (optional s.Distinct >>= argument_list nested inner) now (refuses s.Close refl now.tokens b)
            ∙ step (optional s.Distinct) (argument_list nested inner) now now false (optional_no s.Distinct now (refuses s.Distinct refl now.tokens b))
            ∙ l.1,
        l.2,
      )
  within_read (arguments.List true (x ∷ xs) items) rest now next run =
      let t = run.1 in
      let u = t.0 in
      let text : (p.list (map facts_of (x ∷ xs)) ++ g.order (map sort_facts items)) ++ close_tail rest ≡ p.list (map facts_of (x ∷ xs)) ++ (g.order (map sort_facts items) ++ close_tail rest) = append_assoc (p.list (map facts_of (x ∷ xs))) (g.order (map sort_facts items)) (close_tail rest) in
      let r = subst (λ ps. Run ps k u next) text t.3 in
      let l = list_and_order true x xs items rest u next r in (
        l.0,
        passed (sees s.Times) (expect s.Times >> pure arguments.Star) (choose (sees s.Close) (pure (arguments.List false [] [])) (optional s.Distinct >>= argument_list nested inner)) now (other_symbol s.Times s.Distinct now u t.1 refl)
            ∙ passed (sees s.Close) (pure (arguments.List false [] [])) (optional s.Distinct >>= argument_list nested inner) now (other_symbol s.Close s.Distinct now u t.1 refl)
            ∙ step (optional s.Distinct) (argument_list nested inner) now u true (optional_yes s.Distinct now u t.1)
            ∙ l.1,
        l.2,
      )
