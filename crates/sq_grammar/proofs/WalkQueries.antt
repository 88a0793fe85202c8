-- A function over tokens that counts open brackets passes over every well-levelled tree, and the tokens nest as deep as the tree.
use Rattle.std.proofs.Common.{◌≡◌, ℕ, suc, ◌≤◌, Bool, true, false, List, [], ◌∷◌, ◌++◌, Option, Some, None, refl, sym, subst, map, arith}
use Rattle.std.specs.Prelude.{flat_map, option_map, if◌then◌else◌}
use Rattle.sq_base.specs.declared.place.Place.{Place}
use Rattle.sq_syntax.specs.declared.symbol.Symbol.{Symbol}
use Rattle.sq_syntax.specs.declared.symbol.Symbol.TheVariants as s
use Rattle.sq_syntax.specs.declared.symbol.Reading.TheVariants as reading
use Rattle.sq_syntax.specs.declared.name.Identifier.{Identifier}
use Rattle.sq_syntax.specs.declared.expr.Node.{Node}
use Rattle.sq_syntax.specs.declared.expr.Expression.TheOpen.{Factor-F, Join-F, Source-F}
use Rattle.sq_syntax.specs.declared.query.Factor.{Factor}
use Rattle.sq_syntax.specs.declared.query.Join.{Join}
use Rattle.sq_syntax.specs.declared.query.From.{From}
use Rattle.sq_syntax.specs.declared.query.Query.{Query}
use Rattle.sq_syntax.specs.declared.query.Alias.{Alias}
use Rattle.sq_syntax.specs.declared.query.JoinKind.{JoinKind}
use Rattle.sq_syntax.specs.declared.query.JoinKind.TheVariants as join_kind
use Rattle.sq_syntax.specs.declared.query.Matched.TheVariants as matched
use Rattle.sq_syntax.specs.declared.query.With.{With}
use Rattle.sq_syntax.specs.declared.query.Materialized.{Materialized}
use Rattle.sq_syntax.specs.declared.query.Materialized.TheVariants as materialized
use Rattle.sq_syntax.specs.declared.query.Operands.{Operands}
use Rattle.sq_syntax.specs.declared.query.SetLink.{SetLink}
use Rattle.sq_syntax.specs.declared.query.SetOperation.{SetOperation}
use Rattle.sq_syntax.specs.declared.query.SetOperation.TheVariants as set_operation
use Rattle.sq_syntax.specs.declared.query.Quantity.{Quantity}
use Rattle.sq_syntax.specs.declared.query.Quantity.TheVariants as quantity
use Rattle.sq_syntax.specs.declared.query.Distinctness.{Distinctness}
use Rattle.sq_syntax.specs.declared.query.Distinctness.TheVariants as distinctness
use Rattle.sq_syntax.specs.declared.query.Output.{Output}
use Rattle.sq_syntax.specs.declared.query.Output.TheVariants as output
use Rattle.sq_syntax.specs.declared.query.Label.{Label}
use Rattle.sq_syntax.specs.declared.query.Label.TheVariants as label
use Rattle.sq_syntax.specs.declared.query.Limit.{Limit}
use Rattle.sq_syntax.specs.declared.query.Limit.TheVariants as limit
use Rattle.sq_syntax.specs.declared.query.Offset.{Offset}
use Rattle.sq_syntax.specs.declared.query.RowWord.{RowWord}
use Rattle.sq_syntax.specs.declared.query.RowWord.TheVariants as row_word
use Rattle.sq_syntax.specs.declared.query.Lock.{Lock}
use Rattle.sq_syntax.specs.declared.query.Strength.{Strength}
use Rattle.sq_syntax.specs.declared.query.Strength.TheVariants as strength
use Rattle.sq_syntax.specs.declared.query.Waiting.{Waiting}
use Rattle.sq_syntax.specs.declared.query.Waiting.TheVariants as waiting
use Rattle.sq_grammar.proofs.Sorts.{sort_facts}
use Rattle.sq_grammar.proofs.QueryFacts.{output_form, output_facts, distinct_facts, with_facts, link_facts, operands_facts, body_facts, limit_facts, offset_facts, query_with, query_parts_of, select_with, select_parts_of}
use Rattle.sq_syntax.specs.Facts.{Facts, Piece, Sort, Turn, turn, numbered}
use Rattle.sq_syntax.specs.Pieces as p
use Rattle.sq_syntax.specs.Pieces.{sym as word, say, at}
use Rattle.sq_syntax.specs.ExpressionPieces as g
use Rattle.sq_syntax.specs.QueryPieces as f
use Rattle.sq_syntax.specs.QueryPieces.{source_layer, join_layer, from_layer, select_layer, factor_layer, query_layer}
use Rattle.sq_syntax.specs.Grammar.{factor_facts, join_facts, source_facts, from_facts, query_facts, select_facts}
use Rattle.sq_grammar.specs.Ahead.{Lexemes}
use Rattle.sq_grammar.specs.Levels.{Expr}
use Rattle.sq_grammar.proofs.Layers.{FactorLayer, JoinLayer, SourceLayer, FromLayer, QueryLayer, SelectLayer, factor_parts, join_parts, source_parts, from_parts, query_parts, select_parts}
use Rattle.sq_grammar.proofs.Lists.{facts_of}
use Rattle.sq_grammar.proofs.Walks.{begun as begins, ended, Counts, Flat, Walked, nil, placed, asked, part, append, each, all, items, whole_walked, numbered_walked}
use Rattle.sq_grammar.proofs.WalkParts as parts
use Rattle.sq_grammar.proofs.WalkTrees.{Below, layer_walked}
use Rattle.sq_grammar.proofs.WalkTrees as t

module _ {A : Type 0} (w : Lexemes → ℕ → A) (counts : Counts w) (m : ℕ) (b : Below w m) where
  says : {i j : ℕ} {ps : List Piece} (x : Symbol) → turn (reading.Symbol x) ≡ Turn.neither → Flat w m i j ps → Flat w m i j (word x ∷ ps)
  says x u h = t.says w counts m b x u h

  end : {i : ℕ} → Flat w m i i []
  end = nil w counts m

  open_at : {i j : ℕ} {ps : List Piece} → Flat w m (suc i) j ps → Flat w m i j (word s.Open ∷ ps)
  open_at h = t.open_at w counts m b h

  close_at : {i j : ℕ} {ps : List Piece} → Flat w m i j ps → Flat w m (suc i) j (word s.Close ∷ ps)
  close_at h = t.close_at w counts m b h

  then_ : {i j l : ℕ} (a c : List Piece) → Flat w m i j a → Flat w m j l c → Flat w m i l (a ++ c)
  then_ a c x y = append w counts m a c x y

  alias_name : {i : ℕ} (x : Identifier) (c : Bool) → Flat w m i i (if c then word s.As ∷ p.name x else p.bare_name x)
  alias_name x true = says s.As refl (parts.name w counts m x)
  alias_name x false = parts.bare_name w counts m x

  alias : {i : ℕ} (x : Alias) → Flat w m i i (f.alias x)
  alias x = then_ (if x.has_as then word s.As ∷ p.name x.name else p.bare_name x.name) (p.bracketed_names x.columns) (alias_name x.name x.has_as) (parts.bracketed_names w counts m x.columns)

  optional_alias : {i : ℕ} (x : Option Alias) → Flat w m i i (f.optional_alias x)
  optional_alias None = end
  optional_alias (Some x) = alias x

  pub source_walked : (l : SourceLayer) → (source_layer (source_parts l)).layers ≤ suc m → Walked w (source_layer (source_parts l))
  source_walked (Source-F.Table x called) le = whole_walked w counts m Sort.plain 0 0 _ (then_ (p.qualified_name x) (f.optional_alias called) (parts.qualified w counts m x) (optional_alias called)) le
  source_walked (Source-F.Derived x called) le = whole_walked w counts m Sort.plain 0 0 _ (open_at (t.query w counts m b x (close_at (alias called)))) le
  source_walked (Source-F.Grouped x) le = whole_walked w counts m Sort.plain 0 0 _ (open_at (part w counts m 0 (from_facts x) (λ h. b.froms x h) (close_at end))) le

  -- a part whose place is that of its first token
  begun : {i j : ℕ} {ps : List Piece} (first last : ℕ) (place : Place) (x : Facts) → (x.layers ≤ m → Walked w x) → Flat w m i j ps → Flat w m i j (p.whole (numbered first last (f.whole_facts (at place ∷ p.whole x ∷ []))) ∷ ps)
  begun first last place x h rest =
      let all = f.whole_facts (at place ∷ p.whole x ∷ []) in
      part w counts m 0 (numbered first last all) (λ le. numbered_walked w first last all (whole_walked w counts m Sort.plain 0 0 (at place ∷ p.whole x ∷ []) (placed w counts m place (part w counts m 0 x h end)) (omega (arith, le)))) rest

  join_words : {i : ℕ} (x : JoinKind) → Flat w m i i (f.join_words x)
  join_words join_kind.Unsaid = says s.Join refl end
  join_words join_kind.Inner = says s.Inner refl (says s.Join refl end)
  join_words join_kind.Left = says s.Left refl (says s.Join refl end)
  join_words join_kind.LeftOuter = says s.Left refl (says s.Outer refl (says s.Join refl end))
  join_words join_kind.Right = says s.Right refl (says s.Join refl end)
  join_words join_kind.RightOuter = says s.Right refl (says s.Outer refl (says s.Join refl end))
  join_words join_kind.Full = says s.Full refl (says s.Join refl end)
  join_words join_kind.FullOuter = says s.Full refl (says s.Outer refl (says s.Join refl end))

  pub join_walked : (l : JoinLayer) → (join_layer (join_parts l)).layers ≤ suc m → Walked w (join_layer (join_parts l))
  join_walked (Join-F.Cross place x) le = whole_walked w counts m Sort.plain 0 0 _ (placed w counts m place (says s.Cross refl (says s.Join refl (begun x.first x.last x.place (source_facts x.form) (λ h. b.sources x.form h) end)))) le
  join_walked (Join-F.Matched place kind x (matched.On y)) le = whole_walked w counts m Sort.plain 0 0 _
      (placed w counts m place (then_ (f.join_words kind) _ (join_words kind) (begun x.first x.last x.place (source_facts x.form) (λ h. b.sources x.form h) (says s.On refl (t.tree w counts m b 0 y end))))) le
  join_walked (Join-F.Matched place kind x (matched.Using xs)) le = whole_walked w counts m Sort.plain 0 0 _
      (placed w counts m place (then_ (f.join_words kind) _ (join_words kind) (begun x.first x.last x.place (source_facts x.form) (λ h. b.sources x.form h)
      (says s.Using refl (open_at (asked w counts m _ (then_ (p.names xs) (word s.Close ∷ []) (parts.names w counts m xs) (close_at end)))))))) le

  wholes : {i : ℕ} (xs : List Join) → Flat w m i i (map p.whole (map join_facts xs))
  wholes [] = end
  wholes (x ∷ xs) = part w counts m 0 (join_facts x) (λ h. b.joins x h) (wholes xs)

  pub from_walked : (l : FromLayer) → (from_layer (from_parts l)).layers ≤ suc m → Walked w (from_layer (from_parts l))
  from_walked l le = whole_walked w counts m Sort.plain 0 0 _ (begun l.source.first l.source.last l.source.place (source_facts l.source.form) (λ h. b.sources l.source.form h) (wholes l.joins)) le

  pub factor_walked : (l : FactorLayer) → (factor_layer (factor_parts l)).layers ≤ suc m → Walked w (factor_layer (factor_parts l))
  factor_walked (Factor-F.Core x) le = whole_walked w counts m Sort.plain 0 0 _ (part w counts m 0 (select_facts x) (λ h. b.selects x h) end) le
  factor_walked (Factor-F.Nested x) le = whole_walked w counts m Sort.plain 0 0 _ (open_at (t.query w counts m b x (close_at end))) le

  -- ---- SELECT

  output_label : {i : ℕ} (x : Label) → Flat w m i i (f.output_label x)
  output_label label.Unsaid = end
  output_label (label.As x) = says s.As refl (parts.name w counts m x)
  output_label (label.Bare x) = parts.bare_name w counts m x

  shown : {i : ℕ} (x : Output Expr) → Flat w m i i (f.shown (output_form x))
  shown output.Star = says s.Times refl end
  shown (output.StarOf x) = parts.a_name w counts m x (says s.Dot refl (says s.Times refl end))
  shown (output.Value x last) = t.tree w counts m b 0 x (output_label last)

  output_pieces : {i : ℕ} (x : Node (Output Expr)) → Flat w m i i (f.output_pieces (output_facts x))
  output_pieces x = begins w counts m x.first (placed w counts m x.place (then_ (f.shown (output_form x.form)) _ (shown x.form) (ended w counts m x.last end)))

  list : {i : ℕ} (xs : List Expr) → Flat w m i i (p.list (map facts_of xs))
  list xs = t.list w counts m b xs

  distinct_words : {i : ℕ} (x : Distinctness Expr) → Flat w m i i (f.distinct_words (distinct_facts x))
  distinct_words distinctness.Unsaid = end
  distinct_words distinctness.All = says s.All refl end
  distinct_words distinctness.Distinct = says s.Distinct refl end
  distinct_words (distinctness.On xs) = says s.Distinct refl (says s.On refl (open_at (asked w counts m _ (then_ (p.list (map facts_of xs)) (word s.Close ∷ []) (list xs) (close_at end)))))

  from : {i : ℕ} (xs : List From) → Flat w m i i (f.from (map from_facts xs))
  from [] = end
  from (x ∷ xs) = says s.From refl (items w counts m (λ y. p.whole y ∷ []) from_facts (λ y. part w counts m 0 (from_facts y) (λ h. b.froms y h) end) (x ∷ xs))

  optional : {i : ℕ} (k : Symbol) → turn (reading.Symbol k) ≡ Turn.neither → (x : Option Expr) → Flat w m i i (f.optional k (option_map facts_of x))
  optional k h None = end
  optional k h (Some x) = says k h (t.tree w counts m b 0 x end)

  group : {i : ℕ} (xs : List Expr) → Flat w m i i (f.group (map facts_of xs))
  group [] = end
  group (x ∷ xs) = says s.Group refl (says s.By refl (list (x ∷ xs)))

  select_flat : (l : SelectLayer) → (select_layer (select_with l.distinct l.outputs l.from l.condition l.group l.having)).layers ≤ suc m → Walked w (select_layer (select_with l.distinct l.outputs l.from l.condition l.group l.having))
  select_flat l le =
      let heads = word s.Select ∷ f.distinct_words (distinct_facts l.distinct) in
      let shows = p.some (map output_facts l.outputs) ∷ p.listed (map f.output_pieces (map output_facts l.outputs)) in
      let froms = f.from (map from_facts l.from) in
      let condition = f.optional s.Where (option_map facts_of l.condition) in
      let groups = f.group (map facts_of l.group) in
      let having = f.optional s.Having (option_map facts_of l.having) in
      whole_walked w counts m Sort.plain 0 0 (((((heads ++ shows) ++ froms) ++ condition) ++ groups) ++ having)
      (then_ ((((heads ++ shows) ++ froms) ++ condition) ++ groups) having
      (then_ (((heads ++ shows) ++ froms) ++ condition) groups
      (then_ ((heads ++ shows) ++ froms) condition
      (then_ (heads ++ shows) froms
      (then_ heads shows (says s.Select refl (distinct_words l.distinct)) (asked w counts m _ (items w counts m f.output_pieces output_facts output_pieces l.outputs)))
      (from l.from))
      (optional s.Where refl l.condition))
      (group l.group))
      (optional s.Having refl l.having)) le

  pub select_walked : (l : SelectLayer) → (select_layer (select_parts l)).layers ≤ suc m → Walked w (select_layer (select_parts l))
  select_walked l le =
      let e = select_parts_of l in
      subst (λ x. Walked w (select_layer x)) (sym e) (select_flat l (subst (λ x. (select_layer x).layers ≤ suc m) e le))

  -- ---- queries

  materialized_words : {i : ℕ} (x : Materialized) → Flat w m i i (f.materialized_words x)
  materialized_words materialized.Unsaid = end
  materialized_words materialized.Yes = says s.Materialized refl end
  materialized_words materialized.No = says s.Not refl (says s.Materialized refl end)

  with_query : {i : ℕ} (x : With Query) → Flat w m i i (f.with_query (with_facts x))
  with_query x = then_ ((p.name x.name ++ p.bracketed_names x.columns) ++ word s.As ∷ f.materialized_words x.materialized) (word s.Open ∷ p.whole (query_facts x.query) ∷ word s.Close ∷ [])
      (then_ (p.name x.name ++ p.bracketed_names x.columns) (word s.As ∷ f.materialized_words x.materialized) (parts.a_name w counts m x.name (parts.bracketed_names w counts m x.columns)) (says s.As refl (materialized_words x.materialized)))
      (open_at (t.query w counts m b x.query (close_at end)))

  with_queries : {i : ℕ} (xs : List (With Query)) → Flat w m i i (f.with_queries (map with_facts xs))
  with_queries [] = end
  with_queries (x ∷ xs) = says s.With refl (items w counts m f.with_query with_facts with_query (x ∷ xs))

  set_turn : (x : SetOperation) → turn (reading.Symbol (f.set_symbol x)) ≡ Turn.neither
  set_turn set_operation.Union = refl
  set_turn set_operation.Except = refl
  set_turn set_operation.Intersect = refl

  quantity_words : {i : ℕ} (x : Quantity) → Flat w m i i (f.quantity_words x)
  quantity_words quantity.Unsaid = end
  quantity_words quantity.All = says s.All refl end
  quantity_words quantity.Distinct = says s.Distinct refl end

  pub set_links : {i : ℕ} {X Y : Type 0} (tight : Bool) (pieces : Y → List Piece) (h : X → Y) → ((x : X) → Flat w m i i (pieces (h x))) → (xs : List (SetLink X)) → Flat w m i i (flat_map (f.set_link tight pieces) (map (link_facts h) xs))
  set_links tight pieces h k xs = each w counts m (f.set_link tight pieces) (link_facts h)
      (λ x. asked w counts m _ (placed w counts m x.place (says (f.set_symbol x.operation) (set_turn x.operation) (then_ (f.quantity_words x.quantity) (pieces (h x.operand)) (quantity_words x.quantity) (k x.operand))))) xs

  pub factor : {i j : ℕ} {ps : List Piece} (x : Factor) → Flat w m i j ps → Flat w m i j (p.whole (factor_facts x) ∷ ps)
  factor x rest = part w counts m 0 (factor_facts x) (λ h. b.factors x h) rest

  pub tight_operands : {i : ℕ} (x : Operands Factor) → Flat w m i i (f.operands true (λ y. p.whole y ∷ []) (operands_facts factor_facts x))
  tight_operands x = factor x.first (set_links true (λ y. p.whole y ∷ []) factor_facts (λ y. factor y end) x.links)

  body : {i : ℕ} (x : Operands (Operands Factor)) → Flat w m i i (f.body (body_facts x))
  body x = then_ (f.operands true (λ y. p.whole y ∷ []) (operands_facts factor_facts x.first)) _ (tight_operands x.first)
      (set_links false (f.operands true (λ y. p.whole y ∷ [])) (operands_facts factor_facts) tight_operands x.links)

  pub limits : {i : ℕ} (x : Option (Limit Expr)) → Flat w m i i (f.limit_pieces (limit_facts x))
  limits None = end
  limits (Some limit.All) = says s.Limit refl (says s.All refl end)
  limits (Some (limit.Count x)) = says s.Limit refl (t.tree w counts m b 0 x end)

  row_words : {i : ℕ} (x : RowWord) → Flat w m i i (f.row_words x)
  row_words row_word.Unsaid = end
  row_words row_word.Row = says s.Row refl end
  row_words row_word.Rows = says s.Rows refl end

  pub offsets : {i : ℕ} (x : Option (Offset Expr)) → Flat w m i i (f.offset (offset_facts x))
  offsets None = end
  offsets (Some x) = says s.Offset refl (t.tree w counts m b 0 x.count (row_words x.word))

  strength_words : {i : ℕ} (x : Strength) → Flat w m i i (f.strength_words x)
  strength_words strength.Update = says s.Update refl end
  strength_words strength.NoKeyUpdate = says s.No refl (says s.Key refl (says s.Update refl end))
  strength_words strength.Share = says s.Share refl end
  strength_words strength.KeyShare = says s.Key refl (says s.Share refl end)

  lock_names : {i : ℕ} (xs : List Identifier) → Flat w m i i (f.lock_names xs)
  lock_names [] = end
  lock_names (x ∷ xs) = says s.Of refl (parts.names w counts m (x ∷ xs))

  waiting_words : {i : ℕ} (x : Waiting) → Flat w m i i (f.waiting_words x)
  waiting_words waiting.Unsaid = end
  waiting_words waiting.NoWait = says s.NoWait refl end
  waiting_words waiting.SkipLocked = says s.Skip refl (says s.Locked refl end)

  lock : {i : ℕ} (x : Lock) → Flat w m i i (f.lock x)
  lock x = says s.For refl (then_ (f.strength_words x.strength ++ f.lock_names x.of) (f.waiting_words x.waiting)
      (then_ (f.strength_words x.strength) (f.lock_names x.of) (strength_words x.strength) (lock_names x.of)) (waiting_words x.waiting))

  pub locks : {i : ℕ} (xs : List Lock) → Flat w m i i (flat_map f.lock xs)
  locks xs = all w counts m f.lock lock xs

  query_flat : (l : QueryLayer) → (query_layer (query_with l.place l.first l.last l.with l.body l.order l.limit l.offset l.locks)).layers ≤ suc m → Walked w (query_layer (query_with l.place l.first l.last l.with l.body l.order l.limit l.offset l.locks))
  query_flat l le =
      let heads = at l.place ∷ f.with_queries (map with_facts l.with) in
      let bodies = f.body (body_facts l.body) in
      let orders = g.order (map sort_facts l.order) in
      let limited = f.limit_pieces (limit_facts l.limit) in
      let offset = f.offset (offset_facts l.offset) in
      let ending = flat_map f.lock l.locks in
      let ps = ((((heads ++ bodies) ++ orders) ++ limited) ++ offset) ++ ending in
      numbered_walked w l.first l.last (f.whole_facts ps)
      (whole_walked w counts m Sort.plain 0 0 ps
      (then_ ((((heads ++ bodies) ++ orders) ++ limited) ++ offset) ending
      (then_ (((heads ++ bodies) ++ orders) ++ limited) offset
      (then_ ((heads ++ bodies) ++ orders) limited
      (then_ (heads ++ bodies) orders
      (then_ heads bodies (placed w counts m l.place (with_queries l.with)) (body l.body))
      (t.order w counts m b l.order))
      (limits l.limit))
      (offsets l.offset))
      (locks l.locks)) le)

  pub query_walked : (l : QueryLayer) → (query_layer (query_parts l)).layers ≤ suc m → Walked w (query_layer (query_parts l))
  query_walked l le =
      let e = query_parts_of l in
      subst (λ x. Walked w (query_layer x)) (sym e) (query_flat l (subst (λ x. (query_layer x).layers ≤ suc m) e le))
