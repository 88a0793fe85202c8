-- A function over tokens that counts open brackets passes over a well-levelled expression, where it does so over the parts.
use Rattle.std.proofs.Common.{◌≡◌, ℕ, suc, ◌+◌, ◌≤◌, Bool, true, false, List, [], ◌∷◌, ◌++◌, Option, Some, None, refl, map}
use Rattle.std.specs.Prelude.{flat_map, option_map, not, if◌then◌else◌}
use Rattle.sq_base.specs.declared.place.Place.{Place}
use Rattle.sq_syntax.specs.declared.symbol.Symbol.{Symbol}
use Rattle.sq_syntax.specs.declared.symbol.Symbol.TheVariants as s
use Rattle.sq_syntax.specs.declared.symbol.Reading.TheVariants as reading
use Rattle.sq_syntax.specs.declared.name.Identifier.{Identifier}
use Rattle.sq_syntax.specs.declared.expr.Arm.{Arm}
use Rattle.sq_syntax.specs.declared.expr.Arguments.{Arguments}
use Rattle.sq_syntax.specs.declared.expr.Arguments.TheVariants as arguments
use Rattle.sq_syntax.specs.declared.expr.Sort.{Sort as SortItem}
use Rattle.sq_syntax.specs.declared.expr.Index.{Index}
use Rattle.sq_syntax.specs.declared.expr.Joint.{Joint}
use Rattle.sq_syntax.specs.declared.expr.Link.{Link}
use Rattle.sq_syntax.specs.declared.expr.Sign.{Sign}
use Rattle.sq_syntax.specs.declared.expr.Conversion.{Conversion}
use Rattle.sq_syntax.specs.declared.expr.Collation.{Collation}
use Rattle.sq_syntax.specs.declared.expr.Comparison.{Comparison}
use Rattle.sq_syntax.specs.declared.expr.Operator.{Operator}
use Rattle.sq_syntax.specs.declared.expr.Quantifier.{Quantifier}
use Rattle.sq_syntax.specs.declared.expr.Quantifier.TheVariants as quantifier
use Rattle.sq_syntax.specs.declared.expr.Comparison.TheVariants as comparison
use Rattle.sq_syntax.specs.declared.expr.Expression.TheOpen.{Expression-F}
use Rattle.sq_syntax.specs.declared.query.Factor.{Factor}
use Rattle.sq_syntax.specs.declared.query.Join.{Join}
use Rattle.sq_syntax.specs.declared.query.Source.{Source}
use Rattle.sq_syntax.specs.declared.query.From.{From}
use Rattle.sq_syntax.specs.declared.query.Query.{Query}
use Rattle.sq_syntax.specs.declared.query.Select.{Select}
use Rattle.sq_syntax.specs.Symbols.{identifier_reading, word_reading}
use Rattle.sq_syntax.specs.Facts.{Piece, Sort, Turn, turn}
use Rattle.sq_syntax.specs.Pieces as p
use Rattle.sq_syntax.specs.Pieces.{sym as word, say, at}
use Rattle.sq_syntax.specs.ExpressionPieces as g
use Rattle.sq_syntax.specs.ExpressionPieces.{expression_layer}
use Rattle.sq_syntax.specs.Grammar.{tree_facts, factor_facts, join_facts, source_facts, from_facts, query_facts, select_facts}
use Rattle.sq_grammar.specs.Ahead.{Lexemes}
use Rattle.sq_grammar.specs.Levels.{Expr}
use Rattle.sq_grammar.proofs.Layers.{ExpressionLayer, expression_parts}
use Rattle.sq_grammar.proofs.Lists.{facts_of}
use Rattle.sq_grammar.proofs.Sorts.{sort_facts, argument_facts}
use Rattle.sq_grammar.proofs.Words.{arm_facts}
use Rattle.sq_grammar.proofs.Joints.{joint_facts}
use Rattle.sq_grammar.proofs.Operations.{link_facts, operator_turn}
use Rattle.sq_grammar.proofs.Walks.{Counts, Flat, Walked, nil, token, opening, closing, placed, needed, asked, part, append, each, all, items, whole_walked}
use Rattle.sq_grammar.proofs.WalkParts as parts

-- trees of at most so many layers are passed over
pub record Below {A : Type 0} (w : Lexemes → ℕ → A) (m : ℕ) : Type 0 where
  pub expressions : (x : Expr) → (tree_facts x).layers ≤ m → Walked w (tree_facts x)
  pub factors : (x : Factor) → (factor_facts x).layers ≤ m → Walked w (factor_facts x)
  pub joins : (x : Join) → (join_facts x).layers ≤ m → Walked w (join_facts x)
  pub sources : (x : Source) → (source_facts x).layers ≤ m → Walked w (source_facts x)
  pub froms : (x : From) → (from_facts x).layers ≤ m → Walked w (from_facts x)
  pub queries : (x : Query) → (query_facts x).layers ≤ m → Walked w (query_facts x)
  pub selects : (x : Select) → (select_facts x).layers ≤ m → Walked w (select_facts x)

operator_flat : (x : Operator) → turn (g.operator_reading x) ≡ Turn.neither
operator_flat = operator_turn

comparison_flat : (x : Comparison) → turn (reading.Symbol (g.comparison_symbol x)) ≡ Turn.neither
comparison_flat comparison.Less = refl
comparison_flat comparison.Greater = refl
comparison_flat comparison.Equal = refl
comparison_flat comparison.LessEqual = refl
comparison_flat comparison.GreaterEqual = refl
comparison_flat comparison.NotEqual = refl

quantifier_flat : (x : Quantifier) → turn (reading.Symbol (g.quantifier_symbol x)) ≡ Turn.neither
quantifier_flat quantifier.Any = refl
quantifier_flat quantifier.Some = refl
quantifier_flat quantifier.All = refl

sign_flat : (b : Bool) → turn (reading.Symbol (if b then s.Minus else s.Plus)) ≡ Turn.neither
sign_flat true = refl
sign_flat false = refl

module _ {A : Type 0} (w : Lexemes → ℕ → A) (counts : Counts w) (m : ℕ) (b : Below w m) where
  pub tree : {i j : ℕ} {ps : List Piece} (least : ℕ) (x : Expr) → Flat w m i j ps → Flat w m i j (Piece.part least (tree_facts x) ∷ ps)
  tree least x f = part w counts m least (tree_facts x) (λ le. b.expressions x le) f

  pub query : {i j : ℕ} {ps : List Piece} (x : Query) → Flat w m i j ps → Flat w m i j (p.whole (query_facts x) ∷ ps)
  query x f = part w counts m 0 (query_facts x) (λ le. b.queries x le) f

  pub end : {i : ℕ} → Flat w m i i []
  end = nil w counts m

  pub says : {i j : ℕ} {ps : List Piece} (x : Symbol) → turn (reading.Symbol x) ≡ Turn.neither → Flat w m i j ps → Flat w m i j (word x ∷ ps)
  says x t f = token w counts m (reading.Symbol x) t f

  pub stands : {i j : ℕ} {ps : List Piece} (place : Place) → Flat w m i j ps → Flat w m i j (at place ∷ ps)
  stands place f = placed w counts m place f

  pub open_at : {i j : ℕ} {ps : List Piece} → Flat w m (suc i) j ps → Flat w m i j (word s.Open ∷ ps)
  open_at f = opening w counts m (reading.Symbol s.Open) refl f

  pub close_at : {i j : ℕ} {ps : List Piece} → Flat w m i j ps → Flat w m (suc i) j (word s.Close ∷ ps)
  close_at f = closing w counts m (reading.Symbol s.Close) refl f

  pub asks : {i j : ℕ} {ps : List Piece} (c : Bool) → Flat w m i j ps → Flat w m i j (Piece.need c ∷ ps)
  asks c f = asked w counts m c f

  pub then_ : {i j l : ℕ} (a c : List Piece) → Flat w m i j a → Flat w m j l c → Flat w m i l (a ++ c)
  then_ a c f h = append w counts m a c f h

  pub list : {i : ℕ} (xs : List Expr) → Flat w m i i (p.list (map facts_of xs))
  list xs = items w counts m (λ x. p.part 0 x ∷ []) facts_of (λ x. tree 0 x end) xs

  listed_then : {i j : ℕ} (xs : List Expr) (c : List Piece) → Flat w m i j c → Flat w m i j (p.list (map facts_of xs) ++ c)
  listed_then xs c f = then_ (p.list (map facts_of xs)) c (list xs) f

  case_operand : {i : ℕ} (x : Option Expr) → Flat w m i i (g.case_operand (option_map facts_of x))
  case_operand None = end
  case_operand (Some x) = tree 0 x end

  arm : {i : ℕ} (x : Arm Expr) → Flat w m i i (g.arm (arm_facts x))
  arm x = says s.When refl (tree 0 x.condition (says s.Then refl (tree 0 x.value end)))

  otherwise : {i : ℕ} (x : Option Expr) → Flat w m i i (g.otherwise (option_map facts_of x))
  otherwise None = end
  otherwise (Some x) = says s.Else refl (tree 0 x end)

  sort : {i : ℕ} (x : SortItem Expr) → Flat w m i i (g.sort (sort_facts x))
  sort x = tree 0 x.key (then_ (g.sort_direction x.direction) (g.sort_nulls x.nulls) (parts.direction_words w counts m x.direction) (parts.nulls_words w counts m x.nulls))

  pub order : {i : ℕ} (xs : List (SortItem Expr)) → Flat w m i i (g.order (map sort_facts xs))
  order [] = end
  order (x ∷ xs) = says s.Order refl (says s.By refl (items w counts m g.sort sort_facts sort (x ∷ xs)))

  pub within : {i : ℕ} (x : Arguments Expr) → Flat w m i i (g.argument_pieces (argument_facts x))
  within arguments.Star = says s.Times refl end
  within (arguments.List distinct xs items) = asks _
      (then_ (p.when distinct s.Distinct ++ p.list (map facts_of xs)) (g.order (map sort_facts items)) (parts.maybe w counts m distinct s.Distinct refl (list xs)) (order items))

  filter : {i : ℕ} (x : Option Expr) → Flat w m i i (g.filter (option_map facts_of x))
  filter None = end
  filter (Some x) = says s.Filter refl (open_at (says s.Where refl (tree 0 x (close_at end))))

  index : {i : ℕ} (x : Index Expr) → Flat w m i i (g.index (record { place = x.place; index = facts_of x.index }))
  index x = stands x.place (opening w counts m (reading.Symbol s.OpenSquare) refl (tree 0 x.index (closing w counts m (reading.Symbol s.CloseSquare) refl end)))

  conversion : {i : ℕ} (x : Conversion) → Flat w m i i (g.conversion x)
  conversion x = stands x.place (says s.Colons refl (parts.type w counts m x.to))

  collation : {i : ℕ} (x : Collation) → Flat w m i i (g.collation x)
  collation x = stands x.place (says s.Collate refl (parts.name w counts m x.name))

  sign : {i : ℕ} (x : Sign) → Flat w m i i (g.sign x)
  sign x = stands x.place (says _ (sign_flat x.is_minus) end)

  negation : {i : ℕ} (x : Place) → Flat w m i i (g.negation x)
  negation x = stands x (says s.Not refl end)

  joint : {i : ℕ} (words : List Piece) (least : ℕ) → Flat w m i i words → (x : Joint Expr) → Flat w m i i (g.joint words least (joint_facts x))
  joint words least f x = stands x.place (then_ words (Piece.part least (tree_facts x.operand) ∷ []) f (tree least x.operand end))

  link : {i : ℕ} (n : ℕ) (x : Link Expr) → Flat w m i i (g.link n (link_facts x))
  link n x = asks _ (stands x.place (token w counts m (g.operator_reading x.operator) (operator_flat x.operator) (tree (n + 1) x.operand end)))

  then_only : {i : ℕ} (c : Bool) (x : Symbol) → turn (reading.Symbol x) ≡ Turn.neither → Flat w m i i (p.when c x)
  then_only true x t = says x t end
  then_only false x t = end

  arms : {i : ℕ} (xs : List (Arm Expr)) → Flat w m i i (flat_map g.arm (map arm_facts xs))
  arms xs = each w counts m g.arm arm_facts arm xs

  joints : {i : ℕ} (words : List Piece) (least : ℕ) → Flat w m i i words → (xs : List (Joint Expr)) → Flat w m i i (flat_map (g.joint words least) (map joint_facts xs))
  joints words least f xs = each w counts m (g.joint words least) joint_facts (joint words least f) xs

  indices : {i : ℕ} (xs : List (Index Expr)) → Flat w m i i (flat_map g.index (map (λ x. record { place = x.place; index = facts_of x.index }) xs))
  indices xs = each w counts m g.index (λ x. record { place = x.place; index = facts_of x.index }) index xs

  links : {i : ℕ} (n : ℕ) (xs : List (Link Expr)) → Flat w m i i (flat_map (g.link n) (map link_facts xs))
  links n xs = each w counts m (g.link n) link_facts (link n) xs

  case_inside : {i : ℕ} (x : Option Expr) (xs : List (Arm Expr)) (last : Option Expr)
      → Flat w m (suc i) i (p.some (map arm_facts xs) ∷ g.case_operand (option_map facts_of x) ++ flat_map g.arm (map arm_facts xs) ++ g.otherwise (option_map facts_of last) ++ word s.End ∷ [])
  case_inside x xs last =
      let heads = p.some (map arm_facts xs) ∷ g.case_operand (option_map facts_of x) in
      let front = heads ++ flat_map g.arm (map arm_facts xs) in
      then_ (front ++ g.otherwise (option_map facts_of last)) (word s.End ∷ [])
      (then_ front (g.otherwise (option_map facts_of last)) (then_ heads (flat_map g.arm (map arm_facts xs)) (asks _ (case_operand x)) (arms xs)) (otherwise last))
      (closing w counts m (reading.Symbol s.End) refl end)

  call_pieces : {i : ℕ} (x : Identifier) (inside : Arguments Expr) (last : Option Expr) → Flat w m i i (g.call_name x ++ word s.Open ∷ g.argument_pieces (argument_facts inside) ++ word s.Close ∷ g.filter (option_map facts_of last))
  call_pieces x inside last =
      needed w counts m _ (λ h. stands x.place (token w counts m (identifier_reading x) (parts.call_turn (identifier_reading x) (Rattle.sq_grammar.proofs.Runs.both _ _ h).0)
      (open_at (then_ (g.argument_pieces (argument_facts inside)) (word s.Close ∷ g.filter (option_map facts_of last)) (within inside) (close_at (filter last))))))

  pub layer_walked : (l : ExpressionLayer) (place : Place) → (expression_layer (expression_parts l) place).layers ≤ suc m → Walked w (expression_layer (expression_parts l) place)
  layer_walked (Expression-F.Constant x) place le = whole_walked w counts m Sort.plain 15 1 _ (stands place (token w counts m (g.constant_reading x) (parts.constant_turn x) end)) le
  layer_walked (Expression-F.Parameter x) place le = whole_walked w counts m Sort.indexable 15 1 _ (stands place (parts.parameter_pieces w counts m x)) le
  layer_walked (Expression-F.Column x) place le = whole_walked w counts m Sort.indexable 15 1 _ (stands place (parts.column_name w counts m x)) le
  layer_walked (Expression-F.Bracketed x) place le = whole_walked w counts m Sort.indexable 15 1 _ (stands place (open_at (asks _ (tree 0 x (close_at end))))) le
  layer_walked (Expression-F.Scalar x) place le = whole_walked w counts m Sort.scalar 15 1 _ (stands place (open_at (query x (close_at end)))) le
  layer_walked (Expression-F.Exists x) place le = whole_walked w counts m Sort.plain 15 1 _ (stands place (says s.Exists refl (open_at (query x (close_at end))))) le
  layer_walked (Expression-F.ArrayList xs) place le = whole_walked w counts m Sort.plain 15 1 _
      (stands place (says s.Array refl (opening w counts m (reading.Symbol s.OpenSquare) refl (asks _ (listed_then xs (word s.CloseSquare ∷ []) (closing w counts m (reading.Symbol s.CloseSquare) refl end)))))) le
  layer_walked (Expression-F.ArrayQuery x) place le = whole_walked w counts m Sort.plain 15 1 _ (stands place (says s.Array refl (open_at (query x (close_at end))))) le
  layer_walked (Expression-F.Case None xs None) place le = whole_walked w counts m Sort.plain 15 1 _ (stands place (opening w counts m (reading.Symbol s.Case) refl (case_inside None xs None))) le
  layer_walked (Expression-F.Case None xs (Some y)) place le = whole_walked w counts m Sort.plain 15 1 _ (stands place (opening w counts m (reading.Symbol s.Case) refl (case_inside None xs (Some y)))) le
  layer_walked (Expression-F.Case (Some z) xs None) place le = whole_walked w counts m Sort.plain 15 1 _ (stands place (opening w counts m (reading.Symbol s.Case) refl (case_inside (Some z) xs None))) le
  layer_walked (Expression-F.Case (Some z) xs (Some y)) place le = whole_walked w counts m Sort.plain 15 1 _ (stands place (opening w counts m (reading.Symbol s.Case) refl (case_inside (Some z) xs (Some y)))) le
  layer_walked (Expression-F.Cast x to) place le = whole_walked w counts m Sort.plain 15 1 _
      (stands place (says s.Cast refl (open_at (tree 0 x (says s.As refl (then_ (p.type to) (word s.Close ∷ []) (parts.type w counts m to) (close_at end))))))) le
  layer_walked (Expression-F.TypedText to text) place le = whole_walked w counts m Sort.plain 15 1 _ (stands place (then_ (p.type to) (say (reading.Text text) ∷ []) (parts.type w counts m to) (token w counts m (reading.Text text) refl end))) le
  layer_walked (Expression-F.Pooled pool xs) place le = whole_walked w counts m Sort.plain 15 1 _
      (stands place (says (g.pool_symbol pool) (parts.pool_turn pool) (open_at (asks _ (listed_then xs (word s.Close ∷ []) (close_at end)))))) le
  layer_walked (Expression-F.NullIf x y) place le = whole_walked w counts m Sort.plain 15 1 _ (stands place (says s.NullIf refl (open_at (tree 0 x (says s.Comma refl (tree 0 y (close_at end))))))) le
  layer_walked (Expression-F.Extract field x) place le = whole_walked w counts m Sort.plain 15 1 _
      (stands place (says s.Extract refl (open_at (needed w counts m _ (λ h. token w counts m (word_reading field) (parts.field_turn (word_reading field) h) (says s.From refl (tree 0 x (close_at end)))))))) le
  layer_walked (Expression-F.Moment x) place le = whole_walked w counts m Sort.plain 15 1 _ (stands place (says (g.moment_symbol x) (parts.moment_turn x) end)) le
  layer_walked (Expression-F.Call x arguments.Star None) place le = whole_walked w counts m Sort.plain 15 1 _ (stands place (asks _ (call_pieces x arguments.Star None))) le
  layer_walked (Expression-F.Call x (arguments.List distinct xs items) None) place le = whole_walked w counts m Sort.plain 15 1 _ (stands place (asks _ (call_pieces x (arguments.List distinct xs items) None))) le
  layer_walked (Expression-F.Call x arguments.Star (Some y)) place le = whole_walked w counts m Sort.plain 15 1 _ (stands place (asks _ (call_pieces x arguments.Star (Some y)))) le
  layer_walked (Expression-F.Call x (arguments.List distinct xs items) (Some y)) place le = whole_walked w counts m Sort.plain 15 1 _ (stands place (asks _ (call_pieces x (arguments.List distinct xs items) (Some y)))) le
  layer_walked (Expression-F.Subscript x xs) place le = whole_walked w counts m Sort.plain 14 _ _ (asks _ (asks _ (tree 15 x (stands place (indices xs))))) le
  layer_walked (Expression-F.Converted x xs) place le = whole_walked w counts m Sort.plain 13 _ _ (asks _ (tree 14 x (stands place (all w counts m g.conversion conversion xs)))) le
  layer_walked (Expression-F.Signed xs x) place le = whole_walked w counts m Sort.plain 12 _ _ (asks _ (stands place (then_ (flat_map g.sign xs) (Piece.part 13 (tree_facts x) ∷ []) (all w counts m g.sign sign xs) (tree 13 x end)))) le
  layer_walked (Expression-F.Collated x xs) place le = whole_walked w counts m Sort.plain 11 _ _ (asks _ (tree 12 x (stands place (all w counts m g.collation collation xs)))) le
  layer_walked (Expression-F.AtTimeZone x xs) place le = whole_walked w counts m Sort.plain 10 _ _
      (asks _ (tree 11 x (stands place (joints (word s.At ∷ word s.Time ∷ word s.Zone ∷ []) 11 (says s.At refl (says s.Time refl (says s.Zone refl end))) xs)))) le
  layer_walked (Expression-F.Operation x xs) place le = whole_walked w counts m Sort.plain _ _ _ (asks _ (tree _ x (stands place (links _ xs)))) le
  layer_walked (Expression-F.Between x negated symmetric low high) place le = whole_walked w counts m Sort.plain 5 1 _
      (tree 6 x (stands place (then_ (p.when negated s.Not ++ word s.Between ∷ p.when symmetric s.Symmetric) (Piece.part 6 (tree_facts low) ∷ word s.And ∷ Piece.part 6 (tree_facts high) ∷ [])
      (parts.maybe w counts m negated s.Not refl (says s.Between refl (then_only symmetric s.Symmetric refl))) (tree 6 low (says s.And refl (tree 6 high end)))))) le
  layer_walked (Expression-F.InList x negated xs) place le = whole_walked w counts m Sort.plain 5 1 _
      (tree 6 x (stands place (then_ (p.when negated s.Not ++ word s.In ∷ word s.Open ∷ p.some (map facts_of xs) ∷ Piece.need (not (g.lone_scalar (map facts_of xs))) ∷ p.list (map facts_of xs)) (word s.Close ∷ [])
      (parts.maybe w counts m negated s.Not refl (says s.In refl (open_at (asks _ (asks _ (list xs)))))) (close_at end)))) le
  layer_walked (Expression-F.InQuery x negated y) place le = whole_walked w counts m Sort.plain 5 1 _
      (tree 6 x (stands place (parts.maybe w counts m negated s.Not refl (says s.In refl (open_at (query y (close_at end))))))) le
  layer_walked (Expression-F.Like x negated matching y) place le = whole_walked w counts m Sort.plain 5 1 _
      (tree 6 x (stands place (parts.maybe w counts m negated s.Not refl (says (g.matching_symbol matching) (parts.matching_turn matching) (tree 6 y end))))) le
  layer_walked (Expression-F.Compared x by y) place le = whole_walked w counts m Sort.plain 4 1 _ (tree 5 x (stands place (says (g.comparison_symbol by) (comparison_flat by) (tree 5 y end)))) le
  layer_walked (Expression-F.AnyArray x by any y) place le = whole_walked w counts m Sort.plain 4 1 _
      (tree 5 x (stands place (token w counts m (g.operator_reading by) (operator_flat by) (says (g.quantifier_symbol any) (quantifier_flat any) (open_at (asks _ (tree 0 y (close_at end)))))))) le
  layer_walked (Expression-F.AnyQuery x by any y) place le = whole_walked w counts m Sort.plain 4 1 _
      (tree 5 x (stands place (token w counts m (g.operator_reading by) (operator_flat by) (says (g.quantifier_symbol any) (quantifier_flat any) (open_at (query y (close_at end))))))) le
  layer_walked (Expression-F.Tested x test) place le = whole_walked w counts m Sort.plain 3 1 _ (tree 4 x (stands place (parts.test_words w counts m test))) le
  layer_walked (Expression-F.Distinct x negated y) place le = whole_walked w counts m Sort.plain 3 1 _
      (tree 4 x (stands place (says s.Is refl (parts.maybe w counts m negated s.Not refl (says s.Distinct refl (says s.From refl (tree 4 y end))))))) le
  layer_walked (Expression-F.Not places x) place le = whole_walked w counts m Sort.plain 2 _ _ (asks _ (stands place (then_ (flat_map g.negation places) (Piece.part 3 (tree_facts x) ∷ []) (all w counts m g.negation negation places) (tree 3 x end)))) le
  layer_walked (Expression-F.And x xs) place le = whole_walked w counts m Sort.plain 1 1 _ (asks _ (tree 2 x (stands place (joints (word s.And ∷ []) 2 (says s.And refl end) xs)))) le
  layer_walked (Expression-F.Or x xs) place le = whole_walked w counts m Sort.plain 0 1 _ (asks _ (tree 1 x (stands place (joints (word s.Or ∷ []) 1 (says s.Or refl end) xs)))) le
