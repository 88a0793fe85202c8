use Rattle.std.proofs.Common.{◌≡◌, ℕ, Bool, true, false, List, [], ◌∷◌, ◌++◌, Option, Some, None, refl, sym, ap, subst, ◌∙◌, arith, append_assoc, map}
use Rattle.std.specs.Prelude.{flat_map, if◌then◌else◌, not}
use Rattle.std.proofs.lemmas.List.Folds.{flat_map-map}
use Rattle.sq_base.specs.declared.place.Place.{Place}
use Rattle.sq_syntax.specs.declared.symbol.Symbol.{Symbol}
use Rattle.sq_syntax.specs.declared.symbol.Symbol.TheVariants as s
use Rattle.sq_syntax.specs.declared.symbol.Reading.{Reading}
use Rattle.sq_syntax.specs.declared.symbol.Reading.TheVariants as reading
use Rattle.sq_syntax.specs.declared.expr.Expression.TheVariants as e
use Rattle.sq_syntax.specs.Facts.{Stream, Says, first_place, Piece, built}
use Rattle.sq_syntax.specs.Pieces.{Operand, Placed, at, sym as word, say, is_empty}
use Rattle.sq_syntax.specs.ExpressionPieces as g
use Rattle.sq_syntax.specs.Grammar.{tree_facts, expression_facts}
use Rattle.sq_syntax.proofs.Equations as q
use Rattle.sq_syntax.proofs.Equations.{Shape, shape}
use Rattle.sq_grammar.specs.Reading.{Parser, ◌>>=◌, ◌>>◌, pure, sees, expect, begins, is, same, here, token}
use Rattle.sq_grammar.specs.Ahead.{Lexemes}
use Rattle.sq_grammar.proofs.Runs.{Run, both}
use Rattle.sq_grammar.proofs.Complete.{step, says_expect, says_token, Item, Framed, goes_on}
use Rattle.sq_syntax.specs.Facts.{Turn, turn}
use Rattle.sq_syntax.specs.Symbols.{identifier_reading}
use Rattle.sq_syntax.specs.Pieces as p
use Rattle.sq_grammar.proofs.Begins.{head_fits}
use Rattle.sq_grammar.proofs.Joints.{says_goes, false_true, unsaid}
use Rattle.sq_syntax.specs.declared.query.Query.{Query}
use Rattle.sq_grammar.specs.Reading.{choose, node}
use Rattle.sq_grammar.specs.Levels.{Expr}
use Rattle.sq_grammar.proofs.Chains.{Gives}
use Rattle.sq_grammar.proofs.Begins.{starts_negated}
use Rattle.sq_grammar.proofs.ReadNames.{chosen, passed}
use Rattle.sq_grammar.proofs.ReadTypes.{other_symbol, that_symbol}
use Rattle.std.specs.Prelude.{◌<◌, ◌-◌}
use Rattle.sq_grammar.specs.Reading.{many}
use Rattle.sq_grammar.proofs.Complete.{Item}
use Rattle.sq_grammar.proofs.Chains.{many_reads, next_stops}
use Rattle.sq_grammar.proofs.Lists.{Inside}
use Rattle.sq_syntax.specs.Symbols.{identifier_reading, word_reading, words, find, by_symbol, is_name}
use Rattle.sq_syntax.specs.declared.name.TypeName.{TypeName}
use Rattle.sq_syntax.specs.declared.expr.Parameter.{Parameter}
use Rattle.sq_syntax.specs.declared.expr.Parameter.TheVariants as parameter
use Rattle.sq_syntax.specs.declared.expr.Purpose.{Purpose}
use Rattle.sq_syntax.specs.declared.expr.Purpose.TheVariants as purpose
use Rattle.sq_syntax.specs.declared.expr.ParameterName.{ParameterName}
use Rattle.sq_syntax.specs.declared.expr.ParameterName.TheVariants as parameter_name
use Rattle.sq_syntax.specs.declared.expr.Pool.{Pool}
use Rattle.sq_syntax.specs.declared.expr.Pool.TheVariants as pool
use Rattle.sq_syntax.specs.declared.expr.Arm.{Arm}
use Rattle.sq_grammar.specs.Ahead.{is_some}
use Rattle.sq_grammar.specs.Names.{name, type}
use Rattle.sq_grammar.specs.Tests.{list}
use Rattle.sq_grammar.specs.Primaries.{primary, purposed, purpose_of, begins_purpose, text_of, a_text, begins_text, text_name, word_name, some_expression, arm, otherwise, case, cast, pooled, null_if, extract, a_field, field_of, word_text, calls, named}
use Rattle.sq_grammar.proofs.Lists.{facts_of, list_read, close_ends}
use Rattle.sq_grammar.proofs.ReadNames.{name_read, find_text}
use Rattle.sq_grammar.proofs.ReadTypes.{type_read, goes_on_type}
use Rattle.std.specs.Prelude.{option_map}
use Rattle.sq_grammar.proofs.Simple.{by_first, token_taken, placed}

-- what begins an expression is no other symbol
refuses_reading : (k : Symbol) → starts_negated (reading.Symbol k) ≡ false → (r : Reading) → starts_negated r ≡ true → is k r ≡ false
refuses_reading k bad (reading.Symbol x) h = by_same (same x k) refl
  where
    by_same : (b : Bool) → same x k ≡ b → b ≡ false
    by_same false w = refl
    by_same true w = absurd (false_true (sym bad ∙ ap (λ y. starts_negated (reading.Symbol y)) (sym (Rattle.sq_grammar.proofs.Joints.same_is x k w)) ∙ h))
refuses_reading k bad _ h = refl

pub refuses : (k : Symbol) → starts_negated (reading.Symbol k) ≡ false → (tokens : Lexemes) → head_fits starts_negated tokens ≡ true → begins k tokens ≡ false
refuses k bad [] h = absurd (cc)
refuses k bad (x ∷ rest) h = refuses_reading k bad x.reading h

-- a bracket stands behind a word
pub bracket_behind : (r : Reading) (now u v : Stream) → Says r now u → Says (reading.Symbol s.Open) u v → calls now.tokens ≡ true
bracket_behind r now u v h o = ap calls h.first ∙ that_symbol s.Open u v o

abbrev pub arm_pieces : Arm Expr → List Piece
arm_pieces a = word s.When ∷ Piece.part 0 (tree_facts a.condition) ∷ word s.Then ∷ Piece.part 0 (tree_facts a.value) ∷ []

abbrev pub arm_facts : Arm Expr → Arm Operand
arm_facts a = record { condition = facts_of a.condition; value = facts_of a.value }

abbrev pub case_pieces : Option Expr → List (Arm Expr) → Option Expr → Place → List Piece
case_pieces x arms last place = at place ∷ word s.Case ∷ Piece.need (not (p.is_empty (map arm_facts arms))) ∷ g.case_operand (option_map facts_of x) ++ flat_map arm_pieces arms ++ g.otherwise (option_map facts_of last) ++ word s.End ∷ []

pub case_facts : (x : Option Expr) (arms : List (Arm Expr)) (last : Option Expr) (place : Place) → expression_facts (e.Case x arms last) place ≡ built 15 1 (case_pieces x arms last place)
case_facts None arms None place = q.facts-case None arms None place ∙ ap (λ ps. built 15 1 (at place ∷ word s.Case ∷ Piece.need (not (p.is_empty (map arm_facts arms))) ∷ [] ++ ps ++ [] ++ word s.End ∷ [])) (flat_map-map g.arm arm_facts arms)
case_facts None arms (Some y) place = q.facts-case None arms (Some y) place ∙ ap (λ ps. built 15 1 (at place ∷ word s.Case ∷ Piece.need (not (p.is_empty (map arm_facts arms))) ∷ [] ++ ps ++ g.otherwise (Some (facts_of y)) ++ word s.End ∷ [])) (flat_map-map g.arm arm_facts arms)
case_facts (Some z) arms None place = q.facts-case (Some z) arms None place ∙ ap (λ ps. built 15 1 (at place ∷ word s.Case ∷ Piece.need (not (p.is_empty (map arm_facts arms))) ∷ g.case_operand (Some (facts_of z)) ++ ps ++ [] ++ word s.End ∷ [])) (flat_map-map g.arm arm_facts arms)
case_facts (Some z) arms (Some y) place = q.facts-case (Some z) arms (Some y) place ∙ ap (λ ps. built 15 1 (at place ∷ word s.Case ∷ Piece.need (not (p.is_empty (map arm_facts arms))) ∷ g.case_operand (Some (facts_of z)) ++ ps ++ g.otherwise (Some (facts_of y)) ++ word s.End ∷ [])) (flat_map-map g.arm arm_facts arms)

purpose_again : (x : Purpose) (place : Place) → purpose_of (reading.Symbol (g.purpose_symbol x)) place ≡ Some x
purpose_again purpose.Arg place = refl
purpose_again purpose.Narg place = refl
purpose_again purpose.Slice place = refl

purpose_turn : (x : Purpose) → turn (reading.Symbol (g.purpose_symbol x)) ≡ Turn.neither
purpose_turn purpose.Arg = refl
purpose_turn purpose.Narg = refl
purpose_turn purpose.Slice = refl

pub only_if_holds : {A : Type 0} (b : Bool) (x : Option A) → b ≡ true → (if b then x else None) ≡ x
only_if_holds true x h = refl
only_if_holds false x h = absurd (cc)

text_found : (bytes : List ℕ) (found : Option Symbol) → find words bytes ≡ found → word_text (by_symbol reading.Word bytes found) ≡ Some bytes
text_found bytes None h = refl
text_found bytes (Some x) h = ap (λ b. Some b) (find_text words bytes x h)

pub field_again : (bytes : List ℕ) → word_text (word_reading bytes) ≡ Some bytes
unfolding word_reading
field_again bytes = text_found bytes (find words bytes) refl

field_turn : (r : Reading) → g.is_field r ≡ true → turn r ≡ Turn.neither
field_turn (reading.Symbol s.Open) h = absurd (cc)
field_turn (reading.Symbol s.OpenSquare) h = absurd (cc)
field_turn (reading.Symbol s.Case) h = absurd (cc)
field_turn (reading.Symbol s.Close) h = absurd (cc)
field_turn (reading.Symbol s.CloseSquare) h = absurd (cc)
field_turn (reading.Symbol s.End) h = absurd (cc)
field_turn (reading.Symbol _) h = refl
field_turn _ h = refl

module _ (d : ℕ) (nested : Parser Expr) (inner : Parser Query) (i : Inside d nested inner) where
  -- ---- CASE

  arm_read : (k : ℕ) → k < d → (a : Arm Expr) (rest : List Piece) (now next : Stream) → Run (arm_pieces a ++ rest) k now next → ((u : Stream) → Run rest k u next → goes_on 0 u ≡ false) → Gives (arm nested inner now) a rest k next
  unfolding arm
  arm_read k less a rest now next run stop =
      let w = run.0 in
      let c = run.3 in
      let t = c.4 in
      let v = t.3 in (
        v.0,
        step (expect s.When) (λ _. nested >>= (λ x. expect s.Then >>= (λ _. nested >>= (λ y. pure (record { condition = x; value = y }))))) now w tt (says_expect s.When now w run.1)
            ∙ step nested (λ x. expect s.Then >>= (λ _. nested >>= (λ y. pure (record { condition = x; value = y })))) w c.0 a.condition (i.reads a.condition w c.0 c.1 (omega (arith, c.2, less)) c.3 (says_goes 0 (reading.Symbol s.Then) c.0 t.0 t.1))
            ∙ step (expect s.Then) (λ _. nested >>= (λ y. pure (record { condition = a.condition; value = y }))) c.0 t.0 tt (says_expect s.Then c.0 t.0 t.1)
            ∙ step nested (λ y. pure (record { condition = a.condition; value = y })) t.0 v.0 a.value (i.reads a.value t.0 v.0 v.1 (omega (arith, v.2, less)) v.3 (stop v.0 v.4)),
        v.4,
      )

  arm_item : (k : ℕ) → k < d → Item k (sees s.When) (arm nested inner) arm_pieces (goes_on 0)
  arm_item k less = record {
    begun = λ a rest now next run stop. that_symbol s.When now run.0 run.1;
    stops = λ a rest now next run. says_goes 0 (reading.Symbol s.When) now run.0 run.1;
    some = λ a. omega arith;
    reads = λ a rest now next run stop. arm_read k less a rest now next run stop;
  }

  otherwise_read : (k : ℕ) → k < d → (last : Option Expr) (now next : Stream) → Run (g.otherwise (option_map facts_of last) ++ word s.End ∷ []) k now next → Gives (otherwise nested inner now) last (word s.End ∷ []) k next
  unfolding otherwise same
  otherwise_read k less None now next run = (now, passed (sees s.Else) (expect s.Else >> some_expression nested inner) (pure None) now (other_symbol s.Else s.End now run.0 run.1 refl), run)
  otherwise_read k less (Some y) now next run =
      let w = run.0 in
      let v = run.3 in (
        v.0,
        chosen (sees s.Else) (expect s.Else >> some_expression nested inner) (pure None) now (that_symbol s.Else now w run.1)
            ∙ step (expect s.Else) (λ _. some_expression nested inner) now w tt (says_expect s.Else now w run.1)
            ∙ step nested (λ z. pure (Some z)) w v.0 y (i.reads y w v.0 v.1 (omega (arith, v.2, less)) v.3 (says_goes 0 (reading.Symbol s.End) v.0 v.4.0 v.4.1)),
        v.4,
      )

  otherwise_stops : (k : ℕ) (last : Option Expr) (now next : Stream) → Run (g.otherwise (option_map facts_of last) ++ word s.End ∷ []) k now next → (sees s.When now ≡ false) × (goes_on 0 now ≡ false)
  unfolding same
  otherwise_stops k None now next run = (other_symbol s.When s.End now run.0 run.1 refl, says_goes 0 (reading.Symbol s.End) now run.0 run.1)
  otherwise_stops k (Some y) now next run = (other_symbol s.When s.Else now run.0 run.1 refl, says_goes 0 (reading.Symbol s.Else) now run.0 run.1)

  operand_read : (k : ℕ) → k < d → (x : Option Expr) (a : Arm Expr) (rest : List Piece) (now next : Stream) → Run (g.case_operand (option_map facts_of x) ++ arm_pieces a ++ rest) k now next
      → Gives (choose (sees s.When) (pure None) (some_expression nested inner) now) x (arm_pieces a ++ rest) k next
  unfolding same
  operand_read k less None a rest now next run = (now, chosen (sees s.When) (pure None) (some_expression nested inner) now (that_symbol s.When now run.0 run.1), run)
  operand_read k less (Some y) a rest now next run =
      let u = run.0 in
      let found = i.reads y now u run.1 (omega (arith, run.2, less)) run.3 (says_goes 0 (reading.Symbol s.When) u run.4.0 run.4.1) in (
        u,
        passed (sees s.When) (pure None) (some_expression nested inner) now (no_when now.tokens (i.starts now u y found))
            ∙ step nested (λ z. pure (Some z)) now u y found,
        run.4,
      )
    where
      no_when : (tokens : Lexemes) → head_fits starts_negated tokens ≡ true → begins s.When tokens ≡ false
      no_when tokens h = refuses s.When refl tokens h

  pub reads_case : (y : Option Expr) (b : Arm Expr) (arms : List (Arm Expr)) (last : Option Expr) (x : Expr) (now next : Stream) → x.form ≡ e.Case y (b ∷ arms) last → Framed x now next → Run (case_pieces y (b ∷ arms) last x.place) d now next → primary nested inner now ≡ Some (x, next)
  unfolding case
  reads_case y b arms last x now next is f run =
      let h = run.1 in
      let k = d - 1 in
      let less : k < d = omega (arith, h.2) in
      let tail = g.otherwise (option_map facts_of last) ++ word s.End ∷ [] in
      let more = flat_map arm_pieces arms ++ tail in
      let text : ((g.case_operand (option_map facts_of y) ++ flat_map arm_pieces (b ∷ arms)) ++ g.otherwise (option_map facts_of last)) ++ word s.End ∷ [] ≡ g.case_operand (option_map facts_of y) ++ arm_pieces b ++ more = simp append_assoc in
      let whole = subst (λ ps. Run ps k h.0 next) text h.3.1 in
      let o = operand_read k less y b more h.0 next whole in
      let stops = λ (u : Stream) (t : Run tail k u next). otherwise_stops k last u next t in
      let item = arm_item k less in
      let first = arm_read k less b more o.0 next o.2 (λ u t. next_stops k (sees s.When) (arm nested inner) arm_pieces (goes_on 0) item arms tail u next t (λ v w. (stops v w).1)) in
      let others = many_reads k (sees s.When) (arm nested inner) arm_pieces (goes_on 0) item arms tail first.0 next first.2 stops in
      let z = otherwise_read k less last others.0 next others.2 in
      let c = z.2 in
      by_first nested inner (reading.Symbol s.Case) now h.0 h.1
      ∙ step (expect s.Case) (λ _. choose (sees s.When) (pure None) (some_expression nested inner) >>= (λ v. arm nested inner >>= (λ a. many (sees s.When) (arm nested inner) >>= (λ others. otherwise nested inner >>= (λ l. expect s.End >>= (λ _. node now (here now) (e.Case v (a ∷ others) l))))))) now h.0 tt (says_expect s.Case now h.0 h.1)
      ∙ step (choose (sees s.When) (pure None) (some_expression nested inner)) (λ v. arm nested inner >>= (λ a. many (sees s.When) (arm nested inner) >>= (λ others. otherwise nested inner >>= (λ l. expect s.End >>= (λ _. node now (here now) (e.Case v (a ∷ others) l)))))) h.0 o.0 y o.1
      ∙ step (arm nested inner) (λ a. many (sees s.When) (arm nested inner) >>= (λ others. otherwise nested inner >>= (λ l. expect s.End >>= (λ _. node now (here now) (e.Case y (a ∷ others) l))))) o.0 first.0 b first.1
      ∙ step (many (sees s.When) (arm nested inner)) (λ others. otherwise nested inner >>= (λ l. expect s.End >>= (λ _. node now (here now) (e.Case y (b ∷ others) l)))) first.0 others.0 arms others.1
      ∙ step (otherwise nested inner) (λ l. expect s.End >>= (λ _. node now (here now) (e.Case y (b ∷ arms) l))) others.0 z.0 last z.1
      ∙ step (expect s.End) (λ _. node now (here now) (e.Case y (b ∷ arms) last)) z.0 c.0 tt (says_expect s.End z.0 c.0 c.1)
      ∙ ap (λ v. node now (here now) (e.Case y (b ∷ arms) last) v) c.3
      ∙ placed x now next (e.Case y (b ∷ arms) last) f is run.0

  -- ---- words before brackets

  pub reads_cast : (y : Expr) (to : TypeName) (x : Expr) (now next : Stream) → x.form ≡ e.Cast y to → Framed x now next → Run (at x.place ∷ word s.Cast ∷ word s.Open ∷ Piece.part 0 (tree_facts y) ∷ word s.As ∷ p.type to ++ word s.Close ∷ []) d now next → primary nested inner now ≡ Some (x, next)
  unfolding cast
  reads_cast y to x now next is f run =
      let h = run.1 in
      let o = h.3 in
      let v = o.3 in
      let w = v.4 in
      let t = type_read (d - 1) to (word s.Close ∷ []) w.0 next w.3 (λ u r. ap goes_on_type r.1.first) in
      let c = t.2 in
      by_first nested inner (reading.Symbol s.Cast) now h.0 h.1
      ∙ step (expect s.Cast) (λ _. expect s.Open >>= (λ _. nested >>= (λ z. expect s.As >>= (λ _. type >>= (λ l. expect s.Close >>= (λ _. node now (here now) (e.Cast z l))))))) now h.0 tt (says_expect s.Cast now h.0 h.1)
      ∙ step (expect s.Open) (λ _. nested >>= (λ z. expect s.As >>= (λ _. type >>= (λ l. expect s.Close >>= (λ _. node now (here now) (e.Cast z l)))))) h.0 o.0 tt (says_expect s.Open h.0 o.0 o.1)
      ∙ step nested (λ z. expect s.As >>= (λ _. type >>= (λ l. expect s.Close >>= (λ _. node now (here now) (e.Cast z l))))) o.0 v.0 y (i.reads y o.0 v.0 v.1 (omega (arith, v.2, o.2)) v.3 (says_goes 0 (reading.Symbol s.As) v.0 w.0 w.1))
      ∙ step (expect s.As) (λ _. type >>= (λ l. expect s.Close >>= (λ _. node now (here now) (e.Cast y l)))) v.0 w.0 tt (says_expect s.As v.0 w.0 w.1)
      ∙ step type (λ l. expect s.Close >>= (λ _. node now (here now) (e.Cast y l))) w.0 t.0 to t.1
      ∙ step (expect s.Close) (λ _. node now (here now) (e.Cast y to)) t.0 c.0 tt (says_expect s.Close t.0 c.0 c.1)
      ∙ ap (λ u. node now (here now) (e.Cast y to) u) c.3
      ∙ placed x now next (e.Cast y to) f is run.0

  pub reads_null_if : (y z : Expr) (x : Expr) (now next : Stream) → x.form ≡ e.NullIf y z → Framed x now next → Run (at x.place ∷ word s.NullIf ∷ word s.Open ∷ Piece.part 0 (tree_facts y) ∷ word s.Comma ∷ Piece.part 0 (tree_facts z) ∷ word s.Close ∷ []) d now next → primary nested inner now ≡ Some (x, next)
  unfolding null_if
  reads_null_if y z x now next is f run =
      let h = run.1 in
      let o = h.3 in
      let v = o.3 in
      let w = v.4 in
      let t = w.3 in
      let c = t.4 in
      by_first nested inner (reading.Symbol s.NullIf) now h.0 h.1
      ∙ chosen (λ u. calls u.tokens) (null_if nested inner) (named nested inner) now (bracket_behind (reading.Symbol s.NullIf) now h.0 o.0 h.1 o.1)
      ∙ step (expect s.NullIf) (λ _. expect s.Open >>= (λ _. nested >>= (λ a. expect s.Comma >>= (λ _. nested >>= (λ b. expect s.Close >>= (λ _. node now (here now) (e.NullIf a b))))))) now h.0 tt (says_expect s.NullIf now h.0 h.1)
      ∙ step (expect s.Open) (λ _. nested >>= (λ a. expect s.Comma >>= (λ _. nested >>= (λ b. expect s.Close >>= (λ _. node now (here now) (e.NullIf a b)))))) h.0 o.0 tt (says_expect s.Open h.0 o.0 o.1)
      ∙ step nested (λ a. expect s.Comma >>= (λ _. nested >>= (λ b. expect s.Close >>= (λ _. node now (here now) (e.NullIf a b))))) o.0 v.0 y (i.reads y o.0 v.0 v.1 (omega (arith, v.2, o.2)) v.3 (says_goes 0 (reading.Symbol s.Comma) v.0 w.0 w.1))
      ∙ step (expect s.Comma) (λ _. nested >>= (λ b. expect s.Close >>= (λ _. node now (here now) (e.NullIf y b)))) v.0 w.0 tt (says_expect s.Comma v.0 w.0 w.1)
      ∙ step nested (λ b. expect s.Close >>= (λ _. node now (here now) (e.NullIf y b))) w.0 t.0 z (i.reads z w.0 t.0 t.1 (omega (arith, t.2, o.2)) t.3 (says_goes 0 (reading.Symbol s.Close) t.0 c.0 c.1))
      ∙ step (expect s.Close) (λ _. node now (here now) (e.NullIf y z)) t.0 c.0 tt (says_expect s.Close t.0 c.0 c.1)
      ∙ ap (λ u. node now (here now) (e.NullIf y z) u) c.3
      ∙ placed x now next (e.NullIf y z) f is run.0

  pooled_read : (pool : Pool) (y : Expr) (ys : List Expr) (x : Expr) (now next : Stream) → x.form ≡ e.Pooled pool (y ∷ ys) → Framed x now next → first_place now.tokens ≡ Some x.place → (h : Stream) → Says (reading.Symbol (g.pool_symbol pool)) now h
      → Run (word s.Open ∷ p.some (map facts_of (y ∷ ys)) ∷ p.list (map facts_of (y ∷ ys)) ++ word s.Close ∷ []) d h next → pooled nested inner pool now ≡ Some (x, next)
  unfolding pooled same
  pooled_read pool y ys x now next is f place h said o =
      let less : d - 1 < d = omega (arith, o.2) in
      let l = list_read d nested inner i (d - 1) less y ys (word s.Close ∷ []) o.0 next o.3.1 (close_ends s.Close [] (d - 1) next (λ tokens. refl) refl) in
      let c = l.2 in
      step (expect (g.pool_symbol pool)) (λ _. expect s.Open >>= (λ _. list nested inner >>= (λ z. expect s.Close >>= (λ _. node now (here now) (e.Pooled pool z))))) now h tt (says_expect (g.pool_symbol pool) now h said)
      ∙ step (expect s.Open) (λ _. list nested inner >>= (λ z. expect s.Close >>= (λ _. node now (here now) (e.Pooled pool z)))) h o.0 tt (says_expect s.Open h o.0 o.1)
      ∙ step (list nested inner) (λ z. expect s.Close >>= (λ _. node now (here now) (e.Pooled pool z))) o.0 l.0 (y ∷ ys) l.1
      ∙ step (expect s.Close) (λ _. node now (here now) (e.Pooled pool (y ∷ ys))) l.0 c.0 tt (says_expect s.Close l.0 c.0 c.1)
      ∙ ap (λ v. node now (here now) (e.Pooled pool (y ∷ ys)) v) c.3
      ∙ placed x now next (e.Pooled pool (y ∷ ys)) f is place

  pub reads_pooled : (pool : Pool) (y : Expr) (ys : List Expr) (x : Expr) (now next : Stream) → x.form ≡ e.Pooled pool (y ∷ ys) → Framed x now next
      → Run (at x.place ∷ word (g.pool_symbol pool) ∷ word s.Open ∷ p.some (map facts_of (y ∷ ys)) ∷ p.list (map facts_of (y ∷ ys)) ++ word s.Close ∷ []) d now next → primary nested inner now ≡ Some (x, next)
  reads_pooled pool.Coalesce y ys x now next is f run =
      by_first nested inner (reading.Symbol s.Coalesce) now run.1.0 run.1.1 ∙ chosen (λ u. calls u.tokens) (pooled nested inner pool.Coalesce) (named nested inner) now (bracket_behind (reading.Symbol s.Coalesce) now run.1.0 run.1.3.0 run.1.1 run.1.3.1)
      ∙ pooled_read pool.Coalesce y ys x now next is f run.0 run.1.0 run.1.1 run.1.3
  reads_pooled pool.Greatest y ys x now next is f run =
      by_first nested inner (reading.Symbol s.Greatest) now run.1.0 run.1.1 ∙ chosen (λ u. calls u.tokens) (pooled nested inner pool.Greatest) (named nested inner) now (bracket_behind (reading.Symbol s.Greatest) now run.1.0 run.1.3.0 run.1.1 run.1.3.1)
      ∙ pooled_read pool.Greatest y ys x now next is f run.0 run.1.0 run.1.1 run.1.3
  reads_pooled pool.Least y ys x now next is f run =
      by_first nested inner (reading.Symbol s.Least) now run.1.0 run.1.1 ∙ chosen (λ u. calls u.tokens) (pooled nested inner pool.Least) (named nested inner) now (bracket_behind (reading.Symbol s.Least) now run.1.0 run.1.3.0 run.1.1 run.1.3.1)
      ∙ pooled_read pool.Least y ys x now next is f run.0 run.1.0 run.1.1 run.1.3

  pub reads_extract : (field : List ℕ) (y x : Expr) (now next : Stream) → x.form ≡ e.Extract field y → Framed x now next
      → Run (at x.place ∷ word s.Extract ∷ word s.Open ∷ Piece.need (g.is_field (word_reading field)) ∷ say (word_reading field) ∷ word s.From ∷ Piece.part 0 (tree_facts y) ∷ word s.Close ∷ []) d now next → primary nested inner now ≡ Some (x, next)
  unfolding extract a_field
  reads_extract field y x now next is f run =
      let h = run.1 in
      let o = h.3 in
      let w = o.3.1 in
      let m = subst (λ t. Run (word s.From ∷ Piece.part 0 (tree_facts y) ∷ word s.Close ∷ []) (Rattle.sq_grammar.proofs.Runs.spent t (d - 1)) w.0 next) (field_turn (word_reading field) o.3.0) w.3 in
      let v = m.3 in
      let c = v.4 in
      by_first nested inner (reading.Symbol s.Extract) now h.0 h.1
      ∙ chosen (λ u. calls u.tokens) (extract nested inner) (named nested inner) now (bracket_behind (reading.Symbol s.Extract) now h.0 o.0 h.1 o.1)
      ∙ step (expect s.Extract) (λ _. expect s.Open >>= (λ _. a_field >>= (λ a. expect s.From >>= (λ _. nested >>= (λ b. expect s.Close >>= (λ _. node now (here now) (e.Extract a b))))))) now h.0 tt (says_expect s.Extract now h.0 h.1)
      ∙ step (expect s.Open) (λ _. a_field >>= (λ a. expect s.From >>= (λ _. nested >>= (λ b. expect s.Close >>= (λ _. node now (here now) (e.Extract a b)))))) h.0 o.0 tt (says_expect s.Open h.0 o.0 o.1)
      ∙ step a_field (λ a. expect s.From >>= (λ _. nested >>= (λ b. expect s.Close >>= (λ _. node now (here now) (e.Extract a b))))) o.0 w.0 field
      (says_token field_of field (word_reading field) o.0 w.0 w.1 (only_if_holds (g.is_field (word_reading field)) (word_text (word_reading field)) o.3.0 ∙ field_again field))
      ∙ step (expect s.From) (λ _. nested >>= (λ b. expect s.Close >>= (λ _. node now (here now) (e.Extract field b)))) w.0 m.0 tt (says_expect s.From w.0 m.0 m.1)
      ∙ step nested (λ b. expect s.Close >>= (λ _. node now (here now) (e.Extract field b))) m.0 v.0 y (i.reads y m.0 v.0 v.1 (omega (arith, v.2, o.2)) v.3 (says_goes 0 (reading.Symbol s.Close) v.0 c.0 c.1))
      ∙ step (expect s.Close) (λ _. node now (here now) (e.Extract field y)) v.0 c.0 tt (says_expect s.Close v.0 c.0 c.1)
      ∙ ap (λ u. node now (here now) (e.Extract field y) u) c.3
      ∙ placed x now next (e.Extract field y) f is run.0

  -- ---- parameters

  name_of_parameter : (k : ℕ) (x : ParameterName) (rest : List Piece) (now next : Stream) → Run (g.name_of_parameter x ++ rest) k now next → Gives (choose (λ v. begins_text v.tokens) text_name word_name now) x rest k next
  unfolding a_text
  name_of_parameter k (parameter_name.Text bytes) rest now next run = (
    run.0,
    chosen (λ v. begins_text v.tokens) text_name word_name now (ap begins_text run.1.first)
        ∙ step a_text (λ y. pure (parameter_name.Text y)) now run.0 bytes (says_token text_of bytes (reading.Text bytes) now run.0 run.1 refl),
    run.3,
  )
  name_of_parameter k (parameter_name.Identifier x) rest now next run =
      let m = name_read k x rest now next run in
      let h = run.1.1 in (
        m.0,
        passed (λ v. begins_text v.tokens) text_name word_name now (ap begins_text h.1.first ∙ no_text (identifier_reading x) h.1.place run.0)
            ∙ step name (λ y. pure (parameter_name.Identifier y)) now m.0 x m.1,
        m.2,
      )
    where
      no_text : (r : Reading) (place : Place) → is_name r ≡ true → is_some (text_of r place) ≡ false
      no_text (reading.Text bytes) place k = absurd (cc)
      no_text _ place k = refl

  pub reads_parameter : (y : Parameter) (x : Expr) (now next : Stream) → x.form ≡ e.Parameter y → Framed x now next → Run (at x.place ∷ g.parameter_pieces y) d now next → primary nested inner now ≡ Some (x, next)
  unfolding purposed same
  reads_parameter (parameter.Numbered bytes) x now next is f run =
      by_first nested inner (reading.Parameter bytes) now run.1.0 run.1.1
      ∙ step (token (λ r place. Some (parameter.Numbered bytes))) (λ y. node now (here now) (e.Parameter y)) now run.1.0 (parameter.Numbered bytes) (token_taken (parameter.Numbered bytes) (reading.Parameter bytes) now run.1.0 run.1.1)
      ∙ ap (λ v. node now (here now) (e.Parameter (parameter.Numbered bytes)) v) run.1.3
      ∙ placed x now next (e.Parameter (parameter.Numbered bytes)) f is run.0
  reads_parameter (parameter.Named bytes) x now next is f run =
      by_first nested inner (reading.Named bytes) now run.1.0 run.1.1
      ∙ step (token (λ r place. Some (parameter.Named bytes))) (λ y. node now (here now) (e.Parameter y)) now run.1.0 (parameter.Named bytes) (token_taken (parameter.Named bytes) (reading.Named bytes) now run.1.0 run.1.1)
      ∙ ap (λ v. node now (here now) (e.Parameter (parameter.Named bytes)) v) run.1.3
      ∙ placed x now next (e.Parameter (parameter.Named bytes)) f is run.0
  reads_parameter (parameter.Called purpose y) x now next is f run =
      let h = run.1 in
      let dot = h.3 in
      let w = dot.3 in
      let o = subst (λ t. Run (word s.Open ∷ g.name_of_parameter y ++ word s.Close ∷ []) (Rattle.sq_grammar.proofs.Runs.spent t d) w.0 next) (purpose_turn purpose) w.3 in
      let m = name_of_parameter (d - 1) y (word s.Close ∷ []) o.0 next o.3 in
      let c = m.2 in
      let ahead : begins_purpose now.tokens ≡ true =
      ap begins_purpose h.1.first ∙ ap (λ tokens. begins_purpose (record { reading = reading.Symbol s.Sqlc; place = h.1.place } ∷ tokens)) dot.1.first
      ∙ ap (λ tokens. begins_purpose (record { reading = reading.Symbol s.Sqlc; place = h.1.place } ∷ record { reading = reading.Symbol s.Dot; place = dot.1.place } ∷ tokens)) w.1.first
      ∙ rw (purpose_again purpose w.1.place) (that_symbol s.Open w.0 o.0 o.1) in
      by_first nested inner (reading.Symbol s.Sqlc) now h.0 h.1
      ∙ chosen (λ v. begins_purpose v.tokens) purposed (named nested inner) now ahead
      ∙ step (expect s.Sqlc) (λ _. expect s.Dot >>= (λ _. token purpose_of >>= (λ a. expect s.Open >>= (λ _. choose (λ v. begins_text v.tokens) text_name word_name >>= (λ b. expect s.Close >>= (λ _. node now (here now) (e.Parameter (parameter.Called a b)))))))) now h.0 tt (says_expect s.Sqlc now h.0 h.1)
      ∙ step (expect s.Dot) (λ _. token purpose_of >>= (λ a. expect s.Open >>= (λ _. choose (λ v. begins_text v.tokens) text_name word_name >>= (λ b. expect s.Close >>= (λ _. node now (here now) (e.Parameter (parameter.Called a b))))))) h.0 dot.0 tt (says_expect s.Dot h.0 dot.0 dot.1)
      ∙ step (token purpose_of) (λ a. expect s.Open >>= (λ _. choose (λ v. begins_text v.tokens) text_name word_name >>= (λ b. expect s.Close >>= (λ _. node now (here now) (e.Parameter (parameter.Called a b)))))) dot.0 w.0 purpose
      (says_token purpose_of purpose (reading.Symbol (g.purpose_symbol purpose)) dot.0 w.0 w.1 (purpose_again purpose w.1.place))
      ∙ step (expect s.Open) (λ _. choose (λ v. begins_text v.tokens) text_name word_name >>= (λ b. expect s.Close >>= (λ _. node now (here now) (e.Parameter (parameter.Called purpose b))))) w.0 o.0 tt (says_expect s.Open w.0 o.0 o.1)
      ∙ step (choose (λ v. begins_text v.tokens) text_name word_name) (λ b. expect s.Close >>= (λ _. node now (here now) (e.Parameter (parameter.Called purpose b)))) o.0 m.0 y m.1
      ∙ step (expect s.Close) (λ _. node now (here now) (e.Parameter (parameter.Called purpose y))) m.0 c.0 tt (says_expect s.Close m.0 c.0 c.1)
      ∙ ap (λ v. node now (here now) (e.Parameter (parameter.Called purpose y)) v) c.3
      ∙ placed x now next (e.Parameter (parameter.Called purpose y)) f is run.0
