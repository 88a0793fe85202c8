-- Calls are read as they are spelled.
use Rattle.std.proofs.Common.{◌≡◌, ℕ, true, false, List, [], ◌∷◌, ◌++◌, Option, Some, None, refl, sym, ap, subst, ◌∙◌, arith}
use Rattle.std.specs.Prelude.{◌||◌, not, if◌then◌else◌, option_map, ◌<◌, ◌-◌}
use Rattle.sq_syntax.specs.declared.symbol.Symbol.{Symbol}
use Rattle.sq_syntax.specs.declared.symbol.Symbol.TheVariants as s
use Rattle.sq_syntax.specs.declared.symbol.Reading.{Reading}
use Rattle.sq_syntax.specs.declared.symbol.Reading.TheVariants as reading
use Rattle.sq_syntax.specs.declared.name.Identifier.{Identifier}
use Rattle.sq_syntax.specs.declared.expr.Arguments.{Arguments}
use Rattle.sq_syntax.specs.declared.expr.Arguments.TheVariants as arguments
use Rattle.sq_syntax.specs.declared.expr.Expression.TheVariants as e
use Rattle.sq_syntax.specs.declared.query.Query.{Query}
use Rattle.sq_syntax.specs.Facts.{Stream, Says, first_place, Piece, most_layers}
use Rattle.sq_syntax.specs.Symbols.{text, identifier_reading, among}
use Rattle.sq_syntax.specs.Pieces.{sym as word, at}
use Rattle.sq_syntax.specs.ExpressionPieces as g
use Rattle.sq_grammar.specs.Reading.{Parser, ◌>>=◌, pure, fail, choose, expect, same, here, token, node}
use Rattle.sq_grammar.specs.Ahead.{Lexemes, closed, text_after_squares, skip_word, or_nothing, skip_brackets, skip_zone, types_text, is_some}
use Rattle.sq_grammar.specs.Levels.{Expr}
use Rattle.sq_grammar.specs.Names.{identifier, word_of, call_of, if_call, call_name}
use Rattle.sq_grammar.specs.Primaries.{primary, by_reading, calls, column, call, typed_text, begins_purpose, within_call, filter, if_aggregate}
use Rattle.sq_grammar.proofs.Runs.{Run, spent, both}
use Rattle.sq_grammar.proofs.Complete.{step, says_expect, says_token, same_some, stood, Framed, goes_on}
use Rattle.sq_grammar.proofs.Joints.{false_true, unsaid}
use Rattle.sq_grammar.proofs.ReadNames.{chosen, passed, identifier_again, only_holds}
use Rattle.sq_grammar.proofs.ReadTypes.{other_symbol, back}
use Rattle.sq_grammar.proofs.Lists.{Inside, facts_of}
use Rattle.sq_grammar.proofs.Relations.{untrue}
use Rattle.sq_grammar.proofs.Sorts.{argument_facts, within_read, filter_read, close_tail}
use Rattle.sq_grammar.proofs.Words.{bracket_behind}
use Rattle.sq_grammar.proofs.Simple.{by_first, placed}
use Rattle.sq_grammar.proofs.Walks.{Flat}
use Rattle.sq_grammar.proofs.WalkParts.{call_turn}
use Rattle.sq_grammar.proofs.WalkTrees.{within}
use Rattle.sq_grammar.proofs.Walking.{below}
use Rattle.sq_grammar.proofs.Named.{closed_counts, run_part, not_dot, zone_over, text_behind, types_behind, no_purpose, to_named}

-- brackets are closed behind what is balanced
pub closed_over : (v z : Stream) (close : Stream) → closed v.tokens 1 ≡ closed z.tokens 1 → Says (reading.Symbol s.Close) z close → closed v.tokens 1 ≡ Some close.tokens
closed_over v z close h c = h ∙ ap (λ tokens. closed tokens 1) c.first ∙ none_open close.tokens
  where
    none_open : (tokens : Lexemes) → closed tokens 0 ≡ Some tokens
    none_open [] = refl
    none_open (x ∷ rest) = refl

-- brackets behind a name are skipped
pub open_skipped : (u v close : Stream) → Says (reading.Symbol s.Open) u v → closed v.tokens 1 ≡ Some close.tokens → text_behind u.tokens ≡ text_after_squares (skip_zone close.tokens) 0
unfolding same
open_skipped u v close o h =
    ap (λ tokens. text_after_squares (skip_zone (skip_brackets (skip_word tokens))) 0) (not_dot u.tokens (other_symbol s.Dot s.Open u v o refl))
    ∙ ap (λ tokens. text_after_squares (skip_zone (skip_brackets (skip_word tokens))) 0) o.first
    ∙ ap (λ rest. text_after_squares (skip_zone (or_nothing rest)) 0) h

pub symbol_name : (x : Identifier) (k : Symbol) → identifier_reading x ≡ reading.Symbol k → x.name ≡ text k
symbol_name x k h =
    let found : Some (identifier (text k) false x.place) ≡ Some x = sym (ap (λ r. word_of r x.place) h) ∙ identifier_again x in
    sym (ap (λ (y : Identifier). y.name) (same_some found))

no_call : (x : Identifier) (k : Symbol) → identifier_reading x ≡ reading.Symbol k → among g.other_calls x.name ≡ false → among g.other_calls (text k) ≡ true → ⊥
no_call x k h a b = false_true (sym a ∙ ap (λ name. among g.other_calls name) (symbol_name x k h) ∙ b)

pub asks_again : (x : Arguments Expr) → g.asks_aggregate (argument_facts x) ≡ g.asks_aggregate x
asks_again arguments.Star = refl
asks_again (arguments.List distinct xs []) = refl
asks_again (arguments.List distinct xs (y ∷ ys)) = refl

pub some_again : (x : Option Expr) → g.is_some (option_map facts_of x) ≡ is_some x
some_again None = refl
some_again (Some x) = refl

module _ (d : ℕ) (nested : Parser Expr) (inner : Parser Query) (i : Inside d nested inner) where
  to_call : (r : Reading) (x : Identifier) (now : Stream) → identifier_reading x ≡ r → g.is_call_reading r ≡ true → among g.other_calls x.name ≡ false → types_text now.tokens ≡ false → calls now.tokens ≡ true → begins_purpose now.tokens ≡ false
      → by_reading nested inner r now ≡ call nested inner now
  to_call (reading.Symbol s.Left) x now h b a t c k = chosen (λ v. calls v.tokens) (call nested inner) fail now c
  to_call (reading.Symbol s.Right) x now h b a t c k = chosen (λ v. calls v.tokens) (call nested inner) fail now c
  to_call (reading.Symbol s.Coalesce) x now h b a t c k = absurd (no_call x s.Coalesce h a refl)
  to_call (reading.Symbol s.Greatest) x now h b a t c k = absurd (no_call x s.Greatest h a refl)
  to_call (reading.Symbol s.Least) x now h b a t c k = absurd (no_call x s.Least h a refl)
  to_call (reading.Symbol s.NullIf) x now h b a t c k = absurd (no_call x s.NullIf h a refl)
  to_call (reading.Symbol s.Extract) x now h b a t c k = absurd (no_call x s.Extract h a refl)
  to_call (reading.Symbol y) x now h b a t c k =
      to_named nested inner (reading.Symbol y) now b (λ q. absurd (false_true q)) k
      ∙ passed (λ v. types_text v.tokens) typed_text (choose (λ v. calls v.tokens) (call nested inner) column) now t
      ∙ chosen (λ v. calls v.tokens) (call nested inner) column now c
  to_call (reading.Word bytes) x now h b a t c k =
      to_named nested inner (reading.Word bytes) now b (λ q. absurd (false_true q)) k
      ∙ passed (λ v. types_text v.tokens) typed_text (choose (λ v. calls v.tokens) (call nested inner) column) now t
      ∙ chosen (λ v. calls v.tokens) (call nested inner) column now c
  to_call (reading.Quoted bytes) x now h b a t c k =
      to_named nested inner (reading.Quoted bytes) now b (λ q. absurd (false_true q)) k
      ∙ passed (λ v. types_text v.tokens) typed_text (choose (λ v. calls v.tokens) (call nested inner) column) now t
      ∙ chosen (λ v. calls v.tokens) (call nested inner) column now c
  to_call _ x now h b a t c k = absurd (false_true b)

  call_name_read : (x : Identifier) (now u : Stream) (h : Says (identifier_reading x) now u) → first_place now.tokens ≡ Some x.place → g.is_call_reading (identifier_reading x) ≡ true → among g.other_calls x.name ≡ false → call_name now ≡ Some (x, u)
  unfolding call_name
  call_name_read x now u h place b a =
      step (token call_of) if_call now u x
      (says_token call_of x (identifier_reading x) now u h (only_holds (g.is_call_reading (identifier_reading x)) (word_of (identifier_reading x) h.place) b
      ∙ ap (λ q. word_of (identifier_reading x) q) (stood x.place (identifier_reading x) now u h place) ∙ identifier_again x))
      ∙ ap (λ c. (if c then fail else pure x) u) a

  -- nothing of a type and a text stands behind the brackets of a call
  filter_over : (last : Option Expr) (rest : ℕ) (z next : Stream) → Run (g.filter (option_map facts_of last)) rest z next → goes_on 15 next ≡ false → text_after_squares (skip_zone z.tokens) 0 ≡ false
  unfolding same
  filter_over None rest z next run stop = ap (λ (v : Stream). text_after_squares (skip_zone v.tokens) 0) run ∙ zone_over next.tokens stop
  filter_over (Some y) rest z next run stop = ap (λ tokens. text_after_squares (skip_zone tokens) 0) run.1.first

  call_tail : Arguments Expr → Option Expr → List Piece
  call_tail inside last = g.argument_pieces (argument_facts inside) ++ word s.Close ∷ g.filter (option_map facts_of last)

  call_types : (inside : Arguments Expr) (last : Option Expr) (rest : ℕ) (u v next : Stream) → Says (reading.Symbol s.Open) u v → Run (call_tail inside last) rest v next → goes_on 15 next ≡ false → text_behind u.tokens ≡ false
  unfolding call_tail
  call_types inside last rest u v next o run stop =
      let ps = g.argument_pieces (argument_facts inside) in
      let m = most_layers ps in
      let t = run_part ps (word s.Close ∷ g.filter (option_map facts_of last)) rest v next run in
      let flat : Flat closed m 0 0 ps = within closed closed_counts m (below closed closed_counts m) inside in
      let over = flat.flat (omega arith) t.2 0 v t.0 t.3 in
      open_skipped u v t.4.0 o (closed_over v t.0 t.4.0 over t.4.1) ∙ filter_over last _ t.4.0 next t.4.3 stop

  pub reads_call : (y : Identifier) (inside : Arguments Expr) (last : Option Expr) (x : Expr) (now next : Stream) → x.form ≡ e.Call y inside last → Framed x now next
      → Run (at x.place ∷ Piece.need (among g.aggregates y.name || not (g.asks_aggregate (argument_facts inside) || g.is_some (option_map facts_of last))) ∷ g.call_name y ++ word s.Open ∷ g.argument_pieces (argument_facts inside) ++ word s.Close ∷ g.filter (option_map facts_of last)) d now next
      → goes_on 15 next ≡ false → primary nested inner now ≡ Some (x, next)
  unfolding call call_tail close_tail same
  reads_call y inside last x now next form f run stop =
      let r = identifier_reading y in
      let c = run.1.1 in
      let ok = both (g.is_call_reading r) (not (among g.other_calls y.name)) c.0 in
      let other = untrue (among g.other_calls y.name) ok.1 in
      let h = c.1.1 in
      let u = h.0 in
      let o = subst (λ t. Run (word s.Open ∷ call_tail inside last) (spent t d) u next) (call_turn r ok.0) h.3 in
      let v = o.0 in
      let less : d - 1 < d = omega (arith, o.2) in
      let w = within_read d nested inner i (d - 1) less inside (g.filter (option_map facts_of last)) v next o.3 in
      let close = w.2 in
      let z = close.0 in
      let rest = subst (λ k. Run (g.filter (option_map facts_of last)) k z next) (back d o.2) close.3 in
      by_first nested inner r now u h.1
      ∙ to_call r y now refl ok.0 other (types_behind r now u h.1 ∙ call_types inside last (d - 1) u v next o.1 o.3 stop) (bracket_behind r now u v h.1 o.1) (no_purpose r now u h.1 (other_symbol s.Dot s.Open u v o.1 refl))
      ∙ step call_name (λ a. expect s.Open >>= (λ _. within_call nested inner >>= (λ b. expect s.Close >>= (λ _. filter nested inner >>= (λ l. if_aggregate nested inner now a b l))))) now u y (call_name_read y now u h.1 c.1.0 ok.0 other)
      ∙ step (expect s.Open) (λ _. within_call nested inner >>= (λ b. expect s.Close >>= (λ _. filter nested inner >>= (λ l. if_aggregate nested inner now y b l)))) u v tt (says_expect s.Open u v o.1)
      ∙ step (within_call nested inner) (λ b. expect s.Close >>= (λ _. filter nested inner >>= (λ l. if_aggregate nested inner now y b l))) v w.0 inside w.1
      ∙ step (expect s.Close) (λ _. filter nested inner >>= (λ l. if_aggregate nested inner now y inside l)) w.0 z tt (says_expect s.Close w.0 z close.1)
      ∙ step (filter nested inner) (λ l. if_aggregate nested inner now y inside l) z next last (filter_read d nested inner i last z next rest (unsaid 15 next s.Filter (λ tokens. refl) stop))
      ∙ ap (λ b. (if b then node now (here now) (e.Call y inside last) else fail) next)
      (ap (λ b. among g.aggregates y.name || not (b || is_some last)) (sym (asks_again inside)) ∙ ap (λ b. among g.aggregates y.name || not (g.asks_aggregate (argument_facts inside) || b)) (sym (some_again last)) ∙ run.1.0)
      ∙ placed x now next (e.Call y inside last) f form run.0
