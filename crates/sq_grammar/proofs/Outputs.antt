-- The outputs of a query are read as they are spelled.
use Rattle.std.proofs.Common.{◌≡◌, ℕ, ◌-◌, false, List, [], ◌∷◌, ◌++◌, Some, refl, sym, ap, subst, ◌∙◌, arith, append_assoc, map}
use Rattle.std.specs.Prelude.{flat_map}
use Rattle.std.proofs.lemmas.List.Folds.{flat_map-map}
use Rattle.std.proofs.lemmas.Simd.{map-map}
use Rattle.sq_base.specs.declared.place.Place.{Place}
use Rattle.sq_syntax.specs.declared.symbol.Symbol.TheVariants as s
use Rattle.sq_syntax.specs.declared.expr.Node.{Node}
use Rattle.sq_syntax.specs.declared.query.Query.{Query}
use Rattle.sq_syntax.specs.declared.query.Output.{Output}
use Rattle.sq_syntax.specs.declared.query.Output.TheVariants as output_kind
use Rattle.sq_syntax.specs.declared.symbol.Reading.TheVariants as reading
use Rattle.sq_syntax.specs.Facts.{Mark, Stream, Piece, first_place}
use Rattle.sq_syntax.specs.Symbols.{identifier_reading, is_name}
use Rattle.sq_syntax.specs.Pieces as p
use Rattle.sq_syntax.specs.Pieces.{sym as word}
use Rattle.sq_syntax.specs.QueryPieces as f
use Rattle.sq_grammar.specs.Reading.{Parser, ◌>>=◌, ◌>>◌, pure, choose, sees, expect, same, here, many}
use Rattle.sq_grammar.specs.Levels.{Expr}
use Rattle.sq_grammar.specs.Names.{name}
use Rattle.sq_grammar.specs.Queries.{begins_star_of, label, output}
use Rattle.sq_grammar.proofs.Runs.{Run, spent}
use Rattle.sq_grammar.proofs.Complete.{step, says_expect, stands_here, Item}
use Rattle.sq_grammar.proofs.Chains.{Gives, many_reads, next_stops}
use Rattle.sq_grammar.proofs.Joints.{says_goes}
use Rattle.sq_grammar.proofs.Begins.{Starts, starts_negated}
use Rattle.sq_grammar.proofs.Stars.{Unstarred}
use Rattle.sq_grammar.proofs.Lists.{ReadsTo}
use Rattle.sq_grammar.proofs.QueryFacts.{output_form, output_facts}
use Rattle.sq_grammar.proofs.ReadNames.{chosen, passed, name_read, name_turn}
use Rattle.sq_grammar.proofs.ReadTypes.{other_symbol, that_symbol}
use Rattle.sq_grammar.proofs.Aliases.{unseen_word, label_seen, neither, label_read}
use Rattle.sq_grammar.proofs.Distinct.{unseen_head, star_seen, output_goes_on, EndsOutput, output_ends, value_stops}

abbrev output_of : Place → ℕ → ℕ → Output Expr → Node (Output Expr)
output_of place first last form = record { place = place; first = first; last = last; form = form }

abbrev pub comma_output : Node (Output Expr) → List Piece
comma_output x = word s.Comma ∷ f.output_pieces (output_facts x)

pub outputs_pieces : (x : Node (Output Expr)) (xs : List (Node (Output Expr))) → p.listed (map f.output_pieces (map output_facts (x ∷ xs))) ≡ f.output_pieces (output_facts x) ++ flat_map comma_output xs
outputs_pieces x xs = ap (λ ps. f.output_pieces (output_facts x) ++ ps) (ap (λ ps. flat_map (λ item. word s.Comma ∷ item) ps) (map-map f.output_pieces output_facts xs) ∙ flat_map-map (λ (item : List Piece). word s.Comma ∷ item) (λ (y : Node (Output Expr)). f.output_pieces (output_facts y)) xs)

module _ (expr : Parser Expr) (inner : Parser Query) (k : ℕ) (read : ReadsTo k expr) (starts : Starts starts_negated expr) (unstarred : Unstarred expr) where
  abbrev star_of : Parser (Output Expr)
  star_of = name >>= (λ y. expect s.Dot >>= (λ _. expect s.Times >>= (λ _. pure (output_kind.StarOf y))))

  abbrev value : Parser (Output Expr)
  value = expr >>= (λ y. label >>= (λ z. pure (output_kind.Value y z)))

  abbrev either_output : Parser (Output Expr)
  either_output = choose (λ now. begins_star_of now.tokens) star_of value

  abbrev star : Parser (Output Expr)
  star = expect s.Times >> pure output_kind.Star

  abbrev form : Parser (Output Expr)
  form = choose (sees s.Times) star either_output

  form_read : (x : Output Expr) (rest : List Piece) (now next : Stream) → Run (f.shown (output_form x) ++ rest) k now next → EndsOutput rest k next → Gives (form now) x rest k next
  unfolding same
  form_read output_kind.Star rest now next run ends = (
    run.0,
    chosen (sees s.Times) star either_output now (that_symbol s.Times now run.0 run.1) ∙ step (expect s.Times) (λ _. pure output_kind.Star) now run.0 tt (says_expect s.Times now run.0 run.1),
    run.3,
  )
  form_read (output_kind.StarOf x) rest now next run ends =
      let r = identifier_reading x in
      let u = run.1.1.0 in
      let says = run.1.1.1 in
      let past = subst (λ t. Run (word s.Dot ∷ word s.Times ∷ rest) (spent t k) u next) (name_turn r run.0) run.1.1.3 in
      let m = name_read k x [] now u (run.0, (run.1.0, (u, says, run.1.1.2, refl))) in
      let v = past.0 in
      let w = past.3.0 in (
        w,
        passed (sees s.Times) star either_output now (unseen_word is_name s.Times r now u says run.0 refl)
            ∙ chosen (λ at. begins_star_of at.tokens) star_of value now (star_seen r now u v w says past.1 past.3.1)
            ∙ step name (λ y. expect s.Dot >>= (λ _. expect s.Times >>= (λ _. pure (output_kind.StarOf y)))) now u x (subst (λ (at : Stream). name now ≡ Some (x, at)) m.2 m.1)
            ∙ step (expect s.Dot) (λ _. expect s.Times >>= (λ _. pure (output_kind.StarOf x))) u v tt (says_expect s.Dot u v past.1)
            ∙ step (expect s.Times) (λ _. pure (output_kind.StarOf x)) v w tt (says_expect s.Times v w past.3.1),
        past.3.3,
      )
  form_read (output_kind.Value x y) rest now next run ends =
      let u = run.0 in
      let stop = value_stops k y rest next ends u run.4 in
      let is_read = read x now u run.1 run.2 run.3 stop in
      let l = label_read k y rest u next run.4 (λ v r. let e = output_ends v (ends v r) in (e.1, e.2)) in (
        l.0,
        passed (sees s.Times) star either_output now (unseen_head s.Times now.tokens (starts now u x is_read) refl)
            ∙ passed (λ at. begins_star_of at.tokens) star_of value now (unstarred now u x is_read stop)
            ∙ step expr (λ a. label >>= (λ z. pure (output_kind.Value a z))) now u x is_read
            ∙ step label (λ z. pure (output_kind.Value x z)) u l.0 y l.1,
        l.2,
      )

  pub output_read : (x : Node (Output Expr)) (rest : List Piece) (now next : Stream) → Run (f.output_pieces (output_facts x) ++ rest) k now next → EndsOutput rest k next → Gives (output expr inner now) x rest k next
  unfolding output
  output_read x rest now next run ends =
      let shown = f.shown (output_form x.form) in
      let tail = Piece.mark (Mark.ends x.last) ∷ rest in
      let parts = subst (λ ps. Run ps k now next) (append_assoc shown (Piece.mark (Mark.ends x.last) ∷ []) rest) run.1.1 in
      let t = form_read x.form tail now next parts (λ u r. ends u r.1) in
      let last : t.0.at - 1 ≡ x.last = omega (arith, t.2.0) in (
        t.0,
        step form (λ y at. Some (output_of (here now) now.at (at.at - 1) y, at)) now t.0 x.form t.1
            ∙ ap (λ n. Some (output_of (here now) now.at n x.form, t.0)) last
            ∙ ap (λ n. Some (output_of (here now) n x.last x.form, t.0)) (sym run.0)
            ∙ ap (λ place. Some (output_of place x.first x.last x.form, t.0)) (stands_here x.place now.tokens run.1.0),
        t.2.1,
      )

  abbrev next_output : Parser (Node (Output Expr))
  next_output = expect s.Comma >> output expr inner

  pub comma_ends : (now next : Stream) → Rattle.sq_syntax.specs.Facts.Says (reading.Symbol s.Comma) now next → output_goes_on now ≡ false
  unfolding same
  comma_ends now next h =
      neither _ _ (says_goes 0 (reading.Symbol s.Comma) now next h) (
      neither _ _ (other_symbol s.As s.Comma now next h refl) (
      neither _ _ (label_seen (reading.Symbol s.Comma) now next h) (other_symbol s.Time s.Comma now next h refl)))

  output_item : Item k (sees s.Comma) next_output comma_output output_goes_on
  output_item = record {
    begun = λ x rest now next run stop. that_symbol s.Comma now run.0 run.1;
    stops = λ x rest now next run. comma_ends now run.0 run.1;
    some = λ x. omega arith;
    reads = λ x rest now next run stop.
        let t = output_read x rest run.0 next run.3 stop in
        (t.0, step (expect s.Comma) (λ _. output expr inner) now run.0 tt (says_expect s.Comma now run.0 run.1) ∙ t.1, t.2);
  }

  -- the first output, and the tokens after it, which hold the others
  pub record Outputs (x : Node (Output Expr)) (xs : List (Node (Output Expr))) (rest : List Piece) (now next : Stream) : Type 0 where
    pub next_of : Stream
    pub first : output expr inner now ≡ Some (x, next_of)
    pub others : Gives (many (sees s.Comma) next_output next_of) xs rest k next

  pub outputs_read : (x : Node (Output Expr)) (xs : List (Node (Output Expr))) (rest : List Piece) (now next : Stream) → Run (p.listed (map f.output_pieces (map output_facts (x ∷ xs))) ++ rest) k now next
      → EndsOutput rest k next → ((u : Stream) → Run rest k u next → sees s.Comma u ≡ false) → Outputs x xs rest now next
  outputs_read x xs rest now next run ends comma =
      let first_pieces = f.output_pieces (output_facts x) in
      let more = flat_map comma_output xs in
      let parts = subst (λ ps. Run ps k now next) (ap (λ ps. ps ++ rest) (outputs_pieces x xs) ∙ append_assoc first_pieces more rest) run in
      let t = output_read x (more ++ rest) now next parts (λ u r. next_stops k (sees s.Comma) next_output comma_output output_goes_on output_item xs rest u next r ends) in
      record { next_of = t.0; first = t.1; others = many_reads k (sees s.Comma) next_output comma_output output_goes_on output_item xs rest t.0 next t.2 (λ u r. (comma u r, ends u r)) }
