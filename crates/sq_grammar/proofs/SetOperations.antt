-- Operands with set operations between them are read as they are spelled.
use Rattle.std.proofs.Common.{◌≡◌, ℕ, suc, ◌≤◌, Bool, true, false, List, ◌++◌, Option, Some, refl, ap, subst, ◌∙◌, arith, append_assoc, map}
use Rattle.std.specs.Prelude.{flat_map, not, nat_le, if◌then◌else◌}
use Rattle.std.proofs.lemmas.Grind.{common_steps}
use Rattle.std.proofs.lemmas.List.Folds.{flat_map-map}
use Rattle.sq_base.specs.declared.place.Place.{Place}
use Rattle.sq_syntax.specs.declared.symbol.Symbol.TheVariants as s
use Rattle.sq_syntax.specs.declared.symbol.Reading.{Reading}
use Rattle.sq_syntax.specs.declared.symbol.Reading.TheVariants as reading
use Rattle.sq_syntax.specs.declared.query.Operands.{Operands}
use Rattle.sq_syntax.specs.declared.query.SetLink.{SetLink}
use Rattle.sq_syntax.specs.declared.query.SetOperation.{SetOperation}
use Rattle.sq_syntax.specs.declared.query.SetOperation.TheVariants as set_operation
use Rattle.sq_syntax.specs.declared.query.Quantity.{Quantity}
use Rattle.sq_syntax.specs.Facts.{Stream, Says, Piece, Turn, turn}
use Rattle.sq_syntax.specs.QueryPieces as f
use Rattle.sq_syntax.specs.QueryPieces.{set_symbol, is_tight}
use Rattle.sq_grammar.specs.Reading.{Parser, ◌>>=◌, pure, token, here, same, many}
use Rattle.sq_grammar.specs.Queries.{quantity_word, set_link, operands}
use Rattle.sq_grammar.proofs.Runs.{Run, spent}
use Rattle.sq_grammar.proofs.Complete.{step, says_token, stands_here, Item}
use Rattle.sq_grammar.proofs.Chains.{Gives, many_reads, next_stops}
use Rattle.sq_grammar.proofs.Begins.{head_fits}
use Rattle.sq_grammar.proofs.QueryFacts.{link_facts, operands_facts}
use Rattle.sq_grammar.proofs.QueryWords.{quantity_read}
use Rattle.sq_grammar.proofs.Ranks.{Behind, rank, symbol_rank, says_rank}
use Rattle.sq_grammar.proofs.Factors.{starts_factor, no_factor}

-- the operation binds so tightly
abbrev pub fits : Bool → SetOperation → Bool
fits tight x = if tight then is_tight x else not (is_tight x)

-- what begins a part before this place
abbrev pub is_before : ℕ → Stream → Bool
is_before n u = not (nat_le n (rank u.tokens))

pub not_before : (n : ℕ) (u : Stream) → n ≤ rank u.tokens → is_before n u ≡ false
not_before n u h = grind (arith, common_steps)

pub before_no : (n : ℕ) (u : Stream) → is_before n u ≡ false → n ≤ rank u.tokens
before_no n u h = grind (arith, common_steps)

set_turn : (x : SetOperation) → turn (reading.Symbol (set_symbol x)) ≡ Turn.neither
set_turn set_operation.Union = refl
set_turn set_operation.Except = refl
set_turn set_operation.Intersect = refl

module _ {A B : Type 0} (k n : ℕ) (tight : Bool) (facts : A → B) (pieces : B → List Piece) (operand : Parser A) (more : Stream → Bool) (operation : Reading → Place → Option SetOperation) where
  -- operations of one kind, and operands of theirs that are read
  pub record Operated : Type 0 where
    pub is : (x : SetOperation) (place : Place) → fits tight x ≡ true → operation (reading.Symbol (set_symbol x)) place ≡ Some x
    pub seen : (x : SetOperation) (now next : Stream) → fits tight x ≡ true → Says (reading.Symbol (set_symbol x)) now next → more now ≡ true
    pub ranked : (x : SetOperation) → fits tight x ≡ true → n ≤ symbol_rank (set_symbol x)
    pub unseen : (u : Stream) → suc n ≤ rank u.tokens → more u ≡ false
    pub operand_read : (x : A) (rest : List Piece) (now next : Stream) → Run (pieces (facts x) ++ rest) k now next → Behind n rest k next → Gives (operand now) x rest k next
    pub operand_begins : (x : A) (rest : List Piece) (now next : Stream) → Run (pieces (facts x) ++ rest) k now next → head_fits starts_factor now.tokens ≡ true

  abbrev link_of : Place → SetOperation → Quantity → A → SetLink A
  link_of place x quantity y = record { place = place; operation = x; quantity = quantity; operand = y }

  abbrev link_pieces : SetLink A → List Piece
  link_pieces x = f.set_link tight pieces (link_facts facts x)

  module _ (o : Operated) where
    link_read : (x : SetLink A) (rest : List Piece) (now next : Stream) → Run (link_pieces x ++ rest) k now next → ((u : Stream) → Run rest k u next → is_before n u ≡ false) → Gives (set_link operation operand now) x rest k next
    unfolding same
    link_read x rest now next run stop =
        let symbol = reading.Symbol (set_symbol x.operation) in
        let words = f.quantity_words x.quantity in
        let held = pieces (facts x.operand) in
        let u = run.1.1.0 in
        let says = run.1.1.1 in
        let past = subst (λ t. Run (words ++ held ++ rest) (spent t k) u next) (set_turn x.operation) run.1.1.3 in
        let q = quantity_read k x.quantity (held ++ rest) u next (subst (λ ps. Run ps k u next) (append_assoc words held rest) past)
        (λ v r. no_factor s.All v.tokens refl (o.operand_begins x.operand rest v next r))
        (λ v r. no_factor s.Distinct v.tokens refl (o.operand_begins x.operand rest v next r)) in
        let y = o.operand_read x.operand rest q.0 next q.2 (λ v r. before_no n v (stop v r)) in (
          y.0,
          step (token operation) (λ op. quantity_word >>= (λ quantity. operand >>= (λ z. pure (link_of (here now) op quantity z)))) now u x.operation (says_token operation x.operation symbol now u says (o.is x.operation says.place run.0))
              ∙ step quantity_word (λ quantity. operand >>= (λ z. pure (link_of (here now) x.operation quantity z))) u q.0 x.quantity q.1
              ∙ step operand (λ z. pure (link_of (here now) x.operation x.quantity z)) q.0 y.0 x.operand y.1
              ∙ ap (λ place. Some (link_of place x.operation x.quantity x.operand, y.0)) (stands_here x.place now.tokens run.1.0),
          y.2,
        )

    link_item : Item k more (set_link operation operand) link_pieces (is_before n)
    link_item = record {
      begun = λ x rest now next run stop. o.seen x.operation now run.1.1.0 run.0 run.1.1.1;
      stops = λ x rest now next run. not_before n now (omega (arith, o.ranked x.operation run.0, says_rank (reading.Symbol (set_symbol x.operation)) now run.1.1.0 run.1.1.1));
      some = λ x. omega arith;
      reads = λ x rest now next run stop. link_read x rest now next run stop;
    }

    all_pieces : (x : Operands A) (rest : List Piece) → f.operands tight pieces (operands_facts facts x) ++ rest ≡ pieces (facts x.first) ++ (flat_map link_pieces x.links ++ rest)
    all_pieces x rest =
        append_assoc (pieces (facts x.first)) (flat_map (f.set_link tight pieces) (map (link_facts facts) x.links)) rest
        ∙ ap (λ ps. pieces (facts x.first) ++ (ps ++ rest)) (flat_map-map (f.set_link tight pieces) (link_facts facts) x.links)

    pub operands_read : (x : Operands A) (rest : List Piece) (now next : Stream) → Run (f.operands tight pieces (operands_facts facts x) ++ rest) k now next → Behind (suc n) rest k next → Gives (operands more operation operand now) x rest k next
    operands_read x rest now next run behind =
        let links = flat_map link_pieces x.links ++ rest in
        let all = subst (λ ps. Run ps k now next) (all_pieces x rest) run in
        let first = o.operand_read x.first links now next all (λ u r. before_no n u (next_stops k more (set_link operation operand) link_pieces (is_before n) link_item x.links rest u next r (λ v t. not_before n v (omega (arith, behind v t))))) in
        let others = many_reads k more (set_link operation operand) link_pieces (is_before n) link_item x.links rest first.0 next first.2 (λ u r. (o.unseen u (behind u r), not_before n u (omega (arith, behind u r)))) in (
          others.0,
          step operand (λ y. many more (set_link operation operand) >>= (λ ys. pure (record { first = y; links = ys }))) now first.0 x.first first.1
              ∙ step (many more (set_link operation operand)) (λ ys. pure (record { first = x.first; links = ys })) first.0 others.0 x.links others.1,
          others.2,
        )

    pub operands_begin : (x : Operands A) (rest : List Piece) (now next : Stream) → Run (f.operands tight pieces (operands_facts facts x) ++ rest) k now next → head_fits starts_factor now.tokens ≡ true
    operands_begin x rest now next run = o.operand_begins x.first (flat_map link_pieces x.links ++ rest) now next (subst (λ ps. Run ps k now next) (all_pieces x rest) run)
