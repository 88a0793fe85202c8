-- Lists with commas are read as they are spelled, and are spelled as they are read.
use Rattle.std.proofs.Common.{◌≡◌, ℕ, Bool, true, false, List, ◌∷◌, ◌++◌, Some, refl, sym, ap, subst, ◌∙◌, arith, append_assoc, map}
use Rattle.std.specs.Prelude.{flat_map, not}
use Rattle.std.proofs.lemmas.List.Folds.{flat_map-map}
use Rattle.std.proofs.lemmas.Option.{some_pair_parts}
use Rattle.sq_syntax.specs.declared.symbol.Symbol.TheVariants as s
use Rattle.sq_syntax.specs.declared.symbol.Reading.TheVariants as reading
use Rattle.sq_syntax.specs.Facts.{Stream, Says, Piece}
use Rattle.sq_syntax.specs.Pieces as p
use Rattle.sq_syntax.specs.Pieces.{sym as word}
use Rattle.sq_grammar.specs.Reading.{Parser, ◌>>=◌, ◌>>◌, pure, sees, expect, many}
use Rattle.sq_grammar.specs.Statements.{listed}
use Rattle.sq_grammar.proofs.Runs.{Run}
use Rattle.sq_grammar.proofs.Complete.{step, says_expect, Item}
use Rattle.sq_grammar.proofs.Chains.{Gives, many_reads, next_stops}
use Rattle.sq_grammar.proofs.ReadTypes.{that_symbol}
use Rattle.sq_grammar.proofs.Takes.{Took, Spells, ◌then◌, expected, behind}
use Rattle.sq_grammar.proofs.TakeLists.{items_took}

-- an item of a list gives itself back, and a comma ends it
pub record ListItem {A : Type 0} (k : ℕ) (item : Parser A) (pieces : A → List Piece) (stop : Stream → Bool) : Type 0 where
  pub reads : (x : A) (rest : List Piece) (now next : Stream) → Run (pieces x ++ rest) k now next → ((u : Stream) → Run rest k u next → stop u ≡ false) → Gives (item now) x rest k next
  pub stops : (now next : Stream) → Says (reading.Symbol s.Comma) now next → stop now ≡ false

-- a list that is read: its pieces, and that it has an item
pub record Listed {A : Type 0} (pieces : A → List Piece) (xs : List A) (now next : Stream) : Type 0 where
  pub took : Took (p.listed (map pieces xs)) now next
  pub some : not (p.is_empty xs) ≡ true

abbrev pub comma_pieces : {A : Type 0} → (A → List Piece) → A → List Piece
comma_pieces pieces x = word s.Comma ∷ pieces x

pub listed_pieces : {A : Type 0} (pieces : A → List Piece) (x : A) (xs : List A) → p.listed (map pieces (x ∷ xs)) ≡ pieces x ++ flat_map (comma_pieces pieces) xs
listed_pieces pieces x xs = ap (λ ps. pieces x ++ ps) (flat_map-map (λ (item : List Piece). word s.Comma ∷ item) pieces xs)

module _ {A : Type 0} (k : ℕ) (item : Parser A) (pieces : A → List Piece) (stop : Stream → Bool) where
  abbrev next_of : Parser A
  next_of = expect s.Comma >> item

  next_item : ListItem k item pieces stop → Item k (sees s.Comma) next_of (comma_pieces pieces) stop
  next_item i = record {
    begun = λ x rest now next run ends. that_symbol s.Comma now run.0 run.1;
    stops = λ x rest now next run. i.stops now run.0 run.1;
    some = λ x. omega arith;
    reads = λ x rest now next run ends.
        let t = i.reads x rest run.0 next run.3 ends in
        (t.0, step (expect s.Comma) (λ _. item) now run.0 tt (says_expect s.Comma now run.0 run.1) ∙ t.1, t.2);
  }

  pub listed_read : ListItem k item pieces stop → (x : A) (xs : List A) (rest : List Piece) (now next : Stream) → Run (p.listed (map pieces (x ∷ xs)) ++ rest) k now next
      → ((u : Stream) → Run rest k u next → (sees s.Comma u ≡ false) × (stop u ≡ false)) → Gives (listed item now) (x ∷ xs) rest k next
  listed_read i x xs rest now next run ends =
      let more = flat_map (comma_pieces pieces) xs in
      let parts = subst (λ ps. Run ps k now next) (ap (λ ps. ps ++ rest) (listed_pieces pieces x xs) ∙ append_assoc (pieces x) more rest) run in
      let first = i.reads x (more ++ rest) now next parts (λ v r. next_stops k (sees s.Comma) next_of (comma_pieces pieces) stop (next_item i) xs rest v next r (λ w t. (ends w t).1)) in
      let others = many_reads k (sees s.Comma) next_of (comma_pieces pieces) stop (next_item i) xs rest first.0 next first.2 ends in (
        others.0,
        step item (λ y. many (sees s.Comma) next_of >>= (λ ys. pure (y ∷ ys))) now first.0 x first.1
            ∙ step (many (sees s.Comma) next_of) (λ ys. pure (x ∷ ys)) first.0 others.0 xs others.1,
        others.2,
      )

module _ {A : Type 0} (item : Parser A) (pieces : A → List Piece) (took : Spells pieces item) where
  comma_took : Spells (comma_pieces pieces) (expect s.Comma >> item)
  comma_took now next x h = let one = behind h in expected one.first then took one.mid next x one.second

  pub listed_took : (now next : Stream) (xs : List A) → listed item now ≡ Some (xs, next) → Listed pieces xs now next
  listed_took now next xs h =
      let one = behind h in
      let two = behind one.second in
      let x = one.value in
      let all : Took (pieces x ++ flat_map (comma_pieces pieces) two.value) now two.mid =
      took now one.mid x one.first then items_took (sees s.Comma) (expect s.Comma >> item) (comma_pieces pieces) comma_took one.mid two.mid two.value two.first in
      let e = some_pair_parts (x ∷ two.value) xs two.mid next two.second in
      let made : Listed pieces (x ∷ two.value) now two.mid = record { took = subst (λ ps. Took ps now two.mid) (sym (listed_pieces pieces x two.value)) all; some = refl } in
      subst (λ u. Listed pieces xs now u) e.1 (subst (λ ys. Listed pieces ys now two.mid) e.0 made)
