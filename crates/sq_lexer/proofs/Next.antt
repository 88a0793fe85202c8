-- The longest front that the machine accepts is the next item.
use Rattle.std.proofs.Common.{◌≡◌, ℕ, ◌+◌, ◌≤◌, ◌<◌, Bool, true, false, List, [], ◌∷◌, ◌++◌, length, take, drop, Option, Some, None, refl, ap, ◌∙◌, sym, subst, arith, ◌⊎◌, inl, inr}
use Rattle.std.proofs.lemmas.List.{length_push, length-append, take_at, drop_at}
use Rattle.sq_syntax.specs.Bytes.{class_of}
use Rattle.sq_syntax.specs.Classes.{next_class}
use Rattle.sq_syntax.specs.Items.{IsNext, NoItem}
use Rattle.sq_syntax.specs.declared.item.ItemKind.{ItemKind}
use Rattle.sq_lexer.specs.Machine.{step, accepts, run, scan, later, begin}
use Rattle.sq_lexer.specs.declared.machine.State.{State}
use Rattle.sq_lexer.specs.declared.machine.Found.{Found}
use Rattle.sq_lexer.proofs.Complete.{item_accepted}
use Rattle.sq_lexer.proofs.Sound.{accepted_item}

-- a front that the machine accepts, and what follows it
pub record Front (seen : List ℕ) (state : State) (bytes : List ℕ) (f : Found) : Type 0 where
  pub front : List ℕ
  pub after : List ℕ
  pub whole : bytes ≡ front ++ after
  pub size : length seen + length front ≡ f.size
  pub accepted : accepts (run seen state front) (next_class after) ≡ Some f.kind

longer : (seen : List ℕ) (state : State) (b : ℕ) (bytes : List ℕ) (f : Found) → Front (seen ++ b ∷ []) (step seen state b) bytes f → Front seen state (b ∷ bytes) f
longer seen state b bytes f r =
    record { front = b ∷ r.front; after = r.after; whole = ap (λ x. b ∷ x) r.whole; size = omega (arith, r.size, length_push seen b); accepted = r.accepted }

empty_front : (seen : List ℕ) (state : State) (bytes : List ℕ) (found : Option Found) (f : Found)
    → later (accepts state (next_class bytes)) (length seen) found ≡ Some f → Front seen state bytes f ⊎ (found ≡ Some f)
empty_front seen state bytes found f h = at_kind (accepts state (next_class bytes)) refl h
  where
    at_kind : (k : Option ItemKind) → accepts state (next_class bytes) ≡ k → later k (length seen) found ≡ Some f → Front seen state bytes f ⊎ (found ≡ Some f)
    at_kind None is e = inr e
    at_kind (Some k) is e =
        let same : record { kind = k; size = length seen } ≡ f = cc in
        let size : length seen ≡ f.size = ap (λ (x : Found). x.size) same in
        inl (record { front = []; after = bytes; whole = refl; size = omega (arith, size); accepted = is ∙ ap (λ (x : Found). Some x.kind) same })

pub scan_front : (seen : List ℕ) (state : State) (found : Option Found) (bytes : List ℕ) (f : Found) → scan seen state found bytes ≡ Some f → Front seen state bytes f ⊎ (found ≡ Some f)
unfolding scan
scan_front seen state found [] f h = empty_front seen state [] found f h
scan_front seen state found (b ∷ bytes) f h = by_rest (scan_front (seen ++ b ∷ []) (step seen state b) (later (accepts state (Some (class_of b))) (length seen) found) bytes f h)
  where
    by_rest : Front (seen ++ b ∷ []) (step seen state b) bytes f ⊎ (later (accepts state (Some (class_of b))) (length seen) found ≡ Some f) → Front seen state (b ∷ bytes) f ⊎ (found ≡ Some f)
    by_rest (inl r) = inl (longer seen state b bytes f r)
    by_rest (inr e) = empty_front seen state (b ∷ bytes) found f e

-- what is found is at least so long
pub record FindsAtLeast (size : ℕ) (found : Option Found) : Type 0 where
  pub f : Found
  pub is : found ≡ Some f
  pub least : size ≤ f.size

still_later : (k : Option ItemKind) (n size : ℕ) (found : Option Found) → size ≤ n → FindsAtLeast size found → FindsAtLeast size (later k n found)
still_later None n size found within r = r
still_later (Some k) n size found within r = record { f = record { kind = k; size = n }; is = refl; least = within }

still : (bytes seen : List ℕ) (state : State) (size : ℕ) (found : Option Found) → size ≤ length seen → FindsAtLeast size found → FindsAtLeast size (scan seen state found bytes)
unfolding scan
still [] seen state size found within r = still_later (accepts state None) (length seen) size found within r
still (b ∷ bytes) seen state size found within r =
    still bytes (seen ++ b ∷ []) (step seen state b) size (later (accepts state (Some (class_of b))) (length seen) found) (omega (arith, length_push seen b))
    (still_later (accepts state (Some (class_of b))) (length seen) size found within r)

found_here : (k : Option ItemKind) (one : ItemKind) (n : ℕ) (found : Option Found) → k ≡ Some one → FindsAtLeast n (later k n found)
found_here k one n found is = record { f = record { kind = one; size = n }; is = ap (λ x. later x n found) is; least = omega arith }

pub accepted_found : (front after seen : List ℕ) (state : State) (found : Option Found) (k : ItemKind) → accepts (run seen state front) (next_class after) ≡ Some k
    → FindsAtLeast (length seen + length front) (scan seen state found (front ++ after))
unfolding scan
accepted_found [] [] seen state found k h =
    let r = found_here (accepts state None) k (length seen) found h in record { f = r.f; is = r.is; least = omega (arith, r.least) }
accepted_found [] (b ∷ after) seen state found k h =
    let r = still after (seen ++ b ∷ []) (step seen state b) (length seen) (later (accepts state (Some (class_of b))) (length seen) found) (omega (arith, length_push seen b))
    (found_here (accepts state (Some (class_of b))) k (length seen) found h) in
    record { f = r.f; is = r.is; least = omega (arith, r.least) }
accepted_found (b ∷ front) after seen state found k h =
    let r = accepted_found front after (seen ++ b ∷ []) (step seen state b) (later (accepts state (Some (class_of b))) (length seen) found) k h in
    record { f = r.f; is = r.is; least = omega (arith, r.least, length_push seen b) }

pub longest_front : (first : Bool) (bytes : List ℕ) (f : Found) → scan [] (begin first) None bytes ≡ Some f → Front [] (begin first) bytes f
longest_front first bytes f h = by_front (scan_front [] (begin first) None bytes f h)
  where
    by_front : Front [] (begin first) bytes f ⊎ (None ≡ Some f) → Front [] (begin first) bytes f
    by_front (inl r) = r
    by_front (inr e) = cc

-- the scan is exact
pub found_next : (first : Bool) (bytes : List ℕ) (f : Found) (r : Front [] (begin first) bytes f) → scan [] (begin first) None bytes ≡ Some f → IsNext first bytes f.kind r.front r.after
found_next first bytes f r h = record {
  whole = r.whole;
  stands = accepted_item first r.front r.after f.kind r.accepted;
  longest = λ other front after whole is.
      let least = accepted_found front after [] (begin first) None other (item_accepted first other front after is) in
      let same : least.f ≡ f = let e : Some least.f ≡ Some f = sym least.is ∙ ap (scan [] (begin first) None) (sym whole) ∙ h in cc in
      omega (arith, least.least, ap (λ (x : Found). x.size) same, r.size);
}

pub none_next : (first : Bool) (bytes : List ℕ) → scan [] (begin first) None bytes ≡ None → NoItem first bytes
none_next first bytes h kind front after whole is =
    let least = accepted_found front after [] (begin first) None kind (item_accepted first kind front after is) in
    let clash : None ≡ Some least.f = sym h ∙ ap (scan [] (begin first) None) whole ∙ least.is in cc

pub not_empty : (first : Bool) (bytes : List ℕ) (f : Found) → Front [] (begin first) bytes f → 0 < f.size
not_empty first bytes f r = at_front first r.front r.size r.accepted
  where
    at_front : (first : Bool) (front : List ℕ) → 0 + length front ≡ f.size → accepts (run [] (begin first) front) (next_class r.after) ≡ Some f.kind → 0 < f.size
    at_front true [] size h = cc
    at_front false [] size h = cc
    at_front first (b ∷ front) size h = omega (arith, size)

-- what is found, as parts of the bytes
pub record Cut (first : Bool) (bytes : List ℕ) (f : Found) : Type 0 where
  pub some : 0 < f.size
  pub within : f.size ≤ length bytes
  pub next : IsNext first bytes f.kind (take f.size bytes) (drop f.size bytes)

pub cut_at : (first : Bool) (bytes : List ℕ) (f : Found) → scan [] (begin first) None bytes ≡ Some f → Cut first bytes f
cut_at first bytes f h =
    let r = longest_front first bytes f h in
    let size : length r.front ≡ f.size = omega (arith, r.size) in
    let front : r.front ≡ take f.size bytes = sym (take_at r.front r.after f.size size) ∙ ap (take f.size) (sym r.whole) in
    let after : r.after ≡ drop f.size bytes = sym (drop_at r.front r.after f.size size) ∙ ap (drop f.size) (sym r.whole) in
    record {
      some = not_empty first bytes f r;
      within = omega (arith, ap length r.whole, length-append r.front r.after, size);
      next = subst (λ x. IsNext first bytes f.kind x (drop f.size bytes)) front (subst (IsNext first bytes f.kind r.front) after (found_next first bytes f r h));
    }
