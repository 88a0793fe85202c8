-- Bytes are read in one way at most.
use Rattle.std.proofs.Common.{◌≡◌, ◌≢◌, ℕ, Bool, true, false, List, [], ◌∷◌, ◌++◌, length, take, drop, Option, Some, None, refl, ap, ◌∙◌, sym, subst, arith}
use Rattle.std.proofs.lemmas.List.{take_at, drop_at}
use Rattle.sq_base.specs.declared.place.Place.{Place}
use Rattle.sq_syntax.specs.Classes.{next_class}
use Rattle.sq_syntax.specs.Items.{IsItem, IsNext, NoItem, fault_of, stop_at, token_kind}
use Rattle.sq_syntax.specs.Tokens.{Reads, Stopped, after, gap_after, begins_line}
use Rattle.sq_syntax.specs.Tokens.Reads.{ended, no_item, bad_item, between, token}
use Rattle.sq_syntax.specs.declared.item.ItemKind.{ItemKind}
use Rattle.sq_syntax.specs.declared.item.Stop.{Stop}
use Rattle.sq_syntax.specs.declared.token.TokenKind.{TokenKind}
use Rattle.sq_syntax.specs.declared.token.Token.{Token}
use Rattle.sq_syntax.specs.declared.token.Gap.{Gap}
use Rattle.sq_syntax.specs.declared.token.Gap.TheVariants as gap
use Rattle.sq_lexer.specs.Machine.{accepts, run, begin}
use Rattle.sq_lexer.proofs.Complete.{item_accepted}

-- at most one next item
pub record Same (k other : ItemKind) (item front rest after : List ℕ) : Type 0 where
  pub kinds : k ≡ other
  pub items : item ≡ front
  pub rests : rest ≡ after

pub one_next : (first : Bool) (bytes : List ℕ) (k other : ItemKind) (item front rest after : List ℕ) → IsNext first bytes k item rest → IsNext first bytes other front after → Same k other item front rest after
one_next first bytes k other item front rest after a b =
    let size : length item ≡ length front = omega (arith, a.longest other front after b.whole b.stands, b.longest k item rest a.whole a.stands) in
    let items : item ≡ front = sym (take_at item rest (length front) size) ∙ ap (take (length front)) (sym a.whole ∙ b.whole) ∙ take_at front after (length front) refl in
    let rests : rest ≡ after = sym (drop_at item rest (length front) size) ∙ ap (drop (length front)) (sym a.whole ∙ b.whole) ∙ drop_at front after (length front) refl in
    let kinds : Some k ≡ Some other =
    sym (item_accepted first k item rest a.stands) ∙ ap (λ x. accepts (run [] (begin first) x) (next_class rest)) items ∙ ap (λ x. accepts (run [] (begin first) front) (next_class x)) rests
    ∙ item_accepted first other front after b.stands in
    record { kinds = cc; items = items; rests = rests }

some_item : (first : Bool) (k : ItemKind) (item rest : List ℕ) → IsItem first k item rest → item ≢ []
some_item true k item rest is none =
    let clash : None ≡ Some k = ap (λ x. accepts (run [] (begin true) x) (next_class rest)) (sym none) ∙ item_accepted true k item rest is in cc
some_item false k item rest is none =
    let clash : None ≡ Some k = ap (λ x. accepts (run [] (begin false) x) (next_class rest)) (sym none) ∙ item_accepted false k item rest is in cc

not_at_end : (first : Bool) (bytes : List ℕ) (k : ItemKind) (item rest : List ℕ) → bytes ≡ [] → IsNext first bytes k item rest → ⊥
not_at_end first bytes k item rest none next = some_item first k item rest next.stands (no_front item rest (sym next.whole ∙ none))
  where
    no_front : (xs ys : List ℕ) → xs ++ ys ≡ [] → xs ≡ []
    no_front [] ys e = refl
    no_front (x ∷ xs) ys e = cc

-- what is read of bytes: nothing is left, no item begins, an item is refused, or an item is taken
pub data Step (g : Gap) (place : Place) (bytes : List ℕ) (tokens : List Token) (ending : Option Stopped) : Type 0 where
  at_end : bytes ≡ [] → tokens ≡ [] → ending ≡ None → Step g place bytes tokens ending
  at_none : bytes ≢ [] → NoItem (begins_line place) bytes → tokens ≡ [] → ending ≡ Some (record { stop = stop_at bytes; place = place }) → Step g place bytes tokens ending
  at_bad : (kind : ItemKind) (item rest : List ℕ) (stop : Stop) → IsNext (begins_line place) bytes kind item rest → fault_of kind item rest ≡ Some stop
      → tokens ≡ [] → ending ≡ Some (record { stop = stop; place = place }) → Step g place bytes tokens ending
  at_between : (kind : ItemKind) (item rest : List ℕ) → IsNext (begins_line place) bytes kind item rest → fault_of kind item rest ≡ None → token_kind kind item ≡ None
      → Reads (gap_after g item) (after place item) rest tokens ending → Step g place bytes tokens ending
  at_token : (kind : ItemKind) (item rest : List ℕ) (of : TokenKind) (others : List Token) → IsNext (begins_line place) bytes kind item rest → fault_of kind item rest ≡ None → token_kind kind item ≡ Some of
      → Reads gap.Nothing (after place item) rest others ending → tokens ≡ record { kind = of; bytes = item; place = place; gap = g } ∷ others → Step g place bytes tokens ending

step_of : (g : Gap) (place : Place) (bytes : List ℕ) (tokens : List Token) (ending : Option Stopped) → Reads g place bytes tokens ending → Step g place bytes tokens ending
step_of _ _ _ _ _ (ended g place) = at_end refl refl refl
step_of _ _ _ _ _ (no_item g place bytes some none) = at_none some none refl refl
step_of _ _ _ _ _ (bad_item g place bytes kind item rest stop next is) = at_bad kind item rest stop next is refl refl
step_of _ _ _ _ _ (between g place bytes kind item rest tokens ending next clear is reads) = at_between kind item rest next clear is reads
step_of _ _ _ _ _ (token g place bytes kind item rest of tokens ending next clear is reads) = at_token kind item rest of tokens next clear is reads refl

-- the same tokens and the same ending
pub record SameReading (tokens others : List Token) (ending other : Option Stopped) : Type 0 where
  pub same_tokens : tokens ≡ others
  pub same_ending : ending ≡ other

none_apart : (first : Bool) (bytes : List ℕ) (kind : ItemKind) (item rest : List ℕ) → NoItem first bytes → IsNext first bytes kind item rest → ⊥
none_apart first bytes kind item rest none next = none kind item rest next.whole next.stands

same_fault : (k other : ItemKind) (item front rest after : List ℕ) → Same k other item front rest after → fault_of k item rest ≡ fault_of other front after
same_fault k other item front rest after s =
    ap (λ x. fault_of x item rest) s.kinds ∙ ap (λ x. fault_of other x rest) s.items ∙ ap (fault_of other front) s.rests

same_token : (k other : ItemKind) (item front rest after : List ℕ) → Same k other item front rest after → token_kind k item ≡ token_kind other front
same_token k other item front rest after s = ap (λ x. token_kind x item) s.kinds ∙ ap (token_kind other) s.items

pub one_reading : (g : Gap) (place : Place) (bytes : List ℕ) (tokens others : List Token) (ending other : Option Stopped)
    → Reads g place bytes tokens ending → Reads g place bytes others other → SameReading tokens others ending other
one_reading _ _ _ _ others _ other (ended g place) b = by_step (step_of g place [] others other b)
  where
    by_step : Step g place [] others other → SameReading [] others None other
    by_step (at_end none empty ends) = record { same_tokens = sym empty; same_ending = sym ends }
    by_step (at_none some none empty ends) = absurd (some refl)
    by_step (at_bad kind item rest stop next is empty ends) = absurd (not_at_end (begins_line place) [] kind item rest refl next)
    by_step (at_between kind item rest next clear is reads) = absurd (not_at_end (begins_line place) [] kind item rest refl next)
    by_step (at_token kind item rest of more next clear is reads all) = absurd (not_at_end (begins_line place) [] kind item rest refl next)
one_reading _ _ _ _ others _ other (no_item g place bytes some none) b = by_step (step_of g place bytes others other b)
  where
    by_step : Step g place bytes others other → SameReading [] others (Some (record { stop = stop_at bytes; place = place })) other
    by_step (at_end empty no_tokens ends) = absurd (some empty)
    by_step (at_none also nothing empty ends) = record { same_tokens = sym empty; same_ending = sym ends }
    by_step (at_bad kind item rest stop next is empty ends) = absurd (none_apart (begins_line place) bytes kind item rest none next)
    by_step (at_between kind item rest next clear is reads) = absurd (none_apart (begins_line place) bytes kind item rest none next)
    by_step (at_token kind item rest of more next clear is reads all) = absurd (none_apart (begins_line place) bytes kind item rest none next)
one_reading _ _ _ _ others _ other (bad_item g place bytes k item rest stop next is) b = by_step (step_of g place bytes others other b)
  where
    by_step : Step g place bytes others other → SameReading [] others (Some (record { stop = stop; place = place })) other
    by_step (at_end empty no_tokens ends) = absurd (not_at_end (begins_line place) bytes k item rest empty next)
    by_step (at_none also nothing empty ends) = absurd (none_apart (begins_line place) bytes k item rest nothing next)
    by_step (at_bad kind front after why follows because empty ends) =
        let s = one_next (begins_line place) bytes k kind item front rest after next follows in
        let whys : Some stop ≡ Some why = sym is ∙ same_fault k kind item front rest after s ∙ because in
        let reason : stop ≡ why = cc in
        record { same_tokens = sym empty; same_ending = ap (λ x. Some (record { stop = x; place = place })) reason ∙ sym ends }
    by_step (at_between kind front after follows clear nothing reads) =
        let s = one_next (begins_line place) bytes k kind item front rest after next follows in
        let clash : Some stop ≡ None = sym is ∙ same_fault k kind item front rest after s ∙ clear in cc
    by_step (at_token kind front after of more follows clear some reads all) =
        let s = one_next (begins_line place) bytes k kind item front rest after next follows in
        let clash : Some stop ≡ None = sym is ∙ same_fault k kind item front rest after s ∙ clear in cc
one_reading _ _ _ _ others _ other (between g place bytes k item rest tokens ending next clear is reads) b =
    by_step (step_of g place bytes others other b) (λ c. one_reading (gap_after g item) (after place item) rest tokens others ending other reads c)
  where
    by_step : Step g place bytes others other → (Reads (gap_after g item) (after place item) rest others other → SameReading tokens others ending other) → SameReading tokens others ending other
    by_step (at_end empty no_tokens ends) more = absurd (not_at_end (begins_line place) bytes k item rest empty next)
    by_step (at_none also nothing empty ends) more = absurd (none_apart (begins_line place) bytes k item rest nothing next)
    by_step (at_bad kind front past why follows because empty ends) more =
        let s = one_next (begins_line place) bytes k kind item front rest past next follows in
        let clash : None ≡ Some why = sym clear ∙ same_fault k kind item front rest past s ∙ because in cc
    by_step (at_between kind front past follows fine nothing later) more =
        let s = one_next (begins_line place) bytes k kind item front rest past next follows in
        more (subst (λ x. Reads (gap_after g x) (after place x) rest others other) (sym s.items) (subst (λ x. Reads (gap_after g front) (after place front) x others other) (sym s.rests) later))
    by_step (at_token kind front past of rests follows fine some later all) more =
        let s = one_next (begins_line place) bytes k kind item front rest past next follows in
        let clash : None ≡ Some of = sym is ∙ same_token k kind item front rest past s ∙ some in cc
one_reading _ _ _ _ others _ other (token g place bytes k item rest of tokens ending next clear is reads) b =
    by_step (step_of g place bytes others other b) (λ ts c. one_reading gap.Nothing (after place item) rest tokens ts ending other reads c)
  where
    by_step : Step g place bytes others other → ((ts : List Token) → Reads gap.Nothing (after place item) rest ts other → SameReading tokens ts ending other)
        → SameReading (record { kind = of; bytes = item; place = place; gap = g } ∷ tokens) others ending other
    by_step (at_end empty no_tokens ends) more = absurd (not_at_end (begins_line place) bytes k item rest empty next)
    by_step (at_none also nothing empty ends) more = absurd (none_apart (begins_line place) bytes k item rest nothing next)
    by_step (at_bad kind front past why follows because empty ends) more =
        let s = one_next (begins_line place) bytes k kind item front rest past next follows in
        let clash : None ≡ Some why = sym clear ∙ same_fault k kind item front rest past s ∙ because in cc
    by_step (at_between kind front past follows fine nothing later) more =
        let s = one_next (begins_line place) bytes k kind item front rest past next follows in
        let clash : Some of ≡ None = sym is ∙ same_token k kind item front rest past s ∙ nothing in cc
    by_step (at_token kind front past also rests follows fine some later all) more =
        let s = one_next (begins_line place) bytes k kind item front rest past next follows in
        let kinds : Some of ≡ Some also = sym is ∙ same_token k kind item front rest past s ∙ some in
        let of_is : of ≡ also = cc in
        let r = more rests (subst (λ x. Reads gap.Nothing (after place x) rest rests other) (sym s.items) (subst (λ x. Reads gap.Nothing (after place front) x rests other) (sym s.rests) later)) in
        record {
          same_tokens = ap (λ x. record { kind = x; bytes = item; place = place; gap = g } ∷ tokens) of_is ∙ ap (λ x. record { kind = also; bytes = x; place = place; gap = g } ∷ tokens) s.items
              ∙ ap (λ x. record { kind = also; bytes = front; place = place; gap = g } ∷ x) r.same_tokens ∙ sym all;
          same_ending = r.same_ending;
        }

pub readings_agree : (g : Gap) (place : Place) (bytes : List ℕ) (tokens others : List Token) (ending other : Option Stopped)
    → Reads g place bytes tokens ending → Reads g place bytes others other → (tokens ≡ others) × (ending ≡ other)
readings_agree g place bytes tokens others ending other a b =
    let r = one_reading g place bytes tokens others ending other a b in (r.same_tokens, r.same_ending)
