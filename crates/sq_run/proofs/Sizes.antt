-- How many names a text can have.
use Rattle.std.proofs.Common.{◌≡◌, ◌≢◌, ◌≤◌, ℕ, zero, suc, ◌+◌, ◌-◌, Bool, true, false, cond, List, [], ◌∷◌, length, take, drop, Option, None, Some, Result, Ok, Err, refl, sym, ap, subst, inl, inr, arith}
use Rattle.std.specs.Prelude.{codes}
use Rattle.std.specs.Option.{option_map}
use Rattle.std.specs.Str.{is_utf8}
use Rattle.std.proofs.lemmas.Bool.{cases_Bool}
use Rattle.std.proofs.lemmas.List.{length-take, length-drop}
use Rattle.std.proofs.lemmas.Option.{same_Some}
use Rattle.sq_base.specs.declared.place.Place.{Place}
use Rattle.sq_base.specs.declared.refusal.Refusal.{Refusal}
use Rattle.sq_syntax.specs.Tokens.{begins_line, has_mark, text_of, text_start, text_gap}
use Rattle.sq_syntax.specs.declared.item.Stop.{Stop}
use Rattle.sq_syntax.specs.declared.token.Gap.{Gap}
use Rattle.sq_syntax.specs.declared.token.Token.{Token}
use Rattle.sq_syntax.specs.declared.token.TokenKind.{TokenKind}
use Rattle.sq_syntax.specs.declared.token.TokenKind.TheVariants.{Word, Punct}
use Rattle.sq_lexer.specs.Machine.{scan, begin}
use Rattle.sq_lexer.specs.TokenList.{Reader, begun, read_past, read_unless, read_found, read_within, token_list}
use Rattle.sq_run.specs.declared.statements.Named.{Named}
use Rattle.sq_run.specs.declared.statements.Select.{Select}
use Rattle.sq_run.specs.Statements.{Part, is, named, after, name_at, next, with_item, items_from, items_at, ended, is_single, one_statement, select}
use Rattle.sq_run.specs.Names.{name_text}
use Rattle.sq_run.proofs.OkSteps.{bind_some}

ok_same : {A : Type 0} (x y : A) → ◌≡◌ {A = Result A Refusal} (Ok x) (Ok y) → x ≡ y
ok_same x y is = cc is

begun_size : (t : Token) (list : Result (List Token) Refusal) (n : ℕ) → ((ts : List Token) → list ≡ Ok ts → length ts ≤ n) → (ts : List Token) → begun t list ≡ Ok ts → length ts ≤ n + 1
begun_size t (Ok us) n all ts is = let same : t ∷ us ≡ ts = ok_same _ _ is in omega (arith, all us refl, ap length same)
begun_size t (Err refusal) n all ts is = absurd (cc is)

within_size : (n : ℕ) (gap : Gap) (place : Place) (bytes : List ℕ) (ts : List Token) → read_within n gap place bytes ≡ Ok ts → length ts ≤ n
unfolding read_within
within_size zero gap place bytes ts is = rw (sym (ok_same _ _ is)) (omega arith)
within_size (suc n) gap place [] ts is = rw (sym (ok_same _ _ is)) (omega arith)
within_size (suc n) gap place (b ∷ bytes) ts is = by_found (λ h later us vs. within_size n h later us vs) (scan [] (begin (begins_line place)) None (b ∷ bytes)) is
  where
    reader : Reader
    reader h later rest = read_within n h later rest

    by_kind : (kind : Option TokenKind) (item rest : List ℕ) → ((h : Gap) (later : Place) (us : List ℕ) (vs : List Token) → read_within n h later us ≡ Ok vs → length vs ≤ n) → read_past reader kind gap place item rest ≡ Ok ts → length ts ≤ suc n
    by_kind None item rest all is = omega (arith, all _ _ rest ts is)
    by_kind (Some of) item rest all is = omega (arith, begun_size _ _ n (λ us. all _ _ rest us) ts is)

    by_stop : (stop : Option Stop) (others : Result (List Token) Refusal) → (others ≡ Ok ts → length ts ≤ suc n) → read_unless stop place others ≡ Ok ts → length ts ≤ suc n
    by_stop None others all is = all is
    by_stop (Some stop) others all is = absurd (cc is)

    by_found : ((h : Gap) (later : Place) (us : List ℕ) (vs : List Token) → read_within n h later us ≡ Ok vs → length vs ≤ n) → (found : Option _) → read_found reader found gap place (b ∷ bytes) ≡ Ok ts → length ts ≤ suc n
    by_found all None is = absurd (cc is)
    by_found all (Some found) is = by_stop _ _ (by_kind _ _ _ all) is

text_size : (bytes : List ℕ) → length (text_of bytes) ≤ length bytes
text_size bytes = elim (cases_Bool (has_mark bytes)) [
  | inl is ↦ rw is (omega (arith, length-drop 3 bytes))
  | inr not ↦ rw not (omega arith)
]

-- a file has no more tokens than bytes
pub list_size : (file : ℕ) (bytes : List ℕ) (ts : List Token) → token_list file bytes ≡ Ok ts → length ts ≤ length bytes
unfolding token_list
list_size file bytes ts is = elim (cases_Bool (is_utf8 bytes)) [
  | inl good ↦ omega (arith, within_size (length (text_of bytes)) (text_gap bytes) (text_start file bytes) (text_of bytes) ts (rw good at is), text_size bytes)
  | inr bad ↦ absurd (cc (rw bad at is))
]

after_size : (kind : TokenKind) (text : List ℕ) (ts rest : List Token) → after kind text ts ≡ Some rest → length rest ≤ length ts
unfolding after
after_size kind text [] rest found = absurd (cc found)
after_size kind text (t ∷ ts) rest found = elim (cases_Bool (is kind text t)) [
  | inl same ↦ let is_rest : ts ≡ rest = same_Some _ _ (rw same at found) in omega (arith, ap length is_rest)
  | inr other ↦ absurd (cc (rw other at found))
]

name_size : (ts : List Token) (r : Named × List Token) → name_at ts ≡ Some r → length r.1 ≤ length ts
unfolding name_at
name_size [] r found = absurd (cc found)
name_size (t ∷ ts) r found = by_name (name_text t.kind t.bytes) found
  where
    by_name : (name : Option (List ℕ)) → option_map (λ n. (named t n, ts)) name ≡ Some r → length r.1 ≤ suc (length ts)
    by_name None is = absurd (cc is)
    by_name (Some n) is = omega (arith, ap (λ (x : Named × List Token). length x.1) (same_Some _ _ is))

-- items are no more than may be
items_size : {A : Type 0} (item : List Token → Part A) (kind : TokenKind) (close : List ℕ) (n : ℕ) (ts : List Token) (r : List A × List Token) → items_from item kind close n ts ≡ Some r → (length r.0 ≤ n) × (r.0 ≢ [])
items_size item kind close zero ts r found = absurd (cc found)
items_size {A} item kind close (suc n) ts r found =
    let first = bind_some (item ts) _ r found in
    let more = bind_some (next kind close first.0.1) _ r first.2 in
    by_more (λ us l. items_size item kind close n us l) first.0.0 more.0.0 more.0.1 more.2
  where
    by_later : (x : A) (later : Part (List A)) → ((l : List A × List Token) → later ≡ Some l → (length l.0 ≤ n) × (l.0 ≢ [])) → with_item x later ≡ Some r → (length r.0 ≤ suc n) × (r.0 ≢ [])
    by_later x None all same = absurd (cc same)
    by_later x (Some l) all same =
        let size = (all l refl).0 in
        subst (λ (y : List A × List Token). (length y.0 ≤ suc n) × (y.0 ≢ [])) (same_Some _ _ same) (omega (arith, size), λ none. cc none)

    by_more : ((us : List Token) (l : List A × List Token) → items_from item kind close n us ≡ Some l → (length l.0 ≤ n) × (l.0 ≢ [])) → (x : A) (m : Bool) (us : List Token)
        → cond m (with_item x (items_from item kind close n us)) (Some (x ∷ [], us)) ≡ Some r → (length r.0 ≤ suc n) × (r.0 ≢ [])
    by_more all x true us same = by_later x (items_from item kind close n us) (λ l. all us l) same
    by_more all x false us same = subst (λ (y : List A × List Token). (length y.0 ≤ suc n) × (y.0 ≢ [])) (same_Some _ _ same) (omega arith, λ none. cc none)

-- a query has a name or more, and no more of them than its statement tokens
pub query_size : (ts : List Token) (query : Select) → select ts ≡ Some query → (length query.outputs ≤ length ts) × (query.outputs ≢ [])
unfolding select
query_size ts query found =
    let a = bind_some (after Word (codes "select") ts) _ query found in
    let items = bind_some (items_at name_at Word (codes "from") a.0) _ query a.2 in
    let table = bind_some (name_at items.0.1) _ query items.2 in
    let end = bind_some (ended table.0.1) _ query table.2 in
    let size = items_size name_at Word (codes "from") (length a.0) a.0 items.0 items.1 in
    let same : items.0.0 ≡ query.outputs = ap (λ (s : Select). s.outputs) (same_Some _ _ end.2) in
    (omega (arith, after_size Word (codes "select") ts a.0 a.1, size.0, ap length same), subst (λ (os : List Named). os ≢ []) same size.1)

-- a statement has no more tokens than its file
pub statement_size : (ts statement : List Token) → one_statement ts ≡ Some statement → (length statement ≤ length ts) × (statement ≡ take (length ts - 1) ts)
unfolding one_statement
statement_size ts statement found =
    let end = bind_some (after Punct (codes ";") (drop (length ts - 1) ts)) _ statement found in
    let is : take (length ts - 1) ts ≡ statement = by_test (is_single (take (length ts - 1) ts)) end.2 in
    (omega (arith, ap length is, length-take (length ts - 1) ts), sym is)
  where
    by_test : (test : Bool) → cond test (Some (take (length ts - 1) ts)) None ≡ Some statement → take (length ts - 1) ts ≡ statement
    by_test true same = same_Some _ _ same
    by_test false same = absurd (cc same)
