-- The tokens of a query are words, quoted names and commas, and the first is SELECT, so that its printed text has them again.
use Rattle.std.proofs.Common.{rules, ◌≡◌, ℕ, zero, suc, Bool, true, false, cond, List, [], ◌∷◌, ◌++◌, length, Option, None, Some, refl, sym, ◌∙◌, ap, subst, inl, inr, nat_eq, ◌==◌}
use Rattle.std.specs.Prelude.{codes}
use Rattle.std.specs.Option.{option_map}
use Rattle.std.specs.Char.{to_ascii_lowercase}
use Rattle.std.proofs.lemmas.Bool.{cases_Bool, eqb-true}
use Rattle.std.proofs.lemmas.Option.{same_Some}
use denote.Enum.Bare.{same_true}
use Rattle.sq_syntax.specs.contracts.TokenKind.{the_type}
use Rattle.sq_syntax.specs.declared.token.Token.{Token}
use Rattle.sq_syntax.specs.declared.token.TokenKind.{TokenKind}
use Rattle.sq_syntax.specs.declared.token.TokenKind.TheVariants.{Word, Quoted, Text, EText, Dollar, Number, Parameter, Named as NamedParameter, Operator, Punct, Note}
use Rattle.sq_syntax.specs.Tokens.{has_mark}
use Rattle.sq_lexer.specs.Printed.{printed, spaced, is_simple, is_simple_as, AreSimple}
use Rattle.sq_run.specs.declared.statements.Named.{Named}
use Rattle.sq_run.specs.declared.statements.Select.{Select}
use Rattle.sq_run.specs.Names.{same_word, name_text}
use Rattle.sq_run.specs.Statements.{Part, same_kind, is, named, after, name_at, next, with_item, items_from, items_at, ended, select}
use Rattle.sq_run.proofs.Models.{both}
use Rattle.sq_run.proofs.OkSteps.{bind_some}

kind_is : (a b : TokenKind) → same_kind a b ≡ true → a ≡ b
unfolding same_kind
kind_is a b same = same_true the_type (search rules) a b same

-- the token that was passed
record Passed (kind : TokenKind) (text : List ℕ) (ts rest : List Token) : Type 0 where
  token : Token
  front : ts ≡ token ∷ rest
  of : token.kind ≡ kind
  spelt : same_word token.bytes text ≡ true

passed : (kind : TokenKind) (text : List ℕ) (ts rest : List Token) → after kind text ts ≡ Some rest → Passed kind text ts rest
unfolding after
passed kind text [] rest found = absurd (cc found)
passed kind text (t ∷ ts) rest found = elim (cases_Bool (is kind text t)) [
  | inl here ↦ let parts = both _ _ here in record { token = t; front = ap (λ (us : List Token). t ∷ us) (same_Some _ _ (rw here at found)); of = kind_is t.kind kind parts.0; spelt = parts.1 }
  | inr other ↦ absurd (cc (rw other at found))
]

simple_after : (t : Token) (rest : List Token) → is_simple t ≡ true → AreSimple rest → AreSimple (t ∷ rest)
simple_after t rest one more = rw one more

word_simple : (text : List ℕ) (ts rest : List Token) → after Word text ts ≡ Some rest → AreSimple rest → AreSimple ts
word_simple text ts rest found more =
    let p = passed Word text ts rest found in
    subst AreSimple (sym p.front) (simple_after p.token rest (ap (λ (kind : TokenKind). is_simple_as kind p.token.bytes) p.of) more)

one_byte : (bytes : List ℕ) → same_word bytes (codes ",") ≡ true → (length bytes == 1) ≡ true
unfolding same_word
one_byte [] same = absurd (cc same)
one_byte (b ∷ []) same = refl
one_byte (b ∷ c ∷ bytes) same = let parts = both (nat_eq (to_ascii_lowercase b) 44) false same in absurd (cc parts.1)

comma_simple : (ts rest : List Token) → after Punct (codes ",") ts ≡ Some rest → AreSimple rest → AreSimple ts
comma_simple ts rest found more =
    let p = passed Punct (codes ",") ts rest found in
    subst AreSimple (sym p.front) (simple_after p.token rest (ap (λ (kind : TokenKind). is_simple_as kind p.token.bytes) p.of ∙ one_byte p.token.bytes p.spelt) more)

-- a token with a name
named_simple : (kind : TokenKind) (bytes name : List ℕ) → name_text kind bytes ≡ Some name → is_simple_as kind bytes ≡ true
unfolding name_text
named_simple Word bytes name is = refl
named_simple Quoted bytes name is = refl
named_simple Text bytes name is = absurd (cc is)
named_simple EText bytes name is = absurd (cc is)
named_simple Dollar bytes name is = absurd (cc is)
named_simple Number bytes name is = absurd (cc is)
named_simple Parameter bytes name is = absurd (cc is)
named_simple NamedParameter bytes name is = absurd (cc is)
named_simple Operator bytes name is = absurd (cc is)
named_simple Punct bytes name is = absurd (cc is)
named_simple Note bytes name is = absurd (cc is)

name_simple : (ts : List Token) (r : Named × List Token) → name_at ts ≡ Some r → AreSimple r.1 → AreSimple ts
unfolding name_at
name_simple [] r found more = absurd (cc found)
name_simple (t ∷ ts) r found more = by_name (name_text t.kind t.bytes) refl found
  where
    by_name : (name : Option (List ℕ)) → name_text t.kind t.bytes ≡ name → option_map (λ n. (named t n, ts)) name ≡ Some r → AreSimple (t ∷ ts)
    by_name None there is = absurd (cc is)
    by_name (Some n) there is =
        simple_after t ts (named_simple t.kind t.bytes n there) (subst (λ (x : Named × List Token). AreSimple x.1) (sym (same_Some _ _ is)) more)

next_simple : (text : List ℕ) (ts : List Token) (r : Bool × List Token) → next Word text ts ≡ Some r → AreSimple r.1 → AreSimple ts
unfolding next
next_simple text ts r found more = by_comma (after Punct (codes ",") ts) refl found
  where
    by_close : (close : Option (List Token)) → after Word text ts ≡ close → option_map (λ later. (false, later)) close ≡ Some r → AreSimple ts
    by_close None there is = absurd (cc is)
    by_close (Some later) there is = word_simple text ts later there (subst (λ (x : Bool × List Token). AreSimple x.1) (sym (same_Some _ _ is)) more)

    by_comma : (comma : Option (List Token)) → after Punct (codes ",") ts ≡ comma → elim comma [ Some later ↦ Some (true, later) | None ↦ option_map (λ later. (false, later)) (after Word text ts) ] ≡ Some r → AreSimple ts
    by_comma None there is = by_close (after Word text ts) refl is
    by_comma (Some later) there is = comma_simple ts later there (subst (λ (x : Bool × List Token). AreSimple x.1) (sym (same_Some _ _ is)) more)

items_simple : (text : List ℕ) (n : ℕ) (ts : List Token) (r : List Named × List Token) → items_from name_at Word text n ts ≡ Some r → AreSimple r.1 → AreSimple ts
items_simple text zero ts r found simple = absurd (cc found)
items_simple text (suc n) ts r found simple =
    let first = bind_some (name_at ts) _ r found in
    let more = bind_some (next Word text first.0.1) _ r first.2 in
    name_simple ts first.0 first.1 (next_simple text first.0.1 more.0 more.1 (by_more (λ us l. items_simple text n us l) first.0.0 more.0.0 more.0.1 more.2))
  where
    by_later : (x : Named) (us : List Token) (later : Part (List Named)) → ((l : List Named × List Token) → later ≡ Some l → AreSimple l.1 → AreSimple us) → with_item x later ≡ Some r → AreSimple us
    by_later x us None all same = absurd (cc same)
    by_later x us (Some l) all same = all l refl (subst (λ (y : List Named × List Token). AreSimple y.1) (sym (same_Some _ _ same)) simple)

    by_more : ((us : List Token) (l : List Named × List Token) → items_from name_at Word text n us ≡ Some l → AreSimple l.1 → AreSimple us) → (x : Named) (m : Bool) (us : List Token)
        → cond m (with_item x (items_from name_at Word text n us)) (Some (x ∷ [], us)) ≡ Some r → AreSimple us
    by_more all x true us same = by_later x us (items_from name_at Word text n us) (all us) same
    by_more all x false us same = subst (λ (y : List Named × List Token). AreSimple y.1) (sym (same_Some _ _ same)) simple

ended_simple : (ts : List Token) (u : Unit {0}) → ended ts ≡ Some u → AreSimple ts
unfolding ended
ended_simple [] u found = refl
ended_simple (t ∷ ts) u found = absurd (cc found)

pub query_simple : (ts : List Token) (query : Select) → select ts ≡ Some query → AreSimple ts
unfolding select
query_simple ts query found =
    let a = bind_some (after Word (codes "select") ts) _ query found in
    let items = bind_some (items_at name_at Word (codes "from") a.0) _ query a.2 in
    let table = bind_some (name_at items.0.1) _ query items.2 in
    let end = bind_some (ended table.0.1) _ query table.2 in
    word_simple (codes "select") ts a.0 a.1 (items_simple (codes "from") (length a.0) a.0 items.0 items.1 (name_simple items.0.1 table.0 table.1 (ended_simple table.0.1 end.0 end.1)))

-- a text that begins with SELECT has no byte order mark
word_first : (bytes more : List ℕ) → same_word bytes (codes "select") ≡ true → has_mark (bytes ++ more) ≡ false
unfolding same_word
word_first [] more same = absurd (cc same)
word_first (b ∷ bytes) more same = elim (cases_Bool (nat_eq 239 b)) [
  | inl is ↦ absurd (cc (subst (λ (x : ℕ). nat_eq (to_ascii_lowercase x) 115 ≡ true) (sym (eqb-true 239 b is)) (both _ _ same).0))
  | inr other ↦ rw other refl
]

pub query_unmarked : (ts : List Token) (query : Select) → select ts ≡ Some query → has_mark (printed ts) ≡ false
unfolding select
query_unmarked ts query found =
    let a = bind_some (after Word (codes "select") ts) _ query found in
    let p = passed Word (codes "select") ts a.0 a.1 in
    subst (λ (us : List Token). has_mark (printed us) ≡ false) (sym p.front) (word_first p.token.bytes (spaced a.0) p.spelt)
