-- The elements and tails of tables that are read are spelled by the tokens.
use Rattle.std.proofs.Common.{◌≡◌, ℕ, zero, suc, Bool, true, false, List, [], ◌∷◌, ◌++◌, Some, refl, sym, ap, subst, ◌∙◌, append_assoc, length, inl, inr}
use Rattle.std.specs.Prelude.{flat_map, codes, bytes_eq, ◌||◌, ◌&&◌, not}
use Rattle.std.proofs.lemmas.Slice.Eq.{bytes_eq-Decides}
use Rattle.sq_syntax.specs.declared.symbol.Symbol.TheVariants as s
use Rattle.sq_syntax.specs.declared.symbol.Reading.{Reading}
use Rattle.sq_syntax.specs.declared.symbol.Reading.TheVariants as reading
use Rattle.sq_syntax.specs.declared.symbol.Lexeme.{Lexeme}
use Rattle.sq_syntax.specs.declared.ddl.TableConstraintForm.{TableConstraintForm}
use Rattle.sq_syntax.specs.declared.ddl.TableConstraintForm.TheVariants as table_constraint_kind
use Rattle.sq_syntax.specs.declared.ddl.Tail.{Tail}
use Rattle.sq_syntax.specs.declared.ddl.Tail.TheVariants as tail_kind
use Rattle.sq_syntax.specs.Facts.{Stream, Says, Along, Piece, marks_of}
use Rattle.sq_syntax.specs.Pieces as p
use Rattle.sq_syntax.specs.Pieces.{sym as word}
use Rattle.sq_syntax.specs.Runs.{run_fits}
use Rattle.sq_syntax.specs.Statements.{word as key_word}
use Rattle.sq_syntax.specs.Schemas as z
use Rattle.sq_syntax.specs.Schemas.{is_comma, ends_partition, is_partition, partitions_apart}
use Rattle.sq_grammar.specs.Reading.{◌>>=◌, pure, sees, expect, many, many_from}
use Rattle.sq_grammar.specs.Ahead.{Lexemes}
use Rattle.sq_grammar.specs.Names.{name}
use Rattle.sq_grammar.specs.Statements.{is_word, begins_word, sees_word, expect_word}
use Rattle.sq_grammar.specs.Schemas.{closes, within, run, some_run, begins_exclusion, begins_table_constraint, primary_key, with_run, exclusion, table_constraint_form, table_constraint, element, partition, with_options, tablespace, tail, begins_tail}
use Rattle.sq_grammar.proofs.Runs.{both}
use Rattle.sq_grammar.proofs.Begins.{part_of, none_some}
use Rattle.sq_grammar.proofs.Joints.{false_true}
use Rattle.sq_grammar.proofs.Takes.{Took, Spells, ◌then◌, expected, behind, chosen, kept, given, needed}
use Rattle.sq_grammar.proofs.TakeLists.{items_took}
use Rattle.sq_grammar.proofs.TakeNames.{name_took}
use Rattle.sq_grammar.proofs.TakeAffixes.{needed_by}
use Rattle.sq_grammar.proofs.TakeAliases.{in_brackets_took}
use Rattle.sq_grammar.proofs.KeyWords.{word_says_of, word_expected}
use Rattle.sq_grammar.proofs.TakeRuns.{ends_at, run_took, some_run_took, some_run_ends, within_took}
use Rattle.sq_grammar.proofs.TakeSchemas.{constraint_name_took, column_took}

-- ---- tails

tail_took : Spells z.tail tail
unfolding tail
tail_took now next x h = elim (chosen {b = sees s.With now} h) [
  | inl (b, k) ↦
      let one = behind k in
      let two = behind one.second in
      given z.tail two.second (expected one.first then within_took one.mid two.mid two.value two.first)
  | inr (b, k) ↦ elim (chosen {b = sees_word (codes "partition") now} k) [
    | inl (c, l) ↦
        let one = behind l in
        let two = behind one.second in
        let three = behind two.second in
        given z.tail three.second (word_expected one.first then expected two.first then some_run_took ends_partition two.mid three.mid three.value three.first)
    | inr (c, l) ↦
        let one = behind l in
        let two = behind one.second in
        given z.tail two.second (word_expected one.first then name_took one.mid two.mid two.value two.first)
  ]
]

-- ---- one partition does not stand directly behind another

not_partition : (letters : List ℕ) (b : Bool) → bytes_eq letters (codes "partition") ≡ b → ends_partition (reading.Word letters) || closes (reading.Word letters) ≡ true → b ≡ false
not_partition letters false e h = refl
not_partition letters true e h =
    absurd (false_true (sym (ap (λ w. ends_partition (reading.Word w) || closes (reading.Word w)) ((bytes_eq-Decides letters (codes "partition")).0 e)) ∙ h))

reading_ends : (r : Reading) → ends_partition r || closes r ≡ true → is_word (codes "partition") r ≡ false
reading_ends (reading.Word letters) h = not_partition letters (bytes_eq letters (codes "partition")) refl h
reading_ends _ h = refl

tokens_end : (tokens : Lexemes) → ends_at ends_partition tokens ≡ true → begins_word (codes "partition") tokens ≡ false
tokens_end [] h = refl
tokens_end (x ∷ rest) h = reading_ends x.reading h

-- what stands behind a partition is no partition
abbrev Behind : Tail → Stream → Type 0
Behind x u = is_partition x ≡ true → begins_word (codes "partition") u.tokens ≡ false

with_behind : (now next : Stream) (x : Tail) → with_options now ≡ Some (x, next) → is_partition x ≡ false
with_behind now next x h =
    let one = part_of (expect s.With now) _ (x, next) h in
    let two = part_of (within one.next) (λ tokens. pure (tail_kind.With tokens)) (x, next) one.more in
    let made : is_partition (tail_kind.With two.value) ≡ false = refl in
    kept (λ y u. is_partition y ≡ false) two.more made

space_behind : (now next : Stream) (x : Tail) → tablespace now ≡ Some (x, next) → is_partition x ≡ false
space_behind now next x h =
    let one = part_of (expect_word (codes "tablespace") now) _ (x, next) h in
    let two = part_of (name one.next) (λ y. pure (tail_kind.Tablespace y)) (x, next) one.more in
    let made : is_partition (tail_kind.Tablespace two.value) ≡ false = refl in
    kept (λ y u. is_partition y ≡ false) two.more made

partition_behind : (now next : Stream) (x : Tail) → partition now ≡ Some (x, next) → Behind x next
partition_behind now next x h =
    let one = part_of (expect_word (codes "partition") now) _ (x, next) h in
    let two = part_of (expect s.By one.next) _ (x, next) one.more in
    let three = part_of (some_run ends_partition two.next) (λ tokens. pure (tail_kind.PartitionBy tokens)) (x, next) two.more in
    let made : Behind (tail_kind.PartitionBy three.value) three.next = λ e. tokens_end three.next.tokens (some_run_ends ends_partition two.next three.next three.value three.is) in
    kept Behind three.more made

is_not : {A : Type 0} (b : Bool) → b ≡ false → b ≡ true → A
is_not b h e = absurd (false_true (sym h ∙ e))

tail_behind : (now next : Stream) (x : Tail) → tail now ≡ Some (x, next) → Behind x next
unfolding tail
tail_behind now next x h = elim (chosen {b = sees s.With now} h) [
  | inl (b, k) ↦ λ e. is_not (is_partition x) (with_behind now next x k) e
  | inr (b, k) ↦ elim (chosen {b = sees_word (codes "partition") now} k) [
    | inl (c, l) ↦ partition_behind now next x l
    | inr (c, l) ↦ λ e. is_not (is_partition x) (space_behind now next x l) e
  ]
]

tail_unless : (now next : Stream) (x : Tail) → tail now ≡ Some (x, next) → begins_word (codes "partition") now.tokens ≡ false → is_partition x ≡ false
unfolding tail
tail_unless now next x h unseen = elim (chosen {b = sees s.With now} h) [
  | inl (b, k) ↦ with_behind now next x k
  | inr (b, k) ↦ elim (chosen {b = sees_word (codes "partition") now} k) [
    | inl (c, l) ↦ absurd (false_true (sym unseen ∙ c))
    | inr (c, l) ↦ space_behind now next x l
  ]
]

abbrev first_apart : List Tail → Bool
first_apart [] = true
first_apart (x ∷ tails) = not (is_partition x)

-- tails whose partitions stand apart, also from what stands before them
record Apart (xs : List Tail) (now : Stream) : Type 0 where
  whole : partitions_apart xs ≡ true
  first : begins_word (codes "partition") now.tokens ≡ false → first_apart xs ≡ true

not_false : (b : Bool) → b ≡ false → not b ≡ true
not_false false h = refl
not_false true h = absurd (cc)

apart_more : (x : Tail) (xs : List Tail) (u : Stream) → Behind x u → Apart xs u → partitions_apart (x ∷ xs) ≡ true
apart_more x [] u h a = refl
apart_more x (y ∷ ys) u h a = by_first (is_partition x) refl
  where
    by_first : (b : Bool) → is_partition x ≡ b → not (b && is_partition y) && partitions_apart (y ∷ ys) ≡ true
    by_first false e = a.whole
    by_first true e = rw (a.first (h e), a.whole) refl

tails_apart : (n : ℕ) (now next : Stream) (xs : List Tail) → many_from (λ u. begins_tail u.tokens) tail n now ≡ Some (xs, next) → Apart xs now
unfolding many_from
tails_apart zero now next xs h = let made : Apart [] now = record { whole = refl; first = λ e. refl } in kept (λ ys u. Apart ys now) h made
tails_apart (suc n) now next xs h = elim (chosen {b = begins_tail now.tokens} h) [
  | inl (b, e) ↦
      let one = part_of (tail now) (λ x. many_from (λ u. begins_tail u.tokens) tail n >>= (λ ys. pure (x ∷ ys))) (xs, next) e in
      let two = part_of (many_from (λ u. begins_tail u.tokens) tail n one.next) (λ ys. pure (one.value ∷ ys)) (xs, next) one.more in
      let others = tails_apart n one.next two.next two.value two.is in
      let made : Apart (one.value ∷ two.value) now = record {
        whole = apart_more one.value two.value one.next (tail_behind now one.next one.value one.is) others;
        first = λ unseen. not_false (is_partition one.value) (tail_unless now one.next one.value one.is unseen);
      } in
      kept (λ ys u. Apart ys now) two.more made
  | inr (b, e) ↦ let made : Apart [] now = record { whole = refl; first = λ g. refl } in kept (λ ys u. Apart ys now) e made
]

pub tails_took : Spells (λ xs. Piece.need (partitions_apart xs) ∷ flat_map z.tail xs) (many (λ u. begins_tail u.tokens) tail)
tails_took now next xs h = needed (tails_apart (length now.tokens) now next xs h).whole (items_took (λ u. begins_tail u.tokens) tail z.tail tail_took now next xs h)

-- ---- constraints of tables

optional_took : (now next : Stream) (xs : List Reading) → run is_comma now ≡ Some (xs, next) → Took (z.optional_run xs) now next
optional_took now next xs h = by_run xs (run_took is_comma now next xs h).holds (run_took is_comma now next xs h).took
  where
    by_run : (ys : List Reading) → run_fits is_comma ys ≡ true → Took (z.tokens ys) now next → Took (z.optional_run ys) now next
    by_run [] holds took = took
    by_run (y ∷ ys) holds took = needed refl (needed holds took)

primary_key_took : Spells z.table_constraint_form primary_key
primary_key_took now next x h =
    let one = behind h in
    let two = behind one.second in
    let three = behind two.second in
    let four = behind three.second in
    let names = (in_brackets_took two.mid three.mid three.value three.first).0 in
    let last = optional_took three.mid four.mid four.value four.first in
    let all = word_expected one.first then expected two.first then names then last in
    given z.table_constraint_form four.second (subst (λ ps. Took ps now four.mid) (append_assoc (key_word (codes "primary") ∷ word s.Key ∷ word s.Open ∷ p.some three.value ∷ p.names three.value) (word s.Close ∷ []) (z.optional_run four.value)) all)

-- a word and a run
with_run_took : (make : List Reading → TableConstraintForm) (front : List Piece) (start now next : Stream) (x : TableConstraintForm) → ((xs : List Reading) → z.table_constraint_form (make xs) ≡ front ++ z.one_run xs) → Took front start now
    → with_run make now ≡ Some (x, next) → Took (z.table_constraint_form x) start next
with_run_took make front start now next x same took h =
    let one = part_of (some_run is_comma now) (λ tokens. pure (make tokens)) (x, next) h in
    let all : Took (front ++ z.one_run one.value) start one.next = took then some_run_took is_comma now one.next one.value one.is in
    given z.table_constraint_form one.more (subst (λ ps. Took ps start one.next) (sym (same one.value)) all)

-- behind the word EXCLUDE a run begins with USING or a bracket
second_opens : (tokens : Lexemes) (u : Stream) (r : Reading) (v : Stream) → (x : Lexeme) → tokens ≡ x ∷ u.tokens → Says r u v → begins_exclusion tokens ≡ true → z.opens_exclusion r ≡ true
second_opens tokens u r v x e says h = (both (z.is (codes "exclude") x.reading) (z.opens_exclusion r) (sym (ap begins_exclusion (e ∙ ap (λ rest. x ∷ rest) says.first)) ∙ h)).1

exclude_took : Spells z.table_constraint_form exclusion
exclude_took now next x h = elim (chosen {b = begins_exclusion now.tokens} h) [
  | inl (b, k) ↦
      let one = part_of (expect_word (codes "exclude") now) (λ _. with_run table_constraint_kind.Exclude) (x, next) k in
      let two = part_of (some_run is_comma one.next) (λ tokens. pure (table_constraint_kind.Exclude tokens)) (x, next) one.more in
      let took = some_run_took is_comma one.next two.next two.value two.is in
      let front = word_expected one.is in
      let held : Took (Piece.need (z.begins_exclusion two.value) ∷ z.one_run two.value) one.next two.next =
      needed_by (λ l ok along. run_begins two.value now one.next two.next (word_says_of (codes "exclude") now one.next one.value one.is) b (both (not (p.is_empty two.value)) _ ok).0 along) took in
      given z.table_constraint_form two.more (front then held)
  | inr (b, k) ↦ absurd (none_some k)
]
  where
    run_begins : (xs : List Reading) (start u v : Stream) → Says (reading.Word (codes "exclude")) start u → begins_exclusion start.tokens ≡ true → not (p.is_empty xs) ≡ true → Along (marks_of (z.tokens xs)) u v → z.begins_exclusion xs ≡ true
    run_begins [] start u v says seen some along = absurd (cc)
    run_begins (r ∷ xs) start u v says seen some along = second_opens start.tokens u r along.0 (record { reading = reading.Word (codes "exclude"); place = says.place }) says.first along.1 seen

table_form_took : Spells z.table_constraint_form table_constraint_form
unfolding table_constraint_form
table_form_took now next x h = elim (chosen {b = sees_word (codes "primary") now} h) [
  | inl (b, k) ↦ primary_key_took now next x k
  | inr (b, k) ↦ elim (chosen {b = sees_word (codes "unique") now} k) [
    | inl (b, k) ↦ let one = part_of (expect_word (codes "unique") now) _ (x, next) k in with_run_took table_constraint_kind.Unique (key_word (codes "unique") ∷ []) now one.next next x (λ xs. refl) (word_expected one.is) one.more
    | inr (b, k) ↦ elim (chosen {b = sees_word (codes "check") now} k) [
      | inl (b, k) ↦ let one = part_of (expect_word (codes "check") now) _ (x, next) k in with_run_took table_constraint_kind.Check (key_word (codes "check") ∷ []) now one.next next x (λ xs. refl) (word_expected one.is) one.more
      | inr (b, k) ↦ elim (chosen {b = sees_word (codes "foreign") now} k) [
        | inl (b, k) ↦
            let one = part_of (expect_word (codes "foreign") now) _ (x, next) k in
            let two = part_of (expect s.Key one.next) _ (x, next) one.more in
            with_run_took table_constraint_kind.ForeignKey (key_word (codes "foreign") ∷ word s.Key ∷ []) now two.next next x (λ xs. refl) (word_expected one.is then expected two.is) two.more
        | inr (b, k) ↦ exclude_took now next x k
      ]
    ]
  ]
]

pub table_constraint_took : Spells z.constraint_of_table table_constraint
unfolding table_constraint
table_constraint_took now next x h =
    let one = behind h in
    let two = behind one.second in
    given z.constraint_of_table two.second (constraint_name_took now one.mid one.value one.first then table_form_took one.mid two.mid two.value two.first)

pub element_took : Spells z.element element
unfolding element
element_took now next x h = elim (chosen {b = begins_table_constraint now.tokens} h) [
  | inl (b, k) ↦ let one = behind k in given z.element one.second (table_constraint_took now one.mid one.value one.first)
  | inr (b, k) ↦ let one = behind k in given z.element one.second (column_took now one.mid one.value one.first)
]
