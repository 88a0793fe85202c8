-- Elements of tables, and what stands behind them, are read as they are spelled.
use Rattle.std.proofs.Common.{◌≡◌, ℕ, zero, suc, ◌≤◌, Bool, true, false, List, [], ◌∷◌, ◌++◌, length, Option, Some, None, refl, sym, ap, ◌∙◌, arith, map}
use Rattle.std.specs.Prelude.{◌&&◌, ◌||◌, not, codes, flat_map}
use Rattle.sq_syntax.specs.declared.symbol.Symbol.TheVariants as s
use Rattle.sq_syntax.specs.declared.symbol.Reading.{Reading}
use Rattle.sq_syntax.specs.declared.symbol.Reading.TheVariants as reading
use Rattle.sq_syntax.specs.declared.symbol.Lexeme.{Lexeme}
use Rattle.sq_syntax.specs.declared.name.Identifier.{Identifier}
use Rattle.sq_syntax.specs.declared.ddl.Column.{Column}
use Rattle.sq_syntax.specs.declared.ddl.Element.{Element}
use Rattle.sq_syntax.specs.declared.ddl.Element.TheVariants as element_kind
use Rattle.sq_syntax.specs.declared.ddl.TableConstraint.{TableConstraint}
use Rattle.sq_syntax.specs.declared.ddl.TableConstraintForm.{TableConstraintForm}
use Rattle.sq_syntax.specs.declared.ddl.TableConstraintForm.TheVariants as table_constraint_kind
use Rattle.sq_syntax.specs.declared.ddl.Tail.{Tail}
use Rattle.sq_syntax.specs.declared.ddl.Tail.TheVariants as tail_kind
use Rattle.sq_syntax.specs.Facts.{Stream, Says}
use Rattle.sq_syntax.specs.Symbols.{identifier_reading, is_name}
use Rattle.sq_syntax.specs.Pieces as p
use Rattle.sq_syntax.specs.Pieces.{sym as word}
use Rattle.sq_syntax.specs.Schemas as z
use Rattle.sq_syntax.specs.Schemas.{is_comma, opens_exclusion, ends_partition, is_partition, partitions_apart, is as is_letters}
use Rattle.sq_grammar.specs.Reading.{choose, sees, pure, same, many, many_from}
use Rattle.sq_grammar.specs.Ahead.{Lexemes}
use Rattle.sq_grammar.specs.Statements.{sees_word, listed}
use Rattle.sq_grammar.specs.Schemas.{closes, run, some_run, starts_table_constraint, begins_exclusion, begins_table_constraint, primary_key, table_constraint_form, table_constraint, element, tail, begins_tail}
use Rattle.sq_grammar.proofs.Runs.{both, said, said_all, said_items}
use Rattle.sq_grammar.proofs.Complete.{says_expect}
use Rattle.sq_grammar.proofs.Joints.{false_true}
use Rattle.sq_grammar.proofs.Aliases.{neither}
use Rattle.sq_grammar.proofs.ReadTypes.{other_symbol, that_symbol, and_false}
use Rattle.sq_grammar.proofs.KeyWords.{says_word, that_word, word_begins, word_no_symbol}
use Rattle.sq_grammar.proofs.TakeRuns.{ends_at}
use Rattle.sq_grammar.proofs.Between.{Between, split, depth_of, run_between, on, if_so, if_not}
use Rattle.sq_grammar.proofs.Heads.{ends, no_symbol, name_no_letters, name_first, type_first, first_is_name}
use Rattle.sq_grammar.proofs.ReadAlone.{ended, name_alone, names_alone, Parted, listed_alone}
use Rattle.sq_grammar.proofs.ReadRuns.{run_alone, some_run_alone, within_alone}
use Rattle.sq_grammar.proofs.SchemaWords.{closing}
use Rattle.sq_grammar.proofs.ReadConstraints.{name_of_constraint, column_alone}

-- ---- constraints of tables

comma_end : (r : Reading) → closing r ≡ true → is_comma r || closes r ≡ true
comma_end (reading.Symbol s.Comma) h = refl
comma_end (reading.Symbol s.Close) h = refl
comma_end _ h = absurd (false_true h)

pub ends_run : (tokens : Lexemes) → ends closing tokens ≡ true → ends_at is_comma tokens ≡ true
ends_run [] h = refl
ends_run (x ∷ rest) h = comma_end x.reading h

-- a run up to a comma
pub run_behind : (xs : List Reading) (now next : Stream) → Between (z.one_run xs) now next → ends closing next.tokens ≡ true → some_run is_comma now ≡ Some (xs, next)
run_behind xs now next h e = some_run_alone is_comma xs now next h (ends_run next.tokens e)

optional_behind : (xs : List Reading) (now next : Stream) → Between (z.optional_run xs) now next → ends closing next.tokens ≡ true → run is_comma now ≡ Some (xs, next)
optional_behind [] now next h e = run_alone is_comma [] now next refl h (ends_run next.tokens e)
optional_behind (x ∷ xs) now next h e = run_alone is_comma (x ∷ xs) now next h.1.0 h.1.1 (ends_run next.tokens e)

key_alone : (xs : List Identifier) (run : List Reading) (now next : Stream) → Between (z.table_constraint_form (table_constraint_kind.PrimaryKey xs run)) now next → ends closing next.tokens ≡ true → primary_key now ≡ Some (table_constraint_kind.PrimaryKey xs run, next)
unfolding same
key_alone [] run now next h e = absurd (false_true h.2.2.2.0)
key_alone (x ∷ xs) run now next h e =
    let k = h.2 in
    let o = k.2 in
    let m = split (p.names (x ∷ xs)) (word s.Close ∷ z.optional_run run) o.0 next o.2.1 in
    let c = m.2 in
    on _ (says_word (codes "primary") now h.0 h.1) (
    on _ (says_expect s.Key h.0 k.0 k.1) (
    on _ (on _ (says_expect s.Open k.0 o.0 o.1) (on _ (names_alone x xs o.0 m.0 m.1 (other_symbol s.Comma s.Close m.0 c.0 c.1 refl)) (on _ (says_expect s.Close m.0 c.0 c.1) refl))) (
    on _ (optional_behind run c.0 next c.2 e) refl)))

-- the word EXCLUDE begins a constraint where USING or a bracket stands behind it
exclusion_seen : (run : List Reading) (now next : Stream) → Between (z.table_constraint_form (table_constraint_kind.Exclude run)) now next → begins_exclusion now.tokens ≡ true
exclusion_seen [] now next h = absurd (false_true h.2.0)
exclusion_seen (r ∷ run) now next h =
    let t = h.2.1.1.1 in
    ap begins_exclusion h.1.first ∙ ap (λ tokens. begins_exclusion (record { reading = reading.Word (codes "exclude"); place = h.1.place } ∷ tokens)) t.1.first ∙ h.2.0

table_form_alone : (x : TableConstraintForm) (now next : Stream) → Between (z.table_constraint_form x) now next → ends closing next.tokens ≡ true → table_constraint_form now ≡ Some (x, next)
unfolding table_constraint_form
table_form_alone (table_constraint_kind.PrimaryKey xs run) now next h e =
    if_so _ (that_word (codes "primary") now h.0 h.1) (
    key_alone xs run now next h e)
table_form_alone (table_constraint_kind.Unique run) now next h e =
    if_not _ (word_begins (codes "primary") (reading.Word (codes "unique")) now h.0 h.1) (if_so _ (that_word (codes "unique") now h.0 h.1) (
    on _ (says_word (codes "unique") now h.0 h.1) (on _ (run_behind run h.0 next h.2 e) refl)))
table_form_alone (table_constraint_kind.Check run) now next h e =
    if_not _ (word_begins (codes "primary") (reading.Word (codes "check")) now h.0 h.1) (if_not _ (word_begins (codes "unique") (reading.Word (codes "check")) now h.0 h.1) (if_so _ (that_word (codes "check") now h.0 h.1) (
    on _ (says_word (codes "check") now h.0 h.1) (on _ (run_behind run h.0 next h.2 e) refl))))
table_form_alone (table_constraint_kind.ForeignKey run) now next h e =
    if_not _ (word_begins (codes "primary") (reading.Word (codes "foreign")) now h.0 h.1) (if_not _ (word_begins (codes "unique") (reading.Word (codes "foreign")) now h.0 h.1) (if_not _ (word_begins (codes "check") (reading.Word (codes "foreign")) now h.0 h.1) (if_so _ (that_word (codes "foreign") now h.0 h.1) (
    on _ (says_word (codes "foreign") now h.0 h.1) (on _ (says_expect s.Key h.0 h.2.0 h.2.1) (on _ (run_behind run h.2.0 next h.2.2 e) refl))))))
table_form_alone (table_constraint_kind.Exclude run) now next h e =
    if_not _ (word_begins (codes "primary") (reading.Word (codes "exclude")) now h.0 h.1) (if_not _ (word_begins (codes "unique") (reading.Word (codes "exclude")) now h.0 h.1) (if_not _ (word_begins (codes "check") (reading.Word (codes "exclude")) now h.0 h.1) (if_not _ (word_begins (codes "foreign") (reading.Word (codes "exclude")) now h.0 h.1) (
    if_so _ (exclusion_seen run now next h) (on _ (says_word (codes "exclude") now h.0 h.1) (on _ (run_behind run h.0 next h.2.1 e) refl))))))

table_form_unnamed : (x : TableConstraintForm) (now next : Stream) → Between (z.table_constraint_form x) now next → sees_word (codes "constraint") now ≡ false
table_form_unnamed (table_constraint_kind.PrimaryKey xs run) now next h = word_begins (codes "constraint") (reading.Word (codes "primary")) now h.0 h.1
table_form_unnamed (table_constraint_kind.Unique run) now next h = word_begins (codes "constraint") (reading.Word (codes "unique")) now h.0 h.1
table_form_unnamed (table_constraint_kind.Check run) now next h = word_begins (codes "constraint") (reading.Word (codes "check")) now h.0 h.1
table_form_unnamed (table_constraint_kind.ForeignKey run) now next h = word_begins (codes "constraint") (reading.Word (codes "foreign")) now h.0 h.1
table_form_unnamed (table_constraint_kind.Exclude run) now next h = word_begins (codes "constraint") (reading.Word (codes "exclude")) now h.0 h.1

pub table_constraint_alone : (x : TableConstraint) (now next : Stream) → Between (z.constraint_of_table x) now next → ends closing next.tokens ≡ true → table_constraint now ≡ Some (x, next)
unfolding table_constraint
table_constraint_alone x now next h e =
    let m = split (z.constraint_name x.name) (z.table_constraint_form x.form) now next h in
    on _ (name_of_constraint x.name now m.0 m.1 (table_form_unnamed x.form m.0 next m.2)) (on _ (table_form_alone x.form m.0 next m.2 e) refl)

-- ---- elements

table_form_begins : (x : TableConstraintForm) (now next : Stream) → Between (z.table_constraint_form x) now next → begins_table_constraint now.tokens ≡ true
table_form_begins (table_constraint_kind.PrimaryKey xs run) now next h = ap begins_table_constraint h.1.first
table_form_begins (table_constraint_kind.Unique run) now next h = ap begins_table_constraint h.1.first
table_form_begins (table_constraint_kind.Check run) now next h = ap begins_table_constraint h.1.first
table_form_begins (table_constraint_kind.ForeignKey run) now next h = ap begins_table_constraint h.1.first
table_form_begins (table_constraint_kind.Exclude run) now next h = ap begins_table_constraint h.1.first ∙ sym (ap begins_exclusion h.1.first) ∙ exclusion_seen run now next h

pub table_constraint_begins : (x : TableConstraint) (now next : Stream) → Between (z.constraint_of_table x) now next → begins_table_constraint now.tokens ≡ true
table_constraint_begins x now next h = by_name x.name h
  where
    by_name : (name : Option Identifier) → Between (z.constraint_name name ++ z.table_constraint_form x.form) now next → begins_table_constraint now.tokens ≡ true
    by_name None k = table_form_begins x.form now next k
    by_name (Some y) k = ap begins_table_constraint k.1.first

-- ---- columns are no constraints

name_opens_none : (r : Reading) → is_name r ≡ true → opens_exclusion r ≡ false
name_opens_none (reading.Symbol s.Using) h = absurd (false_true h)
name_opens_none (reading.Symbol s.Open) h = absurd (false_true h)
name_opens_none (reading.Symbol _) h = refl
name_opens_none _ h = refl

no_exclusion : (x : Lexeme) (tokens : Lexemes) → ends is_name tokens ≡ true → begins_exclusion (x ∷ tokens) ≡ false
no_exclusion x [] h = refl
no_exclusion x (y ∷ rest) h = and_false (is_letters (codes "exclude") x.reading) (opens_exclusion y.reading) (name_opens_none y.reading h)

name_starts_none : (r : Reading) → is_name r ≡ true → starts_table_constraint r ≡ false
name_starts_none r h =
    neither _ _ (name_no_letters (codes "constraint") r refl h) (
    neither _ _ (name_no_letters (codes "primary") r refl h) (
    neither _ _ (name_no_letters (codes "unique") r refl h) (
    neither _ _ (name_no_letters (codes "check") r refl h) (name_no_letters (codes "foreign") r refl h))))

pub column_begins : (x : Column) (now next : Stream) → Between (z.column x) now next → begins_table_constraint now.tokens ≡ false
column_begins x now next h =
    let a = split (p.name x.name ++ p.type x.of) (flat_map z.constraint x.constraints) now next h in
    let b = split (p.name x.name) (p.type x.of) now a.0 a.1 in
    let r = identifier_reading x.name in
    let says = b.1.1.1.1 in
    let typed = ap (λ (u : Stream). ends is_name u.tokens) b.1.1.1.2 ∙ first_is_name b.0 (type_first x.of b.0 a.0 b.2) in
    ap begins_table_constraint says.first ∙ neither _ _ (name_starts_none r b.1.0) (no_exclusion (record { reading = r; place = says.place }) b.1.1.1.0.tokens typed)

pub element_alone : (x : Element) (now next : Stream) → Between (z.element x) now next → ends closing next.tokens ≡ true → element now ≡ Some (x, next)
unfolding element
element_alone (element_kind.Column x) now next h e = if_not _ (column_begins x now next h) (on _ (column_alone x now next h e) refl)
element_alone (element_kind.Constraint x) now next h e = if_so _ (table_constraint_begins x now next h) (on _ (table_constraint_alone x now next h e) refl)

table_form_open : (x : TableConstraintForm) (now next : Stream) → Between (z.table_constraint_form x) now next → sees s.Close now ≡ false
table_form_open (table_constraint_kind.PrimaryKey xs run) now next h = word_no_symbol s.Close (codes "primary") now h.0 h.1
table_form_open (table_constraint_kind.Unique run) now next h = word_no_symbol s.Close (codes "unique") now h.0 h.1
table_form_open (table_constraint_kind.Check run) now next h = word_no_symbol s.Close (codes "check") now h.0 h.1
table_form_open (table_constraint_kind.ForeignKey run) now next h = word_no_symbol s.Close (codes "foreign") now h.0 h.1
table_form_open (table_constraint_kind.Exclude run) now next h = word_no_symbol s.Close (codes "exclude") now h.0 h.1

element_open : (x : Element) (now next : Stream) → Between (z.element x) now next → sees s.Close now ≡ false
element_open (element_kind.Column x) now next h =
    let a = split (p.name x.name ++ p.type x.of) (flat_map z.constraint x.constraints) now next h in
    let b = split (p.name x.name) (p.type x.of) now a.0 a.1 in
    no_symbol is_name s.Close now.tokens refl (first_is_name now (name_first x.name now b.0 b.1))
element_open (element_kind.Constraint x) now next h = by_name x.name h
  where
    by_name : (name : Option Identifier) → Between (z.constraint_name name ++ z.table_constraint_form x.form) now next → sees s.Close now ≡ false
    by_name None k = table_form_open x.form now next k
    by_name (Some y) k = word_no_symbol s.Close (codes "constraint") now k.0 k.1

abbrev over_element : Stream → Bool
over_element u = ends closing u.tokens

parted_elements : Parted element z.element over_element
parted_elements = record { reads = element_alone; comma = λ now next h. ap (ends closing) h.first }

pub elements_alone : (xs : List Element) (now u next : Stream) → Between (p.listed (map z.element xs)) now u → Says (reading.Symbol s.Close) u next → choose (sees s.Close) (pure []) (listed element) now ≡ Some (xs, u)
unfolding same
elements_alone [] now u next h close = if_so _ (ap (sees s.Close) h ∙ that_symbol s.Close u next close) (ended h)
elements_alone (x ∷ xs) now u next h close =
    let m = split (z.element x) (flat_map (λ item. word s.Comma ∷ item) (map z.element xs)) now u h in
    if_not _ (element_open x now m.0 m.1) (listed_alone element z.element over_element parted_elements (x ∷ xs) now u refl h (other_symbol s.Comma s.Close u next close refl) (ap (ends closing) close.first))

-- ---- what stands behind the elements

tail_said : (x : Tail) → 1 ≤ said (z.tail x)
tail_said (tail_kind.PartitionBy run) = omega arith
tail_said (tail_kind.With run) = omega arith
tail_said (tail_kind.Tablespace x) = omega arith

tail_seen : (x : Tail) (now next : Stream) → Between (z.tail x) now next → begins_tail now.tokens ≡ true
unfolding same
tail_seen (tail_kind.PartitionBy run) now next h = ap begins_tail h.1.first
tail_seen (tail_kind.With run) now next h = ap begins_tail h.1.first
tail_seen (tail_kind.Tablespace x) now next h = ap begins_tail h.1.first

tail_alone : (x : Tail) (now next : Stream) → Between (z.tail x) now next → (is_partition x ≡ true → ends_at ends_partition next.tokens ≡ true) → tail now ≡ Some (x, next)
unfolding tail
tail_alone (tail_kind.PartitionBy run) now next h e =
    if_not _ (word_no_symbol s.With (codes "partition") now h.0 h.1) (if_so _ (that_word (codes "partition") now h.0 h.1)
    (on _ (says_word (codes "partition") now h.0 h.1) (on _ (says_expect s.By h.0 h.2.0 h.2.1) (on _ (some_run_alone ends_partition run h.2.0 next h.2.2 (e refl)) refl))))
tail_alone (tail_kind.With run) now next h e = if_so _ (that_symbol s.With now h.0 h.1) (on _ (says_expect s.With now h.0 h.1) (on _ (within_alone run h.0 next h.2) refl))
tail_alone (tail_kind.Tablespace x) now next h e =
    if_not _ (word_no_symbol s.With (codes "tablespace") now h.0 h.1) (if_not _ (word_begins (codes "partition") (reading.Word (codes "tablespace")) now h.0 h.1)
    (on _ (says_word (codes "tablespace") now h.0 h.1) (on _ (name_alone x h.0 next h.2) refl)))

-- another tail ends a partition, unless it is one
tail_ends_partition : (x : Tail) (now next : Stream) → Between (z.tail x) now next → not (true && is_partition x) ≡ true → ends_at ends_partition now.tokens ≡ true
tail_ends_partition (tail_kind.PartitionBy run) now next h e = absurd (false_true e)
tail_ends_partition (tail_kind.With run) now next h e = ap (ends_at ends_partition) h.1.first
tail_ends_partition (tail_kind.Tablespace x) now next h e = ap (ends_at ends_partition) h.1.first

partition_ends : (x : Tail) (xs : List Tail) (now next : Stream) → partitions_apart (x ∷ xs) ≡ true → Between (flat_map z.tail xs) now next → next.tokens ≡ [] → is_partition x ≡ true → ends_at ends_partition now.tokens ≡ true
partition_ends x [] now next apart h over e = ap (λ (u : Stream). ends_at ends_partition u.tokens) h ∙ ap (ends_at ends_partition) over
partition_ends x (y ∷ ys) now next apart h over e =
    let m = split (z.tail y) (flat_map z.tail ys) now next h in
    tail_ends_partition y now m.0 m.1 (ap (λ b. not (b && is_partition y)) (sym e) ∙ (both (not (is_partition x && is_partition y)) (partitions_apart (y ∷ ys)) apart).0)

apart_behind : (x : Tail) (xs : List Tail) → partitions_apart (x ∷ xs) ≡ true → partitions_apart xs ≡ true
apart_behind x [] h = refl
apart_behind x (y ∷ ys) h = (both (not (is_partition x && is_partition y)) (partitions_apart (y ∷ ys)) h).1

tails_counted : (xs : List Tail) (k : ℕ) (now next : Stream) → partitions_apart xs ≡ true → Between (flat_map z.tail xs) now next → next.tokens ≡ [] → length xs ≤ k → many_from (λ u. begins_tail u.tokens) tail k now ≡ Some (xs, next)
unfolding many_from
tails_counted [] zero now next apart h over le = ended h
tails_counted [] (suc k) now next apart h over le = if_not _ (ap (λ (u : Stream). begins_tail u.tokens) h ∙ ap begins_tail over) (ended h)
tails_counted (x ∷ xs) zero now next apart h over le = absurd (omega (arith, le))
tails_counted (x ∷ xs) (suc k) now next apart h over le =
    let m = split (z.tail x) (flat_map z.tail xs) now next h in
    if_so _ (tail_seen x now m.0 m.1) (on _ (tail_alone x now m.0 m.1 (λ e. partition_ends x xs m.0 next apart m.2 over e)) (on _ (tails_counted xs k m.0 next (apart_behind x xs apart) m.2 over (omega (arith, le))) refl))

pub tails_alone : (xs : List Tail) (now next : Stream) → partitions_apart xs ≡ true → Between (flat_map z.tail xs) now next → next.tokens ≡ [] → many (λ u. begins_tail u.tokens) tail now ≡ Some (xs, next)
tails_alone xs now next apart h over =
    let run = run_between (flat_map z.tail xs) now next h in
    tails_counted xs (length now.tokens) now next apart h over (omega (arith, said_all (flat_map z.tail xs ++ []) (depth_of (flat_map z.tail xs)) now next run, said_items z.tail tail_said xs []))
