-- The actions of ALTER TABLE and the changes of ALTER TYPE that are read are spelled by the tokens.
use Rattle.std.proofs.Common.{◌≡◌, Bool, true, false, List, [], ◌∷◌, ◌++◌, Some, None, refl, sym, ap, ◌∙◌, map, inl, inr}
use Rattle.std.specs.Prelude.{codes, ◌||◌, ◌&&◌, not, if◌then◌else◌}
use Rattle.sq_syntax.specs.declared.symbol.Symbol.TheVariants as s
use Rattle.sq_syntax.specs.declared.symbol.Reading.{Reading}
use Rattle.sq_syntax.specs.declared.name.Identifier.{Identifier}
use Rattle.sq_syntax.specs.declared.ddl.TableAction.{TableAction}
use Rattle.sq_syntax.specs.declared.ddl.TableAction.TheVariants as table_action
use Rattle.sq_syntax.specs.declared.ddl.TableChange.TheVariants as table_change
use Rattle.sq_syntax.specs.Facts.{Stream, Along, Piece, marks_of}
use Rattle.sq_syntax.specs.Symbols.{is_name}
use Rattle.sq_syntax.specs.Pieces.{sym as word}
use Rattle.sq_syntax.specs.Statements.{word as key_word}
use Rattle.sq_syntax.specs.Schemas as z
use Rattle.sq_syntax.specs.Schemas.{is_comma, begins_two, begins_column_change, begins_named_change, past_column, begins_action, begins_type_change}
use Rattle.sq_grammar.specs.Reading.{◌>>◌, pure, choose, sees, expect}
use Rattle.sq_grammar.specs.Names.{name}
use Rattle.sq_grammar.specs.Statements.{sees_word, expect_word, listed}
use Rattle.sq_grammar.specs.Schemas.{optional_word, sees_both, begins_table_constraint, some_run, ahead, add, drop, some_collation, set_type, alter_column, action, rename, change_of_table}
use Rattle.sq_grammar.proofs.Begins.{part_of}
use Rattle.sq_grammar.proofs.Joints.{false_true}
use Rattle.sq_grammar.proofs.Takes.{lexed_after, Took, Spells, ◌then◌, none, expected, behind, chosen, given, needed}
use Rattle.sq_grammar.proofs.TakeNames.{name_took, qualified_name_took}
use Rattle.sq_grammar.proofs.TakeTypes.{type_took}
use Rattle.sq_grammar.proofs.TakeAffixes.{needed_by}
use Rattle.sq_grammar.proofs.KeyWords.{word_expected}
use Rattle.sq_grammar.proofs.CommaLists.{listed_took}
use Rattle.sq_grammar.proofs.TakeRuns.{some_run_took}
use Rattle.sq_grammar.proofs.TakeSchemas.{optional_word_took, if_exists_took, if_not_exists_took, behavior_took, column_took}
use Rattle.sq_grammar.proofs.TakeTables.{table_constraint_took}

-- ---- a run begins as the tokens do

pub along_ahead : (xs : List Reading) (now next : Stream) → Along (marks_of (z.tokens xs)) now next → ahead now ≡ xs ++ ahead next
along_ahead [] now next h = ap ahead h
along_ahead (x ∷ xs) now next h = ap (λ tokens. map (λ y. y.reading) tokens) h.1.first ∙ ap (λ rest. x ∷ rest) (along_ahead xs h.0 next h.2)

-- what does not begin so does not do so with fewer tokens
abbrev pub Early : (List Reading → Bool) → Type 0
Early f = (xs ys : List Reading) → f (xs ++ ys) ≡ false → f xs ≡ false

pub either_false : (a b : Bool) → a || b ≡ false → (a ≡ false) × (b ≡ false)
either_false false b h = (refl, h)
either_false true b h = absurd (cc)

pub neither : (a b : Bool) → a ≡ false → b ≡ false → a || b ≡ false
neither false b h e = e
neither true b h e = h

guarded : (a b c : Bool) → (b ≡ false → c ≡ false) → a && b ≡ false → a && c ≡ false
guarded true b c f h = f h
guarded false b c f h = refl

pub two_early : (first second : Reading → Bool) → Early (begins_two first second)
two_early first second [] ys h = refl
two_early first second (x ∷ []) ys h = refl
two_early first second (x ∷ y ∷ xs) ys h = h

column_early : Early begins_column_change
column_early [] ys h = refl
column_early (x ∷ xs) ys h =
    let a = either_false (z.is (codes "type") x) _ h in
    let b = either_false (begins_two (z.is (codes "set")) (λ q. z.is (codes "not") q || z.is (codes "data") q) (x ∷ xs ++ ys)) _ a.1 in
    neither _ _ a.0 (neither _ _ (two_early (z.is (codes "set")) (λ q. z.is (codes "not") q || z.is (codes "data") q) (x ∷ xs) ys b.0) (two_early (z.is (codes "drop")) (z.is (codes "not")) (x ∷ xs) ys b.1))

named_early : Early begins_named_change
named_early [] ys h = refl
named_early (x ∷ xs) ys h = guarded (is_name x) (begins_column_change (xs ++ ys)) (begins_column_change xs) (column_early xs ys) h

past_early : Early (λ xs. begins_named_change (past_column xs))
past_early [] ys h = refl
past_early (x ∷ xs) ys h = by_column (z.is (codes "column") x) h
  where
    by_column : (b : Bool) → begins_named_change (if b then xs ++ ys else x ∷ xs ++ ys) ≡ false → begins_named_change (if b then xs else x ∷ xs) ≡ false
    by_column true g = named_early xs ys g
    by_column false g = named_early (x ∷ xs) ys g

action_early : Early begins_action
action_early [] ys h = refl
action_early (x ∷ xs) ys h =
    let a = either_false (z.is (codes ".") x) _ h in
    let b = either_false (z.is (codes "add") x) _ a.1 in
    let c = either_false (z.is (codes "drop") x) _ b.1 in
    let d = either_false (z.is (codes "rename") x) _ c.1 in
    let e = either_false (begins_two (z.is (codes "set")) (z.is (codes "schema")) (x ∷ xs ++ ys)) _ d.1 in
    neither _ _ a.0 (neither _ _ b.0 (neither _ _ c.0 (neither _ _ d.0 (neither _ _ (two_early (z.is (codes "set")) (z.is (codes "schema")) (x ∷ xs) ys e.0)
    (guarded (z.is (codes "alter") x) (begins_named_change (past_column (xs ++ ys))) (begins_named_change (past_column xs)) (past_early xs ys) e.1)))))

pub not_false : (b : Bool) → b ≡ false → not b ≡ true
not_false false h = refl
not_false true h = absurd (cc)

-- a run of tokens that do not begin as another action does
pub unlike : (f : List Reading → Bool) → Early f → (xs : List Reading) (now next : Stream) → f (ahead now) ≡ false → Along (marks_of (z.tokens xs)) now next → not (f xs) ≡ true
unlike f early xs now next h along = not_false (f xs) (early xs (ahead next) (sym (ap f (along_ahead xs now next along)) ∙ h))

-- ---- ADD and DROP

add_took : Spells z.action add
unfolding add
add_took now next x h =
    let one = part_of (expect_word (codes "add") now) _ (x, next) h in
    elim (chosen {b = begins_table_constraint one.next.tokens} one.more) [
      | inl (b, k) ↦ let two = behind k in given z.action two.second (word_expected one.is then table_constraint_took one.next two.mid two.value two.first)
      | inr (b, k) ↦
          let two = behind k in
          let three = behind two.second in
          let four = behind three.second in
          given z.action four.second
          (((word_expected one.is then optional_word_took (codes "column") one.next two.mid two.value two.first) then if_not_exists_took two.mid three.mid three.value three.first) then column_took three.mid four.mid four.value four.first)
    ]

drop_took : Spells z.action drop
unfolding drop
drop_took now next x h =
    let one = part_of (expect_word (codes "drop") now) _ (x, next) h in
    elim (chosen {b = sees_word (codes "constraint") one.next} one.more) [
      | inl (b, k) ↦
          let two = behind k in
          let three = behind two.second in
          let four = behind three.second in
          let five = behind four.second in
          given z.action five.second
          (((word_expected one.is then word_expected two.first then if_exists_took two.mid three.mid three.value three.first) then name_took three.mid four.mid four.value four.first) then behavior_took four.mid five.mid five.value five.first)
      | inr (b, k) ↦
          let two = behind k in
          let three = behind two.second in
          let four = behind three.second in
          let five = behind four.second in
          given z.action five.second
          ((((word_expected one.is then optional_word_took (codes "column") one.next two.mid two.value two.first) then if_exists_took two.mid three.mid three.value three.first) then name_took three.mid four.mid four.value four.first) then behavior_took four.mid five.mid five.value five.first)
    ]

-- ---- ALTER COLUMN

collation_took : Spells z.collation (choose (sees s.Collate) some_collation (pure None))
collation_took now next x h = elim (chosen {b = sees s.Collate now} h) [
  | inl (b, k) ↦
      let one = behind k in
      let two = behind one.second in
      given z.collation two.second (expected one.first then qualified_name_took one.mid two.mid two.value two.first)
  | inr (b, k) ↦ given z.collation k (none now)
]

using_took : Spells z.using (choose (sees s.Using) (expect s.Using >> some_run is_comma) (pure []))
using_took now next xs h = elim (chosen {b = sees s.Using now} h) [
  | inl (b, k) ↦ let one = behind k in by_run xs now one.mid next (expected one.first) (some_run_took is_comma one.mid next xs one.second)
  | inr (b, k) ↦ given z.using k (none now)
]
  where
    by_run : (ys : List Reading) (start u v : Stream) → Took (word s.Using ∷ []) start u → Took (z.one_run ys) u v → Took (z.using ys) start v
    by_run [] start u v front took = record { holds = λ l. refl; along = λ l. absurd (false_true (took.holds (lexed_after (marks_of (word s.Using ∷ [])) start u (front.along l) l))) }
    by_run (y ∷ ys) start u v front took = front then took

abbrev data_words : Bool → List Piece
data_words b = if b then key_word (codes "set") ∷ key_word (codes "data") ∷ [] else []

data_took : Spells data_words (choose (sees_word (codes "set")) (expect_word (codes "set") >> (expect_word (codes "data") >> pure true)) (pure false))
data_took now next x h = elim (chosen {b = sees_word (codes "set") now} h) [
  | inl (b, k) ↦
      let one = behind k in
      let two = behind one.second in
      given data_words two.second (word_expected one.first then word_expected two.first)
  | inr (b, k) ↦ given data_words k (none now)
]

set_type_took : (has_column : Bool) (x : Identifier) (start now next : Stream) (y : TableAction) → Took (z.alter_column has_column x) start now → set_type has_column x now ≡ Some (y, next) → Took (z.action y) start next
set_type_took has_column x start now next y front h =
    let one = behind h in
    let two = behind one.second in
    let three = behind two.second in
    let four = behind three.second in
    let five = behind four.second in
    given z.action five.second
    ((((front then data_took now one.mid one.value one.first) then word_expected two.first then type_took two.mid three.mid three.value three.first) then collation_took three.mid four.mid four.value four.first) then using_took four.mid five.mid five.value five.first)

alter_column_took : Spells z.action alter_column
unfolding alter_column
alter_column_took now next y h =
    let one = part_of (expect_word (codes "alter") now) _ (y, next) h in
    let two = part_of (optional_word (codes "column") one.next) _ (y, next) one.more in
    let three = part_of (name two.next) _ (y, next) two.more in
    let front : Took (z.alter_column two.value three.value) now three.next = (word_expected one.is then optional_word_took (codes "column") one.next two.next two.value two.is) then name_took two.next three.next three.value three.is in
    elim (chosen {b = sees_both (codes "set") (codes "not") three.next} three.more) [
      | inl (b, k) ↦
          let four = behind k in
          let five = behind four.second in
          let six = behind five.second in
          given z.action six.second (front then word_expected four.first then expected five.first then expected six.first)
      | inr (b, k) ↦ elim (chosen {b = sees_word (codes "drop") three.next} k) [
        | inl (c, l) ↦
            let four = behind l in
            let five = behind four.second in
            let six = behind five.second in
            given z.action six.second (front then word_expected four.first then expected five.first then expected six.first)
        | inr (c, l) ↦ set_type_took two.value three.value now three.next next y front l
      ]
    ]

-- ---- all actions

action_took : Spells z.action action
unfolding action
action_took now next x h = elim (chosen {b = sees_word (codes "add") now} h) [
  | inl (b, k) ↦ add_took now next x k
  | inr (b, k) ↦ elim (chosen {b = sees_word (codes "drop") now} k) [
    | inl (c, l) ↦ drop_took now next x l
    | inr (c, l) ↦ elim (chosen {b = begins_action (ahead now)} l) [
      | inl (d, m) ↦ alter_column_took now next x m
      | inr (d, m) ↦
          let one = part_of (some_run is_comma now) (λ tokens. pure (table_action.Other tokens)) (x, next) m in
          let took = some_run_took is_comma now one.next one.value one.is in
          given z.action one.more (needed_by (λ l ok along. unlike begins_action action_early one.value now one.next d along) took)
    ]
  ]
]

-- ---- changes of a table

pub change_of_table_took : Spells z.change_of_table change_of_table
unfolding change_of_table rename
change_of_table_took now next x h = elim (chosen {b = sees_word (codes "rename") now} h) [
  | inl (b, k) ↦
      let one = part_of (expect_word (codes "rename") now) _ (x, next) k in
      elim (chosen {b = sees_word (codes "to") one.next} one.more) [
        | inl (c, l) ↦
            let two = behind l in
            let three = behind two.second in
            given z.change_of_table three.second (word_expected one.is then word_expected two.first then name_took two.mid three.mid three.value three.first)
        | inr (c, l) ↦ elim (chosen {b = sees_word (codes "constraint") one.next} l) [
          | inl (d, m) ↦
              let two = behind m in
              let three = behind two.second in
              let four = behind three.second in
              let five = behind four.second in
              given z.change_of_table five.second
              ((word_expected one.is then word_expected two.first then name_took two.mid three.mid three.value three.first) then word_expected four.first then name_took four.mid five.mid five.value five.first)
          | inr (d, m) ↦
              let two = behind m in
              let three = behind two.second in
              let four = behind three.second in
              let five = behind four.second in
              given z.change_of_table five.second
              (((word_expected one.is then optional_word_took (codes "column") one.next two.mid two.value two.first) then name_took two.mid three.mid three.value three.first) then word_expected four.first then name_took four.mid five.mid five.value five.first)
        ]
      ]
  | inr (b, k) ↦ elim (chosen {b = sees_both (codes "set") (codes "schema") now} k) [
    | inl (c, l) ↦
        let one = behind l in
        let two = behind one.second in
        let three = behind two.second in
        given z.change_of_table three.second (word_expected one.first then word_expected two.first then name_took two.mid three.mid three.value three.first)
    | inr (c, l) ↦
        let one = part_of (listed action now) (λ xs. pure (table_change.Actions xs)) (x, next) l in
        let t = listed_took action z.action action_took now one.next one.value one.is in
        given z.change_of_table one.more (needed t.some t.took)
  ]
]
