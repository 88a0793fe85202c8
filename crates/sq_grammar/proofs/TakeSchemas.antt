-- The parts of schema statements that are read are spelled by the tokens: constraints, and the elements of tables.
use Rattle.std.proofs.Common.{◌≡◌, ℕ, Bool, true, false, List, [], ◌∷◌, ◌++◌, Some, None, subst, append_assoc, inl, inr}
use Rattle.std.specs.Prelude.{flat_map, codes, if◌then◌else◌}
use Rattle.sq_syntax.specs.declared.symbol.Symbol.TheVariants as s
use Rattle.sq_syntax.specs.declared.ddl.ConstraintForm.{ConstraintForm}
use Rattle.sq_syntax.specs.declared.ddl.ConstraintForm.TheVariants as constraint_kind
use Rattle.sq_syntax.specs.declared.ddl.Generation.{Generation}
use Rattle.sq_syntax.specs.declared.ddl.Generation.TheVariants as generation_kind
use Rattle.sq_syntax.specs.declared.ddl.ReferenceAction.{ReferenceAction}
use Rattle.sq_syntax.specs.declared.ddl.ReferenceAction.TheVariants as reference_action
use Rattle.sq_syntax.specs.Facts.{Stream, Piece}
use Rattle.sq_syntax.specs.Pieces.{sym as word}
use Rattle.sq_syntax.specs.Statements.{word as key_word}
use Rattle.sq_syntax.specs.Schemas as z
use Rattle.sq_grammar.specs.Reading.{Parser, ◌>>◌, pure, choose, sees, expect}
use Rattle.sq_grammar.specs.Statements.{sees_word, expect_word}
use Rattle.sq_grammar.specs.Schemas.{optional_word, sees_both, if_exists, if_not_exists, behavior, constraint_name, some_match, event, reference_action_words, reaction, reference, some_within, identity, stored, generated, check, collated, by_default, initially, negated, constraint_form, constraint, begins_constraint, constraints, column}
use Rattle.sq_grammar.proofs.Begins.{part_of}
use Rattle.sq_grammar.proofs.Takes.{Took, Spells, ◌then◌, none, expected, behind, chosen, given, needed}
use Rattle.sq_grammar.proofs.TakeLists.{items_took}
use Rattle.sq_grammar.proofs.TakeNames.{name_took, qualified_name_took}
use Rattle.sq_grammar.proofs.TakeTypes.{type_took}
use Rattle.sq_grammar.proofs.TakeAliases.{bracketed_names_took}
use Rattle.sq_grammar.proofs.TakeBrackets.{field_took}
use Rattle.sq_grammar.proofs.KeyWords.{word_expected}
use Rattle.sq_grammar.proofs.TakeRuns.{within_took, default_took}

-- ---- words

pub optional_word_took : (letters : List ℕ) → Spells (λ b. z.when_word b letters) (optional_word letters)
optional_word_took letters now next x h = elim (chosen {b = sees_word letters now} h) [
  | inl (b, k) ↦ let one = behind k in given (λ y. z.when_word y letters) one.second (word_expected one.first)
  | inr (b, k) ↦ given (λ y. z.when_word y letters) k (none now)
]

pub if_exists_took : Spells z.if_exists if_exists
unfolding if_exists
if_exists_took now next x h = elim (chosen {b = sees_both (codes "if") (codes "exists") now} h) [
  | inl (b, k) ↦
      let one = behind k in
      let two = behind one.second in
      given z.if_exists two.second (word_expected one.first then expected two.first)
  | inr (b, k) ↦ given z.if_exists k (none now)
]

pub if_not_exists_took : Spells z.if_not_exists if_not_exists
unfolding if_not_exists
if_not_exists_took now next x h = elim (chosen {b = sees_both (codes "if") (codes "not") now} h) [
  | inl (b, k) ↦
      let one = behind k in
      let two = behind one.second in
      let three = behind two.second in
      given z.if_not_exists three.second (word_expected one.first then expected two.first then expected three.first)
  | inr (b, k) ↦ given z.if_not_exists k (none now)
]

pub behavior_took : Spells z.behavior_words behavior
unfolding behavior
behavior_took now next x h = elim (chosen {b = sees_word (codes "cascade") now} h) [
  | inl (b, k) ↦ let one = behind k in given z.behavior_words one.second (word_expected one.first)
  | inr (b, k) ↦ elim (chosen {b = sees_word (codes "restrict") now} k) [
    | inl (c, l) ↦ let one = behind l in given z.behavior_words one.second (word_expected one.first)
    | inr (c, l) ↦ given z.behavior_words l (none now)
  ]
]

-- ---- references

pub constraint_name_took : Spells z.constraint_name constraint_name
unfolding constraint_name
constraint_name_took now next x h = elim (chosen {b = sees_word (codes "constraint") now} h) [
  | inl (b, k) ↦
      let one = behind k in
      let two = behind one.second in
      given z.constraint_name two.second (word_expected one.first then name_took one.mid two.mid two.value two.first)
  | inr (b, k) ↦ given z.constraint_name k (none now)
]

matching_took : Spells z.matching (choose (sees_word (codes "match")) some_match (pure None))
matching_took now next x h = elim (chosen {b = sees_word (codes "match") now} h) [
  | inl (b, k) ↦
      let one = behind k in
      let two = behind one.second in
      given z.matching two.second (word_expected one.first then field_took one.mid two.mid two.value two.first)
  | inr (b, k) ↦ given z.matching k (none now)
]

event_took : Spells z.event_words event
unfolding event
event_took now next x h = elim (chosen {b = sees s.Update now} h) [
  | inl (b, k) ↦ let one = behind k in given z.event_words one.second (expected one.first)
  | inr (b, k) ↦ let one = behind k in given z.event_words one.second (word_expected one.first)
]

set_took : (start now next : Stream) (x : ReferenceAction) → Took (key_word (codes "set") ∷ []) start now
    → choose (sees s.Null) (expect s.Null >> pure reference_action.SetNull) (expect_word (codes "default") >> pure reference_action.SetDefault) now ≡ Some (x, next) → Took (z.action_words x) start next
set_took start now next x front h = elim (chosen {b = sees s.Null now} h) [
  | inl (b, k) ↦ let one = behind k in given z.action_words one.second (front then expected one.first)
  | inr (b, k) ↦ let one = behind k in given z.action_words one.second (front then word_expected one.first)
]

action_words_took : Spells z.action_words reference_action_words
unfolding reference_action_words
action_words_took now next x h = elim (chosen {b = sees_word (codes "cascade") now} h) [
  | inl (b, k) ↦ let one = behind k in given z.action_words one.second (word_expected one.first)
  | inr (b, k) ↦ elim (chosen {b = sees_word (codes "restrict") now} k) [
    | inl (c, l) ↦ let one = behind l in given z.action_words one.second (word_expected one.first)
    | inr (c, l) ↦ elim (chosen {b = sees s.No now} l) [
      | inl (d, m) ↦
          let one = behind m in
          let two = behind one.second in
          given z.action_words two.second (expected one.first then word_expected two.first)
      | inr (d, m) ↦ let one = behind m in set_took now one.mid next x (word_expected one.first) one.second
    ]
  ]
]

reaction_took : Spells z.reaction reaction
unfolding reaction
reaction_took now next x h =
    let one = behind h in
    let two = behind one.second in
    let three = behind two.second in
    given z.reaction three.second ((expected one.first then event_took one.mid two.mid two.value two.first) then action_words_took two.mid three.mid three.value three.first)

reference_took : Spells z.constraint_form reference
unfolding reference
reference_took now next x h =
    let one = behind h in
    let two = behind one.second in
    let three = behind two.second in
    let four = behind three.second in
    let five = behind four.second in
    given z.constraint_form five.second
    ((((word_expected one.first then qualified_name_took one.mid two.mid two.value two.first) then bracketed_names_took two.mid three.mid three.value three.first) then matching_took three.mid four.mid four.value four.first)
    then items_took (sees s.On) reaction z.reaction reaction_took four.mid five.mid five.value five.first)

-- ---- other constraints

optional_within_took : Spells z.optional_within (choose (sees s.Open) some_within (pure None))
optional_within_took now next x h = elim (chosen {b = sees s.Open now} h) [
  | inl (b, k) ↦ let one = behind k in given z.optional_within one.second (within_took now one.mid one.value one.first)
  | inr (b, k) ↦ given z.optional_within k (none now)
]

identity_took : (x : Generation) (start now next : Stream) (y : ConstraintForm) → Took (key_word (codes "generated") ∷ z.generation_words x ++ word s.As ∷ []) start now → identity x now ≡ Some (y, next) → Took (z.constraint_form y) start next
identity_took x start now next y front h =
    let one = behind h in
    let two = behind one.second in
    let tail = key_word (codes "identity") ∷ z.optional_within two.value in
    let all = front then word_expected one.first then optional_within_took one.mid two.mid two.value two.first in
    given z.constraint_form two.second (subst (λ ps. Took ps start two.mid) (append_assoc (key_word (codes "generated") ∷ z.generation_words x) (word s.As ∷ []) tail) all)

stored_took : (start now next : Stream) (y : ConstraintForm) → Took (key_word (codes "generated") ∷ key_word (codes "always") ∷ word s.As ∷ []) start now → stored now ≡ Some (y, next) → Took (z.constraint_form y) start next
stored_took start now next y front h =
    let one = behind h in
    let two = behind one.second in
    given z.constraint_form two.second ((front then within_took now one.mid one.value one.first) then word_expected two.first)

generated_took : Spells z.constraint_form generated
unfolding generated
generated_took now next y h =
    let one = part_of (expect_word (codes "generated") now) _ (y, next) h in
    elim (chosen {b = sees s.By one.next} one.more) [
      | inl (b, k) ↦
          let two = part_of (expect s.By one.next) _ (y, next) k in
          let three = part_of (expect_word (codes "default") two.next) _ (y, next) two.more in
          let four = part_of (expect s.As three.next) _ (y, next) three.more in
          identity_took generation_kind.ByDefault now four.next next y (word_expected one.is then expected two.is then word_expected three.is then expected four.is) four.more
      | inr (b, k) ↦
          let two = part_of (expect_word (codes "always") one.next) _ (y, next) k in
          let three = part_of (expect s.As two.next) _ (y, next) two.more in
          let front : Took (key_word (codes "generated") ∷ key_word (codes "always") ∷ word s.As ∷ []) now three.next = word_expected one.is then word_expected two.is then expected three.is in
          elim (chosen {b = sees_word (codes "identity") three.next} three.more) [
            | inl (c, l) ↦ identity_took generation_kind.Always now three.next next y front l
            | inr (c, l) ↦ stored_took now three.next next y front l
          ]
    ]

abbrev inherit_words : Bool → List Piece
inherit_words alone = if alone then word s.No ∷ key_word (codes "inherit") ∷ [] else []

inherit_took : Spells inherit_words (choose (sees s.No) (expect s.No >> (expect_word (codes "inherit") >> pure true)) (pure false))
inherit_took now next x h = elim (chosen {b = sees s.No now} h) [
  | inl (b, k) ↦
      let one = behind k in
      let two = behind one.second in
      given inherit_words two.second (expected one.first then word_expected two.first)
  | inr (b, k) ↦ given inherit_words k (none now)
]

check_took : Spells z.constraint_form check
unfolding check
check_took now next y h =
    let one = behind h in
    let two = behind one.second in
    let three = behind two.second in
    given z.constraint_form three.second ((word_expected one.first then within_took one.mid two.mid two.value two.first) then inherit_took two.mid three.mid three.value three.first)

negated_took : Spells z.constraint_form negated
negated_took now next y h =
    let one = part_of (expect s.Not now) _ (y, next) h in
    elim (chosen {b = sees s.Null one.next} one.more) [
      | inl (b, k) ↦ let two = behind k in given z.constraint_form two.second (expected one.is then expected two.first)
      | inr (b, k) ↦ let two = behind k in given z.constraint_form two.second (expected one.is then word_expected two.first)
    ]

collated_took : Spells z.constraint_form collated
collated_took now next y h =
    let one = behind h in
    let two = behind one.second in
    given z.constraint_form two.second (expected one.first then qualified_name_took one.mid two.mid two.value two.first)

by_default_took : Spells z.constraint_form by_default
by_default_took now next y h =
    let one = behind h in
    let two = behind one.second in
    let r = default_took one.mid two.mid two.value two.first in
    given z.constraint_form two.second (word_expected one.first then needed r.holds r.took)

initially_took : Spells z.constraint_form initially
initially_took now next y h =
    let one = behind h in
    let two = behind one.second in
    given z.constraint_form two.second (word_expected one.first then field_took one.mid two.mid two.value two.first)

-- the constraints that hold further tokens
late : Parser ConstraintForm
late = choose (sees_word (codes "default")) by_default
    (choose (sees_word (codes "check")) check
    (choose (sees_word (codes "references")) reference
    (choose (sees_word (codes "generated")) generated
    (choose (sees_word (codes "deferrable")) (expect_word (codes "deferrable") >> pure constraint_kind.Deferrable) initially))))

late_took : Spells z.constraint_form late
unfolding late
late_took now next y h = elim (chosen {b = sees_word (codes "default") now} h) [
  | inl (b, k) ↦ by_default_took now next y k
  | inr (b, k) ↦ elim (chosen {b = sees_word (codes "check") now} k) [
    | inl (b, k) ↦ check_took now next y k
    | inr (b, k) ↦ elim (chosen {b = sees_word (codes "references") now} k) [
      | inl (b, k) ↦ reference_took now next y k
      | inr (b, k) ↦ elim (chosen {b = sees_word (codes "generated") now} k) [
        | inl (b, k) ↦ generated_took now next y k
        | inr (b, k) ↦ elim (chosen {b = sees_word (codes "deferrable") now} k) [
          | inl (b, k) ↦ let one = behind k in given z.constraint_form one.second (word_expected one.first)
          | inr (b, k) ↦ initially_took now next y k
        ]
      ]
    ]
  ]
]

form_took : Spells z.constraint_form constraint_form
unfolding constraint_form late
form_took now next y h = elim (chosen {b = sees s.Not now} h) [
  | inl (b, k) ↦ negated_took now next y k
  | inr (b, k) ↦ elim (chosen {b = sees s.Null now} k) [
    | inl (b, k) ↦ let one = behind k in given z.constraint_form one.second (expected one.first)
    | inr (b, k) ↦ elim (chosen {b = sees_word (codes "primary") now} k) [
      | inl (b, k) ↦
          let one = behind k in
          let two = behind one.second in
          given z.constraint_form two.second (word_expected one.first then expected two.first)
      | inr (b, k) ↦ elim (chosen {b = sees_word (codes "unique") now} k) [
        | inl (b, k) ↦ let one = behind k in given z.constraint_form one.second (word_expected one.first)
        | inr (b, k) ↦ elim (chosen {b = sees s.Collate now} k) [
          | inl (b, k) ↦ collated_took now next y k
          | inr (b, k) ↦ late_took now next y k
        ]
      ]
    ]
  ]
]

constraint_took : Spells z.constraint constraint
unfolding constraint
constraint_took now next x h =
    let one = behind h in
    let two = behind one.second in
    given z.constraint two.second (constraint_name_took now one.mid one.value one.first then form_took one.mid two.mid two.value two.first)

pub constraints_took : Spells (flat_map z.constraint) constraints
unfolding constraints
constraints_took = items_took (λ now. begins_constraint now.tokens) constraint z.constraint constraint_took

-- ---- columns

pub column_took : Spells z.column column
unfolding column
column_took now next x h =
    let one = behind h in
    let two = behind one.second in
    let three = behind two.second in
    given z.column three.second ((name_took now one.mid one.value one.first then type_took one.mid two.mid two.value two.first) then constraints_took two.mid three.mid three.value three.first)
