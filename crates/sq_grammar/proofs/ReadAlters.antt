-- Changes of tables are read as they are spelled.
use Rattle.std.proofs.Common.{◌≡◌, ℕ, Bool, true, false, List, [], ◌∷◌, ◌++◌, Some, refl, ap, ◌∙◌, map}
use Rattle.std.specs.Prelude.{not, codes, flat_map}
use Rattle.sq_syntax.specs.declared.symbol.Symbol.TheVariants as s
use Rattle.sq_syntax.specs.declared.symbol.Reading.{Reading}
use Rattle.sq_syntax.specs.declared.symbol.Reading.TheVariants as reading
use Rattle.sq_syntax.specs.declared.name.Identifier.{Identifier}
use Rattle.sq_syntax.specs.declared.ddl.TableAction.{TableAction}
use Rattle.sq_syntax.specs.declared.ddl.TableAction.TheVariants as table_action
use Rattle.sq_syntax.specs.declared.ddl.TableChange.{TableChange}
use Rattle.sq_syntax.specs.declared.ddl.TableChange.TheVariants as table_change
use Rattle.sq_syntax.specs.Facts.{Stream, Says}
use Rattle.sq_syntax.specs.Pieces as p
use Rattle.sq_syntax.specs.Pieces.{sym as word}
use Rattle.sq_syntax.specs.Statements.{word as key_word}
use Rattle.sq_syntax.specs.Schemas as z
use Rattle.sq_syntax.specs.Schemas.{begins_action, begins_two, first_run, is_unqualified, names_its_table, is as is_letters}
use Rattle.sq_grammar.specs.Reading.{begins, sees}
use Rattle.sq_grammar.specs.Statements.{sees_word}
use Rattle.sq_grammar.specs.Schemas.{begins_sign, sees_both, ahead, action, rename, change_of_table}
use Rattle.sq_grammar.proofs.Complete.{says_begins}
use Rattle.sq_grammar.proofs.Joints.{false_true}
use Rattle.sq_grammar.proofs.KeyWords.{says_word, that_word, word_begins, word_no_symbol}
use Rattle.sq_grammar.proofs.Between.{Between, split, on, if_so, if_not}
use Rattle.sq_grammar.proofs.Heads.{ends, both_letters, other_letters, unlike_first, no_letters_no_word, not_true, first_no_word, name_first}
use Rattle.sq_grammar.proofs.ReadAlone.{name_alone, optional_word_alone, Parted, listed_alone}
use Rattle.sq_grammar.proofs.SchemaWords.{closing}
use Rattle.sq_grammar.proofs.ActionHeads.{ahead_tokens, starts_ahead, letters_ahead, plain, plain_behind, no_dot}
use Rattle.sq_grammar.proofs.ReadSetTypes.{action_alone}

-- ---- RENAME

rename_column_read : (has_column : Bool) (x y : Identifier) (now next : Stream) → Between (z.change_of_table (table_change.RenameColumn has_column x y)) now next → rename now ≡ Some (table_change.RenameColumn has_column x y, next)
unfolding rename
rename_column_read has_column x y now next h =
    let column = z.when_word has_column (codes "column") in
    let a = split (column ++ p.name x) (key_word (codes "to") ∷ p.name y) h.0 next h.2 in
    let b = split column (p.name x) h.0 a.0 a.1 in
    let f = name_first x b.0 a.0 b.2 in
    let t = a.2 in
    on _ (says_word (codes "rename") now h.0 h.1) (
    if_not _ (unseen has_column (codes "to") h.0 b.0 refl b.1 (first_no_word (codes "to") b.0 refl f)) (
    if_not _ (unseen has_column (codes "constraint") h.0 b.0 refl b.1 (first_no_word (codes "constraint") b.0 refl f)) (
    on _ (optional_word_alone (codes "column") has_column h.0 b.0 b.1 (first_no_word (codes "column") b.0 refl f)) (
    on _ (name_alone x b.0 a.0 b.2) (
    on _ (says_word (codes "to") a.0 t.0 t.1) (
    on _ (name_alone y t.0 next t.2) refl))))))
  where
    unseen : (b : Bool) (letters : List ℕ) (u v : Stream) → is_letters letters (reading.Word (codes "column")) ≡ false → Between (z.when_word b (codes "column")) u v → sees_word letters v ≡ false → sees_word letters u ≡ false
    unseen true letters u v other k e = word_begins letters (reading.Word (codes "column")) u k.0 k.1 ∙ no_letters_no_word letters (reading.Word (codes "column")) other
    unseen false letters u v other k e = ap (sees_word letters) k ∙ e

-- ---- the first action

-- an action is neither RENAME nor SET SCHEMA
record Acts (now : Stream) : Type 0 where
  renames_none : sees_word (codes "rename") now ≡ false
  moves_none : sees_both (codes "set") (codes "schema") now ≡ false

word_acts : (letters : List ℕ) (now next : Stream) → Says (reading.Word letters) now next → is_letters (codes "rename") (reading.Word letters) ≡ false → is_letters (codes "set") (reading.Word letters) ≡ false → Acts now
word_acts letters now next h a b = record {
  renames_none = word_begins (codes "rename") (reading.Word letters) now next h ∙ no_letters_no_word (codes "rename") (reading.Word letters) a;
  moves_none = unlike_first (codes "set") (codes "schema") (reading.Word letters) now next h b;
}

run_acts : (xs : List Reading) (now next : Stream) → Between (z.action (table_action.Other xs)) now next → ends closing next.tokens ≡ true → Acts now
run_acts [] now next h e = absurd (false_true h.1.0)
run_acts (r ∷ run) now next h e =
    let t = h.1.1.1 in
    let k = plain r run (not_true (begins_action (r ∷ run)) h.0) in
    let whole = plain_behind r run (ahead next) (starts_ahead closing next.tokens e) k in
    record {
      renames_none = word_begins (codes "rename") r now t.0 t.1 ∙ no_letters_no_word (codes "rename") r k.rename;
      moves_none = letters_ahead (codes "set") (codes "schema") now.tokens ∙ ap (begins_two (is_letters (codes "set")) (is_letters (codes "schema"))) (ahead_tokens (r ∷ run) now next t) ∙ whole.schema;
    }

action_acts : (x : TableAction) (now next : Stream) → Between (z.action x) now next → ends closing next.tokens ≡ true → Acts now
action_acts (table_action.AddColumn has_column unless x) now next h e = word_acts (codes "add") now h.0 h.1 refl refl
action_acts (table_action.AddConstraint x) now next h e = word_acts (codes "add") now h.0 h.1 refl refl
action_acts (table_action.DropColumn has_column only_if x behaves) now next h e = word_acts (codes "drop") now h.0 h.1 refl refl
action_acts (table_action.DropConstraint only_if x behaves) now next h e = word_acts (codes "drop") now h.0 h.1 refl refl
action_acts (table_action.SetNotNull has_column x) now next h e = word_acts (codes "alter") now h.0 h.1 refl refl
action_acts (table_action.DropNotNull has_column x) now next h e = word_acts (codes "alter") now h.0 h.1 refl refl
action_acts (table_action.SetType x) now next h e = word_acts (codes "alter") now h.0 h.1 refl refl
action_acts (table_action.Other xs) now next h e = run_acts xs now next h e

abbrev over_action : Stream → Bool
over_action u = ends closing u.tokens

parted_actions : Parted action z.action over_action
parted_actions = record { reads = action_alone; comma = λ now next h. ap (ends closing) h.first }

-- a comma or nothing stands behind the first action
first_action_end : (xs : List TableAction) (now next : Stream) → Between (flat_map (λ item. word s.Comma ∷ item) (map z.action xs)) now next → next.tokens ≡ [] → ends closing now.tokens ≡ true
first_action_end [] now next h over = ap (λ (u : Stream). ends closing u.tokens) h ∙ ap (ends closing) over
first_action_end (x ∷ xs) now next h over = ap (ends closing) h.1.first

actions_act : (xs : List TableAction) (now next : Stream) → not (p.is_empty xs) ≡ true → Between (p.listed (map z.action xs)) now next → next.tokens ≡ [] → Acts now
actions_act [] now next some h over = absurd (false_true some)
actions_act (x ∷ xs) now next some h over =
    let m = split (z.action x) (flat_map (λ item. word s.Comma ∷ item) (map z.action xs)) now next h in
    action_acts x now m.0 m.1 (first_action_end xs m.0 next m.2 over)

-- ---- changes

pub change_alone : (x : TableChange) (now next : Stream) → Between (z.change_of_table x) now next → next.tokens ≡ [] → change_of_table now ≡ Some (x, next)
unfolding change_of_table rename
change_alone (table_change.RenameTo x) now next h over =
    let t = h.2 in
    if_so _ (that_word (codes "rename") now h.0 h.1) (on _ (says_word (codes "rename") now h.0 h.1) (if_so _ (that_word (codes "to") h.0 t.0 t.1) (on _ (says_word (codes "to") h.0 t.0 t.1) (on _ (name_alone x t.0 next t.2) refl))))
change_alone (table_change.RenameColumn has_column x y) now next h over = if_so _ (that_word (codes "rename") now h.0 h.1) (rename_column_read has_column x y now next h)
change_alone (table_change.RenameConstraint x y) now next h over =
    let k = h.2 in
    let m = split (p.name x) (key_word (codes "to") ∷ p.name y) k.0 next k.2 in
    let t = m.2 in
    if_so _ (that_word (codes "rename") now h.0 h.1) (
    on _ (says_word (codes "rename") now h.0 h.1) (
    if_not _ (word_begins (codes "to") (reading.Word (codes "constraint")) h.0 k.0 k.1) (
    if_so _ (that_word (codes "constraint") h.0 k.0 k.1) (
    on _ (says_word (codes "constraint") h.0 k.0 k.1) (
    on _ (name_alone x k.0 m.0 m.1) (
    on _ (says_word (codes "to") m.0 t.0 t.1) (
    on _ (name_alone y t.0 next t.2) refl)))))))
change_alone (table_change.SetSchema x) now next h over =
    let k = h.2 in
    if_not _ (word_begins (codes "rename") (reading.Word (codes "set")) now h.0 h.1) (
    if_so _ (both_letters (codes "set") (codes "schema") (reading.Word (codes "set")) (reading.Word (codes "schema")) now h.0 k.0 h.1 k.1 refl refl) (
    on _ (says_word (codes "set") now h.0 h.1) (on _ (says_word (codes "schema") h.0 k.0 k.1) (on _ (name_alone x k.0 next k.2) refl))))
change_alone (table_change.Actions xs) now next h over =
    let acts = actions_act xs now next h.0 h.1 over in
    if_not _ acts.renames_none (if_not _ acts.moves_none (on _ (listed_alone action z.action over_action parted_actions xs now next h.0 h.1 (ap (begins s.Comma) over) (ap (ends closing) over)) refl))

-- ---- what a change begins with

-- such letters as no word of a change has
pub record Foreign (letters : List ℕ) : Type 0 where
  pub add : is_letters letters (reading.Word (codes "add")) ≡ false
  pub drop : is_letters letters (reading.Word (codes "drop")) ≡ false
  pub alter : is_letters letters (reading.Word (codes "alter")) ≡ false
  pub rename : is_letters letters (reading.Word (codes "rename")) ≡ false
  pub set : is_letters letters (reading.Word (codes "set")) ≡ false

action_foreign : (letters : List ℕ) (f : Foreign letters) (x : TableAction) (xs : List TableAction) (now next : Stream) → Between (z.action x) now next → first_run (is_letters letters) (table_change.Actions (x ∷ xs)) ≡ false → begins_sign letters now.tokens ≡ false
action_foreign letters f (table_action.AddColumn has_column unless x) xs now next h e = other_letters letters (reading.Word (codes "add")) now h.0 h.1 f.add
action_foreign letters f (table_action.AddConstraint x) xs now next h e = other_letters letters (reading.Word (codes "add")) now h.0 h.1 f.add
action_foreign letters f (table_action.DropColumn has_column only_if x behaves) xs now next h e = other_letters letters (reading.Word (codes "drop")) now h.0 h.1 f.drop
action_foreign letters f (table_action.DropConstraint only_if x behaves) xs now next h e = other_letters letters (reading.Word (codes "drop")) now h.0 h.1 f.drop
action_foreign letters f (table_action.SetNotNull has_column x) xs now next h e = other_letters letters (reading.Word (codes "alter")) now h.0 h.1 f.alter
action_foreign letters f (table_action.DropNotNull has_column x) xs now next h e = other_letters letters (reading.Word (codes "alter")) now h.0 h.1 f.alter
action_foreign letters f (table_action.SetType x) xs now next h e = other_letters letters (reading.Word (codes "alter")) now h.0 h.1 f.alter
action_foreign letters f (table_action.Other []) xs now next h e = absurd (false_true h.1.0)
action_foreign letters f (table_action.Other (r ∷ run)) xs now next h e = other_letters letters r now h.1.1.1.0 h.1.1.1.1 e

pub change_foreign : (letters : List ℕ) (f : Foreign letters) (x : TableChange) (now next : Stream) → Between (z.change_of_table x) now next → first_run (is_letters letters) x ≡ false → begins_sign letters now.tokens ≡ false
change_foreign letters f (table_change.RenameTo x) now next h e = other_letters letters (reading.Word (codes "rename")) now h.0 h.1 f.rename
change_foreign letters f (table_change.RenameColumn has_column x y) now next h e = other_letters letters (reading.Word (codes "rename")) now h.0 h.1 f.rename
change_foreign letters f (table_change.RenameConstraint x y) now next h e = other_letters letters (reading.Word (codes "rename")) now h.0 h.1 f.rename
change_foreign letters f (table_change.SetSchema x) now next h e = other_letters letters (reading.Word (codes "set")) now h.0 h.1 f.set
change_foreign letters f (table_change.Actions []) now next h e = absurd (false_true h.0)
change_foreign letters f (table_change.Actions (x ∷ xs)) now next h e =
    let m = split (z.action x) (flat_map (λ item. word s.Comma ∷ item) (map z.action xs)) now next h.1 in
    action_foreign letters f x xs now m.0 m.1 e

action_no_dot : (x : TableAction) (now next : Stream) → Between (z.action x) now next → sees s.Dot now ≡ false
action_no_dot (table_action.AddColumn has_column unless x) now next h = word_no_symbol s.Dot (codes "add") now h.0 h.1
action_no_dot (table_action.AddConstraint x) now next h = word_no_symbol s.Dot (codes "add") now h.0 h.1
action_no_dot (table_action.DropColumn has_column only_if x behaves) now next h = word_no_symbol s.Dot (codes "drop") now h.0 h.1
action_no_dot (table_action.DropConstraint only_if x behaves) now next h = word_no_symbol s.Dot (codes "drop") now h.0 h.1
action_no_dot (table_action.SetNotNull has_column x) now next h = word_no_symbol s.Dot (codes "alter") now h.0 h.1
action_no_dot (table_action.DropNotNull has_column x) now next h = word_no_symbol s.Dot (codes "alter") now h.0 h.1
action_no_dot (table_action.SetType x) now next h = word_no_symbol s.Dot (codes "alter") now h.0 h.1
action_no_dot (table_action.Other []) now next h = absurd (false_true h.1.0)
action_no_dot (table_action.Other (r ∷ run)) now next h =
    let k = plain r run (not_true (begins_action (r ∷ run)) h.0) in
    says_begins s.Dot r now h.1.1.1.0 h.1.1.1.1 ∙ no_dot r k.dot

pub change_no_dot : (x : TableChange) (now next : Stream) → Between (z.change_of_table x) now next → sees s.Dot now ≡ false
change_no_dot (table_change.RenameTo x) now next h = word_no_symbol s.Dot (codes "rename") now h.0 h.1
change_no_dot (table_change.RenameColumn has_column x y) now next h = word_no_symbol s.Dot (codes "rename") now h.0 h.1
change_no_dot (table_change.RenameConstraint x y) now next h = word_no_symbol s.Dot (codes "rename") now h.0 h.1
change_no_dot (table_change.SetSchema x) now next h = word_no_symbol s.Dot (codes "set") now h.0 h.1
change_no_dot (table_change.Actions []) now next h = absurd (false_true h.0)
change_no_dot (table_change.Actions (x ∷ xs)) now next h =
    let m = split (z.action x) (flat_map (λ item. word s.Comma ∷ item) (map z.action xs)) now next h.1 in
    action_no_dot x now m.0 m.1
