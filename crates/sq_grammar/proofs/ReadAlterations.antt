-- ALTER TABLE and ALTER TYPE are read as they are spelled.
use Rattle.std.proofs.Common.{◌≡◌, ℕ, Bool, true, false, List, [], ◌∷◌, ◌++◌, Option, Some, None, refl, sym, ap, ◌∙◌}
use Rattle.std.specs.Prelude.{◌&&◌, ◌||◌, not, codes}
use Rattle.std.proofs.lemmas.List.{append-nil}
use Rattle.sq_syntax.specs.declared.symbol.Symbol.TheVariants as s
use Rattle.sq_syntax.specs.declared.symbol.Reading.{Reading}
use Rattle.sq_syntax.specs.declared.symbol.Reading.TheVariants as reading
use Rattle.sq_syntax.specs.declared.name.Identifier.{Identifier}
use Rattle.sq_syntax.specs.declared.name.QualifiedName.{QualifiedName}
use Rattle.sq_syntax.specs.declared.ddl.AlterTable.{AlterTable}
use Rattle.sq_syntax.specs.declared.ddl.AlterType.{AlterType}
use Rattle.sq_syntax.specs.declared.ddl.Neighbour.{Neighbour}
use Rattle.sq_syntax.specs.declared.ddl.Neighbour.TheVariants as neighbour_kind
use Rattle.sq_syntax.specs.declared.ddl.TableChange.{TableChange}
use Rattle.sq_syntax.specs.declared.ddl.TypeChange.{TypeChange}
use Rattle.sq_syntax.specs.declared.ddl.TypeChange.TheVariants as type_change
use Rattle.sq_syntax.specs.Facts.{Stream, Piece}
use Rattle.sq_syntax.specs.Symbols.{identifier_reading}
use Rattle.sq_syntax.specs.Pieces as p
use Rattle.sq_syntax.specs.Statements.{word as key_word}
use Rattle.sq_syntax.specs.Runs.{no_stop}
use Rattle.sq_syntax.specs.Schemas as z
use Rattle.sq_syntax.specs.Schemas.{begins_two, begins_type_change, first_run, is_unqualified, is_bare_if, is as is_letters}
use Rattle.sq_grammar.specs.Reading.{◌>>◌, pure, choose, sees, expect, same}
use Rattle.sq_grammar.specs.Statements.{begins_word}
use Rattle.sq_grammar.specs.Schemas.{begins_sign, sees_both, ahead, alter_table, neighbour, add_value, rename_value, change_of_type, alter_type}
use Rattle.sq_grammar.proofs.Runs.{both}
use Rattle.sq_grammar.proofs.Complete.{says_expect, says_begins}
use Rattle.sq_grammar.proofs.Joints.{false_true}
use Rattle.sq_grammar.proofs.Aliases.{neither_of}
use Rattle.sq_grammar.proofs.ReadTypes.{other_symbol}
use Rattle.sq_grammar.proofs.KeyWords.{says_word, that_word, word_begins, word_no_symbol}
use Rattle.sq_grammar.proofs.TakeRuns.{ends_at}
use Rattle.sq_grammar.proofs.Between.{Between, split, on, if_so, if_not}
use Rattle.sq_grammar.proofs.Heads.{both_letters, other_letters, unlike_first, unlike_second, not_true, first_no_word, name_unlike, qualified_first}
use Rattle.sq_grammar.proofs.ReadAlone.{ended, name_alone, qualified_alone, text_alone, optional_word_alone}
use Rattle.sq_grammar.proofs.ReadRuns.{some_run_alone}
use Rattle.sq_grammar.proofs.SchemaWords.{if_exists_alone, if_not_exists_alone}
use Rattle.sq_grammar.proofs.ActionHeads.{readings_of, ahead_tokens, letters_ahead, plain_type, no_dot}
use Rattle.sq_grammar.proofs.ReadAlters.{Foreign, change_alone, change_foreign, change_no_dot}

-- ---- ALTER TABLE

star_alone : (b : Bool) (now next : Stream) → Between (p.when b s.Times) now next → (b ≡ false → begins_sign (codes "*") next.tokens ≡ false) → choose (λ u. begins_sign (codes "*") u.tokens) (expect s.Times >> pure true) (pure false) now ≡ Some (b, next)
star_alone true now next h e = if_so _ (ap (begins_sign (codes "*")) h.1.first) (on _ (says_expect s.Times now h.0 h.1) (ended h.2))
star_alone false now next h e = if_not _ (ap (λ (u : Stream). begins_sign (codes "*") u.tokens) h ∙ e refl) (ended h)

star_unseen : (b c : Bool) → b || not c ≡ true → b ≡ false → c ≡ false
star_unseen true c h e = absurd (false_true (sym e))
star_unseen false c h e = not_true c h

star_foreign : Foreign (codes "*")
star_foreign = record { add = refl; drop = refl; alter = refl; rename = refl; set = refl }

exists_foreign : Foreign (codes "exists")
exists_foreign = record { add = refl; drop = refl; alter = refl; rename = refl; set = refl }

star_no_dot : (b : Bool) (y : TableChange) (now u next : Stream) → Between (p.when b s.Times) now u → Between (z.change_of_table y) u next → sees s.Dot now ≡ false
unfolding same
star_no_dot true y now u next h c = other_symbol s.Dot s.Times now h.0 h.1 refl
star_no_dot false y now u next h c = ap (sees s.Dot) h ∙ change_no_dot y u next c

-- behind the name IF stands no EXISTS
star_no_exists : (b : Bool) (y : TableChange) (now u next : Stream) → Between (p.when b s.Times) now u → Between (z.change_of_table y) u next → b || not (first_run (is_letters (codes "exists")) y) ≡ true → begins_sign (codes "exists") now.tokens ≡ false
star_no_exists true y now u next h c e = other_letters (codes "exists") (reading.Symbol s.Times) now h.0 h.1 refl
star_no_exists false y now u next h c e =
    ap (λ (v : Stream). begins_sign (codes "exists") v.tokens) h ∙ change_foreign (codes "exists") exists_foreign y u next c (not_true (first_run (is_letters (codes "exists")) y) e)

table_no_exists : (star : Bool) (schema : Option Identifier) (x : Identifier) (y : TableChange) (now u v next : Stream) → Between (p.schema_name schema ++ p.name x) now u → Between (p.when star s.Times) u v → Between (z.change_of_table y) v next
    → star || not ((is_unqualified schema && is_letters (codes "if") (identifier_reading x)) && first_run (is_letters (codes "exists")) y) ≡ true → sees_both (codes "if") (codes "exists") now ≡ false
table_no_exists star (Some q) x y now u v next h k c e =
    let d = h.1.1 in
    unlike_second (codes "if") (codes "exists") (identifier_reading q) now d.0 d.1 (other_letters (codes "exists") (reading.Symbol s.Dot) d.0 d.2.0 d.2.1 refl)
table_no_exists star None x y now u v next h k c e = by_if (is_letters (codes "if") (identifier_reading x)) refl e
  where
    by_if : (b : Bool) → is_letters (codes "if") (identifier_reading x) ≡ b → star || not (b && first_run (is_letters (codes "exists")) y) ≡ true → sees_both (codes "if") (codes "exists") now ≡ false
    by_if false i g = unlike_first (codes "if") (codes "exists") (identifier_reading x) now h.1.1.0 h.1.1.1 i
    by_if true i g = name_unlike (codes "if") (codes "exists") x now u h (star_no_exists star y u v next k c g)

only_no_exists : (only star : Bool) (q : QualifiedName) (y : TableChange) (now t u v next : Stream) → Between (z.when_word only (codes "only")) now t → Between (p.qualified_name q) t u → Between (p.when star s.Times) u v → Between (z.change_of_table y) v next
    → only || (star || not (is_bare_if q && first_run (is_letters (codes "exists")) y)) ≡ true → sees_both (codes "if") (codes "exists") now ≡ false
only_no_exists true star q y now t u v next o h k c e = unlike_first (codes "if") (codes "exists") (reading.Word (codes "only")) now o.0 o.1 refl
only_no_exists false star q y now t u v next o h k c e = ap (sees_both (codes "if") (codes "exists")) o ∙ table_no_exists star q.schema q.name y t u v next h k c e

unless_said : (b c : Bool) → b || c ≡ true → b ≡ false → c ≡ true
unless_said true c h e = absurd (false_true (sym e))
unless_said false c h e = h

pub alter_table_alone : (x : AlterTable) (now next : Stream) → Between (z.alter_table x) now next → next.tokens ≡ [] → alter_table now ≡ Some (x, next)
unfolding alter_table
alter_table_alone x now next h over =
    let exists = z.if_exists x.if_exists in
    let only = z.when_word x.has_only (codes "only") in
    let named = p.qualified_name x.name in
    let star = p.when x.has_star s.Times in
    let k = h.2 in
    let a = split (((exists ++ only) ++ named) ++ star) (Piece.need (z.names_its_table x) ∷ z.change_of_table x.change) k.0 next k.2 in
    let b = split ((exists ++ only) ++ named) star k.0 a.0 a.1 in
    let c = split (exists ++ only) named k.0 b.0 b.1 in
    let d = split exists only k.0 c.0 c.1 in
    let names = both (x.has_star || not (first_run (is_letters (codes "*")) x.change)) _ a.2.0 in
    let change = a.2.1 in
    on _ (says_word (codes "alter") now h.0 h.1) (
    on _ (says_word (codes "table") h.0 k.0 k.1) (
    on _ (if_exists_alone x.if_exists k.0 d.0 d.1 (λ unsaid. only_no_exists x.has_only x.has_star x.name x.change d.0 c.0 b.0 a.0 next d.2 c.2 b.2 change (unless_said x.if_exists _ names.1 unsaid))) (
    on _ (optional_word_alone (codes "only") x.has_only d.0 c.0 d.2 (first_no_word (codes "only") c.0 refl (qualified_first x.name c.0 b.0 c.2))) (
    on _ (qualified_alone x.name c.0 b.0 c.2 (star_no_dot x.has_star x.change b.0 a.0 next b.2 change)) (
    on _ (star_alone x.has_star b.0 a.0 b.2 (λ unsaid. change_foreign (codes "*") star_foreign x.change a.0 next change (star_unseen x.has_star _ names.0 unsaid))) (
    on _ (change_alone x.change a.0 next change over) refl))))))

-- ---- ALTER TYPE

neighbour_alone : (x : Neighbour) (now next : Stream) → Between (z.neighbour x) now next → next.tokens ≡ [] → neighbour now ≡ Some (x, next)
unfolding neighbour
neighbour_alone neighbour_kind.Unsaid now next h over =
    let here = ap (λ (u : Stream). u.tokens) h ∙ over in
    if_not _ (ap (begins_word (codes "before")) here) (if_not _ (ap (begins_word (codes "after")) here) (ended h))
neighbour_alone (neighbour_kind.Before bytes) now next h over = if_so _ (that_word (codes "before") now h.0 h.1) (on _ (says_word (codes "before") now h.0 h.1) (on _ (text_alone bytes h.0 next h.2) refl))
neighbour_alone (neighbour_kind.After bytes) now next h over =
    if_not _ (word_begins (codes "before") (reading.Word (codes "after")) now h.0 h.1) (if_so _ (that_word (codes "after") now h.0 h.1) (on _ (says_word (codes "after") now h.0 h.1) (on _ (text_alone bytes h.0 next h.2) refl)))

-- neither of two second words
two_either : (first one other : Reading → Bool) (run : List Reading) → begins_two first (λ q. one q || other q) run ≡ false → (begins_two first one run ≡ false) × (begins_two first other run ≡ false)
two_either first one other [] h = (refl, refl)
two_either first one other (r ∷ []) h = (refl, refl)
two_either first one other (r ∷ q ∷ run) h = by_first (first r) h
  where
    by_first : (b : Bool) → b && (one q || other q) ≡ false → (b && one q ≡ false) × (b && other q ≡ false)
    by_first true k = neither_of (one q) (other q) k
    by_first false k = (refl, refl)

type_change_alone : (x : TypeChange) (now next : Stream) → Between (z.change_of_type x) now next → next.tokens ≡ [] → change_of_type now ≡ Some (x, next)
unfolding change_of_type add_value rename_value
type_change_alone (type_change.AddValue unless bytes x) now next h over =
    let v = h.2 in
    let a = split (z.if_not_exists unless ++ z.label bytes) (z.neighbour x) v.0 next v.2 in
    let b = split (z.if_not_exists unless) (z.label bytes) v.0 a.0 a.1 in
    if_so _ (both_letters (codes "add") (codes "value") (reading.Word (codes "add")) (reading.Word (codes "value")) now h.0 v.0 h.1 v.1 refl refl) (
    on _ (says_word (codes "add") now h.0 h.1) (
    on _ (says_word (codes "value") h.0 v.0 v.1) (
    on _ (if_not_exists_alone unless v.0 b.0 b.1 (unlike_first (codes "if") (codes "not") (reading.Text bytes) b.0 b.2.0 b.2.1 refl)) (
    on _ (text_alone bytes b.0 a.0 b.2) (
    on _ (neighbour_alone x a.0 next a.2 over) refl)))))
type_change_alone (type_change.RenameValue from to) now next h over =
    let v = h.2 in
    let m = split (z.label from) (key_word (codes "to") ∷ z.label to) v.0 next v.2 in
    let t = m.2 in
    if_not _ (unlike_first (codes "add") (codes "value") (reading.Word (codes "rename")) now h.0 h.1 refl) (
    if_so _ (both_letters (codes "rename") (codes "value") (reading.Word (codes "rename")) (reading.Word (codes "value")) now h.0 v.0 h.1 v.1 refl refl) (
    on _ (says_word (codes "rename") now h.0 h.1) (
    on _ (says_word (codes "value") h.0 v.0 v.1) (
    on _ (text_alone from v.0 m.0 m.1) (
    on _ (says_word (codes "to") m.0 t.0 t.1) (
    on _ (text_alone to t.0 next t.2) refl))))))
type_change_alone (type_change.RenameTo x) now next h over =
    let t = h.2 in
    if_not _ (unlike_first (codes "add") (codes "value") (reading.Word (codes "rename")) now h.0 h.1 refl) (
    if_not _ (unlike_second (codes "rename") (codes "value") (reading.Word (codes "rename")) now h.0 h.1 (other_letters (codes "value") (reading.Word (codes "to")) h.0 t.0 t.1 refl)) (
    if_so _ (both_letters (codes "rename") (codes "to") (reading.Word (codes "rename")) (reading.Word (codes "to")) now h.0 t.0 h.1 t.1 refl refl) (
    on _ (says_word (codes "rename") now h.0 h.1) (on _ (says_word (codes "to") h.0 t.0 t.1) (on _ (name_alone x t.0 next t.2) refl)))))
type_change_alone (type_change.SetSchema x) now next h over =
    let k = h.2 in
    if_not _ (unlike_first (codes "add") (codes "value") (reading.Word (codes "set")) now h.0 h.1 refl) (
    if_not _ (unlike_first (codes "rename") (codes "value") (reading.Word (codes "set")) now h.0 h.1 refl) (
    if_not _ (unlike_first (codes "rename") (codes "to") (reading.Word (codes "set")) now h.0 h.1 refl) (
    if_so _ (both_letters (codes "set") (codes "schema") (reading.Word (codes "set")) (reading.Word (codes "schema")) now h.0 k.0 h.1 k.1 refl refl) (
    on _ (says_word (codes "set") now h.0 h.1) (on _ (says_word (codes "schema") h.0 k.0 k.1) (on _ (name_alone x k.0 next k.2) refl))))))
type_change_alone (type_change.Other []) now next h over = absurd (false_true h.1.0)
type_change_alone (type_change.Other (r ∷ run)) now next h over =
    let t = h.1.1.1 in
    let k = plain_type r run (not_true (begins_type_change (r ∷ run)) h.0) in
    let all : ahead now ≡ r ∷ run = ahead_tokens (r ∷ run) now next t ∙ ap (λ tokens. r ∷ run ++ readings_of tokens) over ∙ append-nil (r ∷ run) in
    let renames = two_either (is_letters (codes "rename")) (is_letters (codes "value")) (is_letters (codes "to")) (r ∷ run) k.rename in
    if_not _ (unseen (codes "add") (codes "value") all k.add) (
    if_not _ (unseen (codes "rename") (codes "value") all renames.0) (
    if_not _ (unseen (codes "rename") (codes "to") all renames.1) (
    if_not _ (unseen (codes "set") (codes "schema") all k.schema) (
    if_not _ (other_letters (codes ".") r now t.0 t.1 k.dot) (
    on _ (some_run_alone no_stop (r ∷ run) now next h.1 (ap (ends_at no_stop) over)) refl)))))
  where
    unseen : (first second : List ℕ) → ahead now ≡ r ∷ run → begins_two (is_letters first) (is_letters second) (r ∷ run) ≡ false → sees_both first second now ≡ false
    unseen first second e g = letters_ahead first second now.tokens ∙ ap (begins_two (is_letters first) (is_letters second)) e ∙ g

type_change_no_dot : (x : TypeChange) (now next : Stream) → Between (z.change_of_type x) now next → sees s.Dot now ≡ false
type_change_no_dot (type_change.AddValue unless bytes x) now next h = word_no_symbol s.Dot (codes "add") now h.0 h.1
type_change_no_dot (type_change.RenameValue from to) now next h = word_no_symbol s.Dot (codes "rename") now h.0 h.1
type_change_no_dot (type_change.RenameTo x) now next h = word_no_symbol s.Dot (codes "rename") now h.0 h.1
type_change_no_dot (type_change.SetSchema x) now next h = word_no_symbol s.Dot (codes "set") now h.0 h.1
type_change_no_dot (type_change.Other []) now next h = absurd (false_true h.1.0)
type_change_no_dot (type_change.Other (r ∷ run)) now next h =
    let t = h.1.1.1 in
    says_begins s.Dot r now t.0 t.1 ∙ no_dot r (plain_type r run (not_true (begins_type_change (r ∷ run)) h.0)).dot

pub alter_type_alone : (x : AlterType) (now next : Stream) → Between (z.alter_type x) now next → next.tokens ≡ [] → alter_type now ≡ Some (x, next)
unfolding alter_type
alter_type_alone x now next h over =
    let k = h.2 in
    let m = split (p.qualified_name x.name) (z.change_of_type x.change) k.0 next k.2 in
    on _ (says_word (codes "alter") now h.0 h.1) (
    on _ (says_word (codes "type") h.0 k.0 k.1) (
    on _ (qualified_alone x.name k.0 m.0 m.1 (type_change_no_dot x.change m.0 next m.2)) (
    on _ (type_change_alone x.change m.0 next m.2 over) refl)))
