-- Constraints of columns and domains are read as they are spelled.
use Rattle.std.proofs.Common.{◌≡◌, ◌≤◌, Bool, true, false, List, [], ◌∷◌, ◌++◌, Option, Some, None, refl, ap, ◌∙◌, arith}
use Rattle.std.specs.Prelude.{◌||◌, not, codes, flat_map}
use Rattle.sq_syntax.specs.declared.symbol.Symbol.TheVariants as s
use Rattle.sq_syntax.specs.declared.symbol.Reading.{Reading}
use Rattle.sq_syntax.specs.declared.symbol.Reading.TheVariants as reading
use Rattle.sq_syntax.specs.declared.name.Identifier.{Identifier}
use Rattle.sq_syntax.specs.declared.ddl.Column.{Column}
use Rattle.sq_syntax.specs.declared.ddl.Constraint.{Constraint}
use Rattle.sq_syntax.specs.declared.ddl.ConstraintForm.{ConstraintForm}
use Rattle.sq_syntax.specs.declared.ddl.ConstraintForm.TheVariants as constraint_kind
use Rattle.sq_syntax.specs.Facts.{Stream}
use Rattle.sq_syntax.specs.Pieces as p
use Rattle.sq_syntax.specs.Pieces.{sym as word}
use Rattle.sq_syntax.specs.Schemas as z
use Rattle.sq_syntax.specs.Schemas.{is_comma, ends_default}
use Rattle.sq_grammar.specs.Reading.{same}
use Rattle.sq_grammar.specs.Ahead.{Lexemes}
use Rattle.sq_grammar.specs.Statements.{sees_word}
use Rattle.sq_grammar.specs.Schemas.{closes, constraint_name, constraint_form, constraint, starts_constraint, begins_constraint, constraints, column}
use Rattle.sq_grammar.proofs.Runs.{both, said}
use Rattle.sq_grammar.proofs.Complete.{says_expect}
use Rattle.sq_grammar.proofs.Joints.{false_true}
use Rattle.sq_grammar.proofs.Aliases.{first_of, second_of}
use Rattle.sq_grammar.proofs.ReadTypes.{is_type_sign, goes_on_type, other_symbol, that_symbol}
use Rattle.sq_grammar.proofs.KeyWords.{says_word, that_word, word_begins, symbol_no_word, word_no_symbol}
use Rattle.sq_grammar.proofs.TakeRuns.{ends_at}
use Rattle.sq_grammar.proofs.Between.{Between, split, on, if_so, if_not}
use Rattle.sq_grammar.proofs.Heads.{ends, no_symbol, no_type}
use Rattle.sq_grammar.proofs.ReadAlone.{ended, name_alone, qualified_alone, type_alone, field_alone, Several, items_over, many_alone}
use Rattle.sq_grammar.proofs.ReadRuns.{default_alone}
use Rattle.sq_grammar.proofs.SchemaWords.{closing}
use Rattle.sq_grammar.proofs.ReadReferences.{after_constraint, check_alone, reference_alone, identity_alone, stored_alone}

-- ---- what stands behind a constraint

either : (a b c : Bool) → a || b ≡ true → (a ≡ true → c ≡ true) → (b ≡ true → c ≡ true) → c ≡ true
either true b c h f g = f refl
either false b c h f g = g h

closing_ends : (r : Reading) → closing r ≡ true → ends_default r || closes r ≡ true
closing_ends (reading.Symbol s.Comma) h = refl
closing_ends (reading.Symbol s.Close) h = refl
closing_ends _ h = absurd (false_true h)

default_end : (r : Reading) → after_constraint r ≡ true → ends_default r || closes r ≡ true
default_end r h = either (closing r) (starts_constraint r) (ends_default r || closes r) h (closing_ends r) (λ k. first_of (ends_default r) (closes r) (both (ends_default r) (not (is_comma r)) k).0)

ends_default_run : (tokens : Lexemes) → ends after_constraint tokens ≡ true → ends_at ends_default tokens ≡ true
ends_default_run [] h = refl
ends_default_run (x ∷ rest) h = default_end x.reading h

sign_ends : (r : Reading) → after_constraint r ≡ true → is_type_sign r ≡ false
sign_ends (reading.Symbol s.Dot) h = absurd (false_true h)
sign_ends (reading.Symbol s.Precision) h = absurd (false_true h)
sign_ends (reading.Symbol s.Varying) h = absurd (false_true h)
sign_ends (reading.Symbol s.Open) h = absurd (false_true h)
sign_ends (reading.Symbol s.With) h = absurd (false_true h)
sign_ends (reading.Symbol s.Without) h = absurd (false_true h)
sign_ends (reading.Symbol s.OpenSquare) h = absurd (false_true h)
sign_ends (reading.Symbol _) h = refl
sign_ends _ h = refl

starts_of : (tokens : Lexemes) → begins_constraint tokens ≡ true → ends after_constraint tokens ≡ true
starts_of [] h = absurd (false_true h)
starts_of (x ∷ rest) h = second_of (closing x.reading) (starts_constraint x.reading) h

closing_starts_none : (r : Reading) → closing r ≡ true → starts_constraint r ≡ false
closing_starts_none (reading.Symbol s.Comma) h = refl
closing_starts_none (reading.Symbol s.Close) h = refl
closing_starts_none _ h = absurd (false_true h)

none_begins : (tokens : Lexemes) → ends closing tokens ≡ true → begins_constraint tokens ≡ false
none_begins [] h = refl
none_begins (x ∷ rest) h = closing_starts_none x.reading h

closed_constraint : (tokens : Lexemes) → ends closing tokens ≡ true → ends after_constraint tokens ≡ true
closed_constraint [] h = refl
closed_constraint (x ∷ rest) h = first_of (closing x.reading) (starts_constraint x.reading) h

-- ---- constraints

form_alone : (x : ConstraintForm) (now next : Stream) → Between (z.constraint_form x) now next → ends after_constraint next.tokens ≡ true → constraint_form now ≡ Some (x, next)
unfolding constraint_form same
form_alone constraint_kind.NotNull now next h e =
    if_so _ (that_symbol s.Not now h.0 h.1) (
    on _ (says_expect s.Not now h.0 h.1) (if_so _ (that_symbol s.Null h.0 h.2.0 h.2.1) (on _ (says_expect s.Null h.0 h.2.0 h.2.1) (ended h.2.2))))
form_alone constraint_kind.Null now next h e =
    if_not _ (other_symbol s.Not s.Null now h.0 h.1 refl) (
    if_so _ (that_symbol s.Null now h.0 h.1) (
    on _ (says_expect s.Null now h.0 h.1) (ended h.2)))
form_alone constraint_kind.PrimaryKey now next h e =
    if_not _ (word_no_symbol s.Not (codes "primary") now h.0 h.1) (
    if_not _ (word_no_symbol s.Null (codes "primary") now h.0 h.1) (
    if_so _ (that_word (codes "primary") now h.0 h.1) (
    on _ (says_word (codes "primary") now h.0 h.1) (on _ (says_expect s.Key h.0 h.2.0 h.2.1) (ended h.2.2)))))
form_alone constraint_kind.Unique now next h e =
    if_not _ (word_no_symbol s.Not (codes "unique") now h.0 h.1) (
    if_not _ (word_no_symbol s.Null (codes "unique") now h.0 h.1) (
    if_not _ (word_begins (codes "primary") (reading.Word (codes "unique")) now h.0 h.1) (
    if_so _ (that_word (codes "unique") now h.0 h.1) (
    on _ (says_word (codes "unique") now h.0 h.1) (ended h.2)))))
form_alone (constraint_kind.Collate x) now next h e =
    if_not _ (other_symbol s.Not s.Collate now h.0 h.1 refl) (
    if_not _ (other_symbol s.Null s.Collate now h.0 h.1 refl) (
    if_not _ (symbol_no_word (codes "primary") s.Collate now h.0 h.1) (
    if_not _ (symbol_no_word (codes "unique") s.Collate now h.0 h.1) (
    if_so _ (that_symbol s.Collate now h.0 h.1) (
    on _ (says_expect s.Collate now h.0 h.1) (on _ (qualified_alone x h.0 next h.2 (no_symbol after_constraint s.Dot next.tokens refl e)) refl))))))
form_alone (constraint_kind.Default run) now next h e =
    if_not _ (word_no_symbol s.Not (codes "default") now h.0 h.1) (
    if_not _ (word_no_symbol s.Null (codes "default") now h.0 h.1) (
    if_not _ (word_begins (codes "primary") (reading.Word (codes "default")) now h.0 h.1) (
    if_not _ (word_begins (codes "unique") (reading.Word (codes "default")) now h.0 h.1) (
    if_not _ (word_no_symbol s.Collate (codes "default") now h.0 h.1) (
    if_so _ (that_word (codes "default") now h.0 h.1) (
    on _ (says_word (codes "default") now h.0 h.1) (on _ (default_alone run h.0 next h.2.0 h.2.1 (ends_default_run next.tokens e)) refl)))))))
form_alone (constraint_kind.Check run alone) now next h e =
    if_not _ (word_no_symbol s.Not (codes "check") now h.0 h.1) (
    if_not _ (word_no_symbol s.Null (codes "check") now h.0 h.1) (
    if_not _ (word_begins (codes "primary") (reading.Word (codes "check")) now h.0 h.1) (
    if_not _ (word_begins (codes "unique") (reading.Word (codes "check")) now h.0 h.1) (
    if_not _ (word_no_symbol s.Collate (codes "check") now h.0 h.1) (
    if_not _ (word_begins (codes "default") (reading.Word (codes "check")) now h.0 h.1) (
    if_so _ (that_word (codes "check") now h.0 h.1) (
    check_alone run alone now next h e)))))))
form_alone (constraint_kind.References x) now next h e =
    if_not _ (word_no_symbol s.Not (codes "references") now h.0 h.1) (
    if_not _ (word_no_symbol s.Null (codes "references") now h.0 h.1) (
    if_not _ (word_begins (codes "primary") (reading.Word (codes "references")) now h.0 h.1) (
    if_not _ (word_begins (codes "unique") (reading.Word (codes "references")) now h.0 h.1) (
    if_not _ (word_no_symbol s.Collate (codes "references") now h.0 h.1) (
    if_not _ (word_begins (codes "default") (reading.Word (codes "references")) now h.0 h.1) (
    if_not _ (word_begins (codes "check") (reading.Word (codes "references")) now h.0 h.1) (
    if_so _ (that_word (codes "references") now h.0 h.1) (
    reference_alone x now next h e))))))))
form_alone (constraint_kind.Identity x run) now next h e =
    if_not _ (word_no_symbol s.Not (codes "generated") now h.0 h.1) (
    if_not _ (word_no_symbol s.Null (codes "generated") now h.0 h.1) (
    if_not _ (word_begins (codes "primary") (reading.Word (codes "generated")) now h.0 h.1) (
    if_not _ (word_begins (codes "unique") (reading.Word (codes "generated")) now h.0 h.1) (
    if_not _ (word_no_symbol s.Collate (codes "generated") now h.0 h.1) (
    if_not _ (word_begins (codes "default") (reading.Word (codes "generated")) now h.0 h.1) (
    if_not _ (word_begins (codes "check") (reading.Word (codes "generated")) now h.0 h.1) (
    if_not _ (word_begins (codes "references") (reading.Word (codes "generated")) now h.0 h.1) (
    if_so _ (that_word (codes "generated") now h.0 h.1) (
    identity_alone x run now next h e)))))))))
form_alone (constraint_kind.Stored run) now next h e =
    if_not _ (word_no_symbol s.Not (codes "generated") now h.0 h.1) (
    if_not _ (word_no_symbol s.Null (codes "generated") now h.0 h.1) (
    if_not _ (word_begins (codes "primary") (reading.Word (codes "generated")) now h.0 h.1) (
    if_not _ (word_begins (codes "unique") (reading.Word (codes "generated")) now h.0 h.1) (
    if_not _ (word_no_symbol s.Collate (codes "generated") now h.0 h.1) (
    if_not _ (word_begins (codes "default") (reading.Word (codes "generated")) now h.0 h.1) (
    if_not _ (word_begins (codes "check") (reading.Word (codes "generated")) now h.0 h.1) (
    if_not _ (word_begins (codes "references") (reading.Word (codes "generated")) now h.0 h.1) (
    if_so _ (that_word (codes "generated") now h.0 h.1) (
    stored_alone run now next h)))))))))
form_alone constraint_kind.Deferrable now next h e =
    if_not _ (word_no_symbol s.Not (codes "deferrable") now h.0 h.1) (
    if_not _ (word_no_symbol s.Null (codes "deferrable") now h.0 h.1) (
    if_not _ (word_begins (codes "primary") (reading.Word (codes "deferrable")) now h.0 h.1) (
    if_not _ (word_begins (codes "unique") (reading.Word (codes "deferrable")) now h.0 h.1) (
    if_not _ (word_no_symbol s.Collate (codes "deferrable") now h.0 h.1) (
    if_not _ (word_begins (codes "default") (reading.Word (codes "deferrable")) now h.0 h.1) (
    if_not _ (word_begins (codes "check") (reading.Word (codes "deferrable")) now h.0 h.1) (
    if_not _ (word_begins (codes "references") (reading.Word (codes "deferrable")) now h.0 h.1) (
    if_not _ (word_begins (codes "generated") (reading.Word (codes "deferrable")) now h.0 h.1) (
    if_so _ (that_word (codes "deferrable") now h.0 h.1) (
    on _ (says_word (codes "deferrable") now h.0 h.1) (ended h.2)))))))))))
form_alone constraint_kind.NotDeferrable now next h e =
    if_so _ (that_symbol s.Not now h.0 h.1) (
    on _ (says_expect s.Not now h.0 h.1) (if_not _ (word_no_symbol s.Null (codes "deferrable") h.0 h.2.0 h.2.1) (on _ (says_word (codes "deferrable") h.0 h.2.0 h.2.1) (ended h.2.2))))
form_alone (constraint_kind.Initially letters) now next h e =
    if_not _ (word_no_symbol s.Not (codes "initially") now h.0 h.1) (
    if_not _ (word_no_symbol s.Null (codes "initially") now h.0 h.1) (
    if_not _ (word_begins (codes "primary") (reading.Word (codes "initially")) now h.0 h.1) (
    if_not _ (word_begins (codes "unique") (reading.Word (codes "initially")) now h.0 h.1) (
    if_not _ (word_no_symbol s.Collate (codes "initially") now h.0 h.1) (
    if_not _ (word_begins (codes "default") (reading.Word (codes "initially")) now h.0 h.1) (
    if_not _ (word_begins (codes "check") (reading.Word (codes "initially")) now h.0 h.1) (
    if_not _ (word_begins (codes "references") (reading.Word (codes "initially")) now h.0 h.1) (
    if_not _ (word_begins (codes "generated") (reading.Word (codes "initially")) now h.0 h.1) (
    if_not _ (word_begins (codes "deferrable") (reading.Word (codes "initially")) now h.0 h.1) (
    on _ (says_word (codes "initially") now h.0 h.1) (on _ (field_alone letters h.0 next h.2) refl)))))))))))

-- each constraint begins with a word by which a default value ends
form_first : (x : ConstraintForm) (now next : Stream) → Between (z.constraint_form x) now next → begins_constraint now.tokens ≡ true
form_first constraint_kind.NotNull now next h = ap begins_constraint h.1.first
form_first constraint_kind.Null now next h = ap begins_constraint h.1.first
form_first constraint_kind.PrimaryKey now next h = ap begins_constraint h.1.first
form_first constraint_kind.Unique now next h = ap begins_constraint h.1.first
form_first (constraint_kind.Collate x) now next h = ap begins_constraint h.1.first
form_first (constraint_kind.Default run) now next h = ap begins_constraint h.1.first
form_first (constraint_kind.Check run alone) now next h = ap begins_constraint h.1.first
form_first (constraint_kind.References x) now next h = ap begins_constraint h.1.first
form_first (constraint_kind.Identity x run) now next h = ap begins_constraint h.1.first
form_first (constraint_kind.Stored run) now next h = ap begins_constraint h.1.first
form_first constraint_kind.Deferrable now next h = ap begins_constraint h.1.first
form_first constraint_kind.NotDeferrable now next h = ap begins_constraint h.1.first
form_first (constraint_kind.Initially letters) now next h = ap begins_constraint h.1.first

form_said : (x : ConstraintForm) → 1 ≤ said (z.constraint_form x)
form_said constraint_kind.NotNull = omega arith
form_said constraint_kind.Null = omega arith
form_said constraint_kind.PrimaryKey = omega arith
form_said constraint_kind.Unique = omega arith
form_said (constraint_kind.Collate x) = omega arith
form_said (constraint_kind.Default run) = omega arith
form_said (constraint_kind.Check run alone) = omega arith
form_said (constraint_kind.References x) = omega arith
form_said (constraint_kind.Identity x run) = omega arith
form_said (constraint_kind.Stored run) = omega arith
form_said constraint_kind.Deferrable = omega arith
form_said constraint_kind.NotDeferrable = omega arith
form_said (constraint_kind.Initially letters) = omega arith

form_unnamed : (x : ConstraintForm) (now next : Stream) → Between (z.constraint_form x) now next → sees_word (codes "constraint") now ≡ false
form_unnamed constraint_kind.NotNull now next h = symbol_no_word (codes "constraint") s.Not now h.0 h.1
form_unnamed constraint_kind.Null now next h = symbol_no_word (codes "constraint") s.Null now h.0 h.1
form_unnamed constraint_kind.PrimaryKey now next h = word_begins (codes "constraint") (reading.Word (codes "primary")) now h.0 h.1
form_unnamed constraint_kind.Unique now next h = word_begins (codes "constraint") (reading.Word (codes "unique")) now h.0 h.1
form_unnamed (constraint_kind.Collate x) now next h = symbol_no_word (codes "constraint") s.Collate now h.0 h.1
form_unnamed (constraint_kind.Default run) now next h = word_begins (codes "constraint") (reading.Word (codes "default")) now h.0 h.1
form_unnamed (constraint_kind.Check run alone) now next h = word_begins (codes "constraint") (reading.Word (codes "check")) now h.0 h.1
form_unnamed (constraint_kind.References x) now next h = word_begins (codes "constraint") (reading.Word (codes "references")) now h.0 h.1
form_unnamed (constraint_kind.Identity x run) now next h = word_begins (codes "constraint") (reading.Word (codes "generated")) now h.0 h.1
form_unnamed (constraint_kind.Stored run) now next h = word_begins (codes "constraint") (reading.Word (codes "generated")) now h.0 h.1
form_unnamed constraint_kind.Deferrable now next h = word_begins (codes "constraint") (reading.Word (codes "deferrable")) now h.0 h.1
form_unnamed constraint_kind.NotDeferrable now next h = symbol_no_word (codes "constraint") s.Not now h.0 h.1
form_unnamed (constraint_kind.Initially letters) now next h = word_begins (codes "constraint") (reading.Word (codes "initially")) now h.0 h.1

constraint_said : (x : Constraint) → 1 ≤ said (z.constraint x)
constraint_said x = by_name x.name
  where
    by_name : (name : Option Identifier) → 1 ≤ said (z.constraint_name name ++ z.constraint_form x.form)
    by_name None = form_said x.form
    by_name (Some y) = omega arith

pub name_of_constraint : (x : Option Identifier) (now next : Stream) → Between (z.constraint_name x) now next → sees_word (codes "constraint") next ≡ false → constraint_name now ≡ Some (x, next)
unfolding constraint_name
name_of_constraint None now next h e = if_not _ (ap (sees_word (codes "constraint")) h ∙ e) (ended h)
name_of_constraint (Some x) now next h e = if_so _ (that_word (codes "constraint") now h.0 h.1) (on _ (says_word (codes "constraint") now h.0 h.1) (on _ (name_alone x h.0 next h.2) refl))

constraint_alone : (x : Constraint) (now next : Stream) → Between (z.constraint x) now next → ends after_constraint next.tokens ≡ true → constraint now ≡ Some (x, next)
unfolding constraint
constraint_alone x now next h e =
    let m = split (z.constraint_name x.name) (z.constraint_form x.form) now next h in
    on _ (name_of_constraint x.name now m.0 m.1 (form_unnamed x.form m.0 next m.2)) (on _ (form_alone x.form m.0 next m.2 e) refl)

constraint_first : (x : Constraint) (now next : Stream) → Between (z.constraint x) now next → begins_constraint now.tokens ≡ true
constraint_first x now next h = by_name x.name h
  where
    by_name : (name : Option Identifier) → Between (z.constraint_name name ++ z.constraint_form x.form) now next → begins_constraint now.tokens ≡ true
    by_name None k = form_first x.form now next k
    by_name (Some y) k = ap begins_constraint k.1.first

abbrev over_constraint : Stream → Bool
over_constraint u = ends after_constraint u.tokens

several_constraints : Several (λ u. begins_constraint u.tokens) constraint z.constraint over_constraint
several_constraints = record {
  begun = constraint_first;
  before = λ x now next h. starts_of now.tokens (constraint_first x now next h);
  some = constraint_said;
  reads = constraint_alone;
}

pub constraints_alone : (xs : List Constraint) (now next : Stream) → Between (flat_map z.constraint xs) now next → ends closing next.tokens ≡ true → constraints now ≡ Some (xs, next)
unfolding constraints
constraints_alone xs now next h e =
    many_alone (λ u. begins_constraint u.tokens) constraint z.constraint over_constraint several_constraints xs now next h (none_begins next.tokens e) (closed_constraint next.tokens e)

-- no constraint goes on with a type
pub constraints_end_type : (xs : List Constraint) (now next : Stream) → Between (flat_map z.constraint xs) now next → ends closing next.tokens ≡ true → goes_on_type now.tokens ≡ false
constraints_end_type xs now next h e =
    no_type after_constraint now.tokens sign_ends (items_over (λ u. begins_constraint u.tokens) constraint z.constraint over_constraint several_constraints xs now next h (closed_constraint next.tokens e))

pub column_alone : (x : Column) (now next : Stream) → Between (z.column x) now next → ends closing next.tokens ≡ true → column now ≡ Some (x, next)
unfolding column
column_alone x now next h e =
    let a = split (p.name x.name ++ p.type x.of) (flat_map z.constraint x.constraints) now next h in
    let b = split (p.name x.name) (p.type x.of) now a.0 a.1 in
    on _ (name_alone x.name now b.0 b.1) (on _ (type_alone x.of b.0 a.0 b.2 (constraints_end_type x.constraints a.0 next a.2 e)) (on _ (constraints_alone x.constraints a.0 next a.2 e) refl))
