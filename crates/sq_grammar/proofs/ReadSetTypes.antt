-- ALTER COLUMN .. TYPE, and every action of ALTER TABLE, are read as they are spelled.
use Rattle.std.proofs.Common.{◌≡◌, Bool, true, false, List, [], ◌∷◌, ◌++◌, Option, Some, None, refl, ap, ◌∙◌}
use Rattle.std.specs.Prelude.{if◌then◌else◌, codes}
use Rattle.sq_syntax.specs.declared.symbol.Symbol.TheVariants as s
use Rattle.sq_syntax.specs.declared.symbol.Reading.{Reading}
use Rattle.sq_syntax.specs.declared.symbol.Reading.TheVariants as reading
use Rattle.sq_syntax.specs.declared.name.QualifiedName.{QualifiedName}
use Rattle.sq_syntax.specs.declared.ddl.SetType.{SetType}
use Rattle.sq_syntax.specs.declared.ddl.TableAction.{TableAction}
use Rattle.sq_syntax.specs.declared.ddl.TableAction.TheVariants as table_action
use Rattle.sq_syntax.specs.Facts.{Stream, Says, Piece}
use Rattle.sq_syntax.specs.Pieces as p
use Rattle.sq_syntax.specs.Pieces.{sym as word}
use Rattle.sq_syntax.specs.Statements.{word as key_word}
use Rattle.sq_syntax.specs.Schemas as z
use Rattle.sq_syntax.specs.Schemas.{is_comma, begins_action, begins_column_change}
use Rattle.sq_grammar.specs.Reading.{◌>>◌, pure, choose, sees, expect}
use Rattle.sq_grammar.specs.Statements.{sees_word, expect_word}
use Rattle.sq_grammar.specs.Schemas.{sees_both, ahead, some_collation, some_run, action}
use Rattle.sq_grammar.proofs.Complete.{says_expect}
use Rattle.sq_grammar.proofs.Joints.{false_true}
use Rattle.sq_grammar.proofs.ReadTypes.{is_type_sign, that_symbol}
use Rattle.sq_grammar.proofs.KeyWords.{says_word, that_word, word_begins}
use Rattle.sq_grammar.proofs.Between.{Between, split, on, if_so, if_not}
use Rattle.sq_grammar.proofs.Heads.{ends, first_ends, no_symbol, no_type, ends_other, other_letters, unlike_first, unlike_second, no_letters_no_word, not_true}
use Rattle.sq_grammar.proofs.ReadAlone.{ended, qualified_alone, type_alone}
use Rattle.sq_grammar.proofs.SchemaWords.{closing}
use Rattle.sq_grammar.proofs.ReadTables.{run_behind}
use Rattle.sq_grammar.proofs.ActionHeads.{ahead_says, ahead_tokens, starts_ahead, plain, plain_behind, no_action}
use Rattle.sq_grammar.proofs.ReadActions.{altered, alter_to, altered_action, add_column_alone, add_constraint_alone, drop_column_alone, drop_constraint_alone, set_not_null_alone, drop_not_null_alone}

-- ---- ALTER COLUMN .. TYPE

-- what stands behind a collation, and behind a type
abbrev after_collation : Reading → Bool
after_collation (reading.Symbol s.Using) = true
after_collation r = closing r

abbrev after_type : Reading → Bool
after_type (reading.Symbol s.Collate) = true
after_type r = after_collation r

closing_collation : (r : Reading) → closing r ≡ true → after_collation r ≡ true
closing_collation (reading.Symbol s.Comma) h = refl
closing_collation (reading.Symbol s.Close) h = refl
closing_collation _ h = absurd (false_true h)

collation_type : (r : Reading) → after_collation r ≡ true → after_type r ≡ true
collation_type (reading.Symbol s.Using) h = refl
collation_type (reading.Symbol s.Comma) h = refl
collation_type (reading.Symbol s.Close) h = refl
collation_type _ h = absurd (false_true h)

type_sign : (r : Reading) → after_type r ≡ true → is_type_sign r ≡ false
type_sign (reading.Symbol s.Collate) h = refl
type_sign (reading.Symbol s.Using) h = refl
type_sign (reading.Symbol s.Comma) h = refl
type_sign (reading.Symbol s.Close) h = refl
type_sign _ h = absurd (false_true h)

using_first : (xs : List Reading) (now next : Stream) → Between (z.using xs) now next → ends closing next.tokens ≡ true → ends after_collation now.tokens ≡ true
using_first [] now next h e = ap (λ (u : Stream). ends after_collation u.tokens) h ∙ ends_other closing after_collation next.tokens closing_collation e
using_first (x ∷ xs) now next h e = first_ends after_collation (reading.Symbol s.Using) now h.0 h.1 refl

collation_first : (x : Option QualifiedName) (now next : Stream) → Between (z.collation x) now next → ends after_collation next.tokens ≡ true → ends after_type now.tokens ≡ true
collation_first None now next h e = ap (λ (u : Stream). ends after_type u.tokens) h ∙ ends_other after_collation after_type next.tokens collation_type e
collation_first (Some x) now next h e = first_ends after_type (reading.Symbol s.Collate) now h.0 h.1 refl

collation_alone : (x : Option QualifiedName) (now next : Stream) → Between (z.collation x) now next → ends after_collation next.tokens ≡ true → choose (sees s.Collate) some_collation (pure None) now ≡ Some (x, next)
collation_alone None now next h e = if_not _ (ap (sees s.Collate) h ∙ no_symbol after_collation s.Collate next.tokens refl e) (ended h)
collation_alone (Some x) now next h e =
    if_so _ (that_symbol s.Collate now h.0 h.1) (on _ (says_expect s.Collate now h.0 h.1) (on _ (qualified_alone x h.0 next h.2 (no_symbol after_collation s.Dot next.tokens refl e)) refl))

using_alone : (xs : List Reading) (now next : Stream) → Between (z.using xs) now next → ends closing next.tokens ≡ true → choose (sees s.Using) (expect s.Using >> some_run is_comma) (pure []) now ≡ Some (xs, next)
using_alone [] now next h e = if_not _ (ap (sees s.Using) h ∙ no_symbol closing s.Using next.tokens refl e) (ended h)
using_alone (x ∷ xs) now next h e = if_so _ (that_symbol s.Using now h.0 h.1) (on _ (says_expect s.Using now h.0 h.1) (run_behind (x ∷ xs) h.0 next h.2 e))

abbrev set_data : Bool → List Piece
set_data b = if b then key_word (codes "set") ∷ key_word (codes "data") ∷ [] else []

-- the words before a type
record BeforeType (b : Bool) (now next : Stream) : Type 0 where
  changes : begins_column_change (ahead now) ≡ true
  unset : sees_both (codes "set") (codes "not") now ≡ false
  kept : sees_word (codes "drop") now ≡ false
  read : choose (sees_word (codes "set")) (expect_word (codes "set") >> (expect_word (codes "data") >> pure true)) (pure false) now ≡ Some (b, next)

before_type : (b : Bool) (now u next : Stream) → Between (set_data b) now u → Says (reading.Word (codes "type")) u next → BeforeType b now u
before_type true now u next h t =
    let d = h.2 in
    record {
      changes = ap begins_column_change (ahead_says _ now h.0 h.1 ∙ ap (λ rest. reading.Word (codes "set") ∷ rest) (ahead_says _ h.0 d.0 d.1));
      unset = unlike_second (codes "set") (codes "not") (reading.Word (codes "set")) now h.0 h.1 (other_letters (codes "not") (reading.Word (codes "data")) h.0 d.0 d.1 refl);
      kept = word_begins (codes "drop") (reading.Word (codes "set")) now h.0 h.1;
      read = if_so _ (that_word (codes "set") now h.0 h.1) (on _ (says_word (codes "set") now h.0 h.1) (on _ (says_word (codes "data") h.0 d.0 d.1) (ended d.2)));
    }
before_type false now u next h t = record {
  changes = ap (λ v. begins_column_change (ahead v)) h ∙ ap begins_column_change (ahead_says _ u next t);
  unset = ap (sees_both (codes "set") (codes "not")) h ∙ unlike_first (codes "set") (codes "not") (reading.Word (codes "type")) u next t refl;
  kept = ap (sees_word (codes "drop")) h ∙ word_begins (codes "drop") (reading.Word (codes "type")) u next t;
  read = if_not _ (ap (sees_word (codes "set")) h ∙ word_begins (codes "set") (reading.Word (codes "type")) u next t) (ended h);
}

set_type_alone : (x : SetType) (now next : Stream) → Between (z.action (table_action.SetType x)) now next → ends closing next.tokens ≡ true → action now ≡ Some (table_action.SetType x, next)
set_type_alone x now next h e =
    let column = z.alter_column x.has_column x.column in
    let words = set_data x.has_set_data in
    let typed = key_word (codes "type") ∷ p.type x.to in
    let a = split (((column ++ words) ++ typed) ++ z.collation x.collation) (z.using x.using) now next h in
    let b = split ((column ++ words) ++ typed) (z.collation x.collation) now a.0 a.1 in
    let c = split (column ++ words) typed now b.0 b.1 in
    let front = altered x.has_column x.column words now c.0 c.1 in
    let t = c.2 in
    let before = before_type x.has_set_data front.behind c.0 t.0 front.rest t.1 in
    let using = using_first x.using a.0 next a.2 e in
    altered_action x.has_column x.column words (table_action.SetType x) now c.0 next front before.changes (
    alter_to x.has_column x.column words (table_action.SetType x) now c.0 next front (
    if_not _ before.unset (if_not _ before.kept (
    on _ before.read (
    on _ (says_word (codes "type") c.0 t.0 t.1) (
    on _ (type_alone x.to t.0 b.0 t.2 (no_type after_type b.0.tokens type_sign (collation_first x.collation b.0 a.0 b.2 using))) (
    on _ (collation_alone x.collation b.0 a.0 b.2 using) (
    on _ (using_alone x.using a.0 next a.2 e) refl))))))))

-- ---- runs

other_alone : (xs : List Reading) (now next : Stream) → Between (z.action (table_action.Other xs)) now next → ends closing next.tokens ≡ true → action now ≡ Some (table_action.Other xs, next)
unfolding action
other_alone [] now next h e = absurd (false_true h.1.0)
other_alone (r ∷ run) now next h e =
    let t = h.1.1.1 in
    let k = plain r run (not_true (begins_action (r ∷ run)) h.0) in
    let whole = plain_behind r run (ahead next) (starts_ahead closing next.tokens e) k in
    if_not _ (word_begins (codes "add") r now t.0 t.1 ∙ no_letters_no_word (codes "add") r k.add) (
    if_not _ (word_begins (codes "drop") r now t.0 t.1 ∙ no_letters_no_word (codes "drop") r k.drop) (
    if_not _ (ap begins_action (ahead_tokens (r ∷ run) now next t) ∙ no_action r (run ++ ahead next) whole) (
    on _ (run_behind (r ∷ run) now next h.1 e) refl)))

-- ---- all actions

pub action_alone : (x : TableAction) (now next : Stream) → Between (z.action x) now next → ends closing next.tokens ≡ true → action now ≡ Some (x, next)
unfolding action
action_alone (table_action.AddColumn has_column unless x) now next h e = if_so _ (that_word (codes "add") now h.0 h.1) (add_column_alone has_column unless x now next h e)
action_alone (table_action.AddConstraint x) now next h e = if_so _ (that_word (codes "add") now h.0 h.1) (add_constraint_alone x now next h e)
action_alone (table_action.DropColumn has_column only_if x behaves) now next h e =
    if_not _ (word_begins (codes "add") (reading.Word (codes "drop")) now h.0 h.1) (if_so _ (that_word (codes "drop") now h.0 h.1) (drop_column_alone has_column only_if x behaves now next h e))
action_alone (table_action.DropConstraint only_if x behaves) now next h e =
    if_not _ (word_begins (codes "add") (reading.Word (codes "drop")) now h.0 h.1) (if_so _ (that_word (codes "drop") now h.0 h.1) (drop_constraint_alone only_if x behaves now next h e))
action_alone (table_action.SetNotNull has_column x) now next h e = set_not_null_alone has_column x now next h
action_alone (table_action.DropNotNull has_column x) now next h e = drop_not_null_alone has_column x now next h
action_alone (table_action.SetType x) now next h e = set_type_alone x now next h e
action_alone (table_action.Other xs) now next h e = other_alone xs now next h e
