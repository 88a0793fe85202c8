-- Actions of ALTER TABLE are read as they are spelled.
use Rattle.std.proofs.Common.{◌≡◌, ℕ, Bool, true, false, List, [], ◌∷◌, ◌++◌, Some, refl, ap, ◌∙◌}
use Rattle.std.specs.Prelude.{codes, flat_map}
use Rattle.sq_syntax.specs.declared.symbol.Symbol.TheVariants as s
use Rattle.sq_syntax.specs.declared.symbol.Reading.TheVariants as reading
use Rattle.sq_syntax.specs.declared.symbol.Lexeme.{Lexeme}
use Rattle.sq_syntax.specs.declared.name.Identifier.{Identifier}
use Rattle.sq_syntax.specs.declared.ddl.Behavior.{Behavior}
use Rattle.sq_syntax.specs.declared.ddl.Column.{Column}
use Rattle.sq_syntax.specs.declared.ddl.TableAction.{TableAction}
use Rattle.sq_syntax.specs.declared.ddl.TableAction.TheVariants as table_action
use Rattle.sq_syntax.specs.declared.ddl.TableConstraint.{TableConstraint}
use Rattle.sq_syntax.specs.Facts.{Stream, Says, Piece}
use Rattle.sq_syntax.specs.Pieces as p
use Rattle.sq_syntax.specs.Pieces.{sym as word}
use Rattle.sq_syntax.specs.Statements.{word as key_word}
use Rattle.sq_syntax.specs.Schemas as z
use Rattle.sq_syntax.specs.Schemas.{begins_column_change, begins_action, is as is_letters}
use Rattle.sq_grammar.specs.Reading.{Parser, choose}
use Rattle.sq_grammar.specs.Ahead.{Lexemes}
use Rattle.sq_grammar.specs.Statements.{is_word, begins_word, sees_word}
use Rattle.sq_grammar.specs.Schemas.{sees_both, begins_exclusion, begins_table_constraint, starts_table_constraint, ahead, add, drop, set_type, not_null as not_null_words, alter_column, action}
use Rattle.sq_grammar.proofs.Complete.{says_expect}
use Rattle.sq_grammar.proofs.Aliases.{neither}
use Rattle.sq_grammar.proofs.KeyWords.{says_word, that_word, word_begins}
use Rattle.sq_grammar.proofs.Between.{Between, split, on, if_so, if_not}
use Rattle.sq_grammar.proofs.Heads.{ends, other_letters, unlike_first, both_letters, NameFirst, name_first, type_first, first_no_word, name_unlike}
use Rattle.sq_grammar.proofs.ReadAlone.{ended, name_alone, optional_word_alone}
use Rattle.sq_grammar.proofs.SchemaWords.{closing, closing_letters, if_exists_alone, if_not_exists_alone, behavior_alone, behavior_no_exists}
use Rattle.sq_grammar.proofs.ReadConstraints.{column_alone}
use Rattle.sq_grammar.proofs.ReadTables.{table_constraint_alone, table_constraint_begins, column_begins}
use Rattle.sq_grammar.proofs.ActionHeads.{ahead_says, alter_begins}

-- ---- ADD

no_exclude : (x : Lexeme) (tokens : Lexemes) → is_letters (codes "exclude") x.reading ≡ false → begins_exclusion (x ∷ tokens) ≡ false
no_exclude x [] h = refl
no_exclude x (y ∷ rest) h = rw h refl

word_no_constraint : (letters : List ℕ) (now next : Stream) → Says (reading.Word letters) now next → starts_table_constraint (reading.Word letters) ≡ false → is_letters (codes "exclude") (reading.Word letters) ≡ false → begins_table_constraint now.tokens ≡ false
word_no_constraint letters now next h a b = ap begins_table_constraint h.first ∙ neither _ _ a (no_exclude (record { reading = reading.Word letters; place = h.place }) next.tokens b)

column_first : (x : Column) (now next : Stream) → Between (z.column x) now next → NameFirst now
column_first x now next h =
    let a = split (p.name x.name ++ p.type x.of) (flat_map z.constraint x.constraints) now next h in
    let b = split (p.name x.name) (p.type x.of) now a.0 a.1 in
    name_first x.name now b.0 b.1

-- IF and NOT are no column
column_no_not : (x : Column) (now next : Stream) → Between (z.column x) now next → sees_both (codes "if") (codes "not") now ≡ false
column_no_not x now next h =
    let a = split (p.name x.name ++ p.type x.of) (flat_map z.constraint x.constraints) now next h in
    let b = split (p.name x.name) (p.type x.of) now a.0 a.1 in
    let f = type_first x.of b.0 a.0 b.2 in
    name_unlike (codes "if") (codes "not") x.name now b.0 b.1 (other_letters (codes "not") f.reading b.0 f.next f.says f.no_not)

-- the words before a column
record BeforeColumn (now : Stream) : Type 0 where
  unconstrained : begins_table_constraint now.tokens ≡ false
  uncolumned : sees_word (codes "column") now ≡ false

exists_before : (unless : Bool) (x : Column) (now u next : Stream) → Between (z.if_not_exists unless) now u → Between (z.column x) u next → BeforeColumn now
exists_before true x now u next h c = record { unconstrained = word_no_constraint (codes "if") now h.0 h.1 refl refl; uncolumned = word_begins (codes "column") (reading.Word (codes "if")) now h.0 h.1 }
exists_before false x now u next h c = record {
  unconstrained = ap (λ (v : Stream). begins_table_constraint v.tokens) h ∙ column_begins x u next c;
  uncolumned = ap (sees_word (codes "column")) h ∙ first_no_word (codes "column") u refl (column_first x u next c);
}

column_before : (has_column : Bool) (now u : Stream) → Between (z.when_word has_column (codes "column")) now u → BeforeColumn u → begins_table_constraint now.tokens ≡ false
column_before true now u h b = word_no_constraint (codes "column") now h.0 h.1 refl refl
column_before false now u h b = ap (λ (v : Stream). begins_table_constraint v.tokens) h ∙ b.unconstrained

pub add_column_alone : (has_column unless : Bool) (x : Column) (now next : Stream) → Between (z.action (table_action.AddColumn has_column unless x)) now next → ends closing next.tokens ≡ true → add now ≡ Some (table_action.AddColumn has_column unless x, next)
unfolding add
add_column_alone has_column unless x now next h e =
    let column = z.when_word has_column (codes "column") in
    let a = split (column ++ z.if_not_exists unless) (z.column x) h.0 next h.2 in
    let b = split column (z.if_not_exists unless) h.0 a.0 a.1 in
    let before = exists_before unless x b.0 a.0 next b.2 a.2 in
    on _ (says_word (codes "add") now h.0 h.1) (
    if_not _ (column_before has_column h.0 b.0 b.1 before) (
    on _ (optional_word_alone (codes "column") has_column h.0 b.0 b.1 before.uncolumned) (
    on _ (if_not_exists_alone unless b.0 a.0 b.2 (column_no_not x a.0 next a.2)) (
    on _ (column_alone x a.0 next a.2 e) refl))))

pub add_constraint_alone : (x : TableConstraint) (now next : Stream) → Between (z.action (table_action.AddConstraint x)) now next → ends closing next.tokens ≡ true → add now ≡ Some (table_action.AddConstraint x, next)
unfolding add
add_constraint_alone x now next h e = on _ (says_word (codes "add") now h.0 h.1) (if_so _ (table_constraint_begins x h.0 next h.2) (on _ (table_constraint_alone x h.0 next h.2 e) refl))

-- ---- DROP

-- IF and EXISTS are no name that is dropped
name_no_exists : (x : Identifier) (behaves : Behavior) (now u next : Stream) → Between (p.name x) now u → Between (z.behavior_words behaves) u next → ends closing next.tokens ≡ true → sees_both (codes "if") (codes "exists") now ≡ false
name_no_exists x behaves now u next h b e = name_unlike (codes "if") (codes "exists") x now u h (behavior_no_exists closing behaves u next (closing_letters (codes "exists") refl refl) b e)

-- neither CONSTRAINT nor COLUMN stands before a column that is dropped
exists_no_word : (letters : List ℕ) (only_if : Bool) (x : Identifier) (now u next : Stream) → is_word letters (reading.Word (codes "if")) ≡ false → Between (z.if_exists only_if) now u → Between (p.name x) u next
    → (NameFirst u → begins_word letters u.tokens ≡ false) → sees_word letters now ≡ false
exists_no_word letters true x now u next other h n lacks = word_begins letters (reading.Word (codes "if")) now h.0 h.1 ∙ other
exists_no_word letters false x now u next other h n lacks = ap (sees_word letters) h ∙ lacks (name_first x u next n)

column_no_constraint : (has_column : Bool) (now u : Stream) → Between (z.when_word has_column (codes "column")) now u → sees_word (codes "constraint") u ≡ false → sees_word (codes "constraint") now ≡ false
column_no_constraint true now u h e = word_begins (codes "constraint") (reading.Word (codes "column")) now h.0 h.1
column_no_constraint false now u h e = ap (sees_word (codes "constraint")) h ∙ e

pub drop_column_alone : (has_column only_if : Bool) (x : Identifier) (behaves : Behavior) (now next : Stream) → Between (z.action (table_action.DropColumn has_column only_if x behaves)) now next → ends closing next.tokens ≡ true
    → drop now ≡ Some (table_action.DropColumn has_column only_if x behaves, next)
unfolding drop
drop_column_alone has_column only_if x behaves now next h e =
    let column = z.when_word has_column (codes "column") in
    let a = split ((column ++ z.if_exists only_if) ++ p.name x) (z.behavior_words behaves) h.0 next h.2 in
    let b = split (column ++ z.if_exists only_if) (p.name x) h.0 a.0 a.1 in
    let c = split column (z.if_exists only_if) h.0 b.0 b.1 in
    let unconstrained = exists_no_word (codes "constraint") only_if x c.0 b.0 a.0 refl c.2 b.2 (first_no_word (codes "constraint") b.0 refl) in
    on _ (says_word (codes "drop") now h.0 h.1) (
    if_not _ (column_no_constraint has_column h.0 c.0 c.1 unconstrained) (
    on _ (optional_word_alone (codes "column") has_column h.0 c.0 c.1 (exists_no_word (codes "column") only_if x c.0 b.0 a.0 refl c.2 b.2 (first_no_word (codes "column") b.0 refl))) (
    on _ (if_exists_alone only_if c.0 b.0 c.2 (λ unsaid. name_no_exists x behaves b.0 a.0 next b.2 a.2 e)) (
    on _ (name_alone x b.0 a.0 b.2) (
    on _ (behavior_alone closing behaves a.0 next refl refl a.2 e) refl)))))

pub drop_constraint_alone : (only_if : Bool) (x : Identifier) (behaves : Behavior) (now next : Stream) → Between (z.action (table_action.DropConstraint only_if x behaves)) now next → ends closing next.tokens ≡ true
    → drop now ≡ Some (table_action.DropConstraint only_if x behaves, next)
unfolding drop
drop_constraint_alone only_if x behaves now next h e =
    let k = h.2 in
    let a = split (z.if_exists only_if ++ p.name x) (z.behavior_words behaves) k.0 next k.2 in
    let b = split (z.if_exists only_if) (p.name x) k.0 a.0 a.1 in
    on _ (says_word (codes "drop") now h.0 h.1) (
    if_so _ (that_word (codes "constraint") h.0 k.0 k.1) (
    on _ (says_word (codes "constraint") h.0 k.0 k.1) (
    on _ (if_exists_alone only_if k.0 b.0 b.1 (λ unsaid. name_no_exists x behaves b.0 a.0 next b.2 a.2 e)) (
    on _ (name_alone x b.0 a.0 b.2) (
    on _ (behavior_alone closing behaves a.0 next refl refl a.2 e) refl)))))

-- ---- ALTER COLUMN

-- the tokens behind the name of a column that is altered
pub record Altered (has_column : Bool) (x : Identifier) (tail : List Piece) (now next : Stream) : Type 0 where
  pub named : Stream
  pub behind : Stream
  pub alter : Says (reading.Word (codes "alter")) now named
  pub column : Between (z.when_word has_column (codes "column") ++ p.name x) named behind
  pub rest : Between tail behind next

pub altered : (has_column : Bool) (x : Identifier) (tail : List Piece) (now next : Stream) → Between (z.alter_column has_column x ++ tail) now next → Altered has_column x tail now next
altered has_column x tail now next h =
    let a = split (z.when_word has_column (codes "column") ++ p.name x) tail h.0 next h.2 in
    record { named = h.0; behind = a.0; alter = h.1; column = a.1; rest = a.2 }

abbrev pub to_change : Bool → Identifier → Parser TableAction
to_change has_column x =
    choose (sees_both (codes "set") (codes "not")) (not_null_words (codes "set") (table_action.SetNotNull has_column x))
    (choose (sees_word (codes "drop")) (not_null_words (codes "drop") (table_action.DropNotNull has_column x)) (set_type has_column x))

pub alter_to : (has_column : Bool) (x : Identifier) (tail : List Piece) (y : TableAction) (now next last : Stream) (a : Altered has_column x tail now next) → to_change has_column x a.behind ≡ Some (y, last) → alter_column now ≡ Some (y, last)
unfolding alter_column
alter_to has_column x tail y now next last a h =
    let b = split (z.when_word has_column (codes "column")) (p.name x) a.named a.behind a.column in
    on _ (says_word (codes "alter") now a.named a.alter) (
    on _ (optional_word_alone (codes "column") has_column a.named b.0 b.1 (first_no_word (codes "column") b.0 refl (name_first x b.0 a.behind b.2))) (
    on _ (name_alone x b.0 a.behind b.2) h))

-- an action that begins so is no other
pub altered_action : (has_column : Bool) (x : Identifier) (tail : List Piece) (y : TableAction) (now next last : Stream) (a : Altered has_column x tail now next) → begins_column_change (ahead a.behind) ≡ true → alter_column now ≡ Some (y, last) → action now ≡ Some (y, last)
unfolding action
altered_action has_column x tail y now next last a e h =
    if_not _ (word_begins (codes "add") (reading.Word (codes "alter")) now a.named a.alter) (
    if_not _ (word_begins (codes "drop") (reading.Word (codes "alter")) now a.named a.alter) (
    if_so _ (alter_begins has_column x now a.named a.behind a.alter a.column e) h))

abbrev not_null : List ℕ → List Piece
not_null letters = key_word letters ∷ word s.Not ∷ word s.Null ∷ []

null_ahead : (letters : List ℕ) (now next : Stream) → Between (not_null letters) now next → (n : Stream) × (ahead now ≡ reading.Word letters ∷ reading.Symbol s.Not ∷ ahead n)
null_ahead letters now next h = (h.2.0, ahead_says _ now h.0 h.1 ∙ ap (λ rest. reading.Word letters ∷ rest) (ahead_says _ h.0 h.2.0 h.2.1))

pub set_not_null_alone : (has_column : Bool) (x : Identifier) (now next : Stream) → Between (z.action (table_action.SetNotNull has_column x)) now next → action now ≡ Some (table_action.SetNotNull has_column x, next)
set_not_null_alone has_column x now next h =
    let a = altered has_column x (not_null (codes "set")) now next h in
    let t = a.rest in
    let n = t.2 in
    altered_action has_column x (not_null (codes "set")) (table_action.SetNotNull has_column x) now next next a (ap begins_column_change (null_ahead (codes "set") a.behind next t).1) (
    alter_to has_column x (not_null (codes "set")) (table_action.SetNotNull has_column x) now next next a (
    if_so _ (both_letters (codes "set") (codes "not") (reading.Word (codes "set")) (reading.Symbol s.Not) a.behind t.0 n.0 t.1 n.1 refl refl) (
    on _ (says_word (codes "set") a.behind t.0 t.1) (on _ (says_expect s.Not t.0 n.0 n.1) (on _ (says_expect s.Null n.0 n.2.0 n.2.1) (ended n.2.2))))))

pub drop_not_null_alone : (has_column : Bool) (x : Identifier) (now next : Stream) → Between (z.action (table_action.DropNotNull has_column x)) now next → action now ≡ Some (table_action.DropNotNull has_column x, next)
drop_not_null_alone has_column x now next h =
    let a = altered has_column x (not_null (codes "drop")) now next h in
    let t = a.rest in
    let n = t.2 in
    altered_action has_column x (not_null (codes "drop")) (table_action.DropNotNull has_column x) now next next a (ap begins_column_change (null_ahead (codes "drop") a.behind next t).1) (
    alter_to has_column x (not_null (codes "drop")) (table_action.DropNotNull has_column x) now next next a (
    if_not _ (unlike_first (codes "set") (codes "not") (reading.Word (codes "drop")) a.behind t.0 t.1 refl) (
    if_so _ (that_word (codes "drop") a.behind t.0 t.1) (
    on _ (says_word (codes "drop") a.behind t.0 t.1) (on _ (says_expect s.Not t.0 n.0 n.1) (on _ (says_expect s.Null n.0 n.2.0 n.2.1) (ended n.2.2)))))))
