-- What is read of all tokens is exactly the schema statement that they spell, and tokens spell one at most.
use Rattle.std.proofs.Common.{◌≡◌, ℕ, suc, ◌-◌, Bool, true, false, List, [], ◌∷◌, ◌++◌, length, Some, refl, sym, ap, subst, ◌∙◌, arith, map}
use Rattle.std.specs.Prelude.{◌↔◌, codes, flat_map}
use Rattle.sq_base.specs.declared.place.Place.{Place}
use Rattle.sq_syntax.specs.declared.symbol.Symbol.TheVariants as s
use Rattle.sq_syntax.specs.declared.symbol.Reading.TheVariants as reading
use Rattle.sq_syntax.specs.declared.expr.Node.{Node}
use Rattle.sq_syntax.specs.declared.token.Token.{Token}
use Rattle.sq_syntax.specs.declared.ddl.CreateTable.{CreateTable}
use Rattle.sq_syntax.specs.declared.ddl.Ddl.{Ddl}
use Rattle.sq_syntax.specs.declared.ddl.Ddl.TheVariants as ddl_kind
use Rattle.sq_syntax.specs.declared.ddl.Dropped.{Dropped}
use Rattle.sq_syntax.specs.declared.ddl.Dropped.TheVariants as dropped
use Rattle.sq_syntax.specs.Facts.{Mark, Stream, Along, Piece, first_place, from, marks_of, all_hold}
use Rattle.sq_syntax.specs.Pieces.{sym as word, at, listed, qualified_name}
use Rattle.sq_syntax.specs.Grammar.{stream}
use Rattle.sq_syntax.specs.Statements.{word as key_word, changed}
use Rattle.sq_syntax.specs.Schemas as z
use Rattle.sq_syntax.specs.Schemas.{ddl_facts, IsDdl, is as is_letters}
use Rattle.sq_grammar.specs.Reading.{Parser, here}
use Rattle.sq_grammar.specs.Whole.{whole, finished}
use Rattle.sq_grammar.specs.Schemas.{begins_sign, numbered, ddl, create_schema, create_table, create_type, create_domain, drop_schema, drop_named, alter_table, alter_type}
use Rattle.sq_grammar.proofs.Runs.{along_split}
use Rattle.sq_grammar.proofs.Complete.{only_if-from, same_some, stands_here}
use Rattle.sq_grammar.proofs.KeyWords.{that_word, word_begins}
use Rattle.sq_grammar.proofs.Between.{Between, between_of, on, if_so, if_not}
use Rattle.sq_grammar.proofs.Heads.{both_letters, other_letters, unlike_first, unlike_second}
use Rattle.sq_grammar.proofs.ReadDdl.{create_schema_alone, create_table_alone, create_type_alone, create_domain_alone, drop_schema_alone, drop_named_alone}
use Rattle.sq_grammar.proofs.ReadAlterations.{alter_table_alone, alter_type_alone}
use Rattle.sq_grammar.proofs.TakeAlters.{take_ddl}

-- a statement's tokens, apart from their numbers and their place
record Opened (place : Place) (first last : ℕ) (pieces : List Piece) (now next : Stream) : Type 0 where
  begun : first ≡ now.at
  placed : first_place now.tokens ≡ Some place
  between : Between pieces now next
  last_is : suc last ≡ next.at

opened : (place : Place) (first last : ℕ) (pieces : List Piece) (now next : Stream) → from 0 (changed place first last pieces).level ≡ true → Along (changed place first last pieces).marks now next → Opened place first last pieces now next
opened place first last pieces now next ok a =
    let all = at place ∷ pieces in
    let m = along_split (marks_of all) (Mark.ends last ∷ []) now next a.1 in
    let b = between_of all now m.0 (only_if-from (all_hold all) 0 0 ok) m.1 in
    record { begun = a.0; placed = b.0; between = subst (λ u. Between pieces now u) m.2.1 b.1; last_is = m.2.0 ∙ ap (λ (u : Stream). u.at) m.2.1 }

abbrev node_of : {A : Type 0} → A → Place → ℕ → ℕ → Node A
node_of x place first last = record { place = place; first = first; last = last; form = x }

node_read : {A : Type 0} (q : Parser A) (make : Node A → Ddl) (x : A) (place : Place) (first last : ℕ) (pieces : List Piece) (now next : Stream) → Opened place first last pieces now next → q now ≡ Some (x, next) → numbered q make now ≡ Some (make (node_of x place first last), next)
node_read q make x place first last pieces now next o h =
    let last_number : next.at - 1 ≡ last = omega (arith, o.last_is) in
    on _ h (
    ap (λ m. Some (make (node_of x (here now) now.at m), next)) last_number
    ∙ ap (λ m. Some (make (node_of x (here now) m last), next)) (sym o.begun)
    ∙ ap (λ place_of_first. Some (make (node_of x place_of_first first last), next)) (stands_here place now.tokens o.placed))

-- ---- the words that tell the statements

-- no other statement has the second word of CREATE TABLE
table_second : (letters : List ℕ) (b : Bool) (table q elements tails : List Piece) (now next : Stream) → is_letters letters (reading.Word (codes "unlogged")) ≡ false → is_letters letters (reading.Word (codes "table")) ≡ false
    → Between ((((z.when_word b (codes "unlogged") ++ key_word (codes "table") ∷ table) ++ q) ++ elements) ++ tails) now next → begins_sign letters now.tokens ≡ false
table_second letters true table q elements tails now next a c h = other_letters letters (reading.Word (codes "unlogged")) now h.0 h.1 a
table_second letters false table q elements tails now next a c h = other_letters letters (reading.Word (codes "table")) now h.0 h.1 c

create_table_second : (letters : List ℕ) (x : CreateTable) (now next : Stream) → is_letters letters (reading.Word (codes "unlogged")) ≡ false → is_letters letters (reading.Word (codes "table")) ≡ false
    → Between ((((z.when_word x.is_unlogged (codes "unlogged") ++ key_word (codes "table") ∷ z.if_not_exists x.if_not_exists) ++ qualified_name x.name) ++ word s.Open ∷ listed (map z.element x.elements)) ++ word s.Close ∷ Piece.need (z.partitions_apart x.tails) ∷ flat_map z.tail x.tails) now next
    → begins_sign letters now.tokens ≡ false
create_table_second letters x now next a c h =
    table_second letters x.is_unlogged (z.if_not_exists x.if_not_exists) (qualified_name x.name) (word s.Open ∷ listed (map z.element x.elements)) (word s.Close ∷ Piece.need (z.partitions_apart x.tails) ∷ flat_map z.tail x.tails) now next a c h

kind_no_schema : (x : Dropped) (rest : List Piece) (now next : Stream) → Between (z.dropped_word x ∷ rest) now next → begins_sign (codes "schema") now.tokens ≡ false
kind_no_schema dropped.Table rest now next h = other_letters (codes "schema") (reading.Word (codes "table")) now h.0 h.1 refl
kind_no_schema dropped.Type rest now next h = other_letters (codes "schema") (reading.Word (codes "type")) now h.0 h.1 refl
kind_no_schema dropped.Domain rest now next h = other_letters (codes "schema") (reading.Word (codes "domain")) now h.0 h.1 refl

-- ---- schema statements

pub ddl_alone : (x : Ddl) (now next : Stream) → from 0 (ddl_facts x).level ≡ true → Along (ddl_facts x).marks now next → next.tokens ≡ [] → ddl now ≡ Some (x, next)
unfolding ddl
ddl_alone (ddl_kind.CreateSchema x) now next ok a over =
    let o = opened x.place x.first x.last (z.create_schema x.form) now next ok a in
    let h = o.between in
    if_so _ (both_letters (codes "create") (codes "schema") (reading.Word (codes "create")) (reading.Word (codes "schema")) now h.0 h.2.0 h.1 h.2.1 refl refl) (
    node_read create_schema ddl_kind.CreateSchema x.form x.place x.first x.last (z.create_schema x.form) now next o (create_schema_alone x.form now next h over))
ddl_alone (ddl_kind.CreateTable x) now next ok a over =
    let o = opened x.place x.first x.last (z.create_table x.form) now next ok a in
    let h = o.between in
    if_not _ (unlike_second (codes "create") (codes "schema") (reading.Word (codes "create")) now h.0 h.1 (create_table_second (codes "schema") x.form h.0 next refl refl h.2)) (
    if_not _ (unlike_second (codes "create") (codes "type") (reading.Word (codes "create")) now h.0 h.1 (create_table_second (codes "type") x.form h.0 next refl refl h.2)) (
    if_not _ (unlike_second (codes "create") (codes "domain") (reading.Word (codes "create")) now h.0 h.1 (create_table_second (codes "domain") x.form h.0 next refl refl h.2)) (
    if_so _ (that_word (codes "create") now h.0 h.1) (
    node_read create_table ddl_kind.CreateTable x.form x.place x.first x.last (z.create_table x.form) now next o (create_table_alone x.form now next h over)))))
ddl_alone (ddl_kind.CreateType x) now next ok a over =
    let o = opened x.place x.first x.last (z.create_type x.form) now next ok a in
    let h = o.between in
    if_not _ (unlike_second (codes "create") (codes "schema") (reading.Word (codes "create")) now h.0 h.1 (other_letters (codes "schema") (reading.Word (codes "type")) h.0 h.2.0 h.2.1 refl)) (
    if_so _ (both_letters (codes "create") (codes "type") (reading.Word (codes "create")) (reading.Word (codes "type")) now h.0 h.2.0 h.1 h.2.1 refl refl) (
    node_read create_type ddl_kind.CreateType x.form x.place x.first x.last (z.create_type x.form) now next o (create_type_alone x.form now next h over)))
ddl_alone (ddl_kind.CreateDomain x) now next ok a over =
    let o = opened x.place x.first x.last (z.create_domain x.form) now next ok a in
    let h = o.between in
    if_not _ (unlike_second (codes "create") (codes "schema") (reading.Word (codes "create")) now h.0 h.1 (other_letters (codes "schema") (reading.Word (codes "domain")) h.0 h.2.0 h.2.1 refl)) (
    if_not _ (unlike_second (codes "create") (codes "type") (reading.Word (codes "create")) now h.0 h.1 (other_letters (codes "type") (reading.Word (codes "domain")) h.0 h.2.0 h.2.1 refl)) (
    if_so _ (both_letters (codes "create") (codes "domain") (reading.Word (codes "create")) (reading.Word (codes "domain")) now h.0 h.2.0 h.1 h.2.1 refl refl) (
    node_read create_domain ddl_kind.CreateDomain x.form x.place x.first x.last (z.create_domain x.form) now next o (create_domain_alone x.form now next h over))))
ddl_alone (ddl_kind.DropSchema x) now next ok a over =
    let o = opened x.place x.first x.last (z.drop_schema x.form) now next ok a in
    let h = o.between in
    if_not _ (unlike_first (codes "create") (codes "schema") (reading.Word (codes "drop")) now h.0 h.1 refl) (
    if_not _ (unlike_first (codes "create") (codes "type") (reading.Word (codes "drop")) now h.0 h.1 refl) (
    if_not _ (unlike_first (codes "create") (codes "domain") (reading.Word (codes "drop")) now h.0 h.1 refl) (
    if_not _ (word_begins (codes "create") (reading.Word (codes "drop")) now h.0 h.1) (
    if_so _ (both_letters (codes "drop") (codes "schema") (reading.Word (codes "drop")) (reading.Word (codes "schema")) now h.0 h.2.0 h.1 h.2.1 refl refl) (
    node_read drop_schema ddl_kind.DropSchema x.form x.place x.first x.last (z.drop_schema x.form) now next o (drop_schema_alone x.form now next h over))))))
ddl_alone (ddl_kind.Drop x) now next ok a over =
    let o = opened x.place x.first x.last (z.drop_named x.form) now next ok a in
    let h = o.between in
    if_not _ (unlike_first (codes "create") (codes "schema") (reading.Word (codes "drop")) now h.0 h.1 refl) (
    if_not _ (unlike_first (codes "create") (codes "type") (reading.Word (codes "drop")) now h.0 h.1 refl) (
    if_not _ (unlike_first (codes "create") (codes "domain") (reading.Word (codes "drop")) now h.0 h.1 refl) (
    if_not _ (word_begins (codes "create") (reading.Word (codes "drop")) now h.0 h.1) (
    if_not _ (unlike_second (codes "drop") (codes "schema") (reading.Word (codes "drop")) now h.0 h.1 (kind_no_schema x.form.kind _ h.0 next h.2)) (
    if_so _ (that_word (codes "drop") now h.0 h.1) (
    node_read drop_named ddl_kind.Drop x.form x.place x.first x.last (z.drop_named x.form) now next o (drop_named_alone x.form now next h over)))))))
ddl_alone (ddl_kind.AlterTable x) now next ok a over =
    let o = opened x.place x.first x.last (z.alter_table x.form) now next ok a in
    let h = o.between in
    if_not _ (unlike_first (codes "create") (codes "schema") (reading.Word (codes "alter")) now h.0 h.1 refl) (
    if_not _ (unlike_first (codes "create") (codes "type") (reading.Word (codes "alter")) now h.0 h.1 refl) (
    if_not _ (unlike_first (codes "create") (codes "domain") (reading.Word (codes "alter")) now h.0 h.1 refl) (
    if_not _ (word_begins (codes "create") (reading.Word (codes "alter")) now h.0 h.1) (
    if_not _ (unlike_first (codes "drop") (codes "schema") (reading.Word (codes "alter")) now h.0 h.1 refl) (
    if_not _ (word_begins (codes "drop") (reading.Word (codes "alter")) now h.0 h.1) (
    if_not _ (unlike_second (codes "alter") (codes "type") (reading.Word (codes "alter")) now h.0 h.1 (other_letters (codes "type") (reading.Word (codes "table")) h.0 h.2.0 h.2.1 refl)) (
    node_read alter_table ddl_kind.AlterTable x.form x.place x.first x.last (z.alter_table x.form) now next o (alter_table_alone x.form now next h over))))))))
ddl_alone (ddl_kind.AlterType x) now next ok a over =
    let o = opened x.place x.first x.last (z.alter_type x.form) now next ok a in
    let h = o.between in
    if_not _ (unlike_first (codes "create") (codes "schema") (reading.Word (codes "alter")) now h.0 h.1 refl) (
    if_not _ (unlike_first (codes "create") (codes "type") (reading.Word (codes "alter")) now h.0 h.1 refl) (
    if_not _ (unlike_first (codes "create") (codes "domain") (reading.Word (codes "alter")) now h.0 h.1 refl) (
    if_not _ (word_begins (codes "create") (reading.Word (codes "alter")) now h.0 h.1) (
    if_not _ (unlike_first (codes "drop") (codes "schema") (reading.Word (codes "alter")) now h.0 h.1 refl) (
    if_not _ (word_begins (codes "drop") (reading.Word (codes "alter")) now h.0 h.1) (
    if_so _ (both_letters (codes "alter") (codes "type") (reading.Word (codes "alter")) (reading.Word (codes "type")) now h.0 h.2.0 h.1 h.2.1 refl refl) (
    node_read alter_type ddl_kind.AlterType x.form x.place x.first x.last (z.alter_type x.form) now next o (alter_type_alone x.form now next h over))))))))

-- what is spelled by all of the tokens is read
read_ddl : (tokens : List Token) (x : Ddl) → IsDdl tokens x → whole ddl tokens ≡ Some x
unfolding whole
read_ddl tokens x h = ap finished (ddl_alone x (stream 0 tokens) (stream (length tokens) []) h.1 h.0 refl)

pub ddl_exactly : (tokens : List Token) (x : Ddl) → (whole ddl tokens ≡ Some x) ↔ IsDdl tokens x
ddl_exactly tokens x = (take_ddl tokens x, read_ddl tokens x)

-- all of the tokens spell one schema statement at most, with its places and numbers
pub one_ddl : (tokens : List Token) (x y : Ddl) → IsDdl tokens x → IsDdl tokens y → x ≡ y
one_ddl tokens x y a b = same_some (sym (read_ddl tokens x a) ∙ read_ddl tokens y b)
