-- CREATE and DROP are read as they are spelled.
use Rattle.std.proofs.Common.{◌≡◌, ℕ, Bool, true, false, List, [], ◌∷◌, ◌++◌, Option, Some, None, refl, ap, ◌∙◌, map}
use Rattle.std.specs.Prelude.{not, codes, flat_map}
use Rattle.sq_syntax.specs.declared.symbol.Symbol.TheVariants as s
use Rattle.sq_syntax.specs.declared.symbol.Reading.TheVariants as reading
use Rattle.sq_syntax.specs.declared.name.Identifier.{Identifier}
use Rattle.sq_syntax.specs.declared.name.TypeName.{TypeName}
use Rattle.sq_syntax.specs.declared.ddl.CreateDomain.{CreateDomain}
use Rattle.sq_syntax.specs.declared.ddl.CreateSchema.{CreateSchema}
use Rattle.sq_syntax.specs.declared.ddl.CreateTable.{CreateTable}
use Rattle.sq_syntax.specs.declared.ddl.CreateType.{CreateType}
use Rattle.sq_syntax.specs.declared.ddl.DropNamed.{DropNamed}
use Rattle.sq_syntax.specs.declared.ddl.DropSchema.{DropSchema}
use Rattle.sq_syntax.specs.declared.ddl.Dropped.{Dropped}
use Rattle.sq_syntax.specs.declared.ddl.Dropped.TheVariants as dropped
use Rattle.sq_syntax.specs.Facts.{Stream, Says, Piece}
use Rattle.sq_syntax.specs.Symbols.{is_name}
use Rattle.sq_syntax.specs.Pieces as p
use Rattle.sq_syntax.specs.Pieces.{sym as word}
use Rattle.sq_syntax.specs.Statements.{word as key_word}
use Rattle.sq_syntax.specs.Schemas as z
use Rattle.sq_grammar.specs.Reading.{choose, sees, pure, same}
use Rattle.sq_grammar.specs.Names.{name, qualified_name}
use Rattle.sq_grammar.specs.Primaries.{a_text}
use Rattle.sq_grammar.specs.Statements.{begins_word, sees_word, listed}
use Rattle.sq_grammar.specs.Schemas.{begins_letters, begins_sign, some_owner, create_schema, create_table, create_type, create_domain, drop_schema, dropped_kind, drop_named}
use Rattle.sq_grammar.proofs.Complete.{says_expect, says_begins}
use Rattle.sq_grammar.proofs.Joints.{false_true}
use Rattle.sq_grammar.proofs.ReadTypes.{other_symbol, that_symbol}
use Rattle.sq_grammar.proofs.KeyWords.{says_word, that_word, word_begins}
use Rattle.sq_grammar.proofs.Between.{Between, split, on, if_so, if_not}
use Rattle.sq_grammar.proofs.Heads.{ends, no_symbol, other_letters, not_true, type_first, first_is_name, name_unlike, qualified_unlike}
use Rattle.sq_grammar.proofs.ReadAlone.{ended, name_alone, qualified_alone, type_alone, text_alone, optional_alone, optional_word_alone, Parted, listed_alone}
use Rattle.sq_grammar.proofs.SchemaWords.{closing, nothing, if_exists_alone, if_not_exists_alone, behavior_alone, behavior_lacks, behavior_no_exists}
use Rattle.sq_grammar.proofs.ReadConstraints.{constraints_alone, constraints_end_type}
use Rattle.sq_grammar.proofs.ReadTables.{elements_alone, tails_alone}

-- ---- CREATE

owner_alone : (x : Option Identifier) (now next : Stream) → Between (z.owner x) now next → next.tokens ≡ [] → choose (sees_word (codes "authorization")) some_owner (pure None) now ≡ Some (x, next)
owner_alone None now next h over = if_not _ (ap (sees_word (codes "authorization")) h ∙ ap (begins_word (codes "authorization")) over) (ended h)
owner_alone (Some x) now next h over = if_so _ (that_word (codes "authorization") now h.0 h.1) (on _ (says_word (codes "authorization") now h.0 h.1) (on _ (name_alone x h.0 next h.2) refl))

owner_no_not : (x : Option Identifier) (now next : Stream) → Between (z.owner x) now next → next.tokens ≡ [] → begins_sign (codes "not") now.tokens ≡ false
owner_no_not None now next h over = ap (λ (u : Stream). begins_sign (codes "not") u.tokens) h ∙ ap (begins_sign (codes "not")) over
owner_no_not (Some x) now next h over = other_letters (codes "not") (reading.Word (codes "authorization")) now h.0 h.1 refl

pub create_schema_alone : (x : CreateSchema) (now next : Stream) → Between (z.create_schema x) now next → next.tokens ≡ [] → create_schema now ≡ Some (x, next)
unfolding create_schema
create_schema_alone x now next h over =
    let k = h.2 in
    let a = split (z.if_not_exists x.if_not_exists ++ p.name x.name) (z.owner x.owner) k.0 next k.2 in
    let b = split (z.if_not_exists x.if_not_exists) (p.name x.name) k.0 a.0 a.1 in
    on _ (says_word (codes "create") now h.0 h.1) (
    on _ (says_word (codes "schema") h.0 k.0 k.1) (
    on _ (if_not_exists_alone x.if_not_exists k.0 b.0 b.1 (name_unlike (codes "if") (codes "not") x.name b.0 a.0 b.2 (owner_no_not x.owner a.0 next a.2 over))) (
    on _ (name_alone x.name b.0 a.0 b.2) (
    on _ (owner_alone x.owner a.0 next a.2 over) refl))))

pub create_table_alone : (x : CreateTable) (now next : Stream) → Between (z.create_table x) now next → next.tokens ≡ [] → create_table now ≡ Some (x, next)
unfolding create_table same
create_table_alone x now next h over =
    let unlogged = z.when_word x.is_unlogged (codes "unlogged") in
    let table = key_word (codes "table") ∷ z.if_not_exists x.if_not_exists in
    let elements = word s.Open ∷ p.listed (map z.element x.elements) in
    let tails = word s.Close ∷ Piece.need (z.partitions_apart x.tails) ∷ flat_map z.tail x.tails in
    let a = split (((unlogged ++ table) ++ p.qualified_name x.name) ++ elements) tails h.0 next h.2 in
    let b = split ((unlogged ++ table) ++ p.qualified_name x.name) elements h.0 a.0 a.1 in
    let c = split (unlogged ++ table) (p.qualified_name x.name) h.0 b.0 b.1 in
    let d = split unlogged table h.0 c.0 c.1 in
    let t = d.2 in
    let o = b.2 in
    let e = a.2 in
    on _ (says_word (codes "create") now h.0 h.1) (
    on _ (optional_word_alone (codes "unlogged") x.is_unlogged h.0 d.0 d.1 (word_begins (codes "unlogged") (reading.Word (codes "table")) d.0 t.0 t.1)) (
    on _ (says_word (codes "table") d.0 t.0 t.1) (
    on _ (if_not_exists_alone x.if_not_exists t.0 c.0 t.2 (qualified_unlike (codes "if") (codes "not") x.name c.0 b.0 c.2 refl (other_letters (codes "not") (reading.Symbol s.Open) b.0 o.0 o.1 refl))) (
    on _ (qualified_alone x.name c.0 b.0 c.2 (other_symbol s.Dot s.Open b.0 o.0 o.1 refl)) (
    on _ (says_expect s.Open b.0 o.0 o.1) (
    on _ (elements_alone x.elements o.0 a.0 e.0 o.2 e.1) (
    on _ (says_expect s.Close a.0 e.0 e.1) (
    on _ (tails_alone x.tails e.0 next e.2.0 e.2.1 over) refl))))))))

abbrev anywhere : Stream → Bool
anywhere u = true

parted_labels : Parted a_text z.label anywhere
parted_labels = record { reads = λ x now next h e. text_alone x now next h; comma = λ now next h. refl }

labels_alone : (xs : List (List ℕ)) (now u next : Stream) → Between (p.listed (map z.label xs)) now u → Says (reading.Symbol s.Close) u next → choose (sees s.Close) (pure []) (listed a_text) now ≡ Some (xs, u)
unfolding same
labels_alone [] now u next h close = if_so _ (ap (sees s.Close) h ∙ that_symbol s.Close u next close) (ended h)
labels_alone (x ∷ xs) now u next h close =
    if_not _ (says_begins s.Close (reading.Text x) now h.0 h.1) (listed_alone a_text z.label anywhere parted_labels (x ∷ xs) now u refl h (other_symbol s.Comma s.Close u next close refl) refl)

pub create_type_alone : (x : CreateType) (now next : Stream) → Between (z.create_type x) now next → next.tokens ≡ [] → create_type now ≡ Some (x, next)
unfolding create_type same
create_type_alone x now next h over =
    let k = h.2 in
    let labels = word s.As ∷ key_word (codes "enum") ∷ word s.Open ∷ p.listed (map z.label x.labels) in
    let a = split (p.qualified_name x.name ++ labels) (word s.Close ∷ []) k.0 next k.2 in
    let b = split (p.qualified_name x.name) labels k.0 a.0 a.1 in
    let t = b.2 in
    let n = t.2 in
    let o = n.2 in
    let e = a.2 in
    on _ (says_word (codes "create") now h.0 h.1) (
    on _ (says_word (codes "type") h.0 k.0 k.1) (
    on _ (qualified_alone x.name k.0 b.0 b.1 (other_symbol s.Dot s.As b.0 t.0 t.1 refl)) (
    on _ (says_expect s.As b.0 t.0 t.1) (
    on _ (says_word (codes "enum") t.0 n.0 n.1) (
    on _ (says_expect s.Open n.0 o.0 o.1) (
    on _ (labels_alone x.labels o.0 a.0 e.0 o.2 e.1) (
    on _ (says_expect s.Close a.0 e.0 e.1) (ended e.2))))))))

as_lacks_dot : (b : Bool) (x : TypeName) (now u next : Stream) → Between (p.when b s.As) now u → Between (p.type x) u next → sees s.Dot now ≡ false
unfolding same
as_lacks_dot true x now u next h t = other_symbol s.Dot s.As now h.0 h.1 refl
as_lacks_dot false x now u next h t = ap (sees s.Dot) h ∙ no_symbol is_name s.Dot u.tokens refl (first_is_name u (type_first x u next t))

pub create_domain_alone : (x : CreateDomain) (now next : Stream) → Between (z.create_domain x) now next → next.tokens ≡ [] → create_domain now ≡ Some (x, next)
unfolding create_domain
create_domain_alone x now next h over =
    let k = h.2 in
    let as_word = p.when x.has_as s.As in
    let a = split ((p.qualified_name x.name ++ as_word) ++ p.type x.base) (flat_map z.constraint x.constraints) k.0 next k.2 in
    let b = split (p.qualified_name x.name ++ as_word) (p.type x.base) k.0 a.0 a.1 in
    let c = split (p.qualified_name x.name) as_word k.0 b.0 b.1 in
    let end = ap (ends closing) over in
    on _ (says_word (codes "create") now h.0 h.1) (
    on _ (says_word (codes "domain") h.0 k.0 k.1) (
    on _ (qualified_alone x.name k.0 c.0 c.1 (as_lacks_dot x.has_as x.base c.0 b.0 a.0 c.2 b.2)) (
    on _ (optional_alone s.As x.has_as c.0 b.0 c.2 (no_symbol is_name s.As b.0.tokens refl (first_is_name b.0 (type_first x.base b.0 a.0 b.2)))) (
    on _ (type_alone x.base b.0 a.0 b.2 (constraints_end_type x.constraints a.0 next a.2 end)) (
    on _ (constraints_alone x.constraints a.0 next a.2 end) refl)))))

-- ---- DROP

-- IF EXISTS is no first name of a list
names_no_exists : {A : Type 0} (pieces : A → List Piece) → ((x : A) (now next : Stream) → Between (pieces x) now next → begins_sign (codes "exists") next.tokens ≡ false → begins_letters (codes "if") (codes "exists") now.tokens ≡ false)
    → (xs : List A) (now next : Stream) → Between (p.listed (map pieces xs)) now next → begins_sign (codes "exists") next.tokens ≡ false → not (p.is_empty xs) ≡ true → begins_letters (codes "if") (codes "exists") now.tokens ≡ false
names_no_exists pieces unlike [] now next h e some = absurd (false_true some)
names_no_exists {A} pieces unlike (x ∷ xs) now next h e some =
    let m = split (pieces x) (flat_map (λ item. word s.Comma ∷ item) (map pieces xs)) now next h in
    unlike x now m.0 m.1 (behind xs m.0 m.2)
  where
    behind : (ys : List A) (u : Stream) → Between (flat_map (λ item. word s.Comma ∷ item) (map pieces ys)) u next → begins_sign (codes "exists") u.tokens ≡ false
    behind [] u k = ap (λ (v : Stream). begins_sign (codes "exists") v.tokens) k ∙ e
    behind (y ∷ ys) u k = other_letters (codes "exists") (reading.Symbol s.Comma) u k.0 k.1 refl

parted_names : Parted name p.name anywhere
parted_names = record { reads = λ x now next h e. name_alone x now next h; comma = λ now next h. refl }

pub drop_schema_alone : (x : DropSchema) (now next : Stream) → Between (z.drop_schema x) now next → next.tokens ≡ [] → drop_schema now ≡ Some (x, next)
unfolding drop_schema
drop_schema_alone x now next h over =
    let k = h.2 in
    let named = p.some x.names ∷ p.names x.names in
    let a = split (z.if_exists x.if_exists ++ named) (z.behavior_words x.behavior) k.0 next k.2 in
    let b = split (z.if_exists x.if_exists) named k.0 a.0 a.1 in
    let end = ap (ends nothing) over in
    let no_exists = behavior_no_exists nothing x.behavior a.0 next (λ r e. absurd (false_true e)) a.2 end in
    on _ (says_word (codes "drop") now h.0 h.1) (
    on _ (says_word (codes "schema") h.0 k.0 k.1) (
    on _ (if_exists_alone x.if_exists k.0 b.0 b.1 (λ unsaid. names_no_exists p.name (λ y u v. name_unlike (codes "if") (codes "exists") y u v) x.names b.0 a.0 b.2.1 no_exists b.2.0)) (
    on _ (listed_alone name p.name anywhere parted_names x.names b.0 a.0 b.2.0 b.2.1 (behavior_lacks nothing s.Comma x.behavior a.0 next refl a.2 end) refl) (
    on _ (behavior_alone nothing x.behavior a.0 next refl refl a.2 end) refl))))

abbrev undotted : Stream → Bool
undotted u = not (sees s.Dot u)

parted_qualified : Parted qualified_name p.qualified_name undotted
unfolding same
parted_qualified = record {
  reads = λ x now next h e. qualified_alone x now next h (not_true (sees s.Dot next) e);
  comma = λ now next h. ap not (other_symbol s.Dot s.Comma now next h refl);
}

kind_alone : (x : Dropped) (rest : List Piece) (now next : Stream) → Between (z.dropped_word x ∷ rest) now next → (u : Stream) × (dropped_kind now ≡ Some (x, u)) × Between rest u next
unfolding dropped_kind
kind_alone dropped.Table rest now next h = (h.0, if_so _ (that_word (codes "table") now h.0 h.1) (on _ (says_word (codes "table") now h.0 h.1) refl), h.2)
kind_alone dropped.Type rest now next h = (h.0, if_not _ (word_begins (codes "table") (reading.Word (codes "type")) now h.0 h.1) (if_so _ (that_word (codes "type") now h.0 h.1) (on _ (says_word (codes "type") now h.0 h.1) refl)), h.2)
kind_alone dropped.Domain rest now next h = (
  h.0,
  if_not _ (word_begins (codes "table") (reading.Word (codes "domain")) now h.0 h.1) (if_not _ (word_begins (codes "type") (reading.Word (codes "domain")) now h.0 h.1) (on _ (says_word (codes "domain") now h.0 h.1) refl)),
  h.2,
)

pub drop_named_alone : (x : DropNamed) (now next : Stream) → Between (z.drop_named x) now next → next.tokens ≡ [] → drop_named now ≡ Some (x, next)
unfolding drop_named
drop_named_alone x now next h over =
    let named = p.some x.names ∷ p.listed (map p.qualified_name x.names) in
    let k = kind_alone x.kind ((z.if_exists x.if_exists ++ named) ++ z.behavior_words x.behavior) h.0 next h.2 in
    let a = split (z.if_exists x.if_exists ++ named) (z.behavior_words x.behavior) k.0 next k.2 in
    let b = split (z.if_exists x.if_exists) named k.0 a.0 a.1 in
    let end = ap (ends nothing) over in
    let no_exists = behavior_no_exists nothing x.behavior a.0 next (λ r e. absurd (false_true e)) a.2 end in
    on _ (says_word (codes "drop") now h.0 h.1) (
    on _ k.1 (
    on _ (if_exists_alone x.if_exists k.0 b.0 b.1 (λ unsaid. names_no_exists p.qualified_name (λ y u v t e. qualified_unlike (codes "if") (codes "exists") y u v t refl e) x.names b.0 a.0 b.2.1 no_exists b.2.0)) (
    on _ (listed_alone qualified_name p.qualified_name undotted parted_qualified x.names b.0 a.0 b.2.0 b.2.1 (behavior_lacks nothing s.Comma x.behavior a.0 next refl a.2 end) (ap not (behavior_lacks nothing s.Dot x.behavior a.0 next refl a.2 end))) (
    on _ (behavior_alone nothing x.behavior a.0 next refl refl a.2 end) refl))))
