-- The declarations of a query are read again.
use Rattle.std.proofs.Common.{◌≡◌, ◌<◌, ◌&&◌, Bool, true, false, cond, List, [], ◌∷◌, ◌++◌, codes, length, map, Some, None, Option, Ok, refl, ap, ◌∙◌, append_assoc, append-nil, arith}
use Rattle.std.specs.List.{list_all, flat_map}
use Rattle.std.specs.Option.{option_map_or}
use Rattle.std.proofs.lemmas.Grind.{flat_map-append}
use Rattle.sq_shown.specs.Layout as layout
use Rattle.sq_shown.specs.Lines.{line}
use Rattle.sq_shown.specs.Identifiers.{constant_name}
use Rattle.sq_shown.specs.declared.signature.Command.TheVariants.{Many}
use Rattle.sq_shown.specs.declared.signature.Shown.{Shown}
use Rattle.sq_shown.specs.declared.signature.ShownField.{ShownField}
use Rattle.sq_reader.specs.Parts.{Text, same}
use Rattle.sq_reader.specs.Forms.{struct_at, constant_at, method_at, is_row_of, if_row_of, row_at, answered, targets_at}
use Rattle.sq_reader.specs.Items.{query_group, query_items}
use Rattle.sq_reader.specs.Readable.{is_run, is_field}
use Rattle.sq_reader.specs.declared.parts.Class.TheVariants.{Word, Spelling}
use Rattle.sq_reader.specs.declared.forms.Struct.{Struct}
use Rattle.sq_reader.specs.declared.forms.Constant.{Constant}
use Rattle.sq_reader.specs.declared.forms.Method.{Method}
use Rattle.sq_reader.specs.declared.forms.Targets.{Targets}
use Rattle.sq_reader.specs.declared.forms.Targets.TheVariants.{Whole, Fields}
use Rattle.sq_reader.specs.declared.items.Item.{Item}
use Rattle.sq_reader.specs.declared.items.Source.{Source}
use Rattle.sq_reader.proofs.PartsAgain.{both, before_again, same_as_itself}
use Rattle.sq_reader.proofs.FormsAgain.{name_of, struct_again, constant_again, method_again, fields_targets, whole_target}

-- a declaration behind an empty line
abbrev pub gap : Text → Text
gap declaration = codes "\n" ++ declaration

-- declarations, each behind an empty line
abbrev pub gapped : List Text → Text
gapped declarations = flat_map gap declarations

-- a query that gives all rows
abbrev pub all_rows : Text → Text → List ShownField → Shown
all_rows name text columns = record { name = name; command = Many; text = text; params = []; columns = columns }

-- what is read of its targets, of the struct of its own rows, of its constant and of its method
abbrev pub read_targets : List ShownField → Targets
read_targets [] = Whole
read_targets (column ∷ []) = Whole
read_targets (column ∷ second ∷ columns) = Fields (map name_of (column ∷ second ∷ columns))

abbrev pub own_row : Option Text → Text → List ShownField → Option Struct
own_row model name columns = cond (layout.has_own_struct model columns) (Some (record { name = name ++ codes "Row"; fields = columns })) None

abbrev pub read_constant : Text → Text → Constant
read_constant name text = record { name = constant_name name; query = name; command = Many; text = text }

abbrev pub read_method : Option Text → Text → List ShownField → Method
read_method model name columns = record { result = layout.row_type model name columns; constant = constant_name name; targets = read_targets columns }

-- the text from its method on, from the struct of its own rows on, and all of it
abbrev pub from_method : Option Text → Text → List ShownField → Text → Text
from_method model name columns rest = codes "\n" ++ (layout.many name (layout.row_type model name columns) (layout.targets columns) ++ rest)

abbrev pub from_row : Option Text → Text → List ShownField → Text → Text
from_row model name columns rest = gapped (layout.row_struct model name columns) ++ from_method model name columns rest

abbrev pub from_constant : Option Text → Text → Text → List ShownField → Text → Text
from_constant model name text columns rest = codes "\n" ++ (layout.constant (all_rows name text columns) ++ from_row model name columns rest)

query_parts : (a b c rest : Text) → (a ++ (b ++ (c ++ []))) ++ rest ≡ a ++ (b ++ (c ++ rest))
query_parts a b c rest = rw append-nil (simp append_assoc)

-- what is written for it is this text
pub query_text : (model : Option Text) (name text : Text) (columns : List ShownField) (rest : Text) → gapped (layout.shown_declarations model (all_rows name text columns)) ++ rest ≡ from_constant model name text columns rest
unfolding layout.shown_declarations
query_text model name text columns rest =
    let rows : List Text = layout.row_struct model name columns in
    let many : Text = layout.many name (layout.row_type model name columns) (layout.targets columns) in
    ap (λ (later : Text). (gap (layout.constant (all_rows name text columns)) ++ later) ++ rest) (flat_map-append gap rows (many ∷ []))
    ∙ query_parts (gap (layout.constant (all_rows name text columns))) (gapped rows) (gap many) rest

constant_parts : (a b c rest : Text) → (a ++ b ++ c) ++ rest ≡ a ++ (b ++ (c ++ rest))
constant_parts a b c rest = simp append_assoc

-- its constant
constant_here : (name text : Text) (columns : List ShownField) (rest : Text) → is_run Word name ≡ true → is_run Word (constant_name name) ≡ true →
    constant_at (codes "\n" ++ (layout.constant (all_rows name text columns) ++ rest)) ≡ Some (read_constant name text, rest)
unfolding layout.constant
constant_here name text columns rest named constant =
    ap (λ (x : Text). constant_at (codes "\n" ++ x)) (constant_parts (layout.annotation (constant_name name) name Many) (line (layout.raw text)) (line (codes "`")) rest)
    ∙ constant_again (constant_name name) name text rest constant named

-- its method, which is no struct
method_here : (name row : Text) (targets : List Text) (read : Targets) (rest : Text) → is_run Word (constant_name name) ≡ true → is_run Spelling row ≡ true →
    targets_at (flat_map layout.target_line targets ++ (answered ++ rest)) ≡ Some (read, answered ++ rest) →
    method_at name (codes "\n" ++ (layout.many name row targets ++ rest)) ≡ Some (record { result = row; constant = constant_name name; targets = read }, rest)
unfolding layout.many
method_here name row targets read rest constant spelled again = method_again (constant_name name) name row targets read rest constant spelled again

no_struct : (name row : Text) (targets : List Text) (rest : Text) → struct_at (codes "\n" ++ (layout.many name row targets ++ rest)) ≡ None
unfolding struct_at layout.many layout.many_head
no_struct name row targets rest = refl

-- a struct is that of the query's rows
row_again : (query : Text) → is_row_of query (query ++ codes "Row") ≡ true
row_again query = ap (λ (front : Option Text). option_map_or (λ front. same front query) front false) (before_again query (codes "Row")) ∙ same_as_itself query

-- the struct of its own rows, where it has one
row_here : (name : Text) (columns : List ShownField) (there : Text) (own : Bool) → is_run Word (name ++ codes "Row") ≡ true → list_all is_field columns ≡ true → struct_at there ≡ None →
    row_at name (gapped (cond own (layout.struct_text (name ++ codes "Row") columns ∷ []) []) ++ there) ≡ (cond own (Some (record { name = name ++ codes "Row"; fields = columns })) None, there)
row_here name columns there true rowed all none =
    let row : Text = name ++ codes "Row" in
    ap (λ (x : Text). row_at name (codes "\n" ++ (x ++ there))) (append-nil (layout.struct_text row columns))
    ∙ ap (if_row_of name (codes "\n" ++ (layout.struct_text row columns ++ there))) (struct_again row columns there rowed all)
    ∙ ap (λ (t : Bool). cond {A = Option Struct × Text} t (Some (record { name = row; fields = columns }), there) (None, codes "\n" ++ (layout.struct_text row columns ++ there))) (row_again name)
row_here name columns there false rowed all none = ap (if_row_of name there) none

-- names of fields are words
words_of : (fields : List ShownField) → list_all is_field fields ≡ true → list_all (is_run Word) (map name_of fields) ≡ true
words_of [] ok = refl
words_of (field ∷ fields) ok =
    let h = both (is_field field) (list_all is_field fields) ok in
    let named = both (is_run Word field.name) (is_run Spelling field.of) h.0 in
    ap (λ (t : Bool). t && list_all (is_run Word) (map name_of fields)) named.0 ∙ words_of fields h.1

-- its targets
targets_here : (columns : List ShownField) (rest : Text) → list_all is_field columns ≡ true → 0 < length columns →
    targets_at (flat_map layout.target_line (layout.targets columns) ++ (answered ++ rest)) ≡ Some (read_targets columns, answered ++ rest)
targets_here [] rest all some = absurd (omega arith)
targets_here (column ∷ []) rest all some = whole_target column rest
targets_here (column ∷ second ∷ columns) rest all some = fields_targets column second columns rest (words_of (column ∷ second ∷ columns) all)

-- the items that are read of it
abbrev pub items_of : Source → Option Text → Text → Text → List ShownField → Text → List Item
items_of source model name text columns rest =
    query_items source (from_constant model name text columns rest) (from_row model name columns rest) (from_method model name columns rest) (read_constant name text) (own_row model name columns) (read_method model name columns)

-- all of it is read again
pub query_again : (source : Source) (model : Option Text) (name text : Text) (columns : List ShownField) (rest : Text) → is_run Word name ≡ true → is_run Word (constant_name name) ≡ true → is_run Word (name ++ codes "Row") ≡ true →
    is_run Spelling (layout.row_type model name columns) ≡ true → list_all is_field columns ≡ true → 0 < length columns →
    query_group source (from_constant model name text columns rest) ≡ Ok (items_of source model name text columns rest, rest)
unfolding query_group
query_again source model name text columns rest named constant rowed spelled all some =
    let there : Text = from_method model name columns rest in
    rw (
      constant_here name text columns (from_row model name columns rest) named constant,
      row_here name columns there (layout.has_own_struct model columns) rowed all (no_struct name (layout.row_type model name columns) (layout.targets columns) rest),
      method_here name (layout.row_type model name columns) (layout.targets columns) (read_targets columns) rest constant spelled (targets_here columns rest all some),
    ) refl
