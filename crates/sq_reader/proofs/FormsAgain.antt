-- The forms of a file are read again.
use Rattle.std.proofs.Common.{◌≡◌, true, List, [], ◌∷◌, ◌++◌, codes, map, Some, None, refl, ap, ◌∙◌, append_assoc, arith, length-append}
use Rattle.std.specs.List.{list_all, flat_map}
use Rattle.sq_shown.specs.Layout as layout
use Rattle.sq_shown.specs.Lines.{line}
use Rattle.sq_shown.specs.declared.signature.ShownField.{ShownField}
use Rattle.sq_shown.specs.declared.signature.Command.TheVariants.{Many}
use Rattle.sq_reader.specs.Parts.{Text, not_none}
use Rattle.sq_reader.specs.Forms.{field_at, struct_at, constant_at, target_at, targets_at, method_at, answered, whole_or}
use Rattle.sq_reader.specs.Readable.{is_run, is_field}
use Rattle.sq_reader.specs.declared.parts.Class.TheVariants.{Word, Spelling}
use Rattle.sq_reader.specs.declared.forms.Targets.{Targets}
use Rattle.sq_reader.specs.declared.forms.Targets.TheVariants.{Whole, Fields}
use Rattle.sq_reader.proofs.RawAgain.{raw_again, closing}
use Rattle.sq_reader.proofs.PartsAgain.{both, behind_again, before_again, run_again, AllAgain, AllSome, many_again}

-- texts in rows of parts, nested to the right
two_parts : (a b c x : Text) → ((a ++ b) ++ c) ++ x ≡ a ++ (b ++ (c ++ x))
two_parts a b c x = simp append_assoc

three_parts : (a b c d x : Text) → ((a ++ b ++ c) ++ d) ++ x ≡ a ++ (b ++ (c ++ (d ++ x)))
three_parts a b c d x = simp append_assoc

four_parts : (a b c d e x : Text) → ((a ++ b ++ c ++ d) ++ e) ++ x ≡ a ++ (b ++ (c ++ (d ++ (e ++ x))))
four_parts a b c d e x = simp append_assoc

five_parts : (a b c d e f x : Text) → ((a ++ b ++ c ++ d ++ e) ++ f) ++ x ≡ a ++ (b ++ (c ++ (d ++ (e ++ (f ++ x)))))
five_parts a b c d e f x = simp append_assoc

line_parts : (a b c d e x : Text) → (((a ++ b) ++ c) ++ d ++ e) ++ x ≡ a ++ (b ++ (c ++ (d ++ (e ++ x))))
line_parts a b c d e x = simp append_assoc

method_parts : (a b c d e f g x : Text) → (a ++ b ++ c ++ d ++ e ++ f ++ g) ++ x ≡ a ++ (b ++ (c ++ (d ++ (e ++ (f ++ (g ++ x))))))
method_parts a b c d e f g x = simp append_assoc

-- a field
field_again : (field : ShownField) (rest : Text) → is_field field ≡ true → field_at (layout.field_line field ++ rest) ≡ Some (field, rest)
unfolding field_at
field_again field rest ok =
    let h = both (is_run Word field.name) (is_run Spelling field.of) ok in
    let text : layout.field_line field ++ rest ≡ codes "\t" ++ (field.name ++ (codes " " ++ (field.of ++ (codes "\n" ++ rest)))) = ap (λ (x : Text). codes "\t" ++ x) (three_parts field.name (codes " ") field.of (10 ∷ []) rest) in
    ap field_at text ∙ rw (run_again Word field.name 32 (field.of ++ 10 ∷ rest) h.0 refl, run_again Spelling field.of 10 rest h.1 refl) refl

fields_again : (fields : List ShownField) → list_all is_field fields ≡ true → AllAgain field_at layout.field_line fields
fields_again [] ok = tt
fields_again (field ∷ fields) ok =
    let h = both (is_field field) (list_all is_field fields) ok in
    (λ rest. field_again field rest h.0, fields_again fields h.1)

field_some : AllSome layout.field_line
field_some field = let e = length-append (codes "\t" ++ field.name ++ codes " " ++ field.of) (10 ∷ []) in omega (arith, e)

-- a struct
pub struct_again : (name : Text) (fields : List ShownField) (rest : Text) → is_run Word name ≡ true → list_all is_field fields ≡ true →
    struct_at (codes "\n" ++ (layout.struct_text name fields ++ rest)) ≡ Some (record { name = name; fields = fields }, rest)
unfolding struct_at layout.struct_text field_at
struct_again name fields rest ok all =
    let text : codes "\n" ++ (layout.struct_text name fields ++ rest) ≡ codes "\ntype " ++ (name ++ (codes " struct {\n" ++ (flat_map layout.field_line fields ++ (codes "}\n" ++ rest)))) =
    ap (λ (x : Text). codes "\ntype " ++ x) (line_parts name (codes " struct {") (10 ∷ []) (flat_map layout.field_line fields) (codes "}\n") rest) in
    ap struct_at text ∙ rw (run_again Word name 32 (codes "struct {\n" ++ (flat_map layout.field_line fields ++ (codes "}\n" ++ rest))) ok refl, many_again field_at layout.field_line fields (codes "}\n" ++ rest) field_some (fields_again fields all) refl) refl

-- the constant of a query
pub constant_again : (name query text rest : Text) → is_run Word name ≡ true → is_run Word query ≡ true →
    constant_at (codes "\n" ++ (layout.annotation name query Many ++ (line (layout.raw text) ++ (line (codes "`") ++ rest)))) ≡ Some (record { name = name; query = query; command = Many; text = text }, rest)
unfolding constant_at layout.annotation
constant_again name query text rest named queried =
    let parts : codes "\n" ++ (layout.annotation name query Many ++ (line (layout.raw text) ++ (line (codes "`") ++ rest)))
    ≡ codes "\nconst " ++ (name ++ (codes " = `-- name: " ++ (query ++ (codes " :many\n" ++ (layout.raw text ++ closing rest))))) =
    ap (λ (x : Text). codes "\nconst " ++ x) (five_parts name (codes " = `-- name: ") query (codes " ") (codes ":many") (10 ∷ []) (line (layout.raw text) ++ (line (codes "`") ++ rest)))
    ∙ ap (λ (x : Text). codes "\nconst " ++ (name ++ (codes " = `-- name: " ++ (query ++ (codes " :many\n" ++ x))))) (append_assoc (layout.raw text) (10 ∷ []) (line (codes "`") ++ rest)) in
    ap constant_at parts
    ∙ rw (
      run_again Word name 32 (codes "= `-- name: " ++ (query ++ (codes " :many\n" ++ (layout.raw text ++ closing rest)))) named refl,
      run_again Word query 32 (codes ":many\n" ++ (layout.raw text ++ closing rest)) queried refl,
      raw_again text rest,
      before_again text (codes "\n"),
    ) refl

-- the target of a field
target_again : (name : Text) (rest : Text) → is_run Word name ≡ true → target_at (layout.target_line (codes "&i." ++ name) ++ rest) ≡ Some (name, rest)
unfolding target_at
target_again name rest ok =
    let text : layout.target_line (codes "&i." ++ name) ++ rest ≡ codes "\t\t\t&i." ++ (name ++ (codes ",\n" ++ rest)) = simp append_assoc in
    ap target_at text ∙ rw (run_again Word name 44 (10 ∷ rest) ok refl) refl

-- targets
targets_again : (names : List Text) → list_all (is_run Word) names ≡ true → AllAgain target_at (λ name. layout.target_line (codes "&i." ++ name)) names
targets_again [] ok = tt
targets_again (name ∷ names) ok =
    let h = both (is_run Word name) (list_all (is_run Word) names) ok in
    (λ rest. target_again name rest h.0, targets_again names h.1)

target_some : AllSome (λ name. layout.target_line (codes "&i." ++ name))
target_some name = let e = length-append (codes "\t\t\t" ++ (codes "&i." ++ name) ++ codes ",") (10 ∷ []) in omega (arith, e)

abbrev pub name_of : ShownField → Text
name_of field = field.name

target_lines : (fields : List ShownField) → flat_map layout.target_line (map layout.field_target fields) ≡ flat_map (λ name. layout.target_line (codes "&i." ++ name)) (map name_of fields)
target_lines [] = refl
target_lines (field ∷ fields) = ap (λ (x : Text). layout.target_line (codes "&i." ++ field.name) ++ x) (target_lines fields)

-- the targets of a method, and its end
pub fields_targets : (first second : ShownField) (fields : List ShownField) (rest : Text) → list_all (is_run Word) (map name_of (first ∷ second ∷ fields)) ≡ true →
    targets_at (flat_map layout.target_line (layout.targets (first ∷ second ∷ fields)) ++ (answered ++ rest)) ≡ Some (Fields (map name_of (first ∷ second ∷ fields)), answered ++ rest)
unfolding target_at
fields_targets first second fields rest ok =
    ap (λ (x : Text). targets_at (x ++ (answered ++ rest))) (target_lines (first ∷ second ∷ fields))
    ∙ ap (λ (r : List Text × Text). whole_or None (not_none r))
    (many_again target_at (λ name. layout.target_line (codes "&i." ++ name)) (map name_of (first ∷ second ∷ fields)) (answered ++ rest) target_some (targets_again (map name_of (first ∷ second ∷ fields)) ok) refl)

pub whole_target : (column : ShownField) (rest : Text) → targets_at (flat_map layout.target_line (layout.targets (column ∷ [])) ++ (answered ++ rest)) ≡ Some (Whole, answered ++ rest)
whole_target column rest = refl

-- the lines of a method
head_line : (query row x : Text) → layout.many_head query row ++ x ≡ codes "func (q *Queries) " ++ (query ++ (codes "(ctx context.Context) ([]" ++ (row ++ (codes ", error) {\n" ++ x))))
unfolding layout.many_head
head_line query row x = ap (λ (y : Text). codes "func (q *Queries) " ++ y) (four_parts query (codes "(ctx context.Context) ([]") row (codes ", error) {") (10 ∷ []) x)

call_line : (name x : Text) → layout.many_call name ++ x ≡ codes "\trows, err := q.db.QueryContext(ctx, " ++ (name ++ (codes ")\n" ++ x))
unfolding layout.many_call
call_line name x = ap (λ (y : Text). codes "\trows, err := q.db.QueryContext(ctx, " ++ y) (two_parts name (codes ")") (10 ∷ []) x)

items_line : (row x : Text) → layout.many_items row ++ x ≡ codes "\tif err != nil {\n\t\treturn nil, err\n\t}\n\tdefer rows.Close()\n\tvar items []" ++ (row ++ (codes "\n" ++ x))
unfolding layout.many_items
items_line row x = ap (λ (y : Text). codes "\tif err != nil {\n\t\treturn nil, err\n\t}\n\tdefer rows.Close()\n\tvar items []" ++ y) (append_assoc row (10 ∷ []) x)

row_line : (row x : Text) → layout.many_row row ++ x ≡ codes "\tfor rows.Next() {\n\t\tvar i " ++ (row ++ (codes "\n" ++ x))
unfolding layout.many_row
row_line row x = ap (λ (y : Text). codes "\tfor rows.Next() {\n\t\tvar i " ++ y) (append_assoc row (10 ∷ []) x)

-- a method with these targets, of which each is read again
pub method_again : (name query row : Text) (targets : List Text) (read : Targets) (rest : Text) → is_run Word name ≡ true → is_run Spelling row ≡ true →
    targets_at (flat_map layout.target_line targets ++ (answered ++ rest)) ≡ Some (read, answered ++ rest) →
    method_at query (codes "\n" ++ ((layout.many_head query row ++ layout.many_call name ++ layout.many_items row ++ layout.many_row row ++ layout.many_scan ++ flat_map layout.target_line targets ++ layout.many_end) ++ rest))
    ≡ Some (record { result = row; constant = name; targets = read }, rest)
unfolding method_at layout.many_scan layout.many_end
method_again name query row targets read rest named spelled again =
    let lines = flat_map layout.target_line targets ++ (answered ++ rest) in
    let text =
    method_parts (layout.many_head query row) (layout.many_call name) (layout.many_items row) (layout.many_row row) layout.many_scan (flat_map layout.target_line targets) layout.many_end rest
    ∙ head_line query row (layout.many_call name ++ (layout.many_items row ++ (layout.many_row row ++ (codes "\t\tif err := rows.Scan(\n" ++ lines))))
    ∙ ap (λ (x : Text). codes "func (q *Queries) " ++ (query ++ (codes "(ctx context.Context) ([]" ++ (row ++ (codes ", error) {\n" ++ x)))))
    (call_line name (layout.many_items row ++ (layout.many_row row ++ (codes "\t\tif err := rows.Scan(\n" ++ lines)))
    ∙ ap (λ (x : Text). codes "\trows, err := q.db.QueryContext(ctx, " ++ (name ++ (codes ")\n" ++ x)))
    (items_line row (layout.many_row row ++ (codes "\t\tif err := rows.Scan(\n" ++ lines))
    ∙ ap (λ (x : Text). codes "\tif err != nil {\n\t\treturn nil, err\n\t}\n\tdefer rows.Close()\n\tvar items []" ++ (row ++ (codes "\n" ++ x)))
    (row_line row (codes "\t\tif err := rows.Scan(\n" ++ lines)))) in
    ap (λ (x : Text). method_at query (codes "\n" ++ x)) text
    ∙ rw (behind_again query _, run_again Spelling row 44 _ spelled refl, run_again Word name 41 _ named refl, behind_again row _, behind_again row _, again) refl
