-- The table is cut into its parts: each has the entries of its lane and its count, and each entry is in one.
use Rattle.std.proofs.Common.{◌≡◌, ℕ, true, List, map, filter, refl, ap, sym, ◌∙◌}
use Rattle.std.specs.List.{list_all}
use Rattle.sq_builtin.specs.declared.group.Group.{Group}
use Rattle.sq_builtin.specs.Entries.{entry_of}
use Rattle.sq_builtin.specs.Groups.{unary, equal, less, greater, sums, products, matches, lane, parts, part_at, rows_of, named, found, are_sound}
use Rattle.sq_builtin.specs.Operators.{operators}
use Rattle.sq_builtin.specs.Functions.{none, one, two, three, four, five, six, seven, eight, ten, twelve, fourteen, sixteen}
use Rattle.sq_builtin.specs.Rows.{has_name_and_count, rows, table}
use Rattle.sq_builtin.proofs.Look.{AreParts, all_covered, entries_of_parts, in_some, map_filter, rows_of_groups}

-- each part has the entries of its lane and its count
parts_are_parts : AreParts table parts
unfolding table parts operators unary equal less greater sums products matches none one two three four five six seven eight ten twelve fourteen sixteen
parts_are_parts = (refl, (refl, (refl, (refl, (refl, (refl, (refl, (refl, (refl, (refl, (refl, (refl, (refl, (refl, (refl, (refl, (refl, (refl, (refl, (refl, tt))))))))))))))))))))

-- each entry is in a part
all_in_parts : list_all (in_some parts) table ≡ true
unfolding table parts operators unary equal less greater sums products matches none one two three four five six seven eight ten twelve fourteen sixteen
all_in_parts = refl

-- the entries of the rows found in the part of a name and a count are those of the table
pub rows_found :
    (name : List ℕ) (count : ℕ) (groups : List Group) → are_sound count groups ≡ true →
    map entry_of (rows_of groups) ≡ part_at (lane name) count parts →
    map entry_of (found (named name groups)) ≡ rows name count
rows_found name count groups sound same =
    ap (map entry_of) (sym (rows_of_groups name count groups sound))
    ∙ map_filter entry_of (has_name_and_count name count) (rows_of groups)
    ∙ ap (filter (has_name_and_count name count)) same
    ∙ sym (entries_of_parts table name count parts parts_are_parts (all_covered name count parts table all_in_parts))
