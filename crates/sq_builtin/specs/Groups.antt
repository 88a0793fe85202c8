-- How the rows of the program lie: in groups of one name and one count of inputs, and these in parts of the table, each of
-- one count of inputs and, for operators, of some first bytes. Only contracts of private functions speak of this.
use Rattle.std.specs.Prelude.{ℕ, Bool, true, not, ◌&&◌, ◌||◌, ◌==◌, if◌then◌else◌, List, [], ◌∷◌, ◌++◌, Option, Some, None, codes, find, flat_map, length, bytes_eq, nat_le, nat_lt}
use Rattle.std.specs.List.{list_all, list_any}
use Rattle.sq_builtin.specs.declared.group.Group.{Group}
use Rattle.sq_builtin.specs.declared.row.Row.{Row}
use Rattle.sq_builtin.specs.Entries.{Entry, json, jsonb, text}
use Rattle.sq_builtin.specs.Operators.{comparison, containment, equation, joins, minus, multiplications, overlaps, part, part_at_path, pattern_matches, plus, signs}
use Rattle.sq_builtin.specs.Functions.{none, one, two, three, four, five, six, seven, eight, ten, twelve, fourteen, sixteen}
use Rattle.sq_builtin.specs.Rows.{is_call}

-- the rows of groups, one after the other
abbrev pub rows_of : List Group → List Row
rows_of groups = flat_map (λ group. group.rows.now) groups

-- the first group of a name
abbrev pub named : List ℕ → List Group → Option Group
named name groups = find (λ group. bytes_eq group.name.now name) groups

-- the rows of a group, where there is one
abbrev pub found : Option Group → List Row
found (Some group) = group.rows.now
found None = []

-- whether a row has a name and a count of inputs
abbrev pub is_called : List ℕ → ℕ → Row → Bool
is_called name count row = bytes_eq row.name.now name && length row.inputs.now == count

-- whether a group has at most 128 rows, all of its name and of one count of inputs
abbrev pub is_sound : ℕ → Group → Bool
is_sound count group =
    list_all (is_called group.name.now count) group.rows.now && nat_le (length group.rows.now) 128

-- whether no two of these groups have one name
abbrev pub are_distinct : List Group → Bool
are_distinct [] = true
are_distinct (group ∷ groups) =
    not (list_any (λ other. bytes_eq other.name.now group.name.now) groups) && are_distinct groups

-- whether these are groups of one count of inputs, each of at most 128 rows and of its own name
abbrev pub are_sound : ℕ → List Group → Bool
are_sound count groups = list_all (is_sound count) groups && are_distinct groups

-- whether a group has a row, and every row is a function's or an aggregate's of the group's name
abbrev pub is_of_calls : Group → Bool
is_of_calls group =
    list_all (λ row. is_call row.kind && bytes_eq row.name.now group.name.now) group.rows.now && nat_lt 0 (length group.rows.now)

-- the lane of an operator by its first byte: all words are in one lane
abbrev pub lane_of_byte : ℕ → ℕ
lane_of_byte byte =
    if nat_le 97 byte && nat_le byte 122 then 97
    else if byte == 61 then 61
    else if byte == 60 then 60
    else if byte == 62 then 62
    else if byte == 43 || byte == 45 then 43
    else if byte == 42 || byte == 47 || byte == 37 || byte == 94 then 42
    else 33

-- the lane of a name
abbrev pub lane : List ℕ → ℕ
lane [] = 33
lane (byte ∷ rest) = lane_of_byte byte

-- a part of the table: the entries of a lane and a count of inputs
pub record Part : Type 0 where
  pub at_lane : ℕ
  pub at_count : ℕ
  pub entries : List Entry

-- the operators before an operand
unfoldable pub unary : List Entry
unary = signs

-- the binary operators that begin with =
unfoldable pub equal : List Entry
equal = equation (codes "=")

-- the binary operators that begin with <
unfoldable pub less : List Entry
less = equation (codes "<>") ++ comparison (codes "<") ++ comparison (codes "<=") ++ containment (codes "<@")

-- the binary operators that begin with >
unfoldable pub greater : List Entry
greater = comparison (codes ">") ++ comparison (codes ">=")

-- the binary operators that begin with + or -
unfoldable pub sums : List Entry
sums = plus ++ minus ++ part (codes "->") json jsonb ++ part (codes "->>") text text

-- the binary operators that begin with *, /, % or ^
unfoldable pub products : List Entry
products = multiplications

-- every other binary operator
unfoldable pub matches : List Entry
matches =
    pattern_matches ++ containment (codes "@>") ++ overlaps ++ joins ++
    part_at_path (codes "#>") json jsonb ++ part_at_path (codes "#>>") text text

-- the parts of the table
unfoldable pub parts : List Part
parts =
    record { at_lane = 61; at_count = 2; entries = equal } ∷
    record { at_lane = 60; at_count = 2; entries = less } ∷
    record { at_lane = 62; at_count = 2; entries = greater } ∷
    record { at_lane = 43; at_count = 2; entries = sums } ∷
    record { at_lane = 42; at_count = 2; entries = products } ∷
    record { at_lane = 33; at_count = 2; entries = matches } ∷
    record { at_lane = 43; at_count = 1; entries = unary } ∷
    record { at_lane = 97; at_count = 0; entries = none } ∷
    record { at_lane = 97; at_count = 1; entries = one } ∷
    record { at_lane = 97; at_count = 2; entries = two } ∷
    record { at_lane = 97; at_count = 3; entries = three } ∷
    record { at_lane = 97; at_count = 4; entries = four } ∷
    record { at_lane = 97; at_count = 5; entries = five } ∷
    record { at_lane = 97; at_count = 6; entries = six } ∷
    record { at_lane = 97; at_count = 7; entries = seven } ∷
    record { at_lane = 97; at_count = 8; entries = eight } ∷
    record { at_lane = 97; at_count = 10; entries = ten } ∷
    record { at_lane = 97; at_count = 12; entries = twelve } ∷
    record { at_lane = 97; at_count = 14; entries = fourteen } ∷
    record { at_lane = 97; at_count = 16; entries = sixteen } ∷ []

-- the entries of a part of the table, or none where there is no such part
abbrev pub part_at : ℕ → ℕ → List Part → List Entry
part_at at_lane at_count [] = []
part_at at_lane at_count (part ∷ parts) =
    if part.at_lane == at_lane && part.at_count == at_count then part.entries
    else part_at at_lane at_count parts
