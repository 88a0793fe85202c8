-- The table of operators, functions and aggregates, and the look-up of a name and a count of inputs.
use Rattle.std.specs.Prelude.{ℕ, Bool, true, false, ◌&&◌, ◌==◌, List, ◌++◌, filter, length, bytes_eq}
use Rattle.std.specs.List.{list_any}
use Rattle.sq_builtin.specs.declared.row.Kind.{Kind}
use Rattle.sq_builtin.specs.declared.row.Kind.TheVariants.{Operator, Function, Aggregate}
use Rattle.sq_builtin.specs.Entries.{Entry}
use Rattle.sq_builtin.specs.Operators.{operators}
use Rattle.sq_builtin.specs.Functions.{functions}

-- the table, in the order of the listing
unfoldable pub table : List Entry
table = operators ++ functions

-- whether an entry has a name and a count of inputs
abbrev pub has_name_and_count : List ℕ → ℕ → Entry → Bool
has_name_and_count name count entry = bytes_eq entry.name name && length entry.inputs == count

-- the entries of a name and a count of inputs, in the order of the table
abbrev pub rows : List ℕ → ℕ → List Entry
rows name count = filter (has_name_and_count name count) table

-- whether an entry is a function's or an aggregate's
abbrev pub is_call : Kind → Bool
is_call Operator = false
is_call Function = true
is_call Aggregate = true

-- whether an entry is that of a function or an aggregate of a name
abbrev pub is_call_of : List ℕ → Entry → Bool
is_call_of name entry = is_call entry.kind && bytes_eq entry.name name

-- whether some function or aggregate among entries has a name
abbrev pub is_among : List ℕ → List Entry → Bool
is_among name entries = list_any (is_call_of name) entries

-- whether some function or aggregate has a name
abbrev pub known : List ℕ → Bool
known name = is_among name table
