-- Each type of the table is known and no domain, and the aggregates of the table have names of their own.
use Rattle.std.proofs.Common.{◌≡◌, ℕ, Bool, true, false, ◌&&◌, if◌then◌else◌, List, [], ◌∷◌, filter, refl}
use Rattle.std.specs.List.{list_all}
use Rattle.sq_builtin.specs.Operators.{operators}
use Rattle.sq_builtin.specs.Functions.{none, one, two, three, four, five, six, seven, eight, ten, twelve, fourteen, sixteen}
use Rattle.sq_builtin.specs.Rows.{has_name_and_count, rows, table}
use Rattle.sq_overload.specs.Laws.{RowsHaveBaseTypes, has_base_types}
use Rattle.sq_overload.proofs.TypeTests.{and_left, and_right}

all_kept : {X : Type 0} (test keep : X → Bool) (xs : List X) → list_all test xs ≡ true → list_all test (filter keep xs) ≡ true
all_kept test keep [] all = refl
all_kept test keep (x ∷ xs) all =
    first (keep x) (and_left (test x) _ all) (all_kept test keep xs (and_right (test x) _ all))
  where
    first : (kept : Bool) → test x ≡ true → list_all test (filter keep xs) ≡ true → list_all test (if kept then x ∷ filter keep xs else filter keep xs) ≡ true
    first true here later = rw here later
    first false here later = later

table_has_base_types : list_all has_base_types table ≡ true
unfolding table operators none one two three four five six seven eight ten twelve fourteen sixteen
table_has_base_types = refl

-- every type of the entries of a name and a count is known and no domain
pub rows_have_base_types : RowsHaveBaseTypes
rows_have_base_types name count = all_kept has_base_types (has_name_and_count name count) table table_has_base_types
