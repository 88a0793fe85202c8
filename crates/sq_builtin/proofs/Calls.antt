-- Whether some function or aggregate has a name.
use Rattle.std.proofs.Common.{◌≡◌, ℕ, Bool, true, false, ◌&&◌, ◌||◌, List, [], ◌∷◌, ◌++◌, length, map, refl, subst, arith}
use Rattle.std.specs.Prelude.{bytes_eq, nat_lt}
use Rattle.std.specs.List.{list_all, list_any}
use Rattle.std.proofs.lemmas.Grind.{common_steps}
use Rattle.std.proofs.lemmas.Bool.Decides.{nat_tests}
use Rattle.std.proofs.lemmas.List.Folds.{list_any-append}
use Rattle.std.proofs.lemmas.Slice.Eq.{bytes_eq-Decides}
use Rattle.sq_builtin.specs.declared.group.Group.{Group}
use Rattle.sq_builtin.specs.declared.row.Row.{Row}
use Rattle.sq_builtin.specs.Entries.{entry_of}
use Rattle.sq_builtin.specs.Groups.{rows_of, is_of_calls}
use Rattle.sq_builtin.specs.Operators.{operators}
use Rattle.sq_builtin.specs.Functions.{none, one, two, three, four, five, six, seven, eight, ten, twelve, fourteen, sixteen}
use Rattle.sq_builtin.specs.Rows.{is_call, is_call_of, known, table}

-- rows of one name have no other
pub no_call :
    (name other : List ℕ) → bytes_eq other name ≡ false → (rows : List Row) →
    list_all (λ (row : Row). is_call row.kind && bytes_eq row.name.now other) rows ≡ true →
    list_any (is_call_of name) (map entry_of rows) ≡ false
no_call name other differs [] all = refl
no_call name other differs (row ∷ rows) all =
    grind (arith, common_steps, bytes_eq-Decides row.name.now other, no_call name other differs rows)

-- where there is a row, it has the name
pub some_call :
    (name : List ℕ) (rows : List Row) → nat_lt 0 (length rows) ≡ true →
    list_all (λ (row : Row). is_call row.kind && bytes_eq row.name.now name) rows ≡ true →
    list_any (is_call_of name) (map entry_of rows) ≡ true
some_call name [] some all = grind (arith, common_steps, nat_tests)
some_call name (row ∷ rows) some all = grind (arith, common_steps)

-- a group of functions has a call of a name exactly if it has the name
pub group_call :
    (name : List ℕ) (group : Group) (same : Bool) → bytes_eq group.name.now name ≡ same → is_of_calls group ≡ true →
    list_any (is_call_of name) (map entry_of group.rows.now) ≡ same
group_call name group true is sound =
    let all : list_all (λ (row : Row). is_call row.kind && bytes_eq row.name.now group.name.now) group.rows.now ≡ true = grind (arith, common_steps) in
    let some : nat_lt 0 (length group.rows.now) ≡ true = grind (arith, common_steps) in
    let one : group.name.now ≡ name = (bytes_eq-Decides group.name.now name).0 is in
    some_call name group.rows.now some
    (subst (λ (n : List ℕ). list_all (λ (row : Row). is_call row.kind && bytes_eq row.name.now n) group.rows.now ≡ true) one all)
group_call name group false is sound =
    let all : list_all (λ (row : Row). is_call row.kind && bytes_eq row.name.now group.name.now) group.rows.now ≡ true = grind (arith, common_steps) in
    no_call name group.name.now is group.rows.now all

-- what a function gives of two lists, one after the other
pub map-append : {X Y : Type 0} (f : X → Y) (xs ys : List X) → map f (xs ++ ys) ≡ map f xs ++ map f ys
map-append f [] ys = refl
map-append f (x ∷ xs) ys = grind (arith, common_steps, map-append f xs ys)

-- groups of functions have a call of a name exactly if one has the name
pub groups_call :
    (name : List ℕ) (groups : List Group) → list_all is_of_calls groups ≡ true →
    list_any (λ (group : Group). bytes_eq group.name.now name) groups ≡ list_any (is_call_of name) (map entry_of (rows_of groups))
groups_call name [] sound = refl
groups_call name (group ∷ groups) sound =
    let first : is_of_calls group ≡ true = grind (arith, common_steps) in
    let rest : list_all is_of_calls groups ≡ true = grind (arith, common_steps) in
    let here : list_any (is_call_of name) (map entry_of group.rows.now) ≡ bytes_eq group.name.now name = group_call name group (bytes_eq group.name.now name) refl first in
    let there : list_any (λ (group : Group). bytes_eq group.name.now name) groups ≡ list_any (is_call_of name) (map entry_of (rows_of groups)) = groups_call name groups rest in
    let e : map entry_of (group.rows.now ++ rows_of groups) ≡ map entry_of group.rows.now ++ map entry_of (rows_of groups) = map-append entry_of group.rows.now (rows_of groups) in
    let d : list_any (is_call_of name) (map entry_of group.rows.now ++ map entry_of (rows_of groups)) ≡ (list_any (is_call_of name) (map entry_of group.rows.now) || list_any (is_call_of name) (map entry_of (rows_of groups))) = list_any-append (is_call_of name) (map entry_of group.rows.now) (map entry_of (rows_of groups)) in
    grind (arith, common_steps)

-- no operator is a call
pub no_operator : (name : List ℕ) → list_any (is_call_of name) operators ≡ false
unfolding operators
no_operator name = refl

-- the calls of the table are those of the functions and aggregates
pub calls_of_table :
    (name : List ℕ) →
    known name ≡
    (list_any (is_call_of name) none || list_any (is_call_of name) one || list_any (is_call_of name) two || list_any (is_call_of name) three || list_any (is_call_of name) four || list_any (is_call_of name) five || list_any (is_call_of name) six || list_any (is_call_of name) seven || list_any (is_call_of name) eight || list_any (is_call_of name) ten || list_any (is_call_of name) twelve || list_any (is_call_of name) fourteen || list_any (is_call_of name) sixteen)
unfolding table
calls_of_table name = simp (list_any-append, no_operator name)
