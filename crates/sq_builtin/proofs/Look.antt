-- The rows of a name and a count of inputs are those of its group in its part of the table.
use Rattle.std.proofs.Common.{◌≡◌, ℕ, ◌≤◌, Bool, true, false, not, if◌then◌else◌, ◌&&◌, ◌||◌, ◌==◌, List, [], ◌∷◌, ◌++◌, Some, length, map, filter, flat_map, refl, ap, subst, ◌∙◌, arith, All}
use Rattle.std.specs.Prelude.{bytes_eq}
use Rattle.std.specs.List.{list_all, list_any}
use Rattle.std.proofs.lemmas.Grind.{common_steps}
use Rattle.std.proofs.lemmas.Bool.Decides.{nat_tests}
use Rattle.std.proofs.lemmas.List.{append-nil}
use Rattle.std.proofs.lemmas.List.Elements.{filter-append, All-nil, All-cons}
use Rattle.std.proofs.lemmas.Slice.Eq.{bytes_eq-Decides}
use Rattle.sq_builtin.specs.declared.group.Group.{Group}
use Rattle.sq_builtin.specs.declared.row.Row.{Row}
use Rattle.sq_builtin.specs.Entries.{Entry}
use Rattle.sq_builtin.specs.Groups.{Part, rows_of, named, found, is_called, is_sound, are_sound, lane, part_at}
use Rattle.sq_builtin.specs.Rows.{has_name_and_count}

-- a test that every element passes keeps them all
pub filter_all : {X : Type 0} (p : X → Bool) (xs : List X) → list_all p xs ≡ true → filter p xs ≡ xs
filter_all p [] h = refl
filter_all p (x ∷ xs) h = grind (arith, common_steps, filter_all p xs)

-- a test that fails where another passes keeps nothing of what passes the other
pub filter_none :
    {X : Type 0} (p q : X → Bool) (fails : (x : X) → q x ≡ true → p x ≡ false) (xs : List X) →
    list_all q xs ≡ true → filter p xs ≡ []
filter_none p q fails [] h = refl
filter_none p q fails (x ∷ xs) h = grind (arith, common_steps, fails x, filter_none p q fails xs)

-- what is kept of what a function gives
pub map_filter :
    {X Y : Type 0} (f : X → Y) (q : Y → Bool) (xs : List X) →
    map f (filter (λ x. q (f x)) xs) ≡ filter q (map f xs)
map_filter f q [] = refl
map_filter f q (x ∷ xs) = grind (arith, common_steps, map_filter f q xs)

-- a row of one name has no other
pub other_name :
    (name other : List ℕ) (count : ℕ) → bytes_eq other name ≡ false →
    (row : Row) → is_called other count row ≡ true → is_called name count row ≡ false
other_name name other count differs row is = grind (arith, common_steps, bytes_eq-Decides row.name.now other)

-- a group of another name has no row of the name
pub group_other :
    (name : List ℕ) (count : ℕ) (group : Group) → is_sound count group ≡ true →
    bytes_eq group.name.now name ≡ false → filter (is_called name count) group.rows.now ≡ []
group_other name count group sound differs =
    let all : list_all (is_called group.name.now count) group.rows.now ≡ true = grind (arith, common_steps) in
    filter_none (is_called name count) (is_called group.name.now count)
    (other_name name group.name.now count differs) group.rows.now all

-- a group of the name has its rows alone
pub group_same :
    (name : List ℕ) (count : ℕ) (group : Group) → is_sound count group ≡ true →
    bytes_eq group.name.now name ≡ true → filter (is_called name count) group.rows.now ≡ group.rows.now
group_same name count group sound same =
    let all : list_all (is_called group.name.now count) group.rows.now ≡ true = grind (arith, common_steps) in
    let one : group.name.now ≡ name = (bytes_eq-Decides group.name.now name).0 same in
    filter_all (is_called name count) group.rows.now
    (subst (λ (n : List ℕ). list_all (is_called n count) group.rows.now ≡ true) one all)

-- groups of other names have no row of the name
pub groups_other :
    (name : List ℕ) (count : ℕ) (groups : List Group) → list_all (is_sound count) groups ≡ true →
    list_any (λ other. bytes_eq other.name.now name) groups ≡ false →
    filter (is_called name count) (rows_of groups) ≡ []
groups_other name count [] sound differ = refl
groups_other name count (group ∷ groups) sound differ =
    let first : is_sound count group ≡ true = grind (arith, common_steps) in
    let here : bytes_eq group.name.now name ≡ false = grind (arith, common_steps) in
    let none : filter (is_called name count) group.rows.now ≡ [] = group_other name count group first here in
    let rest : list_all (is_sound count) groups ≡ true = grind (arith, common_steps) in
    let there : list_any (λ other. bytes_eq other.name.now name) groups ≡ false = grind (arith, common_steps) in
    let later : filter (is_called name count) (rows_of groups) ≡ [] = groups_other name count groups rest there in
    let e : filter (is_called name count) (group.rows.now ++ rows_of groups) ≡ filter (is_called name count) group.rows.now ++ filter (is_called name count) (rows_of groups) = filter-append (is_called name count) group.rows.now (rows_of groups) in
    grind (arith, common_steps)

-- the rows of a name among groups are those of its group
pub rows_of_groups :
    (name : List ℕ) (count : ℕ) (groups : List Group) → are_sound count groups ≡ true →
    filter (is_called name count) (rows_of groups) ≡ found (named name groups)
rows_of_groups name count [] sound = refl
rows_of_groups name count (group ∷ groups) sound =
    let first : is_sound count group ≡ true = grind (arith, common_steps) in
    let rest : list_all (is_sound count) groups ≡ true = grind (arith, common_steps) in
    let apart : list_any (λ other. bytes_eq other.name.now group.name.now) groups ≡ false = grind (arith, common_steps) in
    let fine : are_sound count groups ≡ true = grind (arith, common_steps) in
    let later : filter (is_called name count) (rows_of groups) ≡ found (named name groups) = rows_of_groups name count groups fine in
    let e : filter (is_called name count) (group.rows.now ++ rows_of groups) ≡ filter (is_called name count) group.rows.now ++ filter (is_called name count) (rows_of groups) = filter-append (is_called name count) group.rows.now (rows_of groups) in
    step name count group groups (bytes_eq group.name.now name) refl first rest apart later e
  where
    step :
        (name : List ℕ) (count : ℕ) (group : Group) (groups : List Group) (same : Bool) →
        bytes_eq group.name.now name ≡ same → is_sound count group ≡ true →
        list_all (is_sound count) groups ≡ true →
        list_any (λ other. bytes_eq other.name.now group.name.now) groups ≡ false →
        filter (is_called name count) (rows_of groups) ≡ found (named name groups) →
        filter (is_called name count) (group.rows.now ++ rows_of groups) ≡ filter (is_called name count) group.rows.now ++ filter (is_called name count) (rows_of groups) →
        filter (is_called name count) (rows_of (group ∷ groups)) ≡ found (named name (group ∷ groups))
    step name count group groups true is first rest apart later e =
        let one : group.name.now ≡ name = (bytes_eq-Decides group.name.now name).0 is in
        let none : list_any (λ other. bytes_eq other.name.now name) groups ≡ false =
        subst (λ (n : List ℕ). list_any (λ (other : Group). bytes_eq other.name.now n) groups ≡ false) one apart in
        let nothing : filter (is_called name count) (rows_of groups) ≡ [] = groups_other name count groups rest none in
        let here : filter (is_called name count) group.rows.now ≡ group.rows.now = group_same name count group first is in
        let end : group.rows.now ++ [] ≡ group.rows.now = append-nil group.rows.now in
        grind (arith, common_steps)
    step name count group groups false is first rest apart later e =
        let here : filter (is_called name count) group.rows.now ≡ [] = group_other name count group first is in
        grind (arith, common_steps)

-- the rows of a name are at most 128
pub found_few :
    (name : List ℕ) (count : ℕ) (groups : List Group) → list_all (is_sound count) groups ≡ true →
    length (found (named name groups)) ≤ 128
found_few name count [] sound = omega arith
found_few name count (group ∷ groups) sound =
    grind (arith, common_steps, nat_tests, found_few name count groups)

-- what a test tells of each element
pub All_from_test :
    {X : Type 0} (p : X → Bool) (P : X → Type 0) (tells : (x : X) → p x ≡ true → P x) (xs : List X) →
    list_all p xs ≡ true → All P xs
All_from_test p P tells [] h = All-nil P
All_from_test p P tells (x ∷ xs) h =
    let here : p x ≡ true = grind (arith, common_steps) in
    let there : list_all p xs ≡ true = grind (arith, common_steps) in
    All-cons P x xs (tells x here) (All_from_test p P tells xs there)

-- the rows of a name have the count of inputs
pub called_count :
    (name : List ℕ) (count : ℕ) (row : Row) → is_called name count row ≡ true → length row.inputs.now ≡ count
called_count name count row is = grind (arith, common_steps, nat_tests)

pub found_inputs :
    (name : List ℕ) (count : ℕ) (groups : List Group) → list_all (is_sound count) groups ≡ true →
    All (λ (row : Row). length row.inputs.now ≡ count) (found (named name groups))
found_inputs name count [] sound = All-nil (λ (row : Row). length row.inputs.now ≡ count)
found_inputs name count (group ∷ groups) sound =
    let first : list_all (is_called group.name.now count) group.rows.now ≡ true = grind (arith, common_steps) in
    let rest : list_all (is_sound count) groups ≡ true = grind (arith, common_steps) in
    choice name count group groups (bytes_eq group.name.now name)
    (All_from_test (is_called group.name.now count) (λ (row : Row). length row.inputs.now ≡ count) (called_count group.name.now count) group.rows.now first)
    (found_inputs name count groups rest)
  where
    choice :
        (name : List ℕ) (count : ℕ) (group : Group) (groups : List Group) (same : Bool) →
        All (λ (row : Row). length row.inputs.now ≡ count) group.rows.now →
        All (λ (row : Row). length row.inputs.now ≡ count) (found (named name groups)) →
        All (λ (row : Row). length row.inputs.now ≡ count) (found (if same then Some group else named name groups))
    choice name count group groups true here there = here
    choice name count group groups false here there = there

-- ---- the entries of a name and a count are in one part of the table

-- whether an entry is in a lane and has a count of inputs
abbrev pub is_in : ℕ → ℕ → Entry → Bool
is_in at_lane count entry = lane entry.name == at_lane && length entry.inputs == count

-- each of these parts has the entries of its lane and its count, of these
abbrev pub AreParts : List Entry → List Part → Type 0
AreParts table [] = Unit
AreParts table (part ∷ parts) =
    (filter (is_in part.at_lane part.at_count) table ≡ part.entries) × AreParts table parts

-- whether an entry is in one of these parts
abbrev pub in_some : List Part → Entry → Bool
in_some parts entry = list_any (λ (part : Part). is_in part.at_lane part.at_count entry) parts

-- a test that holds wherever another does changes nothing of what passes the other
filter_within :
    {X : Type 0} (p q : X → Bool) (holds : (x : X) → p x ≡ true → q x ≡ true) (xs : List X) →
    filter p xs ≡ filter p (filter q xs)
filter_within p q holds [] = refl
filter_within p q holds (x ∷ xs) = grind (arith, common_steps, holds x, filter_within p q holds xs)

-- what a test tells of each element
all_more :
    {X : Type 0} (p q : X → Bool) (tells : (x : X) → p x ≡ true → q x ≡ true) (xs : List X) →
    list_all p xs ≡ true → list_all q xs ≡ true
all_more p q tells [] all = refl
all_more p q tells (x ∷ xs) all = grind (arith, common_steps, tells x, all_more p q tells xs)

-- an entry of a name and a count is in the lane of the name
in_its_lane : (name : List ℕ) (count : ℕ) (entry : Entry) → has_name_and_count name count entry ≡ true → is_in (lane name) count entry ≡ true
in_its_lane name count entry is =
    let same : entry.name ≡ name = (bytes_eq-Decides entry.name name).0 (grind (arith, common_steps)) in
    let many : (length entry.inputs == count) ≡ true = grind (arith, common_steps) in
    rw (same, many) (grind (arith, common_steps, nat_tests))

-- whether an entry is in one of these parts, if it has a name and a count
abbrev pub is_covered : List ℕ → ℕ → List Part → Entry → Bool
is_covered name count parts entry = not (has_name_and_count name count entry) || in_some parts entry

-- whether a part is at a lane and a count
abbrev pub is_at : ℕ → ℕ → Part → Bool
is_at at_lane count part = part.at_lane == at_lane && part.at_count == count

-- what a place tells
is_at-tells : (at_lane count : ℕ) (part : Part) → is_at at_lane count part ≡ true → (part.at_lane ≡ at_lane) × (part.at_count ≡ count)
is_at-tells at_lane count part is =
    let one : part.at_lane ≡ at_lane = grind (arith, common_steps, nat_tests) in
    let other : part.at_count ≡ count = grind (arith, common_steps, nat_tests) in
    (one, other)

-- an entry of a name and a count is in no part but that of the lane and the count
covered_later :
    (name : List ℕ) (count : ℕ) (part : Part) (parts : List Part) → is_at (lane name) count part ≡ false →
    (entry : Entry) → is_covered name count (part ∷ parts) entry ≡ true → is_covered name count parts entry ≡ true
covered_later name count part parts elsewhere entry is = either (has_name_and_count name count entry) refl
  where
    either : (has : Bool) → has_name_and_count name count entry ≡ has → is_covered name count parts entry ≡ true
    either false e = rw e refl
    either true e =
        let here : is_in (lane name) count entry ≡ true = in_its_lane name count entry e in
        let apart : is_in part.at_lane part.at_count entry ≡ false = grind (arith, common_steps, nat_tests) in
        grind (arith, common_steps)

-- an entry that has a name and a count is in some part
none_covered :
    (name : List ℕ) (count : ℕ) (entries : List Entry) → list_all (is_covered name count []) entries ≡ true →
    filter (has_name_and_count name count) entries ≡ []
none_covered name count [] all = refl
none_covered name count (entry ∷ entries) all = grind (arith, common_steps, none_covered name count entries)

-- the entries of a name and a count are those in this part, if it is theirs, and else those in a later one
in_first_or_later :
    (table : List Entry) (name : List ℕ) (count : ℕ) (part : Part) (parts : List Part) (here : Bool) → is_at (lane name) count part ≡ here →
    filter (is_in part.at_lane part.at_count) table ≡ part.entries →
    (list_all (is_covered name count parts) table ≡ true →
    filter (has_name_and_count name count) table ≡ filter (has_name_and_count name count) (part_at (lane name) count parts)) →
    list_all (is_covered name count (part ∷ parts)) table ≡ true →
    filter (has_name_and_count name count) table
    ≡ filter (has_name_and_count name count) (if here then part.entries else part_at (lane name) count parts)
in_first_or_later table name count part parts true is entries later all =
    let both = is_at-tells (lane name) count part is in
    filter_within (has_name_and_count name count) (is_in part.at_lane part.at_count)
    (λ entry has. rw (both.0, both.1) (in_its_lane name count entry has)) table
    ∙ ap (filter (has_name_and_count name count)) entries
in_first_or_later table name count part parts false is entries later all =
    later
    (all_more (is_covered name count (part ∷ parts)) (is_covered name count parts) (covered_later name count part parts is) table all)

-- the entries of a name and a count are those in its part
pub entries_of_parts :
    (table : List Entry) (name : List ℕ) (count : ℕ) (parts : List Part) → AreParts table parts →
    list_all (is_covered name count parts) table ≡ true →
    filter (has_name_and_count name count) table ≡ filter (has_name_and_count name count) (part_at (lane name) count parts)
entries_of_parts table name count [] are all = none_covered name count table all
entries_of_parts table name count (part ∷ parts) are all =
    in_first_or_later table name count part parts (is_at (lane name) count part) refl are.0
    (entries_of_parts table name count parts are.1) all

-- each entry of a table that is in some part is covered
pub all_covered :
    (name : List ℕ) (count : ℕ) (parts : List Part) (table : List Entry) → list_all (in_some parts) table ≡ true →
    list_all (is_covered name count parts) table ≡ true
all_covered name count parts table all =
    all_more (in_some parts) (is_covered name count parts) (λ entry is. grind (arith, common_steps)) table all
