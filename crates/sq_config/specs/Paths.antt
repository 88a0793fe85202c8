-- Paths of a configuration: which are accepted, and where they lead.
use Rattle.std.specs.Prelude.{ℕ, Bool, true, false, not, nat_eq, nat_lt, ◌==◌, ◌&&◌, ◌||◌, ◌++◌, ◌-◌, if◌then◌else◌, List, [], ◌∷◌, length, take, codes}
use Rattle.std.specs.List.{slice_split, filter, list_any, ends_with, join_with_byte}
use Rattle.std.specs.Str.{bytes_eq}

-- whether no path holds this byte: a control byte, `*`, `?` or `[`
abbrev pub is_forbidden : ℕ → Bool
is_forbidden b = nat_lt b 32 || b == 127 || b == 42 || b == 63 || b == 91

-- the parts of a path, between its slashes
abbrev pub parts : List ℕ → List (List ℕ)
parts path = slice_split (λ b. b == 47) path

-- whether a part is kept: the empty part and `.` lead nowhere
abbrev pub is_kept : List ℕ → Bool
is_kept part = not (bytes_eq part [] || bytes_eq part (codes "."))

-- the parts of a path that are kept
abbrev pub kept_parts : List ℕ → List (List ℕ)
kept_parts path = filter is_kept (parts path)

-- whether a part leads to the folder above
abbrev pub is_above : List ℕ → Bool
is_above part = bytes_eq part (codes "..")

-- whether `..` stands only before every other part
abbrev pub goes_up_first : List (List ℕ) → Bool
goes_up_first [] = true
goes_up_first (part ∷ parts) = if is_above part then goes_up_first parts else not (list_any is_above parts)

-- whether a path may stand in a configuration
abbrev pub is_accepted_path : List ℕ → Bool
is_accepted_path path = not (length path == 0 || list_any is_forbidden path) && goes_up_first (kept_parts path)

-- whether a path begins with a slash
abbrev pub is_absolute : List ℕ → Bool
is_absolute [] = false
is_absolute (b ∷ path) = b == 47

-- the folder in which a file lies: its path up to and with the last slash
abbrev pub folder_of : List ℕ → List ℕ
folder_of [] = []
folder_of (b ∷ path) = if list_any (λ c. c == 47) (b ∷ path) then b ∷ folder_of path else []

-- a path without a slash at its end
abbrev pub without_slash : List ℕ → List ℕ
without_slash folder = if ends_with nat_eq folder (codes "/") then take (length folder - 1) folder else folder

-- the path of a folder itself: the empty one is `.`, the root is `/.`, and another one stands without its last slash
abbrev pub folder_itself : List ℕ → List ℕ
folder_itself folder = if bytes_eq folder [] then codes "." else (if bytes_eq folder (codes "/") then codes "/." else without_slash folder)

-- these parts in a folder
abbrev pub in_folder : List ℕ → List (List ℕ) → List ℕ
in_folder folder [] = folder_itself folder
in_folder folder (part ∷ parts) = folder ++ join_with_byte 47 (part ∷ parts)

-- where a path leads from a folder: one that begins with a slash, from the root
abbrev pub joined_path : List ℕ → List ℕ → List ℕ
joined_path folder path = in_folder (if is_absolute path then codes "/" else folder) (kept_parts path)
