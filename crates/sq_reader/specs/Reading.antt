-- What given Go files read as.
use Rattle.std.specs.Prelude.{◌≡◌, ℕ, ◌+◌, ◌-◌, ◌^◌, ◌==◌, ◌||◌, ◌&&◌, not, min, Bool, true, false, List, [], ◌∷◌, ◌++◌, codes, length, take, count_by, slice_get, if◌then◌else◌, Result, Ok, Err}
use Rattle.std.specs.List.{list_any}
use Rattle.std.specs.Option.{option_map_or}
use Rattle.sq_base.specs.declared.file.File.{File}
use Rattle.sq_shown.specs.declared.signature.Shown.{Shown}
use Rattle.sq_reader.specs.Parts.{Text, same, behind}
use Rattle.sq_reader.specs.Forms.{header, package_at, imports_at}
use Rattle.sq_reader.specs.Items.{◌>>=◌, stands, spot, is_last_part, with_items, groups, database_items}
use Rattle.sq_reader.specs.Columns.{columns, signature}
use Rattle.sq_reader.specs.declared.items.Spot.{Spot}
use Rattle.sq_reader.specs.declared.items.Source.{Source}
use Rattle.sq_reader.specs.declared.items.Item.{Item}
use Rattle.sq_reader.specs.declared.items.Group.{Group}
use Rattle.sq_reader.specs.declared.items.Group.TheVariants.{Models, Calls}
use Rattle.sq_reader.specs.declared.items.Space.{Space}
use Rattle.sq_reader.specs.declared.items.Space.TheVariants.{Package, Methods, Files}
use Rattle.sq_reader.specs.declared.items.Meaning.{Meaning}
use Rattle.sq_reader.specs.declared.items.Meaning.TheVariants.{Plain, Model, Query}

-- FIRST, EVERY ITEM HAS TO STAND

-- models.go has models, and every other file queries
abbrev pub group_named : Text → Group
group_named path = if is_last_part (codes "models.go") path then Models else Calls

-- db.go has its own declarations
abbrev pub declarations : Text → Source → Text → Result (List Item) Spot
declarations path source text = if is_last_part (codes "db.go") path then database_items source text else groups (group_named path) source text

-- a file's name is declared among the files
abbrev pub file_item : ℕ → File → Item
file_item number file = record { spot = spot number file.bytes; space = Files; name = file.path; declared = true; meaning = Plain }

-- the items of a file: its first line, the line of its package, its imports where it has any, and its declarations
unfoldable pub file_items : ℕ → File → Result (List Item) Spot
file_items number file = do
  rest ← stands (behind header file.bytes) (spot number file.bytes)
  body ← stands (package_at rest) (spot number rest)
  imports ← Ok (imports_at body)
  items ← declarations file.path (record { file = number; imports = imports.0 }) imports.1
  Ok (file_item number file ∷ items)

-- the items of all files, the first of which has this number
abbrev pub items_from : ℕ → List File → Result (List Item) Spot
items_from number [] = Ok []
items_from number (file ∷ files) = file_items number file >>= (λ items. with_items items (items_from (number + 1) files))

-- THEN, NO ITEM MAY DECLARE A NAME AGAIN, OR USE WHAT IS NOT DECLARED

abbrev pub same_space : Space → Space → Bool
same_space Package Package = true
same_space Methods Methods = true
same_space Files Files = true
same_space _ _ = false

-- an earlier item declares this one's name in its name space
abbrev pub declares_again : List Item → Item → Bool
declares_again earlier item = list_any (λ other. same_space other.space item.space && same other.name item.name) earlier

-- the signature of a query, where its struct and the fields of its targets are declared; no other item has one
abbrev pub shown_by : List Item → Item → Meaning → Result (List Shown) Spot
shown_by items item Plain = Ok []
shown_by items item (Model fields) = Ok []
shown_by items item (Query call) = stands (columns items call) item.spot >>= (λ found. Ok (signature item.name call found ∷ []))

-- an item among all, after the earlier ones
abbrev pub settled : List Item → List Item → Item → Result (List Shown) Spot
settled items earlier item = if declares_again earlier item || not item.declared then Err item.spot else shown_by items item item.meaning

abbrev pub with_shown : List Shown → Result (List Shown) Spot → Result (List Shown) Spot
with_shown shown (Ok more) = Ok (shown ++ more)
with_shown shown (Err spot) = Err spot

-- the items that are left among all, after the earlier ones
abbrev pub settled_from : List Item → List Item → List Item → Result (List Shown) Spot
settled_from items earlier [] = Ok []
settled_from items earlier (item ∷ later) = settled items earlier item >>= (λ shown. with_shown shown (settled_from items (earlier ++ item ∷ []) later))

-- the signatures of all files, or the first spot at which there is no reading
abbrev pub read_items : List File → Result (List Shown) Spot
read_items files = items_from 0 files >>= (λ items. settled_from items [] items)

-- THE PLACE

-- the line behind which so many bytes are left, from 1; one past the last value of usize is told as that value
abbrev pub line_of : Text → ℕ → ℕ
line_of bytes left = min (count_by (λ b. b == 10) (take (length bytes - left) bytes) + 1) (2 ^ 64 - 1)

-- the bytes of the file of this number
abbrev pub bytes_of : List File → ℕ → Text
bytes_of files number = option_map_or (λ file. file.bytes) (slice_get files number) []

-- a spot is told by the number of its file, from 0, and its line
abbrev pub told : List File → Result (List Shown) Spot → Result (List Shown) (ℕ × ℕ)
told files (Ok shown) = Ok shown
told files (Err spot) = Err (spot.file, line_of (bytes_of files spot.file) spot.left)

-- the signatures that these files read as, or the file and the line of the first item without a reading
abbrev pub read_go : List File → Result (List Shown) (ℕ × ℕ)
read_go files = told files (read_items files)

-- these files read as these signatures
abbrev pub Reads : List File → List Shown → Type 0
Reads files list = read_go files ≡ Ok list
