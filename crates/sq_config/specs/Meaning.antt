-- What a configuration says whose shape is right.
use Rattle.std.specs.Prelude.{ℕ, ◌+◌, ◌&&◌, Bool, true, false, if◌then◌else◌, List, [], ◌∷◌, ◌++◌, codes}
use Rattle.std.specs.Option.{option_map_or}
use Rattle.std.specs.Str.{bytes_eq}
use Rattle.serde_json.specs.Data.{Data, boolean, string, array, object, Items, no_items, item, Members, no_members, member}
use Rattle.serde_json.specs.Find.{get}
use Rattle.sq_config.specs.declared.configuration.Block.{Block}
use Rattle.sq_config.specs.declared.configuration.Configuration.{Configuration}
use Rattle.sq_config.specs.declared.configuration.Entry.{Entry}
use Rattle.sq_config.specs.declared.configuration.OptionPair.{OptionPair}
use Rattle.sq_config.specs.declared.configuration.OptionValue.{OptionValue}
use Rattle.sq_config.specs.declared.configuration.OptionValue.TheVariants.{Text, Flag, Other}
use Rattle.sq_config.specs.KeyPaths.{key_in, item_in}
use Rattle.sq_config.specs.Paths.{joined_path}

-- the text that a value is
abbrev pub text_of : Data → List ℕ
text_of (string text) = text
text_of value = []

-- the text at a key
abbrev pub text_at : List ℕ → Data → List ℕ
text_at key value = option_map_or text_of (get key value) []

-- the paths of a list, joined to the folder
abbrev pub joined_items : List ℕ → Items → List (List ℕ)
joined_items folder no_items = []
joined_items folder (item value items) = joined_path folder (text_of value) ∷ joined_items folder items

-- a path or a list of paths, joined to the folder
abbrev pub joined_paths : List ℕ → Data → List (List ℕ)
joined_paths folder (array items) = joined_items folder items
joined_paths folder value = joined_path folder (text_of value) ∷ []

-- the paths at a key
abbrev pub paths_at : List ℕ → List ℕ → Data → List (List ℕ)
paths_at folder key value = option_map_or (joined_paths folder) (get key value) []

-- the value of an option
abbrev pub option_value : Data → OptionValue
option_value (string text) = Text text
option_value (boolean flag) = Flag flag
option_value value = Other

-- the pairs of an object, where `out` may stand apart from them
abbrev pub pairs_of : Bool → Members → List OptionPair
pairs_of apart no_members = []
pairs_of apart (member key value members) = if apart && bytes_eq key (codes "out") then pairs_of apart members else record { key = key; value = option_value value } ∷ pairs_of apart members

-- the pairs of a value that is an object
abbrev pub pairs_in : Bool → Data → List OptionPair
pairs_in apart (object members) = pairs_of apart members
pairs_in apart value = []

-- the entry of a writer, from the object that holds `out`
abbrev pub entry_of : List ℕ → List ℕ → List ℕ → List OptionPair → Data → Entry
entry_of folder at writer pairs value = record {
  writer = writer;
  options = record { out = text_at (codes "out") value; pairs = pairs };
  path = joined_path folder (text_at (codes "out") value);
  key = at;
}

-- the entry of the object `go`, whose keys but `out` are options
abbrev pub go_entry : List ℕ → List ℕ → Data → Entry
go_entry folder at value = entry_of folder at (codes "go") (pairs_in true value) value

-- the entry of `gen`
abbrev pub gen_entries : List ℕ → List ℕ → Data → List Entry
gen_entries folder at value = option_map_or (λ go. go_entry folder (key_in at (codes "go")) go ∷ []) (get (codes "go") value) []

-- the entry of an item of `codegen`
abbrev pub plugin_entry : List ℕ → List ℕ → Data → Entry
plugin_entry folder at value = entry_of folder at (text_at (codes "plugin") value) (option_map_or (pairs_in false) (get (codes "options") value) []) value

-- the entries of the items of `codegen`, counted from this index on
abbrev pub plugin_entries : List ℕ → List ℕ → ℕ → Items → List Entry
plugin_entries folder at index no_items = []
plugin_entries folder at index (item value items) = plugin_entry folder (item_in at index) value ∷ plugin_entries folder at (index + 1) items

-- the entries of `codegen`
abbrev pub codegen_entries : List ℕ → List ℕ → Data → List Entry
codegen_entries folder at (array items) = plugin_entries folder at 0 items
codegen_entries folder at value = []

-- the entries of a block: that of `gen`, and then those of `codegen`
abbrev pub block_entries : List ℕ → List ℕ → Data → List Entry
block_entries folder at value =
    option_map_or (gen_entries folder (key_in at (codes "gen"))) (get (codes "gen") value) []
    ++ option_map_or (codegen_entries folder (key_in at (codes "codegen"))) (get (codes "codegen") value) []

-- a block
abbrev pub block_of : List ℕ → List ℕ → Data → Block
block_of folder at value = record {
  schema = paths_at folder (codes "schema") value;
  queries = paths_at folder (codes "queries") value;
  entries = block_entries folder at value;
}

-- the blocks of a list, counted from this index on
abbrev pub blocks_of : List ℕ → List ℕ → ℕ → Items → List Block
blocks_of folder at index no_items = []
blocks_of folder at index (item value items) = block_of folder (item_in at index) value ∷ blocks_of folder at (index + 1) items

-- the blocks of `sql`
abbrev pub sql_blocks : List ℕ → Data → List Block
sql_blocks folder (array items) = blocks_of folder (codes "sql") 0 items
sql_blocks folder value = []

-- what a configuration in this folder says
abbrev pub meaning_of : List ℕ → Data → Configuration
meaning_of folder value = record { blocks = option_map_or (sql_blocks folder) (get (codes "sql") value) [] }
