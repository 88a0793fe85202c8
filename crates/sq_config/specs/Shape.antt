-- Which key of a configuration is bad first: an object's present keys come in byte order, and each is
-- gone into at once; then come the required keys that are missing, in byte order; a list's items come in
-- order. A value that is read keeps the members of an object in byte order of their keys, each key once.
use Rattle.std.specs.Prelude.{ℕ, ◌+◌, Bool, false, if◌then◌else◌, List, [], ◌∷◌, Option, None, Some, is_some, codes}
use Rattle.std.specs.Option.{option_or}
use Rattle.std.specs.Str.{bytes_eq}
use Rattle.serde_json.specs.Data.{Data, string, array, object, Items, no_items, item, Members, no_members, member}
use Rattle.serde_json.specs.Find.{get}
use Rattle.sq_config.specs.KeyPaths.{key_in, item_in}
use Rattle.sq_config.specs.Paths.{is_accepted_path}

-- the path of what is bad, unless it is good
abbrev pub unless : Bool → List ℕ → Option (List ℕ)
unless good path = if good then None else Some path

-- the first bad key of an object's present ones, which stand in byte order
abbrev pub first_bad_key : (List ℕ → List ℕ → Data → Option (List ℕ)) → List ℕ → Members → Option (List ℕ)
first_bad_key judge at no_members = None
first_bad_key judge at (member key value members) = option_or (judge (key_in at key) key value) (first_bad_key judge at members)

-- the first of the required keys that an object lacks
abbrev pub missing_key : List (List ℕ) → List ℕ → Data → Option (List ℕ)
missing_key [] at value = None
missing_key (key ∷ keys) at value = if is_some (get key value) then missing_key keys at value else Some (key_in at key)

-- what is bad first in an object with required keys, where a judgement says what is bad in the value of a key
abbrev pub bad_object : (List ℕ → List ℕ → Data → Option (List ℕ)) → List (List ℕ) → List ℕ → Data → Option (List ℕ)
bad_object judge required at (object members) = option_or (first_bad_key judge at members) (missing_key required at (object members))
bad_object judge required at value = Some at

-- the first bad item, counted from this index on
abbrev pub first_bad_item : (List ℕ → Data → Option (List ℕ)) → List ℕ → ℕ → Items → Option (List ℕ)
first_bad_item judge at index no_items = None
first_bad_item judge at index (item value items) = option_or (judge (item_in at index) value) (first_bad_item judge at (index + 1) items)

-- what is bad first in a list, where a judgement says what is bad in an item
abbrev pub bad_list : (List ℕ → Data → Option (List ℕ)) → List ℕ → Data → Option (List ℕ)
bad_list judge at (array items) = first_bad_item judge at 0 items
bad_list judge at value = Some at

-- whether a value is this text
abbrev pub is_text : List ℕ → Data → Bool
is_text text (string s) = bytes_eq s text
is_text text value = false

-- a path that may stand in a configuration
abbrev pub bad_path : List ℕ → Data → Option (List ℕ)
bad_path at (string path) = unless (is_accepted_path path) at
bad_path at value = Some at

-- a path, or a list of paths
abbrev pub bad_paths : List ℕ → Data → Option (List ℕ)
bad_paths at (array items) = first_bad_item bad_path at 0 items
bad_paths at value = bad_path at value

-- a text
abbrev pub bad_text : List ℕ → Data → Option (List ℕ)
bad_text at (string text) = None
bad_text at value = Some at

-- the keys of `go`: `out` and options, whose values are not looked at
abbrev pub bad_in_go : List ℕ → List ℕ → Data → Option (List ℕ)
bad_in_go path key value = if bytes_eq key (codes "out") then bad_path path value else None

-- the object `go`
abbrev pub bad_go : List ℕ → Data → Option (List ℕ)
bad_go = bad_object bad_in_go (codes "out" ∷ [])

-- the only key of `gen`
abbrev pub bad_in_gen : List ℕ → List ℕ → Data → Option (List ℕ)
bad_in_gen path key value = if bytes_eq key (codes "go") then bad_go path value else Some path

-- the object `gen`
abbrev pub bad_gen : List ℕ → Data → Option (List ℕ)
bad_gen = bad_object bad_in_gen (codes "go" ∷ [])

-- the options of a plugin: any object
abbrev pub bad_options : List ℕ → Data → Option (List ℕ)
bad_options at (object present) = None
bad_options at value = Some at

-- the keys of an item of `codegen`
abbrev pub bad_in_plugin : List ℕ → List ℕ → Data → Option (List ℕ)
bad_in_plugin path key value =
    if bytes_eq key (codes "options") then bad_options path value else
    (if bytes_eq key (codes "out") then bad_path path value else
    (if bytes_eq key (codes "plugin") then bad_text path value else Some path))

-- an item of `codegen`
abbrev pub bad_plugin : List ℕ → Data → Option (List ℕ)
bad_plugin = bad_object bad_in_plugin (codes "out" ∷ codes "plugin" ∷ [])

-- the list `codegen`
abbrev pub bad_codegen : List ℕ → Data → Option (List ℕ)
bad_codegen = bad_list bad_plugin

-- the keys of a block
abbrev pub bad_in_block : List ℕ → List ℕ → Data → Option (List ℕ)
bad_in_block path key value =
    if bytes_eq key (codes "codegen") then bad_codegen path value else
    (if bytes_eq key (codes "engine") then unless (is_text (codes "postgresql") value) path else
    (if bytes_eq key (codes "gen") then bad_gen path value else
    (if bytes_eq key (codes "queries") then bad_paths path value else
    (if bytes_eq key (codes "schema") then bad_paths path value else Some path))))

-- a block
abbrev pub bad_block : List ℕ → Data → Option (List ℕ)
bad_block = bad_object bad_in_block (codes "engine" ∷ codes "queries" ∷ codes "schema" ∷ [])

-- the list `sql`
abbrev pub bad_sql : List ℕ → Data → Option (List ℕ)
bad_sql = bad_list bad_block

-- the list `plugins`, whose items are not read
abbrev pub bad_plugins : List ℕ → Data → Option (List ℕ)
bad_plugins at (array items) = None
bad_plugins at value = Some at

-- the keys of the whole configuration
abbrev pub bad_in_top : List ℕ → List ℕ → Data → Option (List ℕ)
bad_in_top path key value =
    if bytes_eq key (codes "plugins") then bad_plugins path value else
    (if bytes_eq key (codes "sql") then bad_sql path value else
    (if bytes_eq key (codes "version") then unless (is_text (codes "2") value) path else Some path))

-- the whole configuration, at its path
abbrev pub bad_top : List ℕ → Data → Option (List ℕ)
bad_top = bad_object bad_in_top (codes "sql" ∷ codes "version" ∷ [])

-- the path of the first bad key of a configuration
abbrev pub bad_key : Data → Option (List ℕ)
bad_key value = bad_top [] value
