-- The path of a key in a configuration, as `sql[0].gen.go.out`.
use Rattle.std.specs.Prelude.{ℕ, List, [], ◌++◌, codes, decimal}

-- the path of a key in the object at a path: that of the whole configuration is empty
abbrev pub key_in : List ℕ → List ℕ → List ℕ
key_in [] key = key
key_in at key = at ++ codes "." ++ key

-- the path of an item in the list at a path
abbrev pub item_in : List ℕ → ℕ → List ℕ
item_in at index = at ++ codes "[" ++ decimal index ++ codes "]"
