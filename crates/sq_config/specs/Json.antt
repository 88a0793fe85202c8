-- A configuration is the JSON value that `serde_json` reads from its bytes.
use Rattle.std.specs.Prelude.{ℕ, if◌then◌else◌, List, Option, None}
use Rattle.std.specs.Str.{is_utf8}
use Rattle.serde_json.specs.Data.{Data}
use Rattle.serde_json.specs.Read.{read}

-- the value that bytes are read as: none where they are not UTF-8, or not JSON
abbrev pub json_value : List ℕ → Option Data
json_value bytes = if is_utf8 bytes then read bytes else None
