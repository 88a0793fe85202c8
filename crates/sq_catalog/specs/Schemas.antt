-- Schemas by their names.
use Rattle.std.specs.Prelude.{ℕ, Bool, List}
use Rattle.std.specs.List.{list_any}
use Rattle.std.specs.Str.{bytes_eq}
use Rattle.sq_catalog.specs.Contents.{Contents}

-- whether there is a schema of this name
abbrev pub has_schema : Contents → List ℕ → Bool
has_schema c name = list_any (λ (schema : List ℕ). bytes_eq schema name) c.schemas
