-- The bytes of a schema file end before its first line that begins with a rollback mark.
use Rattle.std.specs.Prelude.{ℕ, Bool, true, nat_eq, ◌==◌, ◌&&◌, ◌||◌, if◌then◌else◌, List, [], ◌∷◌, codes}
use Rattle.std.specs.List.{starts_with}
use Rattle.std.specs.Str.{str_to_ascii_lowercase}

-- whether bytes begin with a mark, in any letter case
abbrev pub begins_with : List ℕ → List ℕ → Bool
begins_with bytes mark = starts_with nat_eq (str_to_ascii_lowercase bytes) (str_to_ascii_lowercase mark)

-- whether bytes begin with the rollback mark of goose, sql-migrate, dbmate or tern
unfoldable pub begins_with_mark : List ℕ → Bool
begins_with_mark bytes =
    begins_with bytes (codes "-- +goose Down") || begins_with bytes (codes "-- +migrate Down") || begins_with bytes (codes "-- migrate:down")
    || begins_with bytes (codes "---- create above / drop below ----")

-- bytes up to the first line that begins with a mark, by whether a line begins with the first of them
abbrev pub up_to_mark : Bool → List ℕ → List ℕ
up_to_mark line_begins [] = []
up_to_mark line_begins (b ∷ bytes) = if line_begins && begins_with_mark (b ∷ bytes) then [] else b ∷ up_to_mark (b == 10) bytes

-- the bytes of a schema file before its rollback part
abbrev pub before_rollback : List ℕ → List ℕ
before_rollback bytes = up_to_mark true bytes
