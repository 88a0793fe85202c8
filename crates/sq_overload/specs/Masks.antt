-- What a mask keeps of rows: its lowest bit is that of the first row. Only contracts of private functions speak of masks.
use Rattle.std.specs.Prelude.{ℕ, Bool, ◌+◌, ◌/◌, ◌%◌, ◌==◌, if◌then◌else◌, List, [], ◌∷◌}
use Rattle.sq_base.specs.declared.types.PgType.{PgType}
use Rattle.sq_builtin.specs.declared.row.Row.{Row}
use Rattle.sq_builtin.specs.Entries.{Entry, entry_of}
use Rattle.sq_overload.specs.declared.test.Test.{Test}
use Rattle.sq_overload.specs.declared.test.Test.TheVariants.{Fitting, Counting, Alike, Placed, Preferring}
use Rattle.sq_overload.specs.Resolution.{Candidate, all_fit, count_fit, is_alike, is_one_slot, prefers_at, slot_at}

-- whether the first row is kept
unfoldable pub keeps : ℕ → Bool
keeps mask = mask % 2 == 1

-- what is kept of the rows behind the first
unfoldable pub behind : ℕ → ℕ
behind mask = mask / 2

-- the candidate that a row is
abbrev pub candidate : ℕ → Row → Candidate
candidate number row = record { number = number; entry = entry_of row }

-- the candidates that a mask keeps of rows, which are numbered from here on
abbrev pub kept_from : ℕ → ℕ → List Row → List Candidate
kept_from number mask [] = []
kept_from number mask (row ∷ rows) =
    if keeps mask then candidate number row ∷ kept_from (number + 1) (behind mask) rows
    else kept_from (number + 1) (behind mask) rows

-- the candidates that a mask keeps of rows
abbrev pub kept : List Row → ℕ → List Candidate
kept rows mask = kept_from 0 mask rows

-- whether an entry passes a test
abbrev pub passes : List PgType → Test → Entry → Bool
passes args (Fitting fit) entry = all_fit fit entry.inputs args
passes args (Counting fit count) entry = count_fit fit entry.inputs args == count
passes args (Alike of) entry = is_alike of entry
passes args (Placed place slot) entry = is_one_slot (slot_at place entry) slot
passes args (Preferring place) entry = prefers_at place entry
