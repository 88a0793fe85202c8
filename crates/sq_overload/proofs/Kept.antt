-- What a mask keeps.
use Rattle.std.proofs.Common.{◌≡◌, ℕ, zero, suc, Bool, true, false, not, ◌+◌, ◌*◌, ◌-◌, ◌%◌, ◌^◌, ◌<◌, ◌≤◌, ◌&&◌, ◌||◌, ◌==◌, if◌then◌else◌, List, [], ◌∷◌, Option, Some, None, length, map, filter, drop, get_or, refl, arith, add-one, pow_mono, pow_pos, pow-suc}
use Rattle.std.specs.List.{list_any}
use Rattle.std.proofs.lemmas.Grind.{common_steps}
use Rattle.std.proofs.lemmas.List.{drop_all, drop_more}
use Rattle.sq_builtin.specs.declared.row.Row.{Row}
use Rattle.sq_builtin.specs.Entries.{Entry, entry_of}
use Rattle.sq_overload.specs.Masks.{behind, candidate, keeps, kept_from}
use Rattle.sq_overload.specs.Resolution.{Candidate, none_left, numbered, sole}

-- ---- masks, from the first row on

-- a mask by its first row and those behind it
unfoldable pub joined : Bool → ℕ → ℕ
joined kept mask = (if kept then 1 else 0) + 2 * mask

keeps_joined : (kept : Bool) (mask : ℕ) → keeps (joined kept mask) ≡ kept
unfolding keeps joined
keeps_joined true mask =
    let odd : (1 + 2 * mask) % 2 ≡ 1 = omega arith in
    rw odd refl
keeps_joined false mask =
    let even : (0 + 2 * mask) % 2 ≡ 0 = omega arith in
    rw even refl

behind_joined : (kept : Bool) (mask : ℕ) → behind (joined kept mask) ≡ mask
unfolding behind joined
behind_joined true mask = omega arith
behind_joined false mask = omega arith

-- the rows that a mask keeps and that pass a test
abbrev pub narrowed : (Entry → Bool) → ℕ → List Row → ℕ
narrowed test mask [] = 0
narrowed test mask (row ∷ rows) = joined (keeps mask && test (entry_of row)) (narrowed test (behind mask) rows)

-- whether a candidate passes a test of entries
abbrev pub passing : (Entry → Bool) → Candidate → Bool
passing test of = test of.entry

filter_first :
    (test : Entry → Bool) (kept : Bool) (of : Candidate) (left : List Candidate) →
    (if kept && test of.entry then of ∷ filter (passing test) left else filter (passing test) left)
    ≡ filter (passing test) (if kept then of ∷ left else left)
filter_first test true of left = refl
filter_first test false of left = refl

-- a mask that a test narrows keeps what was kept and passes
pub kept_narrowed :
    (test : Entry → Bool) (number mask : ℕ) (rows : List Row) →
    kept_from number (narrowed test mask rows) rows ≡ filter (passing test) (kept_from number mask rows)
kept_narrowed test number mask [] = refl
kept_narrowed test number mask (row ∷ rows) =
    rw (keeps_joined (keeps mask && test (entry_of row)) (narrowed test (behind mask) rows), behind_joined (keeps mask && test (entry_of row)) (narrowed test (behind mask) rows), kept_narrowed test (number + 1) (behind mask) rows)
    (filter_first test (keeps mask) (candidate number row) (kept_from (number + 1) (behind mask) rows))

-- a mask of ones keeps all rows
keeps_ones : (bits : ℕ) → keeps (2 ^ suc bits - 1) ≡ true
unfolding keeps
keeps_ones bits =
    let odd : (2 ^ suc bits - 1) % 2 ≡ 1 = omega (arith, pow_pos bits) in
    rw odd refl

behind_ones : (bits : ℕ) → behind (2 ^ suc bits - 1) ≡ 2 ^ bits - 1
unfolding behind
behind_ones bits = omega (arith, pow_pos bits)

pub kept_ones :
    (number bits : ℕ) (rows : List Row) → length rows ≤ bits →
    kept_from number (2 ^ bits - 1) rows ≡ numbered number (map entry_of rows)
kept_ones number bits [] few = refl
kept_ones number zero (row ∷ rows) few = absurd (omega arith)
kept_ones number (suc bits) (row ∷ rows) few =
    let less : length rows ≤ bits = omega arith in
    rw (keeps_ones bits, behind_ones bits, kept_ones (number + 1) bits rows less) refl

-- a mask has no bit behind the last row
joined_below : (kept : Bool) (mask bound : ℕ) → mask < bound → joined kept mask < 2 * bound
unfolding joined
joined_below true mask bound below = omega arith
joined_below false mask bound below = omega arith

narrowed_below :
    (test : Entry → Bool) (mask : ℕ) (rows : List Row) → narrowed test mask rows < 2 ^ length rows
narrowed_below test mask [] = omega arith
narrowed_below test mask (row ∷ rows) =
    let below = joined_below (keeps mask && test (entry_of row)) (narrowed test (behind mask) rows) (2 ^ length rows) (narrowed_below test (behind mask) rows) in
    omega (arith, below, pow-suc 2 (length rows))

-- ---- one step of a loop over the rows

-- what is kept of the rows from one on: this one, if it is kept, and what is kept of those behind it
pub kept_step :
    (number mask next : ℕ) (row : Row) (rows : List Row) → number < length rows → next ≡ behind mask →
    kept_from number mask (drop number rows)
    ≡ (if keeps mask then candidate number (get_or rows number row) ∷ kept_from (number + 1) next (drop (number + 1) rows)
    else kept_from (number + 1) next (drop (number + 1) rows))
kept_step number mask next row rows within e = rw (drop_more rows number row within, e) refl

-- what is kept of the rows from one on that is dropped
pub kept_skips :
    (number mask next : ℕ) (rows : List Row) → number < length rows → keeps mask ≡ false → next ≡ behind mask →
    kept_from number mask (drop number rows) ≡ kept_from (number + 1) next (drop (number + 1) rows)
kept_skips number mask next [] within skipped e = absurd (omega arith)
kept_skips number mask next (row ∷ rows) within skipped e =
    rw (kept_step number mask next row (row ∷ rows) within e, skipped) refl

-- what is kept of the rows from one on that is kept
pub kept_takes :
    (number mask next : ℕ) (row : Row) (rows : List Row) → number < length rows → keeps mask ≡ true → next ≡ behind mask →
    kept_from number mask (drop number rows)
    ≡ candidate number (get_or rows number row) ∷ kept_from (number + 1) next (drop (number + 1) rows)
kept_takes number mask next row rows within taken e =
    rw (kept_step number mask next row rows within e, taken) refl

-- where a row is kept, some are
pub some_taken :
    (number mask : ℕ) (rows : List Row) → number < length rows → keeps mask ≡ true →
    none_left (kept_from number mask (drop number rows)) ≡ false
some_taken number mask [] within taken = absurd (omega arith)
some_taken number mask (row ∷ rows) within taken =
    rw (kept_takes number mask (behind mask) row (row ∷ rows) within taken refl) refl

none_either :
    (kept : Bool) (one other : Candidate) (left more : List Candidate) → none_left left ≡ none_left more →
    none_left (if kept then one ∷ left else left) ≡ none_left (if kept then other ∷ more else more)
none_either true one other left more e = refl
none_either false one other left more e = e

-- whether none is kept, wherever the rows are numbered from
none_from :
    (number other mask : ℕ) (rows : List Row) →
    none_left (kept_from number mask rows) ≡ none_left (kept_from other mask rows)
none_from number other mask [] = refl
none_from number other mask (row ∷ rows) =
    none_either (keeps mask) (candidate number row) (candidate other row) (kept_from (number + 1) (behind mask) rows) (kept_from (other + 1) (behind mask) rows)
    (none_from (number + 1) (other + 1) (behind mask) rows)

sole_first : (one : Candidate) (left : List Candidate) → sole (one ∷ left) ≡ (if none_left left then Some one.number else None)
sole_first one [] = refl
sole_first one (other ∷ left) = refl

-- the first row that is kept is the one that alone is, if none behind it is kept
pub sole_takes :
    (number mask next : ℕ) (rows : List Row) → number < length rows → keeps mask ≡ true → next ≡ behind mask →
    (if none_left (kept_from 0 next (drop (number + 1) rows)) then Some number else None)
    ≡ sole (kept_from number mask (drop number rows))
sole_takes number mask next [] within taken e = absurd (omega arith)
sole_takes number mask next (row ∷ rows) within taken e =
    rw (kept_takes number mask next row (row ∷ rows) within taken e, sole_first (candidate number (get_or (row ∷ rows) number row)) (kept_from (number + 1) next (drop (number + 1) (row ∷ rows))), none_from 0 (number + 1) next (drop (number + 1) (row ∷ rows))) refl

-- whether some candidate passes: one is left that does
pub some_left : (test : Candidate → Bool) (left : List Candidate) → not (none_left (filter test left)) ≡ list_any test left
some_left test [] = refl
some_left test (one ∷ left) = grind (arith, common_steps, some_left test left)

-- a power of two more is a row more
raised :
    (power : ℕ) (kept : Bool) (mask : ℕ) →
    power * joined kept mask ≡ (if kept then power else 0) + power * 2 * mask
unfolding joined
raised power true mask = omega arith
raised power false mask = omega arith

twice : (place : ℕ) → 2 ^ (place + 1) ≡ 2 ^ place * 2
twice place = rw (add-one place) (pow-suc 2 place)

pub narrowed_step :
    (test : Entry → Bool) (so_far place mask next : ℕ) (passed : Bool) (row : Row) (rows : List Row) → place < length rows →
    passed ≡ (keeps mask && test (entry_of (get_or rows place row))) → next ≡ behind mask →
    (so_far + (if passed then 2 ^ place else 0)) + 2 ^ (place + 1) * narrowed test next (drop (place + 1) rows)
    ≡ so_far + 2 ^ place * narrowed test mask (drop place rows)
narrowed_step test so_far place mask next passed row rows within p e =
    rw (drop_more rows place row within, p, e, twice place)
    (omega (arith, raised (2 ^ place) (keeps mask && test (entry_of (get_or rows place row))) (narrowed test (behind mask) (drop (place + 1) rows))))

-- past the last row nothing more is kept
pub narrowed_end :
    (test : Entry → Bool) (so_far power number mask total : ℕ) (rows : List Row) → length rows ≤ number →
    so_far + power * narrowed test mask (drop number rows) ≡ total → so_far ≡ total
narrowed_end test so_far power number mask total rows past e =
    let last : so_far + power * 0 ≡ total = rw (drop_all number rows past) at e in
    omega (arith, last)

-- the rows so far are at most 128 bits
pub room :
    (test : Entry → Bool) (so_far mask rest : ℕ) (rows : List Row) → length rows ≤ 128 →
    so_far + rest ≡ narrowed test mask rows → so_far < 2 ^ 128
room test so_far mask rest rows few e =
    let below = narrowed_below test mask rows in
    let fits : 2 ^ length rows ≤ 2 ^ 128 = pow_mono few in
    omega (arith, below, fits, e)
