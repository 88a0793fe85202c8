-- Columns that go, the last first.
use Rattle.std.proofs.Common.{◌≡◌, ◌<◌, ◌-◌, ℕ, suc, zero, List, refl, arith}
use Rattle.sq_catalog.specs.declared.table.Table.{Table}
use Rattle.sq_catalog.specs.Dropping.{strip_at, stripped_below}

pub below : (ids : List ℕ) (left : ℕ) (table : Table) → 0 < left → stripped_below ids left table ≡ stripped_below ids (left - 1) (strip_at ids table (left - 1))
below ids zero table some = absurd (omega arith)
below ids (suc at) table some = let one_less : suc at - 1 ≡ at = omega arith in rw one_less refl
