use Rattle.std.proofs.Common.{◌≡◌, ℕ, ◌<◌, ◌≤◌, false, get_or, length}
use Rattle.std.specs.Prelude.{slice_get, vec_capacity, Some}
use Rattle.std.specs.Slots.{slots_items, slots_filled, slots_len}
use Rattle.std.specs.Slots.Ownership.{Filled}
use Rattle.local_run.specs.Opening.{RegionData}
use Rattle.region_table.specs.Tables.{ComesOfSlot}
use Rattle.region_table.proofs.closing.gather.Given as goal

abbrev pub invariant-loop-k : goal.invariant-loop-k
invariant-loop-k l = (slots_items l.closed.slots ≡ slots_items l.fn.closed.slots)
    × (l.closed.words ≡ l.fn.closed.words)
    × (slots_len l.closed.slots ≡ slots_len l.fn.closed.slots)
    × Filled (slots_filled l.closed.slots) l.k (slots_len l.closed.slots)
    × ((j : ℕ) → j < l.k → get_or (slots_filled l.closed.slots) j false ≡ false)
    × (length l.regions.items ≡ l.k)
    × (slots_len l.fn.closed.slots ≤ vec_capacity l.regions)
    × ((j : ℕ) (region : RegionData) → slice_get l.regions.items j ≡ Some region →
    ComesOfSlot (slots_items l.fn.closed.words) (slots_items l.fn.closed.slots) l.fn.rules l.fn.grid l.fn.floor j region)
