-- Regions that begin as one that stood on a state.
use Rattle.std.specs.Prelude.{◌≢◌, ℕ, None}
use Rattle.cell_sequence.specs.State.{CellStateData}
use Rattle.local_run.specs.Opening.{RegionData}
use Rattle.local_run.specs.Standing.{StandsOn}
use Rattle.local_run.specs.RunOn.{BeginsAs}

-- if a region stands on a state, each one that begins as it did stands on it too, unless it is spent
abbrev pub BegunStillStand : Type 0
BegunStillStand = (state : CellStateData) (k : ℕ) (old new : RegionData) → StandsOn state k old → BeginsAs old new →
    new.run ≢ None → StandsOn state k new
