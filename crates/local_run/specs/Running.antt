-- A region after several steps.
use Rattle.std.specs.Prelude.{◌≡◌, ◌⊎◌, ℕ, zero, suc, ⊤}
use Rattle.local_run.specs.declared.answers.Step.{Step}
use Rattle.local_run.specs.declared.answers.Step.TheVariants.{Ran, Heard}
use Rattle.event_stamps.specs.declared.Stamp.{Stamp}
use Rattle.event_stamps.specs.Order.{Before}
use Rattle.local_run.specs.Opening.{RegionData}
use Rattle.local_run.specs.Keeping.{IsDueIn}
use Rattle.local_run.specs.Steps.{RegionSteps}

-- a step that did something, so that another may follow
abbrev pub GoesOn : Step → Type 0
GoesOn (Ran s) = ⊤
GoesOn (Heard s) = ⊤
GoesOn _ = ⊥

-- steps one after the other, this many or up to the first that does nothing; the answer is the last one's
abbrev pub RunsSteps : ℕ → RegionData → Step → RegionData → Type 0
RunsSteps zero old answer new = ⊥
RunsSteps (suc rest) old answer new = (RegionSteps old answer new × (GoesOn answer → rest ≡ 0))
    ⊎ ((first : Step) × (mid : RegionData) × RegionSteps old first mid × GoesOn first × RunsSteps rest mid answer new)

-- what is due is before a bound
abbrev pub IsDueBefore : Stamp → RegionData → Type 0
IsDueBefore bound region = (s : Stamp) × IsDueIn region s × Before s bound

-- what is due isn't before it
abbrev pub IsDueLater : Stamp → RegionData → Type 0
IsDueLater bound region = (s : Stamp) × IsDueIn region s × ¬ Before s bound

-- steps one after the other, each of them while what is due is before a bound: this many, or up to the first that does
-- nothing, or until what is due isn't before the bound; the answer is the last one's
abbrev pub RunsBefore : Stamp → ℕ → RegionData → Step → RegionData → Type 0
RunsBefore bound zero old answer new = ⊥
RunsBefore bound (suc rest) old answer new = IsDueBefore bound old
    × ((RegionSteps old answer new × (GoesOn answer → (rest ≡ 0) ⊎ IsDueLater bound new))
    ⊎ ((first : Step) × (mid : RegionData) × RegionSteps old first mid × GoesOn first
    × RunsBefore bound rest mid answer new))
