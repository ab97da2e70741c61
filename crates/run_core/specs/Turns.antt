-- A step or a hearing of one of some regions, by their places.
use Rattle.std.specs.Prelude.{◌≡◌, ◌↔◌, ℕ, List, Some, slice_get, slice_set}
use Rattle.local_run.specs.declared.answers.Step.{Step}
use Rattle.local_run.specs.declared.answers.Hearing.{Hearing}
use Rattle.local_run.specs.declared.answers.Hearing.TheVariants.{Apart}
use Rattle.local_run.specs.Opening.{RegionData, AreApart, spent}
use Rattle.local_run.specs.Steps.{RegionSteps}
use Rattle.local_run.specs.Hearing.{HearsRegion}

-- the region at a place makes a step
pub record Turns (regions : List RegionData) (k : ℕ) (answer : Step) (after : List RegionData) : Type 0 where
  pub region : RegionData
  pub here : slice_get regions k ≡ Some region
  pub left : RegionData
  pub steps : RegionSteps region answer left
  pub is : after ≡ slice_set regions k left

-- the region at a place hears the one at another
pub record Meets (regions : List RegionData) (k q : ℕ) (answer : Hearing)
    (after : List RegionData) : Type 0 where
  pub hearer : RegionData
  pub sender : RegionData
  pub here : slice_get regions k ≡ Some hearer
  pub there : slice_get regions q ≡ Some sender
  pub left : RegionData
  pub apart : (answer ≡ Apart) ↔ AreApart hearer sender
  pub hears : HearsRegion hearer sender answer left
  pub is : after ≡ slice_set regions k left

-- the region at a place is spent, and the others are as they were
pub record SpendsOne (regions : List RegionData) (k : ℕ) (after : List RegionData) : Type 0 where
  pub region : RegionData
  pub here : slice_get regions k ≡ Some region
  pub is : after ≡ slice_set regions k (spent region)
