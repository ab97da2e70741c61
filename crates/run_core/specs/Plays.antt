-- Steps and hearings of some regions, one call after the other.
use Rattle.std.specs.Prelude.{◌≡◌, ◌≢◌, ◌⊎◌, ℕ, ◌<◌, ◌≤◌, List, [], ◌∷◌, ◌++◌, length, take, slice_get}
use Rattle.std.specs.Prelude.{Option, Some, None}
use Rattle.cell_sequence.specs.State.{CellStateData}
use Rattle.local_run.specs.declared.answers.Step.{Step}
use Rattle.local_run.specs.declared.answers.Hearing.{Hearing}
use Rattle.local_run.specs.Opening.{RegionData}
use Rattle.local_run.specs.Standing.{StandsOn}
use Rattle.run_core.specs.declared.playing.CoreStep.{CoreStep}
use Rattle.run_core.specs.declared.playing.CoreStep.TheVariants.{Turn, Hear}
use Rattle.run_core.specs.declared.playing.Answer.{Answer}
use Rattle.run_core.specs.declared.playing.Answer.TheVariants.{Step as Stepped, Hearing as Heard}
use Rattle.run_core.specs.Turns.{Turns, Meets, SpendsOne}

-- two places of some regions
pub record ArePair (regions : List RegionData) (k q : ℕ) : Type 0 where
  pub hearer : k < length regions
  pub sender : q < length regions
  pub other : k ≢ q

-- there is no answer, and nothing changes
abbrev pub IsPassedOver : List RegionData → Option Answer → List RegionData → Type 0
IsPassedOver regions answer after = (answer ≡ None) × (after ≡ regions)

-- one call; one that names a place out of range, or the same place twice, is passed over
unfoldable pub PlaysOne : List RegionData → CoreStep → Option Answer → List RegionData → Type 0
PlaysOne regions (Turn k) answer after =
    ((s : Step) × (k < length regions) × Turns regions k s after × (answer ≡ Some (Stepped s)))
    ⊎ ((length regions ≤ k) × IsPassedOver regions answer after)
PlaysOne regions (Hear k q) answer after =
    ((h : Hearing) × ArePair regions k q × Meets regions k q h after × (answer ≡ Some (Heard h)))
    ⊎ ((¬ ArePair regions k q) × IsPassedOver regions answer after)

-- the answer, if there is one, as a list
abbrev pub answers_of : Option Answer → List Answer
answers_of None = []
answers_of (Some answer) = answer ∷ []

-- all calls, in order, and what they answer
unfoldable pub Plays : List RegionData → List CoreStep → List Answer → List RegionData → Type 0
Plays regions [] answers after = (answers ≡ []) × (after ≡ regions)
Plays regions (c ∷ cs) answers after =
    (mid : List RegionData) × (first : Option Answer) × (rest : List Answer)
    × PlaysOne regions c first mid × Plays mid cs rest after × (answers ≡ answers_of first ++ rest)

-- one region is spent at most
abbrev pub SpendsOneAtMost : List RegionData → List RegionData → Type 0
SpendsOneAtMost regions after = (after ≡ regions) ⊎ ((k : ℕ) × SpendsOne regions k after)

-- the first n calls were made, and then memory ran out: at most one region is spent by that
pub record PlaysSome (regions : List RegionData) (calls : List CoreStep) (after : List RegionData) :
    Type 0 where
  pub count : ℕ
  pub answers : List Answer
  pub mid : List RegionData
  pub plays : Plays regions (take count calls) answers mid
  pub left : SpendsOneAtMost mid after

-- if the region at a place stands on a state, by any number, the region at that place goes on standing on it by that
-- number
abbrev pub GoOnStanding : List RegionData → List RegionData → Type 0
GoOnStanding old new = (state : CellStateData) (i k : ℕ) (region : RegionData) →
    slice_get old i ≡ Some region → StandsOn state k region →
    (left : RegionData) × (slice_get new i ≡ Some left) × StandsOn state k left
