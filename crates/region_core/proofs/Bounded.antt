-- A region after a step before a bound.
use Rattle.std.proofs.Common.{◌≡◌, Option, Some, None, ap, refl, subst, sym, ◌∙◌}
use Rattle.std.specs.Prelude.{MatchOption}
use Rattle.event_stamps.specs.declared.Stamp.{Stamp}
use Rattle.local_run.specs.declared.home.Home.{Home}
use Rattle.local_run.specs.declared.answers.Step.{Step}
use Rattle.local_run.specs.Answers.{StepsTo}
use Rattle.local_run.specs.Running.{IsDueBefore, IsDueLater}
use Rattle.local_run.specs.Steps.{RegionSteps}
use Rattle.region_core.specs.declared.live.Live.{Live}
use Rattle.region_parts.specs.declared.place.Place.{Place}
use Rattle.region_core.specs.Live.{run_in, region_in, HasDueBefore, HasDueLater}
use Rattle.event_stamps.specs.Order.{Before}
use Rattle.local_run.specs.declared.answers.Step.TheVariants.{Spent}
use Rattle.local_run.specs.Opening.{RegionData}
use Rattle.local_run.specs.Keeping.{IsDueIn}
use Rattle.region_core.proofs.Shown.{seen_as}

-- what the step does to its body it does to the region
pub bounded_step : (place : Place) (bound : Stamp) (old new : Live) (last : Option Step) →
    MatchOption last (HasDueLater place.home bound old × (new ≡ old))
    (λ step. HasDueBefore place.home bound old
    × StepsTo place.home (run_in place.floor old) step (run_in place.floor new)) →
    MatchOption last (IsDueLater bound (region_in place old) × (region_in place new ≡ region_in place old))
    (λ step. IsDueBefore bound (region_in place old) × RegionSteps (region_in place old) step (region_in place new))
bounded_step place bound old new None (due, same) = (due, ap (region_in place) same)
bounded_step place bound old new (Some step) (due, made) = (
  due,
  record { home = refl; floor = refl; run = (run_in place.floor new, made, refl) },
)

-- ---- what is known of an answer
pub of_none : (last : Option Step) (P : Type 0) (Q : Step → Type 0) → last ≡ None → MatchOption last P Q → P
of_none last P Q is found = subst (λ (o : Option Step). MatchOption o P Q) is found

pub of_some : (last : Option Step) (step : Step) (P : Type 0) (Q : Step → Type 0) → last ≡ Some step →
    MatchOption last P Q → Q step
of_some last step P Q is found = subst (λ (o : Option Step). MatchOption o P Q) is found

pub as_none : (last : Option Step) (P : Type 0) (Q : Step → Type 0) → last ≡ None → P → MatchOption last P Q
as_none last P Q is p = subst (λ (o : Option Step). MatchOption o P Q) (sym is) p

pub as_some : (last : Option Step) (step : Step) (P : Type 0) (Q : Step → Type 0) → last ≡ Some step → Q step →
    MatchOption last P Q
as_some last step P Q is q = subst (λ (o : Option Step). MatchOption o P Q) (sym is) q

-- ---- what a region that is spent answers
pub steps_spent : (home : Home) (floor : Stamp) (o : Option Live) (region : RegionData) → o ≡ None →
    seen_as home floor o ≡ region → RegionSteps region Spent (seen_as home floor o)
steps_spent home floor o region none is =
    subst (λ (p : Option Live). RegionSteps region Spent (seen_as home floor p)) (sym none)
    (subst (λ (old : RegionData). RegionSteps old Spent (seen_as home floor None))
    (ap (seen_as home floor) (sym none) ∙ is) record { home = refl; floor = refl; run = (refl, refl) })

due_spent : (home : Home) (floor : Stamp) (o : Option Live) (region : RegionData) → o ≡ None →
    seen_as home floor o ≡ region → IsDueIn region floor
due_spent home floor o region none is =
    subst (λ (old : RegionData). IsDueIn old floor) (ap (seen_as home floor) (sym none) ∙ is) refl

pub spent_before : (home : Home) (floor bound : Stamp) (o : Option Live) (region : RegionData) → o ≡ None →
    seen_as home floor o ≡ region → Before floor bound →
    IsDueBefore bound region × RegionSteps region Spent (seen_as home floor o)
spent_before home floor bound o region none is before =
    ((floor, due_spent home floor o region none is, before), steps_spent home floor o region none is)

pub spent_later : (home : Home) (floor bound : Stamp) (o : Option Live) (region : RegionData) → o ≡ None →
    seen_as home floor o ≡ region → ¬ Before floor bound →
    IsDueLater bound region × (seen_as home floor o ≡ region)
spent_later home floor bound o region none is later = ((floor, due_spent home floor o region none is, later), is)
