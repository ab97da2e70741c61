-- A region after a step.
use Rattle.std.specs.Prelude.{◌≡◌, Option, Some, None}
use Rattle.local_run.specs.declared.home.Home.{Home}
use Rattle.local_run.specs.declared.answers.Step.{Step}
use Rattle.local_run.specs.declared.answers.Step.TheVariants.{Spent}
use Rattle.local_run.specs.LocalRun.{Local}
use Rattle.local_run.specs.Answers.{StepsTo}
use Rattle.local_run.specs.Opening.{RegionData}

-- a region that is spent only answers that, and stays so
abbrev pub StepsOn : Home → Option Local → Step → Option Local → Type 0
StepsOn h None answer new = (answer ≡ Spent) × (new ≡ None)
StepsOn h (Some run) answer new = (left : Local) × StepsTo h run answer left × (new ≡ Some left)

-- a region after a step, with the same home and floor
pub record RegionSteps (old : RegionData) (answer : Step) (new : RegionData) : Type 0 where
  pub home : new.home ≡ old.home
  pub floor : new.floor ≡ old.floor
  pub run : StepsOn old.home old.run answer new.run
