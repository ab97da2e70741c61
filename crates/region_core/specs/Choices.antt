-- What a region does next; if that is an event of its own columns, only the event's stamp is given.
use Rattle.event_stamps.specs.declared.Stamp.{Stamp}
use Rattle.local_run.specs.declared.home.Home.{Home}
use Rattle.local_run.specs.declared.moves.Move.TheVariants.{TakeIn as TakesIn}
use Rattle.local_run.specs.LocalRun.{Local, now_of, IsWaiting}
use Rattle.local_run.specs.Answers.{HasDue, IsInTurn, StepsTo}
use Rattle.local_run.specs.Moves.{Fits}
use Rattle.region_core.specs.declared.moves.Choice.{Choice}
use Rattle.region_core.specs.declared.moves.Choice.TheVariants.{Answer, Run, TakeIn}

-- the stamp is due and in turn, and no message has it
pub record IsAtTurn (h : Home) (r : Local) (s : Stamp) : Type 0 where
  pub due : HasDue h r s
  pub turn : IsInTurn r s
  pub alone : ¬ IsWaiting (now_of r).waiting s

-- the step answers this and changes nothing, or this is what is due and in turn
abbrev pub Chooses : Home → Local → Choice → Type 0
Chooses h r (Answer step) = StepsTo h r step r
Chooses h r (Run s) = IsAtTurn h r s
Chooses h r (TakeIn q m) = Fits h r (TakesIn q m)
