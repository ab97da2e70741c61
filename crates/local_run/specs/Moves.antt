-- What a region may do next.
use Rattle.std.specs.Prelude.{Option, Some, None}
use Rattle.event_stamps.specs.declared.Stamp.{Stamp}
use Rattle.event_stamps.specs.Order.{Before}
use Rattle.region_view.specs.Acting.{stamp_of}
use Rattle.local_run.specs.declared.home.Home.{Home}
use Rattle.local_run.specs.declared.moves.Move.{Move}
use Rattle.local_run.specs.declared.moves.Move.TheVariants.{Answer, Run, TakeIn}
use Rattle.local_run.specs.LocalRun.{Local, now_of, IsNativeMove, IsHeardMove}
use Rattle.local_run.specs.Answers.{HasDue, IsInTurn, StepsTo}

-- the step answers this and changes nothing, or this is the move that is due and in turn
abbrev pub Fits : Home → Local → Move → Type 0
Fits h r (Answer step) = StepsTo h r step r
Fits h r (Run x) = HasDue h r (stamp_of x) × IsInTurn r (stamp_of x) × IsNativeMove h (now_of r) x
Fits h r (TakeIn q m) = HasDue h r m.stamp × IsInTurn r m.stamp × IsHeardMove h (now_of r) q m

-- the stamp isn't before the floor, and is after that of the last entry, if there is one
abbrev pub ComesAfter : Stamp → Option Stamp → Stamp → Type 0
ComesAfter floor None s = ¬ Before s floor
ComesAfter floor (Some last) s = (¬ Before s floor) × Before last s
