-- A step and a hearing leave a right local run.
use Rattle.std.proofs.Common.{ℕ, List, sym, subst}
use Rattle.region_view.specs.declared.rows.Message.{Message}
use Rattle.local_run.specs.declared.home.Home.{Home}
use Rattle.local_run.specs.declared.entry.Entry.TheVariants.{Native, Heard as Took}
use Rattle.local_run.specs.declared.answers.Step.{Step}
use Rattle.local_run.specs.declared.answers.Step.TheVariants.{Ran, Heard, Idle, Past, Tied}
use Rattle.local_run.specs.declared.answers.Step.TheVariants.{Halted, Held, Spent}
use Rattle.local_run.specs.declared.answers.Hearing.{Hearing}
use Rattle.local_run.specs.declared.answers.Hearing.TheVariants.{Same, Rewound, Later, Apart}
use Rattle.local_run.specs.LocalRun.{Local, IsHearable, IsRight}
use Rattle.local_run.specs.Answers.{IsInTurn, StepsTo, HearsFrom}
use Rattle.local_run.specs.Laws.{RollbacksKeepRight}
use Rattle.local_run.proofs.Right.{right_appended, right_rewound}
use Rattle.local_run.proofs.Sent.{sent_below}
use Rattle.local_run.proofs.Hears.{right_has_heard}

pub step_keeps_right : (h : Home) (r new : Local) (answer : Step) → IsRight h r →
    StepsTo h r answer new → IsRight h new
step_keeps_right h r new (Ran s) right (due, turn, (x, is, move, leaves)) = subst (IsRight h) (sym leaves)
    (right_appended h r (Native x) right due.0 (subst (IsInTurn r) (sym is) turn) move)
step_keeps_right h r new (Heard s) right (due, turn, (q, m, is, move, leaves)) =
    subst (IsRight h) (sym leaves)
    (right_appended h r (Took q m) right due.0 (subst (IsInTurn r) (sym is) turn) move)
step_keeps_right h r new Idle right (room, none, leaves) = subst (IsRight h) (sym leaves) right
step_keeps_right h r new (Past s clock) right (due, not, is, leaves) =
    subst (IsRight h) (sym leaves) right
step_keeps_right h r new (Tied s) right (due, turn, shared, leaves) =
    subst (IsRight h) (sym leaves) right
step_keeps_right h r new (Halted limit) right (fails, leaves) = subst (IsRight h) (sym leaves) right
step_keeps_right h r new Held right (full, leaves) = subst (IsRight h) (sym leaves) right
step_keeps_right h r new Spent right none = absurd none

pub hearing_keeps_right : (h : Home) (k : ℕ) (sent : List Message) (r new : Local)
    (answer : Hearing) → IsRight h r → IsHearable h r.floor k sent → HearsFrom k sent r answer new →
    IsRight h new
hearing_keeps_right h k sent r new Same right hearable (same, leaves) =
    subst (IsRight h) (sym leaves) right
hearing_keeps_right h k sent r new (Later d) right hearable (agree, keeps, has) =
    right_has_heard h r new k sent d right agree hearable has
hearing_keeps_right h k sent r new (Rewound d) right hearable (agree, drops, has) =
    right_has_heard h r new k sent d right agree hearable has
hearing_keeps_right h k sent r new Apart right hearable none = absurd none

pub rollback_keeps_right : RollbacksKeepRight
rollback_keeps_right h r at q right = (
  right_rewound h r at right,
  sent_below h.grid q r.base at r.floor r.log right.rises,
)
