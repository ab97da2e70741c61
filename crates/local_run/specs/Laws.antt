-- What holds of all right local runs.
use Rattle.std.specs.Prelude.{◌≡◌, ◌↔◌, ℕ, ◌≤◌, List, ◌∷◌, ◌++◌, length, take}
use Rattle.event_stamps.specs.declared.Stamp.{Stamp}
use Rattle.event_stamps.specs.Order.{Before, end_stamp}
use Rattle.cell_grid.specs.Grid.{AreLinked}
use Rattle.region_view.specs.Placing.{IsValidPlacing}
use Rattle.region_view.specs.Views.{rows_in}
use Rattle.region_view.specs.declared.rows.Message.{Message}
use Rattle.region_messages.specs.Trails.{IsAmong, below}
use Rattle.local_run.specs.declared.home.Home.{Home}
use Rattle.local_run.specs.declared.entry.Entry.{Entry}
use Rattle.local_run.specs.declared.entry.Entry.TheVariants.{Heard}
use Rattle.local_run.specs.declared.answers.Step.{Step}
use Rattle.local_run.specs.declared.answers.Hearing.{Hearing}
use Rattle.local_run.specs.Entries.{entry_stamp, entries_below}
use Rattle.local_run.specs.LocalRun.{IsInPlace, Local, trail_of, start_of, now_of, after_log}
use Rattle.local_run.specs.LocalRun.{IsWaiting, IsDue, IsHearable, IsRight}
use Rattle.local_run.specs.LocalRun.{sent_to}
use Rattle.local_run.specs.Answers.{IsInTurn, StepsTo, HearsFrom}
use Rattle.local_run.specs.Raising.{IsRaised, HasNoneWaitingBelow}

-- ---- what a local run knows
-- each entry was due at its place: no native candidate and no message that waited there came before it
abbrev pub EntriesWereDue : Type 0
EntriesWereDue = (h : Home) (r : Local) (before after : List Entry) (e : Entry) → IsRight h r →
    r.log ≡ before ++ e ∷ after → IsDue h (after_log (start_of r) before) (entry_stamp e)

-- the view after each number of entries is valid, also if it is mistaken: no more is known of it
abbrev pub ViewsAreValid : Type 0
ViewsAreValid = (h : Home) (r : Local) (i : ℕ) → IsInPlace h → IsRight h r →
    IsValidPlacing h.rules h.grid (rows_in (after_log (start_of r) (take i r.log)).view)

-- a message waits after some entries if and only if it was heard and isn't among them
abbrev pub WaitsIfNotTaken : Type 0
WaitsIfNotTaken = (h : Home) (r : Local) (i q : ℕ) (m : Message) → IsRight h r →
    (IsAmong m (trail_of (after_log (start_of r) (take i r.log)).waiting q)
    ↔ (IsAmong m (trail_of r.heard q) × ¬ IsAmong (Heard q m) (take i r.log)))

-- a message that waits may come next: it is from the floor on, and after the last entry
abbrev pub MessagesAreInTurn : Type 0
MessagesAreInTurn = (h : Home) (r : Local) (s : Stamp) → IsRight h r → IsWaiting (now_of r).waiting s →
    IsInTurn r s

-- ---- one way to go on
-- of two logs of one region, over one view and with the same messages heard, the longer goes on from the other
abbrev pub LogsGoOneWay : Type 0
LogsGoOneWay = (h : Home) (r : Local) (log : List Entry) → IsRight h r →
    IsRight h (record r { log = log }) → length r.log ≤ length log →
    (rest : List Entry) × (log ≡ r.log ++ rest)

-- a step has one answer, and leaves one local run
abbrev pub StepsGoOneWay : Type 0
StepsGoOneWay = (h : Home) (r new kept : Local) (answer given : Step) → StepsTo h r answer new →
    StepsTo h r given kept → (answer ≡ given) × (new ≡ kept)

-- a hearing has one answer too
abbrev pub HearingsHaveOneAnswer : Type 0
HearingsHaveOneAnswer = (k : ℕ) (sent : List Message) (r new kept : Local) (answer given : Hearing) →
    HearsFrom k sent r answer new → HearsFrom k sent r given kept → answer ≡ given

-- ---- what stays right
-- a right local run is right after a step
abbrev pub StepsKeepRight : Type 0
StepsKeepRight = (h : Home) (r new : Local) (answer : Step) → IsRight h r → StepsTo h r answer new →
    IsRight h new

-- a right local run is right after it heard what the other may send
abbrev pub HearingsKeepRight : Type 0
HearingsKeepRight = (h : Home) (k : ℕ) (sent : List Message) (r new : Local) (answer : Hearing) →
    IsRight h r → IsHearable h r.floor k sent → HearsFrom k sent r answer new → IsRight h new

-- a log without its entries from a stamp on is right, and sends what was sent before the stamp
abbrev pub RollbacksKeepRight : Type 0
RollbacksKeepRight = (h : Home) (r : Local) (at : Stamp) (q : ℕ) → IsRight h r →
    IsRight h (record r { log = entries_below at r.log })
    × (sent_to h.grid q r.base (entries_below at r.log) ≡ below at (sent_to h.grid q r.base r.log))

-- ---- between two regions
-- a linked region of the same rules, grid and floor may hear what a region sends
abbrev pub SentMayBeHeard : Type 0
SentMayBeHeard = (h k : Home) (r : Local) (floor : Stamp) → h.rules ≡ k.rules → h.grid ≡ k.grid →
    floor ≡ r.floor → IsInPlace k → IsRight k r → AreLinked h.grid k.number h.number →
    IsHearable h floor k.number (sent_to h.grid h.number r.base r.log)

-- ---- a later floor
-- if nothing that waits is before the new floor, the run from there on is right, has the same view and the same
-- messages waiting, and sends what it sent from there on
abbrev pub RaisingKeepsRight : Type 0
RaisingKeepsRight = (h : Home) (r : Local) (to : Stamp) → IsInPlace h → IsRight h r → ¬ Before to r.floor →
    ¬ Before (end_stamp h.rules.end) to → HasNoneWaitingBelow to r → IsRaised h to r
