-- What the calls of a region answer, and what they leave.
use Rattle.std.specs.Prelude.{◌≡◌, ◌≢◌, ◌⊎◌, ℕ, ◌<◌, ◌≤◌, List, [], ◌∷◌, ◌++◌, length, Err}
use Rattle.event_stamps.specs.declared.Stamp.{Stamp}
use Rattle.event_stamps.specs.Order.{Before}
use Rattle.event_stamps.specs.Least.{HasNone}
use Rattle.region_view.specs.declared.action.Action.{Action}
use Rattle.region_view.specs.declared.rows.Message.{Message}
use Rattle.region_view.specs.Acting.{stamp_of}
use Rattle.region_messages.specs.Trails.{IsAmong, AgreesUpTo}
use Rattle.local_run.specs.declared.home.Home.{Home}
use Rattle.local_run.specs.declared.entry.Entry.{Entry}
use Rattle.local_run.specs.declared.entry.Entry.TheVariants.{Native, Heard as Took}
use Rattle.local_run.specs.declared.entry.TheConstants.{MAX_ENTRIES}
use Rattle.local_run.specs.declared.answers.Step.{Step}
use Rattle.local_run.specs.declared.answers.Step.TheVariants.{Ran, Heard, Idle, Past, Tied, Halted, Held, Spent}
use Rattle.local_run.specs.declared.answers.Hearing.{Hearing}
use Rattle.local_run.specs.declared.answers.Hearing.TheVariants.{Same, Rewound, Later, Apart}
use Rattle.local_run.specs.Entries.{clock_of, entries_below}
use Rattle.local_run.specs.LocalRun.{At, Local, trail_of, now_of}
use Rattle.local_run.specs.LocalRun.{IsWaiting, IsOwn, IsOffered, IsDue, IsNativeMove, IsHeardMove, ComesToInView}

-- ---- step
-- the stamp may come next: not before the floor, and after the last entry
abbrev pub IsInTurn : Local → Stamp → Type 0
IsInTurn r s = (¬ Before s r.floor) × ((r.log ≡ []) ⊎ Before (clock_of r.floor r.log) s)

-- the stamp is that of a native candidate and of a message, or of messages of two regions
abbrev pub IsShared : Home → At → Stamp → Type 0
IsShared h a s = (IsOwn h a.view s × IsWaiting a.waiting s)
    ⊎ ((q r : ℕ) × (m n : Message) × (q ≢ r) × IsAmong m (trail_of a.waiting q)
    × IsAmong n (trail_of a.waiting r) × (m.stamp ≡ s) × (n.stamp ≡ s))

-- the same local run with one more entry
abbrev pub with_entry : Local → Entry → Local
with_entry r e = record r { log = r.log ++ e ∷ [] }

-- the log has room, and this stamp is due
abbrev pub HasDue : Home → Local → Stamp → Type 0
HasDue h r s = (length r.log < MAX_ENTRIES) × IsDue h (now_of r) s

-- the answer of a step of a region that isn't spent, and the local run after it
abbrev pub StepsTo : Home → Local → Step → Local → Type 0
StepsTo h r (Ran s) new = HasDue h r s × IsInTurn r s
    × ((a : Action) × (stamp_of a ≡ s) × IsNativeMove h (now_of r) a
    × (new ≡ with_entry r (Native a)))
StepsTo h r (Heard s) new = HasDue h r s × IsInTurn r s
    × ((q : ℕ) × (m : Message) × (m.stamp ≡ s) × IsHeardMove h (now_of r) q m
    × (new ≡ with_entry r (Took q m)))
StepsTo h r Idle new = (length r.log < MAX_ENTRIES) × HasNone (IsOffered h (now_of r)) × (new ≡ r)
StepsTo h r (Past s clock) new = HasDue h r s × (¬ IsInTurn r s) × (clock ≡ clock_of r.floor r.log)
    × (new ≡ r)
StepsTo h r (Tied s) new = HasDue h r s × IsInTurn r s × IsShared h (now_of r) s × (new ≡ r)
StepsTo h r (Halted limit) new = ((s : Stamp) × HasDue h r s × IsInTurn r s
    × (¬ IsShared h (now_of r) s) × IsOwn h (now_of r).view s
    × ComesToInView h (now_of r).view s (Err limit))
    × (new ≡ r)
StepsTo h r Held new = (MAX_ENTRIES ≤ length r.log) × (new ≡ r)
StepsTo h r Spent new = ⊥

-- ---- hear
-- the trail of region k is what it sent, the log what it was before d, and all else as it was
pub record HasHeard (k : ℕ) (sent : List Message) (r : Local) (d : Stamp) (new : Local) : Type 0 where
  pub base : new.base ≡ r.base
  pub floor : new.floor ≡ r.floor
  pub log : new.log ≡ entries_below d r.log
  pub trail : trail_of new.heard k ≡ sent
  pub others : (q : ℕ) → q ≢ k → trail_of new.heard q ≡ trail_of r.heard q

-- the answer when region k is heard, and the local run after it; `sent` is what k sends
abbrev pub HearsFrom : ℕ → List Message → Local → Hearing → Local → Type 0
HearsFrom k sent r Same new = (trail_of r.heard k ≡ sent) × (new ≡ r)
HearsFrom k sent r (Later d) new = AgreesUpTo (trail_of r.heard k) sent d
    × (entries_below d r.log ≡ r.log) × HasHeard k sent r d new
HearsFrom k sent r (Rewound d) new = AgreesUpTo (trail_of r.heard k) sent d
    × (¬ (entries_below d r.log ≡ r.log)) × HasHeard k sent r d new
HearsFrom k sent r Apart new = ⊥
