-- What stays the same when a trail is replaced by another.
use Rattle.std.specs.Prelude.{◌≡◌, ℕ, List, slice_set}
use Rattle.event_stamps.specs.declared.Stamp.{Stamp}
use Rattle.region_view.specs.declared.rows.Message.{Message}
use Rattle.local_run.specs.declared.answers.Hearing.{Hearing}
use Rattle.local_run.specs.declared.answers.Hearing.TheVariants.{Same, Rewound, Later, Apart}
use Rattle.region_core.specs.declared.live.Live.{Live}
use Rattle.local_run.specs.Entries.{entries_below}
use Rattle.local_run.specs.LocalRun.{Local}
use Rattle.local_run.specs.Answers.{HasHeard}

-- the answer when region k is heard from a stamp on, and the local run after it; `trail` is what was heard from k then
abbrev pub HearsOn : Stamp → ℕ → List Message → Local → Hearing → Local → Type 0
HearsOn at k trail r (Later d) new = (d ≡ at) × (entries_below at r.log ≡ r.log)
    × HasHeard k trail r at new
HearsOn at k trail r (Rewound d) new = (d ≡ at) × (¬ (entries_below at r.log ≡ r.log))
    × HasHeard k trail r at new
HearsOn at k trail r Same new = ⊥
HearsOn at k trail r Apart new = ⊥

-- what was heard from region k is `sent`, and all else is as it was
pub record IsReplaced (k : ℕ) (sent : List Message) (old new : Live) : Type 0 where
  pub view : new.view ≡ old.view
  pub queue : new.queue ≡ old.queue
  pub heard : new.inbox.heard ≡ slice_set old.inbox.heard k sent
  pub taken : new.inbox.taken ≡ old.inbox.taken
  pub own : new.sent.items ≡ old.sent.items
  pub log : new.log ≡ old.log
