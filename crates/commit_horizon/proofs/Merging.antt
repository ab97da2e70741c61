-- The logs of regions as they are merged: what is left of each before a stamp, by its head.
use Rattle.std.specs.Prelude.{◌≡◌, ℕ, ◌+◌, ◌<◌, ◌≤◌, List, [], ◌∷◌, Option, Some, None, IfSome, length, drop, slice_get, if◌then◌else◌}
use Rattle.event_stamps.specs.declared.Stamp.{Stamp}
use Rattle.region_view.specs.declared.action.Action.{Action}
use Rattle.region_view.specs.Acting.{stamp_of}
use Rattle.region_messages.specs.Trails.{is_before}
use Rattle.cell_sequence.specs.State.{CellStateData, followed_by}
use Rattle.local_run.specs.declared.entry.Entry.{Entry}
use Rattle.local_run.specs.declared.entry.Entry.TheVariants.{Native, Heard}
use Rattle.local_run.specs.Opening.{RegionData}
use Rattle.local_run.specs.Entries.{native_in}
use Rattle.local_run.specs.Keeping.{entries_of}
use Rattle.commit_horizon.specs.Horizon.{runs_of, IsMerged}
use Rattle.commit_horizon.specs.Laws.{IsNextMerged}
use Rattle.commit_horizon.specs.Merging.{Head, Heads, head_at}

-- ---- one log
-- what a region ran before a stamp, from a log whose stamps rise
abbrev pub actions_below : Stamp → List Entry → List Action
actions_below h [] = []
actions_below h (Native x ∷ es) = if is_before (stamp_of x) h then x ∷ actions_below h es else []
actions_below h (Heard q m ∷ es) = actions_below h es

-- the actions begin with that of a head, and go on by those that the log has after it
pub record BeginsAt (h : Stamp) (log : List Entry) (xs : List Action) (head : Head) : Type 0 where
  pub action : Action
  pub at : native_in (slice_get log head.place) ≡ Some action
  pub stamp : stamp_of action ≡ head.stamp
  pub rest : xs ≡ action ∷ actions_below h (drop (head.place + 1) log)

-- the actions are those of the log from a head on
abbrev pub IsLeft : Stamp → List Entry → List Action → Option Head → Type 0
IsLeft h log xs None = xs ≡ []
IsLeft h log xs (Some head) = BeginsAt h log xs head

-- the head is that of the first action before the stamp after a number of entries
pub record IsHeadAfter (h : Stamp) (log : List Entry) (done : ℕ) (head : Option Head) : Type 0 where
  pub actions : IsLeft h log (actions_below h (drop done log)) head
  pub place : IfSome head (λ head. done ≤ head.place)

-- the head of an action, if it is before the stamp
abbrev pub head_before : Stamp → Stamp → ℕ → Option Head
head_before h s place = if is_before s h then Some (record { stamp = s; place = place }) else None

-- ---- all logs
-- the heads of whole logs, of the first regions up to a number
pub record AreHeads (h : Stamp) (regions : List RegionData) (n : ℕ) (heads : Heads) : Type 0 where
  pub count : length heads ≡ n
  pub each : (k : ℕ) (region : RegionData) → k < n → slice_get regions k ≡ Some region →
      IsHeadAfter h (entries_of region) 0 (head_at heads k)

-- the lesser of two heads; if they have one stamp, the one that was there
abbrev pub nearer_of : Option (ℕ × Head) → ℕ → Option Head → Option (ℕ × Head)
nearer_of least k None = least
nearer_of None k (Some head) = Some (k, head)
nearer_of (Some least) k (Some head) =
    if is_before head.stamp least.1.stamp then Some (k, head) else Some least

-- the actions are merged, and what the cell run does next, and the state has followed them
pub record Merges (old : CellStateData) (regions : List RegionData) (h : Stamp) (actions : List Action)
    (new : CellStateData) : Type 0 where
  pub merged : IsMerged old (runs_of regions) h actions
  pub next : IsNextMerged old (runs_of regions) h actions
  pub follows : new ≡ followed_by old actions
