-- What is untold: actions that are left in some logs, by their heads, in the order of their stamps.
use Rattle.std.specs.Prelude.{◌≡◌, ◌≢◌, ℕ, ◌<◌, List, [], ◌∷◌, ◌++◌, ⊤, Option, Some, None, IfSome, length, drop, set, get_or, slice_get, option_map, if◌then◌else◌}
use Rattle.event_stamps.specs.Order.{Before, IsInRange}
use Rattle.region_view.specs.declared.action.Action.{Action}
use Rattle.region_view.specs.Acting.{stamp_of}
use Rattle.region_messages.specs.Trails.{is_before}
use Rattle.local_run.specs.declared.entry.Entry.{Entry}
use Rattle.local_run.specs.declared.entry.Entry.TheVariants.{Native, Heard}
use Rattle.local_run.specs.Entries.{native_in}
use Rattle.cell_sequence.specs.Run.{hits}
use Rattle.commit_horizon.specs.declared.leading.Leader.{Leader}
use Rattle.commit_horizon.specs.Horizon.{ActionStampsRise}
use Rattle.commit_horizon.specs.Merging.{Head, Heads, head_at}
use Rattle.commit_horizon.specs.Leading.{IsLeader}
use Rattle.commit_horizon.specs.Telling.{MayBeTold}

-- ---- one log
-- the actions among some entries
abbrev pub actions_in : List Entry → List Action
actions_in [] = []
actions_in (Native x ∷ es) = x ∷ actions_in es
actions_in (Heard q m ∷ es) = actions_in es

-- those from a head on
abbrev pub left_from : List Entry → Option Head → List Action
left_from log None = []
left_from log (Some head) = actions_in (drop head.place log)

-- the head is that of an action of the log
abbrev pub StandsIn : List Entry → Head → Type 0
StandsIn log head = option_map stamp_of (native_in (slice_get log head.place)) ≡ Some head.stamp

-- the head is that of the first action after `done` entries
pub record IsNextHead (log : List Entry) (done : ℕ) (head : Option Head) : Type 0 where
  pub left : left_from log head ≡ actions_in (drop done log)
  pub stands : IfSome head (StandsIn log)

-- the first action, if there is any, has a stamp in the ranges of the events of a run
abbrev pub BeginsInRange : List Action → Type 0
BeginsInRange [] = ⊤
BeginsInRange (x ∷ xs) = IsInRange (stamp_of x)

-- some first actions are passed, of which none is a collision
abbrev pub PassesCrossings : List Action → List Action → Type 0
PassesCrossings old new = (gone : List Action) × (old ≡ gone ++ new) × (hits gone ≡ [])

-- the head is that of the first collision after `done` entries
pub record IsNextHit (log : List Entry) (done : ℕ) (head : Option Head) : Type 0 where
  pub passed : PassesCrossings (actions_in (drop done log)) (left_from log head)
  pub stands : IfSome head (StandsIn log)

-- ---- all logs
-- the first action of each log, if there is any, has a stamp in the ranges
abbrev pub AllBeginInRange : List (List Entry) → Type 0
AllBeginInRange logs = (k : ℕ) → BeginsInRange (actions_in (get_or logs k []))

-- the heads of the first n logs are those of their first actions
pub record AreFirstHeads (logs : List (List Entry)) (n : ℕ) (heads : Heads) : Type 0 where
  pub count : length heads ≡ n
  pub each : (k : ℕ) → k < n → IsNextHead (get_or logs k []) 0 (head_at heads k)

-- what is left of each log
abbrev pub lefts : List (List Entry) → Heads → List (List Action)
lefts [] heads = []
lefts (log ∷ logs) [] = []
lefts (log ∷ logs) (head ∷ heads) = left_from log head ∷ lefts logs heads

-- ---- merging by stamps
-- the first of some actions, if there is any, comes after one
abbrev pub ActionsBeginAfter : Action → List Action → Type 0
ActionsBeginAfter x [] = ⊤
ActionsBeginAfter x (y ∷ ys) = Before (stamp_of x) (stamp_of y)

-- the first of the merged actions is the first of one list, before those of all others, and so on with what is left
abbrev pub IsMergeOf : List (List Action) → List Action → Type 0
IsMergeOf lists [] = (k : ℕ) → get_or lists k [] ≡ []
IsMergeOf lists (x ∷ xs) = (k : ℕ) × (rest : List Action) × (get_or lists k [] ≡ x ∷ rest)
    × ((q : ℕ) → q ≢ k → ActionsBeginAfter x (get_or lists q [])) × IsMergeOf (set lists k rest) xs

-- an action and others, given how the others are merged
abbrev pub merged_on : Action → (List Action → List Action) → List Action → List Action
merged_on x on [] = x ∷ on []
merged_on x on (y ∷ ys) = if is_before (stamp_of y) (stamp_of x) then y ∷ merged_on x on ys else x ∷ on (y ∷ ys)

-- two lists, merged
abbrev pub merged_with : List Action → List Action → List Action
merged_with [] ys = ys
merged_with (x ∷ xs) ys = merged_on x (merged_with xs) ys

-- all lists, merged
unfoldable pub merged_of : List (List Action) → List Action
merged_of [] = []
merged_of (xs ∷ lists) = merged_with xs (merged_of lists)

-- ---- what may be told
-- the stamp is in the ranges of the events of a run, and a collision may be told
pub record CanBeTold (x : Action) : Type 0 where
  pub range : IsInRange (stamp_of x)
  pub may : MayBeTold x

-- the same for each action
abbrev pub AllCanBeTold : List Action → Type 0
AllCanBeTold [] = ⊤
AllCanBeTold (x ∷ xs) = CanBeTold x × AllCanBeTold xs

-- each list is in the order of the stamps
abbrev pub AllListsRise : List (List Action) → Type 0
AllListsRise lists = (k : ℕ) → ActionStampsRise (get_or lists k [])

-- actions that can be merged from some lists that rise, and be told
pub record CanBeTellings (lists : List (List Action)) (xs : List Action) : Type 0 where
  pub merged : IsMergeOf lists xs
  pub can : AllCanBeTold xs
  pub rise : AllListsRise lists

-- each log has a head, one of the heads leads, and what is left can be merged and told
pub record AreUntold (logs : List (List Entry)) (heads : Heads) (first : Leader) : Type 0 where
  pub count : length heads ≡ length logs
  pub stand : (k : ℕ) (head : Head) → head_at heads k ≡ Some head → StandsIn (get_or logs k []) head
  pub leads : IsLeader heads first
  pub told : CanBeTellings (lefts logs heads) (merged_of (lefts logs heads))
