-- The heads of logs while they are merged.
use Rattle.std.specs.Prelude.{◌≡◌, ℕ, ◌<◌, List, Option, Some, None, map, length, get_or}
use Rattle.event_stamps.specs.declared.Stamp.{Stamp}
use Rattle.event_stamps.specs.Order.{Before}
use Rattle.event_tree.specs.Keys.{Key}
use Rattle.commit_horizon.specs.declared.leading.PackedHead.{PackedHead}

-- the next action of a region, by its stamp and its place in the log
pub record Head : Type 0 where
  pub stamp : Stamp
  pub place : ℕ

-- the head with a stamp, if there is one, and a place
abbrev pub head_of : Key → ℕ → Option Head
head_of None place = None
head_of (Some s) place = Some (record { stamp = s; place = place })

-- the head that a packed one stands for, if it has a stamp
abbrev pub head_in : PackedHead → Option Head
head_in packed = head_of packed.stamp packed.place

-- the head of each region's log, if it has one
abbrev pub Heads : Type 0
Heads = List (Option Head)

-- the heads that packed ones stand for
abbrev pub heads_in : List PackedHead → Heads
heads_in packed = map head_in packed

-- the head of a region, by its number, if it has one
abbrev pub head_at : Heads → ℕ → Option Head
head_at heads k = get_or heads k None

-- a head before which no other comes, with the number of its region; none if there is no head
abbrev pub IsLeadingHead : Heads → Option (ℕ × Head) → Type 0
IsLeadingHead heads None = (k : ℕ) → head_at heads k ≡ None
IsLeadingHead heads (Some least) = (least.0 < length heads) × (head_at heads least.0 ≡ Some least.1)
    × ((k : ℕ) (head : Head) → head_at heads k ≡ Some head →
    ¬ Before head.stamp least.1.stamp)
