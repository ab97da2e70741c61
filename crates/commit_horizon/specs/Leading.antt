-- The least head and the second, while logs are merged.
use Rattle.std.specs.Prelude.{◌≡◌, ◌≢◌, ℕ, Option, Some, option_map}
use Rattle.event_stamps.specs.Least.{earlier_of}
use Rattle.event_tree.specs.Keys.{Key, IsNotAfter, IsKeyBefore}
use Rattle.commit_horizon.specs.declared.leading.PackedHead.{PackedHead}
use Rattle.commit_horizon.specs.declared.leading.Leader.{Leader}
use Rattle.commit_horizon.specs.Merging.{Head, Heads, head_of, head_at, IsLeadingHead}

-- the stamp isn't after any head of another region; no stamp if there is no other head
abbrev pub NoOtherBefore : Heads → ℕ → Key → Type 0
NoOtherBefore heads k second = (q : ℕ) (other : Head) → q ≢ k → head_at heads q ≡ Some other →
    IsNotAfter second (Some other.stamp)

-- its head, with the number of its region
abbrev pub head_with : Leader → Option (ℕ × Head)
head_with leader = option_map (λ head. (leader.number, head)) (head_of leader.stamp leader.place)

-- a head before which no other comes, or none if there is none; and a stamp that no other is before
pub record IsLeader (heads : Heads) (leader : Leader) : Type 0 where
  pub least : IsLeadingHead heads (head_with leader)
  pub others : NoOtherBefore heads leader.number leader.second

-- of two heads the lesser leads, the first one if they share a stamp; the second is the other one, or the old second if
-- that is before it
pub record IsLeaderWith (first : Leader) (k : ℕ) (head : PackedHead) (new : Leader) : Type 0 where
  pub leads : IsKeyBefore head.stamp first.stamp →
      new ≡ record { number = k; stamp = head.stamp; place = head.place; second = first.stamp }
  pub follows : ¬ IsKeyBefore head.stamp first.stamp →
      new ≡ record {
        number = first.number;
        stamp = first.stamp;
        place = first.place;
        second = earlier_of first.second head.stamp;
      }
