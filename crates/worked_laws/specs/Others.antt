-- The pair with its numbers exchanged, and beside a disk that stands.
use Rattle.std.specs.Prelude.{ℕ, zero, suc, ◌-◌, nat_lt, Bool, pos, neg_ℤ, List, [], ◌∷◌}
use Rattle.fixed_motion.specs.declared.disk.Disk.{Disk}
use Rattle.event_rules.specs.declared.change.Change.{Change}
use Rattle.event_rules.specs.declared.outcome.Spot.{Spot}
use Rattle.worked_laws.specs.Rows.{disk_at}
use Rattle.worked_laws.specs.Pair.{pair_disks, hit_stamp, the_hit, pair_end}

-- the disk at the right is number 0
abbrev pub exchanged_disks : List Disk
exchanged_disks = disk_at (pos 20) (neg_ℤ (pos 1)) 0 0 ∷ disk_at (pos 10) (pos 1) 0 0 ∷ []

-- 1 for 0, and 0 for 1
abbrev pub exchanged : ℕ → ℕ
exchanged zero = 1
exchanged (suc zero) = 0
exchanged (suc (suc n)) = suc (suc n)

-- a disk that stands at (10, 16), clear of both ways
abbrev pub standing : Disk
standing = record { x = pos 10; y = pos 16; vx = pos 0; vy = pos 0; size = pos 4; base = 0; mark = 0 }

-- it is number 0, and the two that meet are 1 and 2
abbrev pub three_disks : List Disk
three_disks = standing ∷ pair_disks

-- their hit, by their numbers among the three
abbrev pub hit_beside : Change
hit_beside = record the_hit { stamp = record hit_stamp { first = 1; second = 2 } }

-- the three at the end
abbrev pub three_end : List Spot
three_end = record { x = pos 10; y = pos 16; vx = pos 0; vy = pos 0 } ∷ pair_end

-- two disks at opposite ends, which in one tick come nearer by 16 units: they start 20 apart, as D + 2 · 8 asks
abbrev pub far_disks : List Disk
far_disks = disk_at (pos 10) (pos 8) 0 0 ∷ disk_at (pos 30) (neg_ℤ (pos 8)) 0 0 ∷ []

-- the number of the one at the left
abbrev pub is_of_left : ℕ → Bool
is_of_left n = nat_lt n 1

-- the numbers of the two
abbrev pub is_of_pair : ℕ → Bool
is_of_pair n = nat_lt 0 n

-- a number of the pair, among the three
abbrev pub one_more : ℕ → ℕ
one_more n = suc n

-- a number of the three, in the pair
abbrev pub one_less : ℕ → ℕ
one_less n = n - 1
