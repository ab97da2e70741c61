-- Which disks are too far apart for a contact.
use Rattle.std.specs.Prelude.{◌⊎◌, ◌+◌, ◌≤◌, ℤ, nat_abs}
use Rattle.plane_vectors.specs.declared.Vector.{Vector}
use Rattle.contact_predictor.specs.Contact.{IsContact}

-- on one axis the separation is at least the sum of the distance of contact and the way of one tick
abbrev pub AreFarApart : Vector → Vector → ℤ → Type 0
AreFarApart r u distance = (nat_abs distance + nat_abs u.x ≤ nat_abs r.x) ⊎ (nat_abs distance + nat_abs u.y ≤ nat_abs r.y)

-- such disks have no contact now
abbrev pub FarPairsDontTouch : Type 0
FarPairsDontTouch = (r u : Vector) (distance : ℤ) → AreFarApart r u distance → ¬ IsContact r u distance
