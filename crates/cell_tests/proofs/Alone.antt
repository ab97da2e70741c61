-- A state of one disk.
use Rattle.std.proofs.Common.{zero, suc, [], ◌∷◌, subst}
use Rattle.std.proofs.lemmas.Option.{none-some, same_Some}
use Rattle.fixed_motion.specs.declared.disk.Disk.{Disk}
use Rattle.collision_sums.specs.Bounds.{IsNear, AreNear}

pub alone : (old : Disk) → IsNear old → AreNear (old ∷ [])
alone old near zero a at = subst IsNear (same_Some old a at) near
alone old near (suc i) a at = absurd (none-some a at)
