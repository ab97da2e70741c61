-- The collision of the hit's stamp, by the laws of what it does.
use Rattle.std.proofs.Common.{◌≡◌, ℕ, Some, slice_get, subst, sym}
use Rattle.std.proofs.lemmas.Option.{same_Some}
use Rattle.fixed_motion.specs.declared.disk.Disk.{Disk}
use Rattle.event_stamps.specs.declared.Stamp.{Stamp}
use Rattle.event_stamps.specs.declared.Kind.{Kind}
use Rattle.event_stamps.specs.declared.Kind.TheVariants.{Wall, Pair}
use Rattle.event_rules.specs.declared.change.Change.{Change}
use Rattle.real_collisions.specs.Laws.{IsElasticBounce, IsElasticCollision}
use Rattle.worked_laws.specs.Bounce.{bounce_disks, bounce_stamp}
use Rattle.worked_laws.specs.Pair.{pair_disks, hit_stamp}
use Rattle.worked_laws.proofs.PairRun.{first, second}

two_kinds : ◌≡◌ {A = Kind} Wall Pair → ⊥
two_kinds e = cc

-- it is not at a side
pub no_bounce : (c : Change) → c.stamp ≡ hit_stamp → IsElasticBounce pair_disks c → ⊥
no_bounce c same bounce = two_kinds (subst (λ (s : Stamp). Wall ≡ s.kind) same (sym bounce.kind))

-- and one at a side is not of two disks
pub no_collision : (c : Change) → c.stamp ≡ bounce_stamp → IsElasticCollision bounce_disks c → ⊥
no_collision c same hit = two_kinds (subst (λ (s : Stamp). s.kind ≡ Pair) same hit.kind)

-- its disks are the two
pub is_first : (c : Change) (hit : IsElasticCollision pair_disks c) → c.stamp ≡ hit_stamp → hit.first ≡ first
is_first c hit same = sym (same_Some _ _ (subst (λ (s : Stamp). slice_get pair_disks s.first ≡ Some hit.first) same hit.first_at))

pub is_second : (c : Change) (hit : IsElasticCollision pair_disks c) → c.stamp ≡ hit_stamp → hit.second ≡ second
is_second c hit same = sym (same_Some _ _ (subst (λ (s : Stamp). slice_get pair_disks s.second ≡ Some hit.second) same hit.second_at))

-- what holds of two disks at a tick holds of the same
pub carried : (P : Disk → Disk → ℕ → Type 0) (a b x y : Disk) (m n : ℕ) → a ≡ x → b ≡ y → m ≡ n → P a b m → P x y n
carried P a b x y m n first second tick h =
    subst (λ (k : ℕ). P x y k) tick (subst (λ (d : Disk). P d y m) first (subst (λ (d : Disk). P a d m) second h))
