-- The disks of the stamp are the two, and its tick is 2.
use Rattle.std.proofs.Common.{◌≡◌, ℕ, [], Some, slice_get, sym, ◌∙◌, subst, arith}
use Rattle.std.specs.Prelude.{ℤ, pos}
use Rattle.std.proofs.lemmas.Int.{ints}
use Rattle.std.proofs.lemmas.Option.{same_Some}
use Rattle.plane_vectors.specs.Vectors.{vector, difference, dot}
use Rattle.fixed_motion.specs.declared.disk.Disk.{Disk}
use Rattle.fixed_motion.specs.Motion.{place_of}
use Rattle.event_stamps.specs.declared.Stamp.{Stamp}
use Rattle.event_rules.specs.declared.change.Change.{Change}
use Rattle.event_rules.specs.Effect.{impulse_at}
use Rattle.event_rules.specs.Conservation.{velocity_at}
use Rattle.collision_sums.specs.Sums.{virial_of}
use Rattle.sampled_laws.specs.Laws.{IsPush}
use Rattle.worked_laws.specs.Pair.{pair_rules}
use Rattle.worked_laws.specs.Glance.{glance_disks, glance_stamp}
use Rattle.worked_laws.proofs.GlanceRun.{first, second}
use Rattle.worked_laws.proofs.sums.the_push_of_the_glance.Goals as goal

pushed : (c : Change) (later : Disk) → c.stamp ≡ glance_stamp → IsPush glance_disks c later → virial_of (vector (pos 2) (pos 0)) c.first later ≡ 6
pushed c later same push = same_pos (push_is ∙ at_hit)
  where
    one : push.first ≡ first
    one = sym (same_Some _ _ (subst (λ (s : Stamp). slice_get glance_disks s.first ≡ Some push.first) same push.first_at))

    other : push.second ≡ second
    other = sym (same_Some _ _ (subst (λ (s : Stamp). slice_get glance_disks s.second ≡ Some push.second) same push.second_at))

    -- of these disks, at this tick
    r_times_j : ℕ → Disk → Disk → ℤ
    r_times_j tick a b = dot (difference (place_of a tick) (place_of b tick)) (impulse_at tick a b)

    at_hit : r_times_j c.stamp.tick push.first push.second ≡ pos 6
    at_hit = λ i. r_times_j (same i).tick (one i) (other i)

    push_is : pos (virial_of (vector (pos 2) (pos 0)) c.first later) ≡ r_times_j c.stamp.tick push.first push.second
    push_is = subst (λ (s : Stamp). pos (virial_of (velocity_at glance_disks s.first) c.first later) ≡ r_times_j c.stamp.tick push.first push.second) same push.virial

    same_pos : {m n : ℕ} → pos m ≡ pos n → m ≡ n
    same_pos {m} {n} e = omega (arith, ints)

pub returns : goal.returns
returns c change later after outcome run same is =
    pushed change later same (c.virials_are_pushes.ensures pair_rules glance_disks [] after change later outcome run is)
