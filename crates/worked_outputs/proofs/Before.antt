-- Up to the tick 3 the pair has no event.
use Rattle.std.proofs.Common.{◌≡◌, inl, inr, ℕ, ◌<◌, ◌≤◌, [], ap, arith, refl}
use Rattle.fixed_motion.specs.declared.disk.Disk.{Disk}
use Rattle.fixed_motion.specs.Motion.{IsInside, place_of}
use Rattle.plane_vectors.specs.declared.Vector.{Vector}
use Rattle.event_stamps.specs.declared.Stamp.{Stamp}
use Rattle.event_rules.specs.declared.outcome.Outcome.TheVariants.{Done}
use Rattle.event_rules.specs.Run.{IsRun, IsCandidate, spots_of}
use Rattle.worked_laws.specs.Rows.{box_until, scene_until}
use Rattle.worked_laws.specs.Pair.{pair_disks}
use Rattle.worked_laws.proofs.PairRun.{only_candidate}

-- the box is the same up to another tick
same_inside : (end : ℕ) (a : Disk) (place : Vector) → IsInside (box_until end) a place → IsInside (box_until 5) a place
same_inside end a place h = record { left = h.left; right = h.right; bottom = h.bottom; top = h.top }

longer : (end : ℕ) (s : Stamp) → end ≤ 5 → IsCandidate (box_until end) pair_disks s → IsCandidate (box_until 5) pair_disks s
longer end s few (inl wall) =
    let event = wall.2 in
    let soon : s.tick < end = event.1 in
    inl (wall.0, wall.1, (record { base = event.0.base; inside = same_inside end wall.0 (place_of wall.0 s.tick) event.0.inside; past = event.0.past }, omega arith, event.2))
longer end s few (inr pair) =
    let event = pair.1.2.2 in
    let soon : s.tick < end = event.1 in
    inr (
      pair.0,
      (
        pair.1.0,
        pair.1.1,
        (
          pair.1.2.0,
          pair.1.2.1,
          (
            record {
              first_base = event.0.first_base;
              second_base = event.0.second_base;
              first_inside = same_inside end pair.1.0 (place_of pair.1.0 s.tick) event.0.first_inside;
              second_inside = same_inside end pair.1.2.0 (place_of pair.1.2.0 s.tick) event.0.second_inside;
              contact = event.0.contact;
            },
            omega arith,
            event.2,
          ),
        ),
      ),
    )

before_its_end : (end : ℕ) (s : Stamp) → IsCandidate (box_until end) pair_disks s → s.tick < end
before_its_end end s (inl wall) = wall.2.1
before_its_end end s (inr pair) = pair.1.2.2.1

none_before : (end : ℕ) (s : Stamp) → end ≤ 3 → IsCandidate (box_until end) pair_disks s → ⊥
none_before end s few h =
    let at_three : s.tick ≡ 3 = ap (λ (t : Stamp). t.tick) (only_candidate s (longer end s (omega arith) h)) in
    let soon = before_its_end end s h in
    omega arith

pub run_before : (end : ℕ) → end ≤ 3 → IsRun (scene_until end pair_disks) [] (Done (spots_of end pair_disks))
run_before end few = (λ s h. none_before end s few h, refl)
