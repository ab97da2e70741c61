-- Cuts compose: what two cuts leave is what one leaves.
use Rattle.std.proofs.Common.{None, ◌≡◌, ℕ, ◌+◌, ◌-◌, ◌≤◌, List, [], ◌∷◌, ◌++◌, sym, ap, ◌∙◌, subst, refl, arith}
use Rattle.fixed_motion.specs.declared.disk.Disk.{Disk}
use Rattle.fixed_motion.specs.Scene.{SceneData, IsValidScene}
use Rattle.event_rules.specs.declared.outcome.Spot.{Spot}
use Rattle.event_rules.specs.declared.outcome.Outcome.{Outcome}
use Rattle.event_rules.specs.declared.outcome.Outcome.TheVariants.{Done, Limit as Passes}
use Rattle.event_rules.specs.Run.{IsRun, spots_of}
use Rattle.event_rules.proofs.OneRun.{one_run}
use Rattle.resume.specs.Shift.{shifted, later_outcome}
use Rattle.resume.specs.Parts.{ending_at, before_scene, rest_scene, disks_from, started, IsEndOf}
use Rattle.resume.specs.Laws.{IsInParts, CutsCompose, EarlierIsDone}
use Rattle.resume.proofs.Beginnings.{sizes}
use Rattle.resume.proofs.InParts.{first_part, before_valid, parts_make_runs, runs_have_parts}

-- ---- the disks that are left
-- only the sizes of the disks that start at these spots are used again
from_both : (ds ys : List Disk) (at : ℕ) (later : List Spot) → sizes ys ≡ sizes ds →
    disks_from (disks_from ds (spots_of at ys)) later ≡ disks_from ds later
from_both [] ys at later e = refl
from_both (d ∷ ds) [] at later e = cc
from_both (d ∷ ds) (y ∷ ys) at [] e = refl
from_both (d ∷ ds) (y ∷ ys) at (spot ∷ later) e =
    let more : sizes ys ≡ sizes ds = cc in
    ap (λ (xs : List Disk). started (d, spot) ∷ xs) (from_both ds ys at later more)

left_after : (scene : SceneData) (at more : ℕ) (spots later : List Spot) → IsValidScene scene →
    at + more ≤ scene.rules.end → IsEndOf (before_scene scene at) spots →
    rest_scene (rest_scene scene at spots) more later ≡ rest_scene scene (at + more) later
left_after scene at more spots later h le end =
    let l = first_part scene at end.0 spots h (omega arith) end.1 in
    let ticks : (scene.rules.end - at) - more ≡ scene.rules.end - (at + more) = omega arith in
    let disks : disks_from (disks_from scene.disks spots) later ≡ disks_from scene.disks later =
    ap (λ (ss : List Spot). disks_from (disks_from scene.disks ss) later) l.places
    ∙ from_both scene.disks l.ends at later l.same in
    λ i. record { rules = ending_at (ticks i) scene.rules; disks = disks i; every = None }

-- ---- the ends
-- what is left of the run up to the later tick is what is left, up to that tick
part_left : (scene : SceneData) (at more : ℕ) (spots : List Spot) →
    rest_scene (before_scene scene (at + more)) at spots ≡ before_scene (rest_scene scene at spots) more
part_left scene at more spots =
    let ticks : (at + more) - at ≡ more = omega arith in
    λ i. record {
      rules = ending_at (ticks i) scene.rules;
      disks = disks_from scene.disks spots;
      every = None;
    }

cut_once : (scene : SceneData) (at more : ℕ) (spots later : List Spot) → IsValidScene scene →
    at + more ≤ scene.rules.end → IsEndOf (before_scene scene at) spots →
    IsEndOf (before_scene (rest_scene scene at spots) more) later → IsEndOf (before_scene scene (at + more)) later
cut_once scene at more spots later h le end rest =
    let whole = before_scene scene (at + more) in
    let both = parts_make_runs whole at end.0 spots (before_valid scene (at + more) le h) (omega arith) end.1 in
    let run = subst (λ (s : SceneData). IsRun s rest.0 (Done later)) (sym (part_left scene at more spots)) rest.1 in
    (end.0 ++ shifted at rest.0, both.1 rest.0 (Done later) run)

done_from : (at : ℕ) (later : List Spot) (last : Outcome) → Done later ≡ later_outcome at last → last ≡ Done later
done_from at later (Done spots) e = sym e
done_from at later (Passes limit) e = cc

in_two : (scene : SceneData) (at more : ℕ) (later : List Spot) → IsValidScene scene → at + more ≤ scene.rules.end →
    (end : IsEndOf (before_scene scene (at + more)) later) →
    IsInParts (before_scene scene (at + more)) at end.0 (Done later)
in_two scene at more later h le end =
    runs_have_parts (before_scene scene (at + more)) at end.0 (Done later) (before_valid scene (at + more) le h)
    (omega arith) end.1 (λ passes. passes)

same_spots : (spots others : List Spot) → Done spots ≡ Done others → others ≡ spots
same_spots spots others e = cc

cut_twice : (scene : SceneData) (at more : ℕ) (spots later : List Spot) → IsValidScene scene →
    at + more ≤ scene.rules.end → IsEndOf (before_scene scene at) spots →
    IsEndOf (before_scene scene (at + more)) later → IsEndOf (before_scene (rest_scene scene at spots) more) later
cut_twice scene at more spots later h le end whole =
    let parts = in_two scene at more later h le whole in
    let before = before_scene scene at in
    let same =
    one_run before.rules before.disks end.0 parts.first (Done spots) (Done parts.spots) end.1 parts.before in
    let there = same_spots spots parts.spots same.1 in
    let scenes = part_left scene at more parts.spots
    ∙ ap (λ (ss : List Spot). before_scene (rest_scene scene at ss) more) there in
    let run = subst (λ (o : Outcome). IsRun (rest_scene (before_scene scene (at + more)) at parts.spots) parts.more o)
    (done_from at later parts.last parts.end) parts.after in
    (parts.more, subst (λ (s : SceneData). IsRun s parts.more (Done later)) scenes run)

-- ---- the laws
pub cuts_compose : CutsCompose
cuts_compose scene at more spots later h le end = record {
  once = cut_once scene at more spots later h le end;
  twice = cut_twice scene at more spots later h le end;
  left = left_after scene at more spots later h le end;
}

pub earlier_is_done : EarlierIsDone
earlier_is_done scene at more later h le end =
    let parts = in_two scene at more later h le end in (parts.spots, (parts.first, parts.before))
