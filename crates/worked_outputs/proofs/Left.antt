-- What a cut of the pair's scene leaves.
use Rattle.std.proofs.Common.{◌≡◌, ◌∙◌, ℕ, ◌≤◌, List, [], Ok, ap, subst}
use Rattle.event_rules.specs.declared.change.Change.{Change}
use Rattle.event_rules.specs.declared.outcome.Spot.{Spot}
use Rattle.event_rules.specs.declared.outcome.Outcome.{Outcome}
use Rattle.event_rules.specs.declared.outcome.Outcome.TheVariants.{Done}
use Rattle.event_rules.specs.Run.{IsRun, spots_of}
use Rattle.event_rules.proofs.OneRun.{one_run}
use Rattle.resume.specs.Parts.{before_scene, rest_scene}
use Rattle.resume.specs.Laws.{Resumes}
use Rattle.scene_reader.specs.Says.{says}
use Rattle.program_modes.specs.Laws.{IsRest}
use Rattle.worked_laws.specs.Rows.{box_until}
use Rattle.worked_laws.specs.Pair.{pair_scene, pair_disks}
use Rattle.worked_outputs.proofs.Before.{run_before}

-- the run up to a tick before the hit has no events, and leaves the disks on their ways
record IsLeft (at : ℕ) (changes : List Change) (spots : List Spot) : Type 0 where
  pub none : changes ≡ []
  pub places : spots ≡ spots_of at pair_disks

one_left : (at : ℕ) (changes : List Change) (spots : List Spot) → at ≤ 3 → IsRun (before_scene pair_scene at) changes (Done spots) → IsLeft at changes spots
one_left at changes spots few run =
    let one = one_run (box_until at) pair_disks changes [] (Done spots) (Done (spots_of at pair_disks)) run (run_before at few) in
    let ends : ◌≡◌ {A = Outcome} (Done spots) (Done (spots_of at pair_disks)) = one.1 in
    record { none = one.0; places = cc }

-- what is written states the rest
pub states_rest : (at : ℕ) (text : List ℕ) → at ≤ 3 → IsRest pair_scene at text → says text ≡ Ok (rest_scene pair_scene at (spots_of at pair_disks))
states_rest at text few rest =
    rest.says ∙ ap (λ (spots : List Spot). Ok (rest_scene pair_scene at spots)) (one_left at rest.first rest.spots few rest.before).places

-- and a run of it, so many ticks later, is the pair's
pub resumes_rest : (at : ℕ) (text : List ℕ) → at ≤ 3 → IsRest pair_scene at text → Resumes pair_scene at [] (rest_scene pair_scene at (spots_of at pair_disks))
resumes_rest at text few rest =
    let left = one_left at rest.first rest.spots few rest.before in
    subst (λ (changes : List Change). Resumes pair_scene at changes (rest_scene pair_scene at (spots_of at pair_disks))) left.none
    (subst (λ (spots : List Spot). Resumes pair_scene at rest.first (rest_scene pair_scene at spots)) left.places rest.runs)
