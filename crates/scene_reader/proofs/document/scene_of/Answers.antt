-- Disks that passed the tests make a valid scene.
use Rattle.std.proofs.Common.{◌≡◌, ◌≢◌, ℕ, List, Option, Result, Ok, Err, sym, ap, ◌∙◌, rules}
use Rattle.std.proofs.lemmas.Result.{err_from_is_err_and}
use Rattle.fixed_motion.specs.declared.rules.Rules.{Rules}
use Rattle.fixed_motion.specs.declared.disk.Disk.{Disk}
use Rattle.fixed_motion.specs.Scene.{SceneData}
use Rattle.std.specs.Prelude.{⊤}
use Rattle.toml.specs.View.{items_view}
use Rattle.scene_reader.specs.declared.fault.SceneFault.{SceneFault}
use Rattle.scene_reader.specs.declared.fault.SceneFault.TheVariants.{NoMemory}
use Rattle.scene_reader.specs.Steps.{◌>>◌}
use Rattle.scene_reader.specs.Numbers.{Parts, rules_of, every_of}
use Rattle.scene_reader.specs.Rows.{disks_of_rows}
use Rattle.scene_reader.specs.Disks.{disks_pass}
use Rattle.scene_reader.specs.Says.{scene_of}
use Rattle.scene_reader.specs.Seen.{parts_seen}
use Rattle.scene_reader.proofs.Valid.{valid, disks_new}
use Rattle.scene_reader.proofs.document.scene_of.Goals as goal

pub check_disks-requires-clause-count : goal.check_disks-requires-clause-count
check_disks-requires-clause-count c =
    rw c.as_slice.ensures.value (disks_new c.in_ok-rules.rules.diameter (items_view c.args.parts.now.rows.now) c.in_ok-disks.disks.items c.in_ok-disks.ensures).1

-- a step that passed didn't run out of memory
passed_in_memory : (r : Result ⊤ SceneFault) → r ≡ Ok tt → r ≡ Err NoMemory → ⊥
passed_in_memory r passed memory = cc

passes : (rules : Rules) (disks given : List Disk) (r : Result ⊤ SceneFault) → given ≡ disks → (r ≢ Err NoMemory → r ≡ disks_pass rules given) → r ≡ Ok tt → disks_pass rules disks ≡ Ok tt
passes rules disks given r e h passed = ap (disks_pass rules) (sym e) ∙ sym (h (passed_in_memory r passed)) ∙ passed

-- the scene, if all but the disks' tests is known
with_tests : (parts : Parts) (rules : Rules) (every : Option ℕ) (disks : List Disk) (tests : Result ⊤ SceneFault) → rules_of parts.numbers ≡ Ok rules → every_of parts.every ≡ Ok every
    → disks_of_rows rules.diameter parts.rows ≡ Ok disks → disks_pass rules disks ≡ tests → scene_of parts ≡ (tests >> Ok (record { rules = rules; disks = disks; every = every }))
with_tests parts rules every disks tests e f g h = rw (e, f, g, h)

scene_made : (parts : Parts) (rules : Rules) (every : Option ℕ) (disks given : List Disk) (r : Result ⊤ SceneFault) (scene : SceneData) → rules_of parts.numbers ≡ Ok rules → every_of parts.every ≡ Ok every
    → disks_of_rows rules.diameter parts.rows ≡ Ok disks → given ≡ disks → (r ≢ Err NoMemory → r ≡ disks_pass rules given) → r ≡ Ok tt → scene ≡ record { rules = rules; disks = disks; every = every }
    → Ok scene ≡ scene_of parts
scene_made parts rules every disks given r scene e f g same h passed made =
    rw made (sym (with_tests parts rules every disks (Ok tt) e f g (passes rules disks given r same h passed)))

scene_refused : (parts : Parts) (rules : Rules) (every : Option ℕ) (disks given : List Disk) (fault : SceneFault) → rules_of parts.numbers ≡ Ok rules → every_of parts.every ≡ Ok every
    → disks_of_rows rules.diameter parts.rows ≡ Ok disks → given ≡ disks → (◌≢◌ {A = Result ⊤ SceneFault} (Err fault) (Err NoMemory) → Err fault ≡ disks_pass rules given)
    → ◌≢◌ {A = Result SceneData SceneFault} (Err fault) (Err NoMemory) → Err fault ≡ scene_of parts
scene_refused parts rules every disks given fault e f g same h other =
    sym (with_tests parts rules every disks (Err fault) e f g (ap (disks_pass rules) (sym same) ∙ sym (h (λ m. other (cc)))))

pub new-requires : goal.new-requires
new-requires c =
    let passed = passes c.in_ok-rules.rules c.in_ok-disks.disks.items c.as_slice.result.now c.check_disks.result c.as_slice.ensures.value c.check_disks.ensures c.in_ok-check_disks.was in
    valid (parts_seen c.args.parts.now) c.in_ok-rules.rules c.in_ok-every.every c.in_ok-disks.disks.items c.in_ok-rules.ensures.0 (sym c.every_of.ensures ∙ c.in_ok-every.was) c.in_ok-disks.ensures passed

pub returns-in_err-check_disks : goal.returns-in_err-check_disks
returns-in_err-check_disks c =
    let p = err_from_is_err_and c.from_residual-in_err-check_disks.result c.from_residual-in_err-check_disks.ensures.1 in
    rw (p.1, p.2) (scene_refused (parts_seen c.args.parts.now) c.in_ok-rules.rules c.in_ok-every.every c.in_ok-disks.disks.items c.as_slice.result.now c.in_err-check_disks.field-0.0
    c.in_ok-rules.ensures.0 (sym c.every_of.ensures ∙ c.in_ok-every.was) c.in_ok-disks.ensures c.as_slice.ensures.value c.in_err-check_disks.ensures)

pub returns : goal.returns
returns c = λ other.
    scene_made (parts_seen c.args.parts.now) c.in_ok-rules.rules c.in_ok-every.every c.in_ok-disks.disks.items c.as_slice.result.now c.check_disks.result c.new.result
    c.in_ok-rules.ensures.0 (sym c.every_of.ensures ∙ c.in_ok-every.was) c.in_ok-disks.ensures c.as_slice.ensures.value c.check_disks.ensures c.in_ok-check_disks.was c.new.ensures

-- These follow from the steps alone. That is said here, so that a wrong step is refused as soon as this fails.
pub returns-in_err-rules : goal.returns-in_err-rules
returns-in_err-rules c = search rules

pub returns-in_err-every : goal.returns-in_err-every
returns-in_err-every c = search rules

pub returns-in_err-disks : goal.returns-in_err-disks
returns-in_err-disks c = search rules
