use Rattle.std.proofs.Common.{◌≡◌, ◌∙◌, [], subst, sym, ap, refl}
use Rattle.std.proofs.lemmas.Result.{err_from_is_err_and, IfOk-weaker, IfErr-weaker}
use Rattle.fixed_motion.specs.Scene.{SceneData, IsValidScene}
use Rattle.event_rules.specs.Run.{IsValidState}
use Rattle.event_rules.proofs.Ranges.{starts_valid}
use Rattle.event_rules.specs.Tellings.{AwaitsRun, RunDone, StepsCutShort, bare_scene}
use Rattle.event_rules.proofs.Telling.{told_none}
use Rattle.event_rules.specs.declared.outcome.RunFault.TheVariants.{NoMemory}
use Rattle.event_rules.proofs.RunsTold.{run_told, cut_short}
use Rattle.all_pairs.proofs.simulate.simulate_plain.Goals as goal

pub returns-in_err-disks-clause-cut_short : goal.returns-in_err-disks-clause-cut_short
returns-in_err-disks-clause-cut_short g c =
    let L = g.L.Listener in
    let scene = c.args.scene.now in
    let old = L.meaning c.args.listener.now in
    let fault = err_from_is_err_and c.from_residual.result
    c.from_residual.ensures.1 in
    rw (fault.1, fault.2) (cut_short L.after L.torn scene NoMemory old old
    (subst IsValidScene c.scene.view_is c.scene.invariant)
    ([], scene.disks, refl, (0, told_none L.after old)))

pub run-requires-clause-valid : goal.run-requires-clause-valid
run-requires-clause-valid g c =
    subst (IsValidState c.scene.inside.rules)
    (sym (c.in_ok-disks.ensures.items ∙ c.deref.ensures.value)) (starts_valid _ c.scene.invariant)

pub run-requires-clause-awaited : goal.run-requires-clause-awaited
run-requires-clause-awaited g c =
    let L = g.L.Listener in
    let scene = c.args.scene.now in
    let same : bare_scene c.scene.inside.rules c.in_ok-disks.disks.items ≡ bare_scene scene.rules scene.disks =
    ap (bare_scene c.scene.inside.rules) (c.in_ok-disks.ensures.items ∙ c.deref.ensures.value)
    ∙ ap (λ (v : SceneData). bare_scene v.rules v.disks) c.scene.view_is in
    subst (λ (v : SceneData). AwaitsRun L.after L.awaits v (L.meaning c.args.listener.now)) (sym same)
    c.requires.awaited

pub returns-clause-run : goal.returns-clause-run
returns-clause-run g c =
    let L = g.L.Listener in
    let scene = c.args.scene.now in
    let old = L.meaning c.args.listener.now in
    let new = L.meaning c.run.new.listener in
    let same : bare_scene c.scene.inside.rules c.in_ok-disks.disks.items ≡ bare_scene scene.rules scene.disks =
    ap (bare_scene c.scene.inside.rules) (c.in_ok-disks.ensures.items ∙ c.deref.ensures.value)
    ∙ ap (λ (v : SceneData). bare_scene v.rules v.disks) c.scene.view_is in
    let valid = subst IsValidScene c.scene.view_is c.scene.invariant in
    IfOk-weaker c.run.result _ _
    (λ outcome h. run_told L.after scene outcome old new valid
    (subst (λ (v : SceneData). RunDone L.after v outcome old new) same h)) c.run.ensures.run

pub returns-clause-cut_short : goal.returns-clause-cut_short
returns-clause-cut_short g c =
    let L = g.L.Listener in
    let scene = c.args.scene.now in
    let old = L.meaning c.args.listener.now in
    let new = L.meaning c.run.new.listener in
    let same : bare_scene c.scene.inside.rules c.in_ok-disks.disks.items ≡ bare_scene scene.rules scene.disks =
    ap (bare_scene c.scene.inside.rules) (c.in_ok-disks.ensures.items ∙ c.deref.ensures.value)
    ∙ ap (λ (v : SceneData). bare_scene v.rules v.disks) c.scene.view_is in
    let valid = subst IsValidScene c.scene.view_is c.scene.invariant in
    IfErr-weaker c.run.result _ _
    (λ fault h. cut_short L.after L.torn scene fault old new valid
    (subst (λ (v : SceneData). StepsCutShort L.after L.torn v fault old new) same h))
    c.run.ensures.cut_short
