use Rattle.std.proofs.Common.{sym, subst, refl}
use Rattle.std.proofs.lemmas.Result.{err_from_is_err_and}
use Rattle.fixed_motion.specs.Scene.{SceneData, IsValidScene}
use Rattle.event_rules.specs.Tellings.{AwaitsRun}
use Rattle.program_modes.specs.Runs.{TellsRun}
use Rattle.program_modes.proofs.Cuts.{none_told}
use Rattle.program_modes.proofs.cut.run_before.Goals as goal

pub returns-in_err-first : goal.returns-in_err-first
returns-in_err-first g c =
    let L = g.L.Listener in
    let valid = subst IsValidScene c.scene.view_is c.scene.invariant in
    let fault = err_from_is_err_and c.from_residual.result c.from_residual.ensures.1 in
    rw (fault.1, fault.2) (record {
      run = tt;
      cut_short = none_told L.after L.torn c.args.scene.now c.args.at (L.meaning c.args.listener.now) valid c.requires.at;
      counts = refl;
    })

pub run-requires-clause-awaited : goal.run-requires-clause-awaited
run-requires-clause-awaited g c κs within =
    let L = g.L.Listener in
    subst (λ (s : SceneData). AwaitsRun L.after L.awaits s (L.meaning c.args.listener.now))
    (sym c.in_ok-first.ensures) c.requires.awaited

pub returns : goal.returns
returns g c =
    let L = g.L.Listener in
    subst (λ (s : SceneData). TellsRun L.after L.torn L.meaning L.faults s c.args.listener.now c.run.new.listener c.run.result)
    c.in_ok-first.ensures c.run.ensures
