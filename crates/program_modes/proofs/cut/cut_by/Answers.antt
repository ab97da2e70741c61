use Rattle.std.proofs.Common.{subst}
use Rattle.std.proofs.lemmas.Result.{err_from_is_err_and}
use Rattle.fixed_motion.specs.Scene.{IsValidScene}
use Rattle.event_rules.specs.declared.outcome.Outcome.TheVariants.{Done, Limit as Passes}
use Rattle.resume.specs.Parts.{before_scene}
use Rattle.program_modes.proofs.Cuts.{all_was_told, rest_told, limit_told, same_end}
use Rattle.program_modes.proofs.cut.cut_by.Goals as goal

pub returns-in_err-rest-in-Done-clause-cut_short :
    goal.returns-in_err-rest-in-Done-clause-cut_short
returns-in_err-rest-in-Done-clause-cut_short g c =
    let L = g.L.Listener in
    let fault = err_from_is_err_and c.from_residual-in_err-rest-in-Done.result
    c.from_residual-in_err-rest-in-Done.ensures.1 in
    rw (fault.1, fault.2) (all_was_told L.after L.torn c.args.scene.now c.args.at c.in_ok-state.field-0
    (L.meaning c.args.listener.now) (L.meaning c.run_before.new.listener) c.in_ok-state.ensures.run)

pub returns-in_ok-rest-in-Done-clause-cut : goal.returns-in_ok-rest-in-Done-clause-cut
returns-in_ok-rest-in-Done-clause-cut g c =
    let L = g.L.Listener in
    let valid = subst IsValidScene c.scene.view_is c.scene.invariant in
    let old = L.meaning c.args.listener.now in
    let new = L.meaning c.run_before.new.listener in
    let done =
    same_end L.after (before_scene c.args.scene.now c.args.at) c.in_ok-state.field-0 (Done c.in-Done.state) old new
    c.in-Done.is c.in_ok-state.ensures.run in
    rest_told L.after c.args.scene.now c.in_ok-rest-in-Done.field-0 c.args.at c.in-Done.state old new valid
    c.requires.at c.in_ok-rest-in-Done.ensures.scene done

pub returns-in-Limit-clause-cut : goal.returns-in-Limit-clause-cut
returns-in-Limit-clause-cut g c =
    let L = g.L.Listener in
    let valid = subst IsValidScene c.scene.view_is c.scene.invariant in
    let old = L.meaning c.args.listener.now in
    let new = L.meaning c.run_before.new.listener in
    let passed =
    same_end L.after (before_scene c.args.scene.now c.args.at) c.in_ok-state.field-0 (Passes c.in-Limit.limit) old
    new c.in-Limit.is c.in_ok-state.ensures.run in
    limit_told L.after c.args.scene.now c.args.at c.in-Limit.limit old new valid c.requires.at passed
