-- The spots of a final state are slow, and their sums are written.
use Rattle.std.proofs.Common.{ℕ, List, sym, subst}
use Rattle.report_ports.specs.Ports.{MayTake}
use Rattle.fixed_motion.specs.Scene.{SceneData, IsValidScene}
use Rattle.event_rules.specs.declared.outcome.Spot.{Spot}
use Rattle.event_rules.specs.declared.outcome.Outcome.{Outcome}
use Rattle.event_rules.specs.Outcomes.{IsOutcomeOf}
use Rattle.event_rules.specs.Conservation.{spot_velocity}
use Rattle.collision_report.specs.Bounds.{AreSlow}
use Rattle.collision_report.specs.Writes.{Writes}
use Rattle.collision_report.proofs.Sums.{spots_slow}
use Rattle.run_samples.specs.Samples.{last_sums}
use Rattle.run_samples.proofs.Due.{last_is}
use Rattle.run_samples.proofs.blocks.write_last.Goals as goal

pub inside_at_end-inside-requires-clause-slow : goal.inside_at_end-inside-requires-clause-slow
inside_at_end-inside-requires-clause-slow g c =
    let scene = c.args.scene.now in
    let valid = subst (λ (s : SceneData). IsValidScene s) c.scene.view_is c.scene.invariant in
    let done = subst (λ (outcome : Outcome). IsOutcomeOf scene outcome) c.in-Done.is c.requires.outcome in
    subst (λ (spots : List Spot). AreSlow spot_velocity spots) (sym c.as_slice.ensures) (spots_slow scene c.in-Done.state valid done)

pub returns-in-Done : goal.returns-in-Done
returns-in-Done g c = let K = g.K.Sink in
    let scene = c.args.scene.now in let sums = c.args.sums.now in let margin = c.args.margin in
    let inside : SceneData = record { rules = c.scene.inside.rules; disks = c.scene.inside.disks.items; every = c.scene.inside.every } in
    subst (λ (outcome : Outcome). Writes K.taken K.faults K.lasting c.args.sink.now c.write_lines.new.sink c.write_lines.result (last_sums scene.rules margin sums outcome))
    (sym c.in-Done.is)
    (subst (λ (text : List ℕ). Writes K.taken K.faults K.lasting c.args.sink.now c.write_lines.new.sink c.write_lines.result text)
    (last_is inside scene margin sums c.as_slice.result.now c.in-Done.state _ _ c.scene.view_is c.as_slice.ensures
    c.inside_at_end-inside.ensures.disks c.inside_at_end-inside.ensures.squares)
    c.write_lines.ensures)

pub write_lines-requires : goal.write_lines-requires
write_lines-requires g c = let K = g.K.Sink in
    let scene = c.args.scene.now in let sums = c.args.sums.now in let margin = c.args.margin in
    let inside : SceneData = record { rules = c.scene.inside.rules; disks = c.scene.inside.disks.items; every = c.scene.inside.every } in
    subst (λ (text : List ℕ). MayTake (K.allows (K.lasting c.args.sink.now)) (K.taken c.args.sink.now) text)
    (sym (last_is inside scene margin sums c.as_slice.result.now c.in-Done.state _ _ c.scene.view_is c.as_slice.ensures
    c.inside_at_end-inside.ensures.disks c.inside_at_end-inside.ensures.squares))
    (subst (λ (outcome : Outcome). MayTake (K.allows (K.lasting c.args.sink.now)) (K.taken c.args.sink.now) (last_sums scene.rules margin sums outcome))
    c.in-Done.is c.requires.allowed)
