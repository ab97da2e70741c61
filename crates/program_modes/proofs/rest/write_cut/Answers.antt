use Rattle.std.proofs.Common.{◌<◌, inl, subst, refl, ◌∙◌}
use Rattle.fixed_motion.specs.Scene.{SceneData}
use Rattle.program_modes.specs.declared.status.Status.TheVariants.{SceneRefused}
use Rattle.program_modes.specs.Output.{IsCutText}
use Rattle.program_modes.proofs.Wrote.{wrote_text}
use Rattle.program_modes.proofs.rest.write_cut.Goals as goal

pub returns-then-at-scene-clause-wrote : goal.returns-then-at-scene-clause-wrote
returns-then-at-scene-clause-wrote g c = let K = g.K.Sink in
    let late = subst (λ (v : SceneData). v.rules.end < c.args.at) c.scene.view_is c.if-at-scene.true in
    wrote_text (IsCutText c.args.format c.args.at c.args.scene.now) c.as_bytes.result.now SceneRefused (K.taken c.args.sink.now) (K.taken c.write_text.new.sink)
    c.write_text.result tt (inl (late, (c.as_bytes.ensures ∙ c.late_cut_line.ensures, refl))) c.write_text.ensures.text

pub write_text-requires-clause-allowed : goal.write_text-requires-clause-allowed
write_text-requires-clause-allowed g c =
    c.requires.allowed c.as_bytes.result.now SceneRefused
    (inl (subst (λ (s : SceneData). s.rules.end < c.args.at) c.scene.view_is c.if-at-scene.true, (c.as_bytes.ensures ∙ c.late_cut_line.ensures, refl)))
