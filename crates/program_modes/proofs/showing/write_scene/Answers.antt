use Rattle.std.proofs.Common.{◌∙◌, ap, sym, refl}
use Rattle.collision_report.specs.declared.format.Format.{Format}
use Rattle.collision_report.specs.declared.format.Format.TheVariants.{Lines}
use Rattle.program_modes.specs.declared.status.Status.TheVariants.{Done}
use Rattle.program_modes.specs.Output.{IsSceneText, scene_text_of}
use Rattle.program_modes.proofs.Wrote.{wrote_text}
use Rattle.program_modes.proofs.showing.write_scene.Goals as goal

pub returns-in-Ok-clause-wrote : goal.returns-in-Ok-clause-wrote
returns-in-Ok-clause-wrote g c = let K = g.K.Sink in
    rw c.in-Lines.is (wrote_text (IsSceneText c.args.name.now Lines c.args.scene.now) c.as_bytes.result.now Done (K.taken c.args.sink.now) (K.taken c.write_text.new.sink)
    c.write_text.result tt (c.as_bytes.ensures ∙ c.in-Ok.ensures, refl) c.write_text.ensures.text)

pub write_text-requires-clause-allowed : goal.write_text-requires-clause-allowed
write_text-requires-clause-allowed g c =
    c.requires.allowed c.as_bytes.result.now Done (c.as_bytes.ensures ∙ c.in-Ok.ensures ∙ sym (ap (λ (format : Format). scene_text_of c.args.name.now format c.args.scene.now) c.in-Lines.is), refl)

pub write_text-requires-in-Summary-clause-allowed : goal.write_text-requires-in-Summary-clause-allowed
write_text-requires-in-Summary-clause-allowed g c =
    c.requires.allowed c.as_bytes-in-Summary.result.now Done (
      c.as_bytes-in-Summary.ensures ∙ c.count_line.ensures
          ∙ sym (ap (λ (format : Format). scene_text_of c.args.name.now format c.args.scene.now) c.in-Summary.is),
      refl,
    )
