use Rattle.std.proofs.Common.{sym, subst, codes}
use Rattle.command_words.specs.declared.settings.Mode.{Mode}
use Rattle.collision_report.specs.declared.format.Format.{Format}
use Rattle.program_modes.specs.Output.{Shows, IsSceneText, IsCutText, IsShownRun}
use Rattle.program_modes.specs.Answers.{Wrote, MayWrite}
use Rattle.program_modes.proofs.Shown.{mode_shows, run_shown}
use Rattle.program_modes.proofs.Wrote.{as_wrote}
use Rattle.program_modes.proofs.showing.show.Goals as goal

pub returns-in-Cut-clause-wrote : goal.returns-in-Cut-clause-wrote
returns-in-Cut-clause-wrote g c = let K = g.K.Sink in
    subst (λ (mode : Mode). Wrote (Shows mode c.args.settings.now c.args.scene.now)
    (K.taken c.args.sink.now) (K.taken c.write_cut.new.sink) c.write_cut.result)
    (sym c.in-Cut.is)
    (subst (λ (format : Format). Wrote (IsCutText format c.args.settings.now.at c.args.scene.now) (K.taken c.args.sink.now) (K.taken c.write_cut.new.sink) c.write_cut.result)
    c.format_of-format.ensures c.write_cut.ensures.wrote)

pub returns-in-Check-clause-wrote : goal.returns-in-Check-clause-wrote
returns-in-Check-clause-wrote g c = let K = g.K.Sink in
    subst (λ (mode : Mode). Wrote (Shows mode c.args.settings.now c.args.scene.now)
    (K.taken c.args.sink.now) (K.taken c.write_scene.new.sink) c.write_scene.result)
    (sym c.in-Check.is)
    (subst (λ (format : Format). Wrote (IsSceneText (codes "scene") format c.args.scene.now) (K.taken c.args.sink.now) (K.taken c.write_scene.new.sink) c.write_scene.result)
    c.format_of-format.ensures c.write_scene.ensures.wrote)

pub returns-in_default-clause-wrote : goal.returns-in_default-clause-wrote
returns-in_default-clause-wrote g c = let settings = c.args.settings.now in
    as_wrote (IsShownRun settings.format settings.margin c.args.scene.now) (Shows settings.mode settings c.args.scene.now)
    (mode_shows settings.mode settings c.args.scene.now c.in_default.not-Check c.in_default.not-Cut c.requires.shows)
    _ _ _ c.write_run.ensures.wrote

pub returns-in_default-clause-published : goal.returns-in_default-clause-published
returns-in_default-clause-published g c =
    run_shown c.args.settings.now.mode _ _ _ c.in_default.not-Check c.in_default.not-Cut c.requires.shows c.write_run.ensures.published

pub write_cut-requires-clause-allowed : goal.write_cut-requires-clause-allowed
write_cut-requires-clause-allowed g c κs within = let K = g.K.Sink in let settings = c.args.settings.now in
    subst (λ (format : Format). MayWrite (IsCutText format settings.at c.args.scene.now) (K.allows (K.lasting c.args.sink.now)) (K.taken c.args.sink.now))
    (sym c.format_of-format.ensures)
    (subst (λ (mode : Mode). MayWrite (Shows mode settings c.args.scene.now) (K.allows (K.lasting c.args.sink.now)) (K.taken c.args.sink.now))
    c.in-Cut.is c.requires.allowed)

pub write_scene-requires-clause-allowed : goal.write_scene-requires-clause-allowed
write_scene-requires-clause-allowed g c = let K = g.K.Sink in let settings = c.args.settings.now in
    subst (λ (format : Format). MayWrite (IsSceneText (codes "scene") format c.args.scene.now) (K.allows (K.lasting c.args.sink.now)) (K.taken c.args.sink.now))
    (sym c.format_of-format.ensures)
    (subst (λ (mode : Mode). MayWrite (Shows mode settings c.args.scene.now) (K.allows (K.lasting c.args.sink.now)) (K.taken c.args.sink.now))
    c.in-Check.is c.requires.allowed)

pub write_run-requires-clause-allowed : goal.write_run-requires-clause-allowed
write_run-requires-clause-allowed g c κs within = let settings = c.args.settings.now in
    λ text own h. c.requires.allowed text own
    (mode_shows settings.mode settings c.args.scene.now c.in_default.not-Check c.in_default.not-Cut c.requires.shows text own h)
