-- What was written of a scene states one.
use Rattle.std.proofs.Common.{◌≡◌, inl, inr, ℕ, ◌≤◌, List, Some, Ok, Err, sym, ap, ◌∙◌, subst, refl}
use Rattle.std.specs.Prelude.{codes}
use Rattle.fixed_motion.specs.Scene.{SceneData, IsValidScene}
use Rattle.event_rules.specs.declared.change.Change.{Change}
use Rattle.event_rules.specs.declared.change.Limit.TheVariants.{Rounds, Speed}
use Rattle.event_rules.specs.declared.outcome.Outcome.{Outcome}
use Rattle.event_rules.specs.declared.outcome.Outcome.TheVariants.{Done as DoneOutcome, Limit as Passes}
use Rattle.event_rules.specs.Run.{IsRun}
use Rattle.resume.specs.Parts.{before_scene, rest_scene}
use Rattle.resume.proofs.InParts.{parts_make_runs}
use Rattle.scene_reader.specs.Says.{says}
use Rattle.scene_reader.specs.Laws.{IsSceneOrRefusal}
use Rattle.scene_reader.proofs.Least.{scene_or_refusal}
use Rattle.scene_maker.specs.Canonical.{canonical_text}
use Rattle.canonical_scenes.proofs.Stated.{canonical_texts_say}
use Rattle.collision_report.specs.declared.format.Format.TheVariants.{Lines}
use Rattle.command_words.specs.declared.settings.Mode.{Mode}
use Rattle.command_words.specs.declared.settings.OutputFormat.{OutputFormat}
use Rattle.program_modes.specs.declared.status.Status.TheVariants.{Done, SceneRefused, SpeedLimit, RoundLimit}
use Rattle.program_modes.specs.Output.{Input, OfMode, OfReading, IsSceneText, IsCutText, format_of, text_left}
use Rattle.program_modes.specs.Answers.{IsInputIn}
use Rattle.program_modes.specs.Reports.{Reading, status_of}
use Rattle.program_modes.specs.Laws.{ChecksStay, IsRest, CutsResume}

pub said_valid : (bytes : List ℕ) (scene : SceneData) → says bytes ≡ Ok scene → IsValidScene scene
said_valid bytes scene e = subst IsSceneOrRefusal e (scene_or_refusal bytes)

-- ---- checks
check_of : (said : Reading) (bytes text : List ℕ) → said ≡ says bytes → OfReading (IsSceneText (codes "scene") Lines) said text Done →
    (scene : SceneData) × (says bytes ≡ Ok scene) × (text ≡ canonical_text scene)
check_of (Ok scene) bytes text e h = (scene, sym e, h.0)
check_of (Err fault) bytes text e h = absurd (let same : Done ≡ SceneRefused = h.1 in cc)

pub checks_stay : ChecksStay
checks_stay check bytes text mode lines output =
    let input = output.0 in
    let reads : input.said ≡ says bytes = subst (λ (m : Mode). IsInputIn m (Some bytes) input) mode output.1 in
    let shown : OfReading (IsSceneText (codes "scene") (format_of check.format)) input.said text Done =
    subst (λ (m : Mode). OfMode m check input text Done) mode output.2 in
    let own : OfReading (IsSceneText (codes "scene") Lines) input.said text Done =
    subst (λ (f : OutputFormat). OfReading (IsSceneText (codes "scene") (format_of f)) input.said text Done) lines shown in
    let is = check_of input.said bytes text reads own in
    let again : says text ≡ Ok is.0 = ap says is.2 ∙ canonical_texts_say is.0 (said_valid bytes is.0 is.1) in
    let next : Input = record { said = Ok is.0; claimed = text } in (
      again ∙ sym is.1,
      (
        next,
        subst (λ (m : Mode). IsInputIn m (Some text) next) (sym mode) (sym again),
        subst (λ (m : Mode). OfMode m check next text Done) (sym mode)
            (subst (λ (f : OutputFormat). IsSceneText (codes "scene") (format_of f) is.0 text Done) (sym lines) (is.2, refl)),
      ),
    )

-- ---- cuts
left_states : (scene : SceneData) (at : ℕ) (text : List ℕ) (changes : List Change) (outcome : Outcome) → IsValidScene scene →
    at ≤ scene.rules.end → IsRun (before_scene scene at) changes outcome → text ≡ text_left Lines at scene changes outcome →
    Done ≡ status_of outcome → IsRest scene at text
left_states scene at text changes (DoneOutcome spots) valid le run e status =
    let parts = parts_make_runs scene at changes spots valid le run in record {
      first = changes;
      spots = spots;
      before = run;
      says = ap says e ∙ canonical_texts_say (rest_scene scene at spots) parts.0;
      runs = parts.1;
    }
left_states scene at text changes (Passes (Speed s)) valid le run e status = absurd (let same : Done ≡ SpeedLimit = status in cc)
left_states scene at text changes (Passes (Rounds s)) valid le run e status = absurd (let same : Done ≡ RoundLimit = status in cc)

cut_states : (scene : SceneData) (at : ℕ) (text : List ℕ) → IsValidScene scene → IsCutText Lines at scene text Done → IsRest scene at text
cut_states scene at text valid h = elim h [
  | inl late ↦ absurd (let same : Done ≡ SceneRefused = late.1.1 in cc)
  | inr left ↦ let is = left.1 in left_states scene at text is.0 is.1 valid left.0 is.2 is.3 is.4
]

pub cuts_resume : CutsResume
cuts_resume cut scene bytes text mode lines said output =
    let input = output.0 in
    let reads : input.said ≡ says bytes = subst (λ (m : Mode). IsInputIn m (Some bytes) input) mode output.1 in
    let shown : OfReading (IsCutText (format_of cut.format) cut.at) input.said text Done =
    subst (λ (m : Mode). OfMode m cut input text Done) mode output.2 in
    let own : OfReading (IsCutText Lines cut.at) input.said text Done =
    subst (λ (f : OutputFormat). OfReading (IsCutText (format_of f) cut.at) input.said text Done) lines shown in
    let of_scene : IsCutText Lines cut.at scene text Done =
    subst (λ (r : Reading). OfReading (IsCutText Lines cut.at) r text Done) (reads ∙ said) own in
    cut_states scene cut.at text (said_valid bytes scene said) of_scene
