-- Cuts of cuts are cuts: what is written of a scene that is cut, and cut again, is what is written if it is cut once.
use Rattle.std.proofs.Common.{◌≡◌, inl, inr, ℕ, ◌+◌, ◌-◌, ◌≤◌, List, Some, Ok, Err, sym, ap, ◌∙◌, subst, refl, arith}
use Rattle.std.specs.Prelude.{codes}
use Rattle.fixed_motion.specs.Scene.{SceneData, IsValidScene}
use Rattle.event_rules.specs.declared.change.Change.{Change}
use Rattle.event_rules.specs.declared.change.Limit.TheVariants.{Rounds, Speed}
use Rattle.event_rules.specs.declared.outcome.Spot.{Spot}
use Rattle.event_rules.specs.declared.outcome.Outcome.{Outcome}
use Rattle.event_rules.specs.declared.outcome.Outcome.TheVariants.{Done as DoneOutcome, Limit as Passes}
use Rattle.event_rules.specs.Run.{IsRun}
use Rattle.resume.specs.Parts.{before_scene, rest_scene, IsEndOf}
use Rattle.resume.proofs.InParts.{parts_make_runs}
use Rattle.resume.proofs.Composed.{cuts_compose, earlier_is_done}
use Rattle.scene_reader.specs.Says.{says}
use Rattle.scene_maker.specs.Canonical.{canonical_text}
use Rattle.canonical_scenes.proofs.Stated.{canonical_texts_say}
use Rattle.collision_report.specs.declared.format.Format.{Format}
use Rattle.collision_report.specs.declared.format.Format.TheVariants.{Lines}
use Rattle.command_words.specs.declared.settings.Mode.{Mode}
use Rattle.command_words.specs.declared.settings.OutputFormat.{OutputFormat}
use Rattle.command_words.specs.declared.settings.OutputFormat.TheVariants as asked
use Rattle.command_words.specs.declared.settings.Settings.{Settings}
use Rattle.program_modes.specs.declared.status.Status.TheVariants.{Done, SceneRefused, SpeedLimit, RoundLimit}
use Rattle.program_modes.specs.Output.{Input, OfMode, OfReading, IsCutText, format_of, scene_text_of, text_left}
use Rattle.program_modes.specs.Answers.{IsInputIn}
use Rattle.program_modes.specs.Reports.{Reading, status_of}
use Rattle.program_modes.specs.Laws.{IsOutputFor, CutsAt, CutsAddUp}
use Rattle.program_modes.proofs.Reread.{said_valid}

-- ---- one cut
-- the run up to the tick is done, and the text is what is left there
record Leaves (format : Format) (at : ℕ) (scene : SceneData) (text : List ℕ) : Type 0 where
  tick : at ≤ scene.rules.end
  spots : List Spot
  end : IsEndOf (before_scene scene at) spots
  shown : text ≡ scene_text_of (codes "rest") format (rest_scene scene at spots)

-- the bytes state a scene whose rest is the text
record LeavesOf (format : Format) (at : ℕ) (bytes text : List ℕ) : Type 0 where
  scene : SceneData
  says : says bytes ≡ Ok scene
  leaves : Leaves format at scene text

done_leaves : (format : Format) (at : ℕ) (scene : SceneData) (text : List ℕ) (changes : List Change) (outcome : Outcome) →
    at ≤ scene.rules.end → IsRun (before_scene scene at) changes outcome → text ≡ text_left format at scene changes outcome →
    Done ≡ status_of outcome → Leaves format at scene text
done_leaves format at scene text changes (DoneOutcome spots) le run e status =
    record { tick = le; spots = spots; end = (changes, run); shown = e }
done_leaves format at scene text changes (Passes (Speed s)) le run e status = absurd (let same : Done ≡ SpeedLimit = status in cc)
done_leaves format at scene text changes (Passes (Rounds s)) le run e status = absurd (let same : Done ≡ RoundLimit = status in cc)

cut_leaves : (format : Format) (at : ℕ) (scene : SceneData) (text : List ℕ) → IsCutText format at scene text Done → Leaves format at scene text
cut_leaves format at scene text h = elim h [
  | inl late ↦ absurd (let same : Done ≡ SceneRefused = late.1.1 in cc)
  | inr left ↦ let is = left.1 in done_leaves format at scene text is.0 is.1 left.0 is.2 is.3 is.4
]

reading_leaves : (format : Format) (at : ℕ) (said : Reading) (bytes text : List ℕ) → said ≡ says bytes →
    OfReading (IsCutText format at) said text Done → LeavesOf format at bytes text
reading_leaves format at (Ok scene) bytes text e h =
    record { scene = scene; says = sym e; leaves = cut_leaves format at scene text h }
reading_leaves format at (Err fault) bytes text e h = absurd (let same : Done ≡ SceneRefused = h.1 in cc)

-- what is written with the settings, given the tick and the format
abbrev CutOf : Settings → ℕ → OutputFormat → Reading → List ℕ → Type 0
CutOf settings at format said text = OfReading (IsCutText (format_of format) at) said text Done

output_leaves : (settings : Settings) (at : ℕ) (format : OutputFormat) (bytes text : List ℕ) → CutsAt settings at format →
    IsOutputFor settings bytes text Done → LeavesOf (format_of format) at bytes text
output_leaves settings at format bytes text cuts output =
    let input = output.0 in
    let reads : input.said ≡ says bytes = subst (λ (m : Mode). IsInputIn m (Some bytes) input) cuts.0 output.1 in
    let shown : CutOf settings settings.at settings.format input.said text =
    subst (λ (m : Mode). OfMode m settings input text Done) cuts.0 output.2 in
    let there : CutOf settings at settings.format input.said text =
    subst (λ (n : ℕ). CutOf settings n settings.format input.said text) cuts.1 shown in
    reading_leaves (format_of format) at input.said bytes text reads
    (subst (λ (f : OutputFormat). CutOf settings at f input.said text) cuts.2 there)

leaves_output : (settings : Settings) (at : ℕ) (format : OutputFormat) (bytes text : List ℕ) → CutsAt settings at format →
    LeavesOf (format_of format) at bytes text → IsOutputFor settings bytes text Done
leaves_output settings at format bytes text cuts h =
    let input : Input = record { said = Ok h.scene; claimed = text } in
    let left = h.leaves in
    let shown : CutOf settings at format input.said text =
    inr (left.tick, (left.end.0, DoneOutcome left.spots, left.end.1, left.shown, refl)) in
    let there : CutOf settings settings.at format input.said text =
    subst (λ (n : ℕ). CutOf settings n format input.said text) (sym cuts.1) shown in
    let own : CutOf settings settings.at settings.format input.said text =
    subst (λ (f : OutputFormat). CutOf settings settings.at f input.said text) (sym cuts.2) there in (
      input,
      subst (λ (m : Mode). IsInputIn m (Some bytes) input) (sym cuts.0) (sym h.says),
      subst (λ (m : Mode). OfMode m settings input text Done) (sym cuts.0) own,
    )

-- ---- two cuts
-- what is left of what is left
left_twice : (format : Format) (scene : SceneData) (at more : ℕ) (spots : List Spot) (text : List ℕ) → IsValidScene scene →
    at ≤ scene.rules.end → IsEndOf (before_scene scene at) spots → Leaves format more (rest_scene scene at spots) text →
    Leaves format (at + more) scene text
left_twice format scene at more spots text valid le end left =
    let tick : more ≤ scene.rules.end - at = left.tick in
    let agree = cuts_compose scene at more spots left.spots valid (omega arith) end in
    record {
      tick = omega arith;
      spots = left.spots;
      end = agree.once left.end;
      shown = left.shown ∙ ap (scene_text_of (codes "rest") format) agree.left;
    }

-- a text that states what is left is cut again
cut_again : (format : Format) (at more : ℕ) (bytes left text : List ℕ) → LeavesOf Lines at bytes left → LeavesOf format more left text →
    LeavesOf format (at + more) bytes text
cut_again format at more bytes left text h again =
    let own = h.leaves in
    let rest = rest_scene h.scene at own.spots in
    let valid = said_valid bytes h.scene h.says in
    let parts = parts_make_runs h.scene at own.end.0 own.spots valid own.tick own.end.1 in
    let states : says left ≡ Ok rest = ap says own.shown ∙ canonical_texts_say rest parts.0 in
    let same : again.scene ≡ rest = said_once again.scene rest (sym again.says ∙ states) in
    record {
      scene = h.scene;
      says = h.says;
      leaves = left_twice format h.scene at more own.spots text valid own.tick own.end
          (subst (λ (s : SceneData). Leaves format more s text) same again.leaves);
    }
  where
    said_once : (a b : SceneData) → ◌≡◌ {A = Reading} (Ok a) (Ok b) → a ≡ b
    said_once a b e = cc

-- what is cut once can be cut before
cut_before : (format : Format) (at more : ℕ) (bytes text : List ℕ) → LeavesOf format (at + more) bytes text →
    (left : List ℕ) × LeavesOf Lines at bytes left × LeavesOf format more left text
cut_before format at more bytes text h =
    let own = h.leaves in
    let tick : at + more ≤ h.scene.rules.end = own.tick in
    let valid = said_valid bytes h.scene h.says in
    let first = earlier_is_done h.scene at more own.spots valid tick own.end in
    let rest = rest_scene h.scene at first.0 in
    let parts = parts_make_runs h.scene at first.1.0 first.0 valid (omega arith) first.1.1 in
    let agree = cuts_compose h.scene at more first.0 own.spots valid tick first.1 in (
      canonical_text rest,
      record {
        scene = h.scene;
        says = h.says;
        leaves = record { tick = omega arith; spots = first.0; end = first.1; shown = refl };
      },
      record {
        scene = rest;
        says = canonical_texts_say rest parts.0;
        leaves = record {
          tick = omega arith;
          spots = own.spots;
          end = agree.twice own.end;
          shown = own.shown ∙ sym (ap (scene_text_of (codes "rest") format) agree.left);
        };
      },
    )

pub cuts_add_up : CutsAddUp
cuts_add_up first again once format at more bytes text cut recut whole = (
  λ h. leaves_output once (at + more) format bytes text whole
      (cut_again (format_of format) at more bytes h.0 text (output_leaves first at asked.Lines bytes h.0 cut h.1)
      (output_leaves again more format h.0 text recut h.2)),
  λ h. let both = cut_before (format_of format) at more bytes text (output_leaves once (at + more) format bytes text whole h) in (
    both.0,
    leaves_output first at asked.Lines bytes both.0 cut both.1,
    leaves_output again more format both.0 text recut both.2,
  ),
)
