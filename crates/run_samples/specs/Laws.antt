-- What holds of samples.
use Rattle.std.specs.Prelude.{◌≡◌, List, ℕ, [], ◌∷◌, ◌++◌, length, map, flat_map, Option, Some, option_map}
use Rattle.report_ports.specs.Ports.{AppendsPrefix}
use Rattle.fixed_motion.specs.Scene.{SceneData, IsValidScene}
use Rattle.event_rules.specs.declared.change.Change.{Change}
use Rattle.event_rules.specs.declared.outcome.Outcome.{Outcome}
use Rattle.event_rules.specs.Run.{IsRun}
use Rattle.event_rules.specs.Told.{told, PrefixTold}
use Rattle.collision_report.specs.declared.format.Format.TheVariants.{Lines}
use Rattle.collision_report.specs.Lines.{event_line}
use Rattle.collision_report.specs.Report.{report}
use Rattle.run_samples.specs.declared.sample.Sample.{Sample}
use Rattle.run_samples.specs.declared.sample.Sample.TheVariants.{States}
use Rattle.run_samples.specs.Samples.{samples}
use Rattle.run_samples.specs.Meaning.{SampledSoFar, nothing_sampled, with_sampled, IsSampleTornAt, sampled_end_text}

-- the meaning of a listener that was told these changes
abbrev pub after_sampled : Sample → SceneData → Option (List ℕ) → List Change → SampledSoFar
after_sampled sample scene taken changes = told with_sampled (nothing_sampled sample scene taken) changes

-- what was told, with what is appended at the end, is the whole text of a run's samples
abbrev pub SamplesJoin : Type 0
SamplesJoin = (sample : Sample) (scene : SceneData) (taken : Option (List ℕ)) (changes : List Change) (outcome : Outcome) →
    IsValidScene scene → IsRun scene changes outcome →
    option_map (λ bytes. bytes ++ sampled_end_text (after_sampled sample scene taken changes) scene outcome) (after_sampled sample scene taken changes).taken
    ≡ option_map (λ bytes. bytes ++ samples sample scene changes outcome) taken

-- what was told of a run that broke off is a prefix of it
abbrev pub SamplesBegin : Type 0
SamplesBegin = (sample : Sample) (scene : SceneData) (taken : Option (List ℕ)) (changes : List Change) (outcome : Outcome) (m : SampledSoFar) →
    IsValidScene scene → IsRun scene changes outcome →
    PrefixTold with_sampled IsSampleTornAt (Some (nothing_sampled sample scene taken)) changes (Some m) →
    AppendsPrefix taken m.taken (samples sample scene changes outcome)

-- and so is what was written of a run whose end was refused
abbrev pub SamplesBreakOff : Type 0
SamplesBreakOff = (sample : Sample) (scene : SceneData) (taken left : Option (List ℕ)) (changes : List Change) (outcome : Outcome) →
    IsValidScene scene → IsRun scene changes outcome →
    AppendsPrefix (after_sampled sample scene taken changes).taken left (sampled_end_text (after_sampled sample scene taken changes) scene outcome) →
    AppendsPrefix taken left (samples sample scene changes outcome)

-- texts, each followed by a line
abbrev pub with_lines : List (List ℕ) → List (List ℕ) → List ℕ
with_lines [] lines = []
with_lines (text ∷ texts) [] = []
with_lines (text ∷ texts) (line ∷ lines) = text ++ (line ++ with_lines texts lines)

-- the report with all lines has the line of each change between texts, and the states are these texts without them
abbrev pub StatesAreOfLines : Type 0
StatesAreOfLines = (scene : SceneData) (changes : List Change) (outcome : Outcome) →
    (texts : List (List ℕ)) × (end : List ℕ) × (length texts ≡ length changes)
    × (report Lines scene changes outcome ≡ with_lines texts (map event_line changes) ++ end)
    × (samples States scene changes outcome ≡ flat_map (λ text. text) texts ++ end)
