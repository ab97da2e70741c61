-- What was published of a run while it went on.
use Rattle.std.specs.Prelude.{◌≡◌, ℕ, List, [], Option, Some, None, Ok, Err}
use Rattle.fixed_motion.specs.Scene.{SceneData}
use Rattle.event_rules.specs.declared.change.Change.{Change}
use Rattle.event_rules.specs.declared.outcome.Outcome.{Outcome}
use Rattle.event_rules.specs.Run.{IsRun}
use Rattle.scene_maker.specs.Made.{IsMade}
use Rattle.command_words.specs.declared.settings.Mode.{Mode}
use Rattle.command_words.specs.declared.settings.Mode.TheVariants.{Run, Plain, Check, Load, Cut, Audit}
use Rattle.command_words.specs.declared.settings.Settings.{Settings}
use Rattle.live_progress.specs.declared.board.Progress.{Progress}
use Rattle.live_progress.specs.Lists.{StartsWith}
use Rattle.live_progress.specs.Watching.{pairs_of}
use Rattle.program_modes.specs.declared.status.Status.{Status}
use Rattle.program_modes.specs.declared.status.Status.TheVariants.{Done, BadWords, SceneRefused, SpeedLimit, RoundLimit, ReadFault, WriteFault, NoMemory, Wrong}
use Rattle.program_modes.specs.Reports.{Reading, IsReadingOf}

-- all of these pairs if the run came to its end, none if the source failed, and else a prefix of them
abbrev pub PublishesPairs : List Progress → Status → List Progress → Type 0
PublishesPairs pairs Done list = list ≡ pairs
PublishesPairs pairs BadWords list = StartsWith pairs list
PublishesPairs pairs SceneRefused list = StartsWith pairs list
PublishesPairs pairs SpeedLimit list = list ≡ pairs
PublishesPairs pairs RoundLimit list = list ≡ pairs
PublishesPairs pairs ReadFault list = list ≡ []
PublishesPairs pairs WriteFault list = StartsWith pairs list
PublishesPairs pairs NoMemory list = StartsWith pairs list
PublishesPairs pairs Wrong list = StartsWith pairs list

-- for each change of the scene's run, in order, how many changes there were up to it, and its tick
abbrev pub PublishesRun : SceneData → Status → List Progress → Type 0
PublishesRun scene status list =
    (changes : List Change) × (outcome : Outcome) × IsRun scene changes outcome × PublishesPairs (pairs_of changes) status list

-- for a scene by the mode: if it is only shown, cut or audited, nothing
abbrev pub PublishesShown : Mode → SceneData → Status → List Progress → Type 0
PublishesShown Run scene status list = PublishesRun scene status list
PublishesShown Plain scene status list = PublishesRun scene status list
PublishesShown Check scene status list = list ≡ []
PublishesShown Load scene status list = PublishesRun scene status list
PublishesShown Cut scene status list = list ≡ []
PublishesShown Audit scene status list = list ≡ []

-- for the scene that was read; a refused one has no run
abbrev pub PublishesRead : Mode → Reading → Status → List Progress → Type 0
PublishesRead mode (Ok scene) status list = PublishesShown mode scene status list
PublishesRead mode (Err fault) status list = list ≡ []

-- for the scene that is made of the number, with this many disks
abbrev pub PublishesMade : ℕ → ℕ → Status → List Progress → Type 0
PublishesMade number disks status list = (scene : SceneData) × IsMade number disks scene × PublishesRun scene status list

-- for the scene that the mode runs, if any
abbrev pub PublishesIn : Mode → Settings → Reading → Status → List Progress → Type 0
PublishesIn Run settings said status list = PublishesRead Run said status list
PublishesIn Plain settings said status list = PublishesRead Plain said status list
PublishesIn Check settings said status list = PublishesRead Check said status list
PublishesIn Load settings said status list = PublishesMade settings.number settings.disks status list
PublishesIn Cut settings said status list = PublishesRead Cut said status list
PublishesIn Audit settings said status list = list ≡ []

-- given the settings of the words, what the source had left, and the status; words without settings have no run
abbrev pub Publishes : Option Settings → Option (List ℕ) → Status → List Progress → Type 0
Publishes None left status list = list ≡ []
Publishes (Some settings) left status list =
    (said : Reading) × IsReadingOf left said × PublishesIn settings.mode settings said status list
