-- What a mode shows that neither checks a scene, nor cuts it, nor audits it: what the words ask for of its run.
use Rattle.std.proofs.Common.{◌≢◌, ℕ, List, refl}
use Rattle.fixed_motion.specs.Scene.{SceneData}
use Rattle.command_words.specs.declared.settings.Mode.{Mode}
use Rattle.command_words.specs.declared.settings.Mode.TheVariants.{Run, Plain, Check, Load, Cut, Audit}
use Rattle.command_words.specs.declared.settings.Settings.{Settings}
use Rattle.live_progress.specs.declared.board.Progress.{Progress}
use Rattle.program_modes.specs.declared.status.Status.{Status}
use Rattle.program_modes.specs.Output.{Shows, IsShownRun}
use Rattle.program_modes.specs.Publishes.{PublishesRun, PublishesShown}

pub mode_shows : (mode : Mode) (settings : Settings) (scene : SceneData) → mode ≢ Check → mode ≢ Cut → mode ≢ Audit → (text : List ℕ) (status : Status) →
    IsShownRun settings.format settings.margin scene text status → Shows mode settings scene text status
mode_shows Run settings scene check cut audit text status h = h
mode_shows Plain settings scene check cut audit text status h = h
mode_shows Check settings scene check cut audit text status h = absurd (check refl)
mode_shows Load settings scene check cut audit text status h = h
mode_shows Cut settings scene check cut audit text status h = absurd (cut refl)
mode_shows Audit settings scene check cut audit text status h = absurd (audit refl)

-- and its changes are published
pub run_shown : (mode : Mode) (scene : SceneData) (status : Status) (list : List Progress) → mode ≢ Check → mode ≢ Cut → mode ≢ Audit →
    PublishesRun scene status list → PublishesShown mode scene status list
run_shown Run scene status list check cut audit h = h
run_shown Plain scene status list check cut audit h = h
run_shown Check scene status list check cut audit h = absurd (check refl)
run_shown Load scene status list check cut audit h = h
run_shown Cut scene status list check cut audit h = absurd (cut refl)
run_shown Audit scene status list check cut audit h = absurd (audit refl)
