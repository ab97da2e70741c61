-- What the program has read and written at its exit.
use Rattle.std.specs.Prelude.{◌≡◌, ◌≢◌, ℕ, ◌≤◌, List, [], ⊤, Option, Some, None}
use Rattle.std.specs.Io.KnownBytes.{Appends, Keeps}
use Rattle.report_ports.specs.Ports.{AppendsPrefix, Rose, MayTake}
use Rattle.report_audit.specs.Parting.{front_of_known}
use Rattle.program_modes.specs.declared.status.Status.{Status}
use Rattle.program_modes.specs.declared.status.Status.TheVariants.{Done, BadWords, SceneRefused, SpeedLimit, RoundLimit, ReadFault, WriteFault, NoMemory, Wrong}
use Rattle.command_words.specs.declared.settings.Mode.{Mode}
use Rattle.command_words.specs.declared.settings.Mode.TheVariants.{Run, Plain, Check, Load, Cut, Audit}
use Rattle.command_words.specs.declared.settings.Settings.{Settings}
use Rattle.program_modes.specs.Reports.{IsReadingOf}
use Rattle.program_modes.specs.Audits.{IsClaimedOf}
use Rattle.program_modes.specs.Output.{Input, IsOutput}

-- what is read in a mode of the bytes that a source has left
abbrev pub IsInputIn : Mode → Option (List ℕ) → Input → Type 0
IsInputIn Run left input = IsReadingOf left input.said
IsInputIn Plain left input = IsReadingOf left input.said
IsInputIn Check left input = IsReadingOf left input.said
IsInputIn Load left input = IsReadingOf left input.said
IsInputIn Cut left input = IsReadingOf left input.said
IsInputIn Audit left input = IsReadingOf (front_of_known left) input.said × IsClaimedOf left input.claimed

-- what is read of the bytes that a source has left, by the settings, if there are any
abbrev pub IsInput : Option Settings → Option (List ℕ) → Input → Type 0
IsInput None left input = IsReadingOf left input.said
IsInput (Some settings) left input = IsInputIn settings.mode left input

-- the whole output was written
abbrev pub WroteWhole : (List ℕ → Status → Type 0) → Option (List ℕ) → Option (List ℕ) → Status → Type 0
WroteWhole output taken taken' status = (text : List ℕ) × output text status × Appends taken taken' text

-- a prefix of the output was written
abbrev pub WrotePrefix : (List ℕ → Status → Type 0) → Option (List ℕ) → Option (List ℕ) → Type 0
WrotePrefix output taken taken' = (text : List ℕ) × (own : Status) × output text own × AppendsPrefix taken taken' text

-- by the status, the whole output was written, a prefix of it, or nothing
abbrev pub Wrote : (List ℕ → Status → Type 0) → Option (List ℕ) → Option (List ℕ) → Status → Type 0
Wrote output taken taken' Done = WroteWhole output taken taken' Done
Wrote output taken taken' BadWords = WroteWhole output taken taken' BadWords
Wrote output taken taken' SceneRefused = WroteWhole output taken taken' SceneRefused
Wrote output taken taken' SpeedLimit = WroteWhole output taken taken' SpeedLimit
Wrote output taken taken' RoundLimit = WroteWhole output taken taken' RoundLimit
Wrote output taken taken' ReadFault = Keeps taken taken'
Wrote output taken taken' WriteFault = WrotePrefix output taken taken'
Wrote output taken taken' NoMemory = WrotePrefix output taken taken'
Wrote output taken taken' Wrong = WroteWhole output taken taken' Wrong

-- as much of the output was written as the status says, given the settings of the words, what the source had left, and
-- what the sink had taken and has taken
abbrev pub Answers : Option Settings → Option (List ℕ) → Option (List ℕ) → Option (List ℕ) → Status → Type 0
Answers settings left taken taken' status =
    (input : Input) × IsInput settings left input × Wrote (IsOutput settings input) taken taken' status

-- at the end of a run, a check, a cut or an accepted claim nothing is left of known bytes
abbrev pub LeavesNothing : Option (List ℕ) → Option (List ℕ) → Status → Type 0
LeavesNothing None left' status = ⊤
LeavesNothing (Some bytes) left' Done = left' ≡ Some []
LeavesNothing (Some bytes) left' SpeedLimit = left' ≡ Some []
LeavesNothing (Some bytes) left' RoundLimit = left' ≡ Some []
LeavesNothing (Some bytes) left' status = ⊤

-- a count of faults of the source before and after: a fault counts, and nothing else does
abbrev pub CountsReads : ℕ → ℕ → Status → Type 0
CountsReads before after ReadFault = (before ≤ after) × Rose before after
CountsReads before after status = after ≡ before

-- the same of the sink
abbrev pub CountsWrites : ℕ → ℕ → Status → Type 0
CountsWrites before after WriteFault = (before ≤ after) × Rose before after
CountsWrites before after status = after ≡ before

-- a scene is read: there are settings, and their mode makes none
abbrev pub ReadsScene : Option Settings → Type 0
ReadsScene None = ⊥
ReadsScene (Some settings) = settings.mode ≢ Load

-- what is read that decides the output: what the source's bytes say, and anything if no scene is read; of unknown bytes
-- nothing does, if a scene is read
abbrev pub Decides : Option Settings → Option (List ℕ) → Input → Type 0
Decides settings None input = ¬ ReadsScene settings
Decides settings (Some bytes) input = ReadsScene settings → IsInput settings (Some bytes) input

-- each text that an output may be may be taken after what was taken
abbrev pub MayWrite : (List ℕ → Status → Type 0) → (List ℕ → Type 0) → Option (List ℕ) → Type 0
MayWrite output allows taken = (text : List ℕ) (own : Status) → output text own → MayTake allows taken text

-- the same of each output of what may be read, given the settings of the words, and what the source has left
abbrev pub MayAnswer : Option Settings → Option (List ℕ) → (List ℕ → Type 0) → Option (List ℕ) → Type 0
MayAnswer settings left allows taken = (input : Input) → IsInput settings left input → MayWrite (IsOutput settings input) allows taken
