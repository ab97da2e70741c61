-- The codes with which the process ends.
use Rattle.std.specs.Prelude.{ℕ}
use Rattle.program_modes.specs.declared.status.Status.{Status}
use Rattle.program_modes.specs.declared.status.Status.TheVariants.{Done, BadWords, SceneRefused, SpeedLimit, RoundLimit, ReadFault, WriteFault, NoMemory, Wrong}

-- the code of a status
abbrev pub code_of : Status → ℕ
code_of Done = 0
code_of BadWords = 2
code_of SceneRefused = 3
code_of SpeedLimit = 4
code_of RoundLimit = 5
code_of ReadFault = 6
code_of WriteFault = 7
code_of NoMemory = 8
code_of Wrong = 9
