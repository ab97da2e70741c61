-- What the parts of the program do.
use Rattle.std.specs.Prelude.{◌≡◌, ◌⊎◌, ℕ, List, length, ⊤, Option, Result, Ok, Err, Vec, IfOk}
use Rattle.std.specs.declared.alloc.AllocError.{AllocError}
use Rattle.std.specs.declared.alloc.Global.{Global}
use Rattle.std.specs.Io.KnownBytes.{Appends}
use Rattle.report_ports.specs.Ports.{AppendsPrefix}
use Rattle.event_rules.specs.declared.listener.Deaf.{Deaf}
use Rattle.event_rules.specs.declared.outcome.Outcome.{Outcome}
use Rattle.event_rules.specs.declared.outcome.RunFault.{RunFault}
use Rattle.event_rules.specs.declared.outcome.RunFault.TheVariants as broke
use Rattle.local_run.specs.Opening.{RegionData}
use Rattle.local_run.specs.RunOn.{AreRunOn}
use Rattle.program_modes.specs.declared.status.Status.{Status}
use Rattle.program_modes.specs.declared.status.Status.TheVariants.{BadWords, ReadFault, WriteFault, NoMemory}
use Rattle.program_modes.specs.Reports.{status_of}

-- the whole text was given, with this status of its own, or a prefix of it, and the sink failed
abbrev pub WritesText : List ℕ → Status → Option (List ℕ) → Option (List ℕ) → Status → Type 0
WritesText text own taken taken' status =
    ((status ≡ own) × Appends taken taken' text) ⊎ ((status ≡ WriteFault) × AppendsPrefix taken taken' text)

-- the words weren't refused, and the source didn't fail
abbrev pub IsOfScene : Status → Type 0
IsOfScene BadWords = ⊥
IsOfScene ReadFault = ⊥
IsOfScene _ = ⊤

-- how the program ends after a run that broke off
abbrev pub status_of_fault : RunFault → Status
status_of_fault broke.Listener = WriteFault
status_of_fault broke.NoMemory = NoMemory

-- how it ends after a run with this outcome, the end of whose text was given or refused
abbrev pub status_at_end : Result (Unit {0}) Deaf → Outcome → Status
status_at_end (Ok given) outcome = status_of outcome
status_at_end (Err deaf) outcome = WriteFault

-- what the workers give back of the regions of a grid: as many, each at its place, run on; or memory ran out
abbrev pub GivesBack : List RegionData → Result (Vec RegionData Global) AllocError → Type 0
GivesBack regions result = IfOk result (λ worked. (length worked.items ≡ length regions) × AreRunOn regions worked.items)
