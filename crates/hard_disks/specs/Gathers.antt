-- What the top call over a sink that gathers asks for, and how it ends.
use Rattle.std.specs.Prelude.{◌≡◌, ◌≢◌, ◌⊎◌, ℕ, ◌≤◌, List, [], ⊤, Option, Some, None}
use Rattle.report_ports.specs.Ports.{Rose}
use Rattle.command_words.specs.declared.settings.Settings.{Settings}
use Rattle.program_modes.specs.declared.status.Status.{Status}
use Rattle.program_modes.specs.declared.status.Status.TheVariants.{ReadFault, WriteFault, NoMemory}
use Rattle.program_modes.specs.Output.{Input, IsOutput}
use Rattle.program_modes.specs.Answers.{Answers, Decides, ReadsScene, LeavesNothing, CountsReads, CountsWrites}

-- a sink has taken nothing, if it tells its bytes
abbrev pub IsFresh : Option (List ℕ) → Type 0
IsFresh None = ⊤
IsFresh (Some bytes) = bytes ≡ []

-- the status stays, or the sink below has failed, which is told unless the source did
abbrev pub Finishes : Status → ℕ → Status → Type 0
Finishes status faults last = (last ≡ status) ⊎ ((last ≡ WriteFault) × (status ≢ ReadFault) × (1 ≤ faults))

-- for a source and a sink before and after, and the status: the answer is right; the source stays if no scene is read;
-- nothing is left after a run that ended; and the status says of a fault exactly if there was one
pub record Serves {S K : Type 0} (left : S → Option (List ℕ)) (misses : S → ℕ) (taken : K → Option (List ℕ)) (refusals : K → ℕ)
    (settings : Option Settings) (source source' : S) (sink sink' : K) (status : Status) : Type 0 where
  pub headline : Answers settings (left source) (taken sink) (taken sink') status
  pub untouched : ¬ ReadsScene settings → source' ≡ source
  pub emptied : ReadsScene settings → LeavesNothing (left source) (left source') status
  pub complete : (input : Input) (text : List ℕ) (own : Status) → Decides settings (left source) input → IsOutput settings input text own →
      ¬ Rose (misses source) (misses source') → ¬ Rose (refusals sink) (refusals sink') → (status ≡ own) ⊎ (status ≡ NoMemory)
  pub reads : CountsReads (misses source) (misses source') status
  pub writes : CountsWrites (refusals sink) (refusals sink') status
