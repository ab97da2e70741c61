-- How the top call serves its caller.
use Rattle.std.proofs.Common.{◌≡◌, ◌≢◌, ◌∙◌, ℕ, List, Option, sym}
use Rattle.std.specs.Prelude.{IfSome}
use Rattle.command_words.specs.declared.settings.Mode.{Mode}
use Rattle.command_words.specs.declared.settings.Mode.TheVariants.{Load, Audit}
use Rattle.command_words.specs.declared.settings.Settings.{Settings}
use Rattle.command_words.specs.Ranges.{AreInRange}
use Rattle.program_modes.specs.declared.status.Status.{Status}
use Rattle.program_modes.specs.Answers.{Answers, ReadsScene, LeavesNothing, CountsReads, CountsWrites}
use Rattle.program_modes.proofs.Answered.{completed}
use Rattle.hard_disks.specs.Gathers.{Serves}

-- what the status is, if nothing failed, follows from the rest
pub serving : {S K : Type 0} (left : S → Option (List ℕ)) (misses : S → ℕ) (taken : K → Option (List ℕ)) (refusals : K → ℕ)
    (settings : Option Settings) (source source' : S) (sink sink' : K) (status : Status) → IfSome settings AreInRange →
    Answers settings (left source) (taken sink) (taken sink') status → (¬ ReadsScene settings → source' ≡ source) →
    (ReadsScene settings → LeavesNothing (left source) (left source') status) → CountsReads (misses source) (misses source') status →
    CountsWrites (refusals sink) (refusals sink') status → Serves left misses taken refusals settings source source' sink sink' status
serving left misses taken refusals settings source source' sink sink' status ranges answers untouched emptied reads writes = record {
  headline = answers;
  untouched = untouched;
  emptied = emptied;
  complete = completed settings ranges (left source) (taken sink) (taken sink') (misses source) (misses source') (refusals sink)
      (refusals sink') status answers reads writes;
  reads = reads;
  writes = writes;
}

-- an audit makes no scene
pub audits_read : (mode : Mode) → mode ≡ Audit → mode ≢ Load
audits_read mode is load = let other : Audit ≡ Load = sym is ∙ load in cc
