-- What a listener was told of a run, as one relation.
use Rattle.std.specs.Prelude.{ℕ, Option, Result, IfOk, IfErr}
use Rattle.fixed_motion.specs.Scene.{SceneData}
use Rattle.event_rules.specs.declared.change.Change.{Change}
use Rattle.event_rules.specs.declared.outcome.Outcome.{Outcome}
use Rattle.event_rules.specs.declared.outcome.RunFault.{RunFault}
use Rattle.event_rules.specs.Tellings.{RunTold, RunCutShort, CountsRun}

-- for listeners with these meanings and counts of refusals, one before and after: the scene's run was told to its end,
-- or up to where it broke off; and the count rose exactly if a change was refused
pub record TellsRun {M L : Type 0} (after : M → Change → M) (torn : M → Change → M → Type 0) (meaning : L → Option M) (faults : L → ℕ)
    (scene : SceneData) (old new : L) (result : Result Outcome RunFault) : Type 0 where
  pub run : IfOk result (λ outcome. RunTold after scene outcome (meaning old) (meaning new))
  pub cut_short : IfErr result (λ fault. RunCutShort after torn scene fault (meaning old) (meaning new))
  pub counts : CountsRun (faults old) (faults new) result
