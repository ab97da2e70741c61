use Rattle.std.proofs.Common.{List, length, sym, ap, ◌∙◌, subst}
use Rattle.local_run.specs.Opening.{RegionData}
use Rattle.run_core.specs.declared.playing.CoreStep.{CoreStep}
use Rattle.run_core.specs.Plays.{Plays}
use Rattle.run_core.proofs.OneState.{written_back}
use Rattle.run_core.proofs.scripted.ScriptedBurst.burst.Goals as goal

pub returns-clause-count : goal.returns-clause-count
returns-clause-count g c =
    let same = c.play.auto.regions ∙ c.deref_mut.ensures.len in
    let was = ap length (sym c.deref_mut.ensures.value) ∙ c.deref_mut.ensures.len in
    ap length (sym (written_back c.play.new.regions c.args.regions.items c.args.regions.len same was)) ∙ same ∙ sym was

pub returns-clause-plays : goal.returns-clause-plays
returns-clause-plays g c =
    let items = c.args.regions.items in
    let back = written_back c.play.new.regions items c.args.regions.len
    (c.play.auto.regions ∙ c.deref_mut.ensures.len)
    (ap length (sym c.deref_mut.ensures.value) ∙ c.deref_mut.ensures.len) in
    let played = c.in_ok-play.field-0 in (
      played,
      subst (Plays items c.args.self.now played) back
          (subst (λ (v : List CoreStep). Plays items v played c.play.new.regions)
          (c.deref.ensures.value ∙ c.self.view_is)
          (subst (λ (v : List RegionData). Plays v c.deref.result.now played c.play.new.regions)
          c.deref_mut.ensures.value c.in_ok-play.ensures.plays)),
    )

pub returns-clause-empty : goal.returns-clause-empty
returns-clause-empty g c = c.clear.ensures.items
