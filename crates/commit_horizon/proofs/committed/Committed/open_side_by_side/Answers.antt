use Rattle.std.proofs.Common.{◌≡◌, ℕ, ◌<◌, length, sym, ap, ◌∙◌, subst}
use Rattle.std.specs.Prelude.{IfOk}
use Rattle.std.proofs.lemmas.List.{take_at}
use Rattle.std.proofs.lemmas.Result.{IfOk-weaker}
use Rattle.cell_grid.specs.Grid.{GridData}
use Rattle.cell_sequence.specs.State.{CellStateData}
use Rattle.local_run.specs.Opening.{IsOpened}
use Rattle.commit_horizon.specs.Horizon.{AllStand}
use Rattle.commit_horizon.proofs.Adopting.{opened_stand}
use Rattle.commit_horizon.proofs.committed.Committed.open_side_by_side.Goals as goal

pub returns : goal.returns
returns g c =
    let state = c.self.inside.state in
    let n = c.regions.result in
    let none = c.in_ok-opened.opened in
    let opened = c.for_each_mut.new.s in
    let whole : n ≡ state.grid.regions
    = c.regions.ensures.value ∙ ap (λ (grid : GridData). grid.regions) c.grid.ensures.value in
    let places : length c.deref_mut.result.now ≡ n
    = ap length c.deref_mut.ensures.value ∙ c.in_ok-opened.ensures in
    let all = c.for_each_mut.auto.s ∙ places in
    let same = take_at opened _ none.len (c.for_each_mut.auto.s ∙ c.deref_mut.ensures.len) in
    IfOk-weaker c.all_or_none.result _ _ (λ regions done. subst (λ (v : CellStateData). AllStand v regions.items) c.self.view_is
    (opened_stand state n regions.items opened whole all (done ∙ same) (λ k d lt.
    let at = (c.for_each_mut.ensures k d (subst (λ (m : ℕ). k < m) (sym places) lt)).1 in
    subst (λ r. IfOk r (IsOpened state k)) at.left at.call)))
    c.all_or_none.ensures
