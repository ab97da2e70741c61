use Rattle.std.proofs.Common.{None, ap, ◌∙◌, sym, subst}
use Rattle.fixed_motion.specs.Scene.{SceneData}
use Rattle.cell_sequence.specs.Run.{opened}
use Rattle.cell_sequence.specs.State.{IsCellState, AreInBox, opening_state}
use Rattle.cell_sequence.proofs.Followed.{start_is, disks_in_box}
use Rattle.cell_sequence.proofs.state.CellState.open.Goals as goal

pub place-requires : goal.place-requires
place-requires c = subst AreInBox (sym c.deref-2.ensures.value) (disks_in_box _ c.scene.invariant)

pub invariant_of-result : goal.invariant_of-result
invariant_of-result c =
    let opening = c.in_ok-opening.ensures.items ∙ c.deref.ensures.value in
    let placed = c.in_ok-placed.ensures
    ∙ (λ i. opened (c.new-grid.ensures.value i) (c.deref-2.ensures.value i)) in
    subst IsCellState
    (λ i. record {
      rules = c.scene.inside.rules;
      grid = sym c.new-grid.ensures.value i;
      opening = sym opening i;
      last = None;
      placed = sym placed i;
      floor = sym c.first_of_all.ensures i;
    })
    (start_is _ c.args.regions c.scene.invariant c.requires)

pub returns : goal.returns
returns c =
    let opening = c.in_ok-opening.ensures.items ∙ c.deref.ensures.value in
    let placed = c.in_ok-placed.ensures
    ∙ (λ i. opened (c.new-grid.ensures.value i) (c.deref-2.ensures.value i)) in
    (λ i. record {
      rules = c.scene.inside.rules;
      grid = c.new-grid.ensures.value i;
      opening = opening i;
      last = None;
      placed = placed i;
      floor = c.first_of_all.ensures i;
    })
    ∙ ap (λ (v : SceneData). opening_state v c.args.regions) c.scene.view_is
