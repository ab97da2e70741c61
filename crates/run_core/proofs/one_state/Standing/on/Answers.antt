use Rattle.std.proofs.Common.{ap, ◌∙◌}
use Rattle.cell_sequence.specs.State.{CellStateData}
use Rattle.run_core.proofs.OneState.{stands_on_it}
use Rattle.run_core.proofs.one_state.Standing.on.Goals as goal

pub after-requires : goal.after-requires
after-requires c = (
  c.args.committed,
  stands_on_it c.args.committed c.floor-floor.result c.args.regions.items c.state.ensures.kept
      (c.floor-floor.ensures.value ∙ ap (λ (v : CellStateData). v.floor) c.state.ensures.value) c.requires.stand
      c.requires.past,
)

pub returns : goal.returns
returns c = c.after.ensures c.args.committed (stands_on_it c.args.committed c.floor-floor.result
    c.args.regions.items c.state.ensures.kept
    (c.floor-floor.ensures.value ∙ ap (λ (v : CellStateData). v.floor) c.state.ensures.value) c.requires.stand c.requires.past)
