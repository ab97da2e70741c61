use Rattle.std.proofs.Common.{length, sym, ap, ◌∙◌}
use Rattle.cell_sequence.specs.State.{CellStateData}
use Rattle.run_core.proofs.one_state.Standing.count.Goals as goal

pub returns : goal.returns
returns c = ap length (c.placed.ensures.value ∙ ap (λ (v : CellStateData). v.placed) c.state.ensures.value)
    ∙ sym c.self.invariant.count ∙ ap (λ (v : CellStateData). length v.placed) c.self.view_is
