use Rattle.std.proofs.Common.{ap, sym, subst}
use Rattle.event_stamps.specs.Order.{Before, end_stamp}
use Rattle.cell_sequence.specs.State.{CellStateData, HasNoneBelow, raised}
use Rattle.cell_sequence.proofs.Followed.{raised_is}
use Rattle.cell_sequence.specs.contracts.state.CellState.{the_view}
use Rattle.cell_sequence.proofs.state.CellState.raise_floor.Goals as goal

pub invariant_of-self : goal.invariant_of-self
invariant_of-self c =
    let to = c.args.to in
    raised_is (the_view c.self.inside) to c.self.invariant
    (subst (λ (state : CellStateData). ¬ Before to state.floor) (sym c.self.view_is)
    c.requires.not_lowered)
    (subst (λ (state : CellStateData). ¬ Before (end_stamp state.rules.end) to)
    (sym c.self.view_is) c.requires.in_time)
    (subst (λ (state : CellStateData). HasNoneBelow state to) (sym c.self.view_is)
    c.requires.none_below)

pub returns : goal.returns
returns c = ap (raised c.args.to) c.self.view_is
