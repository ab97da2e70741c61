use Rattle.std.proofs.Common.{List, slice_get, length, ◌≤◌, sym, subst}
use Rattle.event_stamps.specs.Least.{IsLeastOf}
use Rattle.region_view.specs.declared.action.Placed.{Placed}
use Rattle.region_view.specs.Placing.{IsValidPlacing}
use Rattle.cell_sequence.specs.Run.{IsStateCandidate}
use Rattle.cell_sequence.specs.State.{CellStateData, IsCandidateOf}
use Rattle.cell_sequence.proofs.Followed.{few_rows}
use Rattle.cell_sequence.proofs.Orderly.{cell_states_are_orderly}
use Rattle.cell_sequence.specs.State.{IsCellState}
use Rattle.cell_sequence.proofs.state.CellState.next.Goals as goal

pub next-requires-clause-valid : goal.next-requires-clause-valid
next-requires-clause-valid c =
    subst (λ (placed : List Placed). IsValidPlacing c.self.inside.rules c.self.inside.grid
    (slice_get placed))
    (sym c.deref.ensures.value) (cell_states_are_orderly _ c.self.invariant).rows

pub next-requires-clause-count : goal.next-requires-clause-count
next-requires-clause-count c =
    subst (λ (placed : List Placed). length placed ≤ 65536) (sym c.deref.ensures.value)
    (few_rows _ c.self.invariant)

pub returns-clause-found : goal.returns-clause-found
returns-clause-found c =
    subst (λ (state : CellStateData). IsLeastOf (IsCandidateOf state) c.next.result) c.self.view_is
    (subst (λ (placed : List Placed). IsLeastOf
    (IsStateCandidate c.self.inside.rules c.self.inside.grid placed) c.next.result)
    c.deref.ensures.value c.next.ensures)

pub returns-clause-kept : goal.returns-clause-kept
returns-clause-kept c = subst IsCellState c.self.view_is c.self.invariant
