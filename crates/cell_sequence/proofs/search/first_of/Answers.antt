use Rattle.std.proofs.Common.{get_or, sym, subst}
use Rattle.event_stamps.specs.Least.{IsLeastOf}
use Rattle.region_view.proofs.Seen.{no_row, row_at}
use Rattle.cell_sequence.specs.Run.{IsStateCandidate}
use Rattle.cell_sequence.specs.Search.{IsOfFirstDisk}
use Rattle.cell_sequence.proofs.Found.{own_events}
use Rattle.cell_sequence.proofs.search.first_of.Goals as goal

pub first_alone-alone-requires-clause-valid : goal.first_alone-alone-requires-clause-valid
first_alone-alone-requires-clause-valid c =
    c.requires.valid.disk c.args.i _ (row_at c.args.placed.now c.args.i c.requires.within)

pub first_alone-alone-requires-clause-cell : goal.first_alone-alone-requires-clause-cell
first_alone-alone-requires-clause-cell c =
    c.requires.valid.cell c.args.i _ (row_at c.args.placed.now c.args.i c.requires.within)

pub returns : goal.returns
returns c =
    let placed = c.args.placed.now in
    let at = row_at placed c.args.i c.requires.within in
    subst (IsLeastOf (IsOfFirstDisk
    (IsStateCandidate c.args.rules.now c.args.grid.now placed) c.args.i))
    (sym c.earlier.ensures)
    (own_events c.args.rules.now c.args.grid.now placed c.args.i
    (get_or placed c.args.i no_row) c.first_alone-alone.result
    c.first_near.result at c.first_alone-alone.ensures (c.first_near.ensures _ at))
