use Rattle.std.proofs.Common.{◌≡◌, ◌+◌, get_or, length, sym, subst, arith}
use Rattle.std.proofs.lemmas.Option.{get_or_from_slice_get}
use Rattle.std.specs.Prelude.{MatchOption}
use Rattle.event_stamps.specs.Least.{HasNone, IsOnly, IsLeastOf}
use Rattle.region_view.specs.declared.action.Placed.{Placed}
use Rattle.region_view.specs.Events.{IsNear}
use Rattle.region_view.proofs.Seen.{no_row, row_at}
use Rattle.cell_sequence.specs.Search.{IsNearBelow}
use Rattle.cell_sequence.proofs.Found.{none_near, one_more_near}
use Rattle.cell_sequence.proofs.search.first_near.Goals as goal

pub loop-j-init : goal.loop-j-init
loop-j-init c = λ p at. none_near c.args.rules.now c.args.grid.now c.args.placed.now c.args.i p

pub near_event-event-requires-clause-first_valid : goal.near_event-event-requires-clause-first_valid
near_event-event-requires-clause-first_valid c =
    c.requires.valid.disk c.args.i _ (row_at c.args.placed.now c.args.i c.requires.within)

pub near_event-event-requires-clause-second_valid :
    goal.near_event-event-requires-clause-second_valid
near_event-event-requires-clause-second_valid c =
    c.requires.valid.disk c.loop-j.j _ (row_at c.args.placed.now c.loop-j.j (omega arith))

pub near_event-event-requires-clause-first_cell : goal.near_event-event-requires-clause-first_cell
near_event-event-requires-clause-first_cell c =
    c.requires.valid.cell c.args.i _ (row_at c.args.placed.now c.args.i c.requires.within)

pub near_event-event-requires-clause-second_cell : goal.near_event-event-requires-clause-second_cell
near_event-event-requires-clause-second_cell c =
    c.requires.valid.cell c.loop-j.j _ (row_at c.args.placed.now c.loop-j.j (omega arith))

pub loop-j-preserved : goal.loop-j-preserved
loop-j-preserved c = λ p at.
    let rules = c.args.rules.now in
    let grid = c.args.grid.now in
    let placed = c.args.placed.now in
    let i = c.args.i in
    let j = c.loop-j.j in
    let q : Placed = get_or placed j no_row in
    let same : get_or placed i no_row ≡ p = get_or_from_slice_get placed i p no_row at in
    let own = subst (λ (r : Placed). MatchOption c.near_event-event.result
    (HasNone (IsNear rules grid i r j q))
    (IsOnly (IsNear rules grid i r j q))) same c.near_event-event.ensures in
    subst (IsLeastOf (IsNearBelow rules grid placed i p (j + 1))) (sym c.earlier-first.ensures)
    (one_more_near rules grid placed i p j q c.loop-j.first c.near_event-event.result (omega arith)
    (row_at placed j (omega arith)) (c.loop-j.invariant p at) own)

pub returns : goal.returns
returns c = λ p at.
    let last : c.loop-j.j ≡ length c.args.placed.now = omega arith in
    subst (λ n. IsLeastOf (IsNearBelow c.args.rules.now c.args.grid.now c.args.placed.now c.args.i p
    n)
    c.loop-j.first) last (c.loop-j.invariant p at)
