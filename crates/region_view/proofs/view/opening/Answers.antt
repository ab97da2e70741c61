use Rattle.std.proofs.Common.{slice_get, get_or, ◌+◌, sym, ◌∙◌, subst}
use Rattle.std.proofs.lemmas.Bool.{both_ways}
use Rattle.region_view.proofs.Seen.{IsViewBelow, none_yet, one_seen, one_unseen, all_seen, no_row, row_at}
use Rattle.region_view.proofs.view.opening.Goals as goal
use Rattle.region_view.proofs.view.opening.Goals.{then-in_reach+in_ok-replace, else-in_reach}

pub loop-i-init : goal.loop-i-init
loop-i-init c =
    subst (IsViewBelow c.args.grid.now c.args.region (slice_get c.args.placed.now) 0)
    (sym c.in_ok-view.ensures)
    (none_yet c.args.grid.now c.args.region (slice_get c.args.placed.now))

pub in_reach-requires-clause-second : goal.in_reach-requires-clause-second
in_reach-requires-clause-second c =
    c.requires.cells c.loop-i.i (get_or c.args.placed.now c.loop-i.i no_row)
    (row_at c.args.placed.now c.loop-i.i c.loop-i-test.true)

pub loop-i-preserved : goal.loop-i-preserved
loop-i-preserved c =
    let at = slice_get c.args.placed.now in
    let i = c.loop-i.i in
    let row = row_at c.args.placed.now i c.loop-i-test.true in
    let p = get_or c.args.placed.now i no_row in
    elim c.if-in_reach.branch [
      | then-in_reach+in_ok-replace w ↦
          subst (IsViewBelow c.args.grid.now c.args.region at (i + 1))
          (sym (w.view-is ∙ w.in_ok-replace.ensures.view))
          (one_seen c.args.grid.now c.args.region i at p c.loop-i.view row
          (c.in_reach.ensures.0 w.if-in_reach.true) c.loop-i.invariant)
      | else-in_reach w ↦ subst (IsViewBelow c.args.grid.now c.args.region at (i + 1))
          (sym w.view-is)
          (one_unseen c.args.grid.now c.args.region i at p c.loop-i.view row
          (λ reach. both_ways c.in_reach.result w.if-in_reach.false (c.in_reach.ensures.1 reach)) c.loop-i.invariant)
    ]

pub returns : goal.returns
returns c =
    all_seen c.args.grid.now c.args.region c.loop-i.i c.args.placed.now c.loop-i.view
    c.loop-i-test.false c.loop-i.invariant
