use Rattle.std.proofs.Common.{sym, subst, ap, ◌∙◌}
use Rattle.fixed_motion.specs.Motion.{IsInBox, place_of}
use Rattle.fixed_motion.proofs.Sizes.{inside_in_box, in_box_sent}
use Rattle.cell_grid.specs.Grid.{cell_at}
use Rattle.region_view.proofs.Crossed.{crossed_in_time, crossed_at_limit}
use Rattle.region_view.proofs.events.crossed_cell.Goals as goal

pub cell_of-requires : goal.cell_of-requires
cell_of-requires c =
    let place = c.centre_at-place.result in
    let near = subst IsInBox (sym c.centre_at-place.ensures)
    (inside_in_box c.args.rules.now c.args.a.now
    (place_of c.args.a.now c.args.stamp.now.tick) c.requires.checked
    c.requires.valid.size c.requires.inside) in
    subst IsInBox (sym (in_box_sent place near)) near

pub returns-clause-crossed : goal.returns-clause-crossed
returns-clause-crossed c =
    let place = c.centre_at-place.result in
    let near = subst IsInBox (sym c.centre_at-place.ensures)
    (inside_in_box c.args.rules.now c.args.a.now
    (place_of c.args.a.now c.args.stamp.now.tick) c.requires.checked
    c.requires.valid.size c.requires.inside) in
    crossed_in_time c.args.rules.now c.args.grid.now c.args.stamp.now c.args.a.now c.cell_of.result c.if-stamp-rules.false
    (c.cell_of.ensures.value ∙ ap (cell_at c.args.grid.now) (in_box_sent place near ∙ c.centre_at-place.ensures))

pub returns-then-stamp-rules-clause-crossed : goal.returns-then-stamp-rules-clause-crossed
returns-then-stamp-rules-clause-crossed c =
    crossed_at_limit c.args.rules.now c.args.grid.now c.args.stamp.now c.args.a.now c.if-stamp-rules.true
