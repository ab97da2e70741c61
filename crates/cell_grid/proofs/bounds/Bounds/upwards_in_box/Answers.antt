-- Two radii fit in the side.
use Rattle.cell_grid.proofs.Courses.{box_room}
use Rattle.cell_grid.proofs.bounds.Bounds.upwards_in_box.Goals as goal

pub overflow_sub-result : goal.overflow_sub-result
overflow_sub-result c =
    (box_room c.args.rules.now c.args.a.now c.radius-radius.result c.args.rules.now.height c.requires.valid.size
    c.requires.checked.diameter_in_height c.requires.checked.height.1 c.radius-radius.ensures.value).fits

pub returns-clause-least : goal.returns-clause-least
returns-clause-least c =
    (box_room c.args.rules.now c.args.a.now c.radius-radius.result c.args.rules.now.height c.requires.valid.size
    c.requires.checked.diameter_in_height c.requires.checked.height.1 c.radius-radius.ensures.value).least

pub returns-clause-greatest : goal.returns-clause-greatest
returns-clause-greatest c =
    (box_room c.args.rules.now c.args.a.now c.radius-radius.result c.args.rules.now.height c.requires.valid.size
    c.requires.checked.diameter_in_height c.requires.checked.height.1 c.radius-radius.ensures.value).value

pub returns-clause-small : goal.returns-clause-small
returns-clause-small c =
    (box_room c.args.rules.now c.args.a.now c.radius-radius.result c.args.rules.now.height c.requires.valid.size
    c.requires.checked.diameter_in_height c.requires.checked.height.1 c.radius-radius.ensures.value).small
