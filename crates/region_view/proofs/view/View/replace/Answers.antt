use Rattle.std.proofs.Common.{◌∙◌}
use Rattle.std.proofs.lemmas.Result.{err_from_is_err_and}
use Rattle.region_view.proofs.InSlots.{same_placed, put_in, get_in}
use Rattle.region_view.proofs.view.View.replace.Goals as goal

pub returns-in_err-make_room-clause-unchanged : goal.returns-in_err-make_room-clause-unchanged
returns-in_err-make_room-clause-unchanged c =
    let p = err_from_is_err_and c.from_residual.result c.from_residual.ensures.1 in
    rw p.1 (same_placed c.make_room.new.self c.self.inside.slots c.make_room.ensures.same ∙ c.self.view_is)

pub returns-clause-view : goal.returns-clause-view
returns-clause-view c =
    put_in c.self.inside.slots c.make_room.new.self c.replace.new.self c.args.self.now c.args.disk
    c.args.row c.self.view_is c.make_room.ensures.same
    (rw c.as_ref.ensures.value at c.in_ok-make_room.ensures.room) c.replace.ensures.slots

pub returns-clause-before : goal.returns-clause-before
returns-clause-before c =
    c.replace.ensures.before ∙ c.make_room.ensures.same c.args.disk
    ∙ get_in c.self.inside.slots c.args.self.now c.args.disk c.self.view_is
