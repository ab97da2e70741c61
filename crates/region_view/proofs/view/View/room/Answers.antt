-- No slot is past the last one.
use Rattle.std.proofs.Common.{None, sym, ◌∙◌, arith}
use Rattle.std.proofs.lemmas.List.{get_or_past}
use Rattle.region_view.proofs.InSlots.{get_in}
use Rattle.region_view.proofs.view.View.room.Goals as goal

pub returns : goal.returns
returns c = λ i past.
    let len = c.len.ensures.value in
    sym (get_in c.self.inside.slots c.args.self.now i c.self.view_is)
    ∙ get_or_past c.self.inside.slots i None (omega arith)
