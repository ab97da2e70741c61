use Rattle.std.proofs.Common.{arith, sym, ◌∙◌}
use Rattle.region_view.proofs.InSlots.{none_from, first_from}
use Rattle.region_view.proofs.slots.Slots.next_row.Goals as goal

pub returns-in-Some : goal.returns-in-Some
returns-in-Some c =
    first_from c.args.self.now c.args.from c.loop-i.i c.in-Some.row (omega arith)
    (sym c.get.ensures ∙ c.in-Some.is) c.loop-i.invariant

pub returns : goal.returns
returns c = none_from c.args.self.now c.args.from c.loop-i.i (omega arith) c.loop-i.invariant
