-- What stands at a number is what the map has there.
use Rattle.std.proofs.Common.{sym, ap, ◌∙◌}
use Rattle.region_view.specs.Slots.{SlotList, slot_at}
use Rattle.region_view.proofs.InSlots.{get_in}
use Rattle.region_view.proofs.view.View.compact.Goals as goal

pub returns : goal.returns
returns c = λ i.
    sym (get_in c.self.inside.slots c.args.self.now i c.self.view_is) ∙ ap (λ (slots : SlotList). slot_at slots i) (sym c.as_slice.ensures)
