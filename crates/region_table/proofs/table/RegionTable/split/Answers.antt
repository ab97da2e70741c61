use Rattle.std.proofs.Common.{rules, ap, ◌∙◌, sym, arith, subst}
use Rattle.region_table.specs.Tables.{IsKeptSeat}
use Rattle.region_table.proofs.Seats.{splits, is_live}
use Rattle.region_table.proofs.Calls.{keeps_none}
use Rattle.region_table.proofs.table.RegionTable.split.Goals as goal

pub split_seat-requires : goal.split_seat-requires
split_seat-requires c =
    let words = c.self.invariant.words in
    let some = c.self.invariant.some in
    let mine = ap (λ s. s.view.opened) c.seat.view_is ∙ (c.requires.seat.opened ∙ sym (ap (λ t. t.opened) c.self.view_is)) in
    (search rules, omega (arith, words, some), splits c.self.inside.slots.shared.key.value.items c.seat.inside.token.id c.seat.inside.token.me.0 (is_live c.self.inside.slots.shared.key.value.items c.seat.inside.token.me.0 mine some))

pub invariant_of-result : goal.invariant_of-result
invariant_of-result c = subst (IsKeptSeat c.split_seat.result.me) (sym c.new.ensures) (keeps_none c.split_seat.result.me (ap (λ m. m.1) c.split_seat.ensures.4) (ap (λ m. m.0.held) c.split_seat.ensures.4))
