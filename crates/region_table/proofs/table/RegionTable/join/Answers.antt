use Rattle.std.proofs.Common.{rules, ap, ◌∙◌, sym, arith}
use Rattle.region_table.proofs.Seats.{joins, is_live}
use Rattle.region_table.proofs.Calls.{carries_none}
use Rattle.region_table.proofs.table.RegionTable.join.Goals as goal

pub join_seat-requires : goal.join_seat-requires
join_seat-requires c =
    let words = c.self.invariant.words in
    let some = c.self.invariant.some in
    let mine = ap (λ s. s.view.opened) c.seat.view_is ∙ (c.requires.seat.opened ∙ sym (ap (λ t. t.opened) c.self.view_is)) in (
      search rules,
      search rules,
      carries_none _ _ c.other.invariant (ap (λ s. s.view.held) c.other.view_is ∙ c.requires.idle),
      omega (arith, words, some),
      joins c.self.inside.slots.shared.key.value.items c.seat.inside.token.id c.seat.inside.token.me.0 _ _ (is_live c.self.inside.slots.shared.key.value.items c.seat.inside.token.me.0 mine some) (ap (λ s. s.view.held) c.other.view_is ∙ c.requires.idle),
    )
