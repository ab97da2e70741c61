use Rattle.std.proofs.Common.{ap, ◌∙◌, subst}
use Rattle.region_table.specs.Bases.{AreReplaced}
use Rattle.region_table.specs.Rule.{HasAll}
use Rattle.region_table.specs.Tables.{RegionTableData, SeatData, AreLeft, Closes}
use Rattle.region_table.proofs.Ends.{closes, replaced, left}
use Rattle.region_table.proofs.table.RegionTable.close.Goals as goal

pub returns-clause-closed : goal.returns-clause-closed
returns-clause-closed c =
    let count = c.gather.ensures.count ∙ (c.close_with.ensures.counts.1 ∙ c.self.invariant.slots) in
    let table : RegionTableData = record { id = c.self.inside.slots.shared.table_id; opened = c.self.inside.slots.shared.key.value.items } in
    subst (λ t. Closes t c.args.seat c.gather.result.items) c.self.view_is
    (subst (λ s. Closes table s c.gather.result.items) c.seat.view_is
    (closes _ _ _ _ _ c.self.invariant _ _ _ _ c.close_with.ensures.values.2 c.gather.result.items count c.gather.ensures.each c.seat.inside.token.table_id))

pub returns-clause-bases : goal.returns-clause-bases
returns-clause-bases c =
    let count = c.gather.ensures.count ∙ (c.close_with.ensures.counts.1 ∙ c.self.invariant.slots) in
    subst (λ t. AreReplaced t.opened c.gather.result.items) c.self.view_is
    (replaced _ _ _ _ _ c.self.invariant _ _ _ _ c.close_with.ensures.values.2 c.gather.result.items count c.gather.ensures.each c.seat.inside.token.table_id)

pub returns-clause-left : goal.returns-clause-left
returns-clause-left c =
    let count = c.gather.ensures.count ∙ (c.close_with.ensures.counts.1 ∙ c.self.invariant.slots) in
    let items = c.self.inside.slots.shared.key.value.items in
    let nothing = ap (λ (s : SeatData). s.view.held) c.seat.view_is ∙ c.requires.idle in
    subst (λ (t : RegionTableData). HasAll c.args.seat.view → AreLeft t.opened c.args.seat.view c.gather.result.items) c.self.view_is
    (subst (λ (s : SeatData). HasAll s.view → AreLeft items s.view c.gather.result.items) c.seat.view_is
    (left _ _ _ _ _ c.self.invariant _ _ _ _ c.close_with.ensures.values.2 c.gather.result.items count c.gather.ensures.each c.seat.inside.token.table_id nothing))
