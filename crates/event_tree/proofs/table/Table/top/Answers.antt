-- The least of the leading keys is the least of all.
use Rattle.std.proofs.Common.{subst}
use Rattle.event_tree.specs.Keys.{IsLeastKey}
use Rattle.event_tree.specs.Entries.{EntriesData}
use Rattle.event_tree.specs.Table.{keys_in}
use Rattle.event_tree.proofs.Groups.{led_least}
use Rattle.event_tree.proofs.table.Table.top.Goals as goal

pub returns : goal.returns
returns g c =
    let top = g.K.Rank.key c.top.result in
    subst (λ (d : EntriesData). IsLeastKey d.keys top) c.self.view_is
    (led_least (keys_in g.K.Rank.key c.self.inside.entries.items) c.self.inside.leads top c.self.invariant c.top.ensures)
