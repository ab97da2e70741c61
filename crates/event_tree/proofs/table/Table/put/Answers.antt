-- The entry stands where the disk's was, and its group is led again.
use Rattle.std.proofs.Common.{map, ◌+◌, arith}
use Rattle.std.proofs.lemmas.List.{map-set, length-map}
use Rattle.event_tree.specs.declared.table.Entry.{Entry}
use Rattle.event_tree.proofs.Groups.{entered, led_again, within}
use Rattle.event_tree.proofs.table.Table.put.Goals as goal

pub invariant_of-self : goal.invariant_of-self
invariant_of-self g c =
    let key = λ (e : Entry _). g.K.Rank.key e.key in
    let entries = c.self.inside.entries.items in
    let disk = c.args.disk in
    let entry = c.args.entry in
    let long = length-map entries key in
    let inside = within g.K.Rank.key entries c.args.self.now disk c.self.view_is c.requires in
    rw (c.set.ensures, map-set key entries (disk + 3) entry)
    (led_again (map key entries) c.self.inside.leads disk (key entry) (g.K.Rank.key c.least_of_group-least.result) c.self.invariant
    (omega (arith, inside, long))
    (rw (c.deref.ensures.value, map-set key entries (disk + 3) entry) at c.least_of_group-least.ensures))

pub returns-clause-entered : goal.returns-clause-entered
returns-clause-entered g c =
    entered g.K.Rank.key c.self.inside.entries.items c.args.self.now c.args.disk c.args.entry c.self.view_is c.requires
