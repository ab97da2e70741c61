-- The old entries stay in the wider room, and the new one is put there.
use Rattle.event_tree.proofs.Groups.{entered_after}
use Rattle.event_tree.proofs.table.Table.set_beyond.Goals as goal

pub returns : goal.returns
returns g c =
    entered_after c.args.self.now c.in_ok-self.field-0 c.put.new.self c.args.disk
    (g.K.Rank.key c.args.entry.key, g.K.Rank.key c.args.entry.bound) c.in_ok-self.ensures.same c.put.ensures.entered
