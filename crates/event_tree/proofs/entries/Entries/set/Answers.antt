-- The narrow form takes the entry in, if it fits.
use Rattle.event_tree.proofs.Forms.{none_there, entered_narrow}
use Rattle.event_tree.proofs.entries.Entries.set.Goals as goal

pub returns : goal.returns
returns c =
    entered_narrow c.set.result c.args.disk c.args.key c.args.bound c.in-Some.key c.in-Some-of.bound c.self.inside.wide
    c.self.inside.narrow c.set.new.self c.args.self.now (none_there c.self.inside.wide c.if-is_none.ensures) c.self.view_is
    (c.in-Some.ensures {u = tt}) (c.in-Some-of.ensures {u = tt}) c.set.ensures
