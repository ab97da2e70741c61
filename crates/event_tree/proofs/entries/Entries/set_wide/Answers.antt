-- The entry is set in the wide form of the same entries.
use Rattle.event_tree.proofs.Forms.{entered_widened}
use Rattle.event_tree.proofs.entries.Entries.set_wide.Goals as goal

pub returns : goal.returns
returns c =
    entered_widened c.args.disk (c.args.key, c.args.bound) c.self.inside.wide c.self.inside.narrow c.in_ok-wide.wide c.set-2.new.self
    c.args.self.now c.in_default.is c.self.view_is c.in_ok-wide.ensures c.in_ok-set.ensures
