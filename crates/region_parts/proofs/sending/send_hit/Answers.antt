use Rattle.region_view.specs.declared.action.Action.TheVariants.{Hit}
use Rattle.region_view.specs.Views.{rows_in}
use Rattle.region_parts.proofs.Untold.{none_sent}
use Rattle.region_parts.proofs.sending.send_hit.Goals as goal

pub returns-then-is_untold : goal.returns-then-is_untold
returns-then-is_untold c = none_sent c.args.home.now (rows_in c.args.before.now) (Hit c.args.change.now)
    c.args.sent.now.items (c.requires.untold c.if-is_untold.true)
