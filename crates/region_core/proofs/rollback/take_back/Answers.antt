use Rattle.region_parts.proofs.Results.{on_ok}
use Rattle.local_run.specs.LocalRun.{after_entry}
use Rattle.region_core.proofs.Shorter.{least_again, native_leaves, heard_leaves}
use Rattle.std.proofs.Common.{refl}
use Rattle.region_core.proofs.Tests.{still_valid}
use Rattle.region_core.proofs.rollback.take_back.Goals as goal

pub take_back-requires-clause-least : goal.take_back-requires-clause-least
take_back-requires-clause-least c = least_again c.args.home.now c.args.queue.now c.requires.moves.0
    c.args.view.now c.args.entry.now c.in-Native.action c.stamp.result c.requires.of c.requires.moves.2
    c.in-Native.is c.stamp.ensures c.requires.moves.1

pub returns-in-Native-clause-stands : goal.returns-in-Native-clause-stands
returns-in-Native-clause-stands c =
    on_ok c.take_back.result _ _
    (λ stands. λ before same later. stands (after_entry before c.args.entry.now).view later
    (native_leaves c.args.home.now c.requires.moves.0 before c.args.view.now c.args.entry.now
    c.in-Native.action c.stamp.result c.requires.moves.2 c.in-Native.is c.stamp.ensures
    c.requires.moves.1 same))
    c.take_back.ensures.stands

pub returns-in-Heard-clause-stands : goal.returns-in-Heard-clause-stands
returns-in-Heard-clause-stands c =
    on_ok c.touch.result _ _
    (λ stands. λ before same later. stands (after_entry before c.args.entry.now).view later
    (heard_leaves before c.args.view.now c.args.entry.now c.in-Heard.from c.in-Heard.message
    c.in-Heard.is same))
    c.touch.ensures.stands

pub take_back-requires-clause-valid : goal.take_back-requires-clause-valid
take_back-requires-clause-valid c =
    still_valid c.args.queue.now c.args.home.now.rules c.args.home.now.grid c.args.home.now.number
    c.args.view.now c.args.view.now c.requires.of refl c.requires.valid

pub touch-requires : goal.touch-requires
touch-requires c = record {
  valid = still_valid c.args.queue.now c.args.home.now.rules c.args.home.now.grid c.args.home.now.number
      c.args.view.now c.args.view.now c.requires.of refl c.requires.valid;
}
