use Rattle.region_view.specs.Views.{rows_in}
use Rattle.local_run.proofs.Sending.{IsSentBelow}
use Rattle.region_parts.proofs.sending.send.Given as goal

abbrev pub invariant-loop-to : goal.invariant-loop-to
invariant-loop-to l =
    IsSentBelow l.home (rows_in l.before) l.action l.to l.fn.sent.items l.sent.items
