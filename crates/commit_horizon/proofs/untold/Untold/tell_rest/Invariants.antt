use Rattle.std.specs.Prelude.{length}
use Rattle.commit_horizon.specs.TellingOn.{TellsHits}
use Rattle.commit_horizon.proofs.untold.Untold.tell_rest.Given as goal

abbrev pub invariant-actions : goal.invariant-actions
invariant-actions g l = TellsHits g.L.Listener.after l.fn.self (g.L.Listener.meaning l.fn.listener) (g.L.Listener.faults l.fn.listener)
    l.self (g.L.Listener.meaning l.listener) (g.L.Listener.faults l.listener)

abbrev pub decreases-actions : goal.decreases-actions
decreases-actions g l = length l.self
