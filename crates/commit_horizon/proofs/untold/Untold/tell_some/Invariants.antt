use Rattle.commit_horizon.specs.TellingOn.{TellsHits}
use Rattle.commit_horizon.proofs.untold.Untold.tell_some.Given as goal

abbrev pub invariant-loop : goal.invariant-loop
invariant-loop g l = TellsHits g.L.Listener.after l.fn.self (g.L.Listener.meaning l.fn.listener) (g.L.Listener.faults l.fn.listener)
    l.self (g.L.Listener.meaning l.listener) (g.L.Listener.faults l.listener)
