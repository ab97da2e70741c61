use Rattle.std.proofs.Common.{◌≡◌, None}
use Rattle.cell_sequence.specs.State.{IsCellState, opening_state}
use Rattle.run_floors.specs.Floors.{AreOfOneRun}
use Rattle.run_core.specs.Simulates.{work_left}
use Rattle.run_core.proofs.Bursting.{HasCome}
use Rattle.run_core.proofs.Simulating.{IsTold}
use Rattle.run_core.proofs.simulation.simulate_by.Given as goal

abbrev pub invariant-bursts : goal.invariant-bursts
invariant-bursts g l = let L = g.L.Listener in record {
  cell : IsCellState l.standing;
  one : AreOfOneRun (opening_state l.fn.scene l.fn.regions) l.standing;
  of : g.B.RunBurst.of l.burst ≡ g.B.RunBurst.of l.fn.burst;
  few : HasCome l.fn.scene l.fn.regions (g.B.RunBurst.bursts l.fn.burst) l.standing (g.B.RunBurst.bursts l.burst);
  heard : l.telling.fault ≡ None;
  told : IsTold L.after l.fn.scene l.fn.regions l.standing l.telling.untold (L.meaning l.fn.listener)
      (L.meaning l.listener);
  count : L.faults l.listener ≡ L.faults l.fn.listener;
}

abbrev pub decreases-bursts : goal.decreases-bursts
decreases-bursts g l = work_left l.standing
