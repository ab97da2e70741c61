-- The queue is that of the region in what it sees of the state.
use Rattle.cell_grid.specs.Grid.{IsRegion}
use Rattle.region_queue.specs.Queue.{IsOf}
use Rattle.cell_tests.proofs.tests.queues.follow_on.Given as goal

abbrev pub invariant-loop : goal.invariant-loop
invariant-loop l = record {
  region : IsRegion l.state.grid l.region;
  queue : IsOf l.queue l.state.rules l.state.grid l.region;
}
