use Rattle.std.proofs.Common.{◌≡◌, List}
use Rattle.event_stamps.specs.Least.{IsLeastOf}
use Rattle.event_rules.specs.declared.change.Change.{Change}
use Rattle.event_rules.specs.Run.{IsCandidate, IsValidState, Steps}
use Rattle.event_rules.specs.Told.{Told}
use Rattle.all_pairs.proofs.Turns.{work_left}
use Rattle.all_pairs.proofs.simulate.run.Given as goal

abbrev pub invariant-loop-upcoming : goal.invariant-loop-upcoming
invariant-loop-upcoming g l = let L = g.L.Listener in record {
  so_far : (changes : List Change) × Steps l.fn.rules l.fn.disks.items changes l.disks.items
      × Told L.after (L.meaning l.fn.listener) changes (L.meaning l.listener);
  upcoming : IsLeastOf (IsCandidate l.fn.rules l.disks.items) l.upcoming;
  valid : IsValidState l.fn.rules l.disks.items;
  count : L.faults l.listener ≡ L.faults l.fn.listener;
}

abbrev pub decreases-loop-upcoming : goal.decreases-loop-upcoming
decreases-loop-upcoming g l = work_left l.upcoming
