-- The entries that are to be left are still there, with their view and their queue.
use Rattle.std.proofs.Common.{◌≡◌, length, take}
use Rattle.region_core.specs.Live.{base_in, IsAlong}
use Rattle.region_core.proofs.live.Live.drop_down_to.Given as goal

abbrev pub invariant-loop-alloc : goal.invariant-loop-alloc
invariant-loop-alloc l = record {
  along : IsAlong l.place l.self;
  left : take l.kept l.self.log ≡ take l.kept l.fn.self.log;
  base : base_in l.self ≡ base_in l.fn.self;
  inbox : l.self.inbox ≡ l.fn.self.inbox;
  sent : l.self.sent ≡ l.fn.self.sent;
}

abbrev pub decreases-loop-alloc : goal.decreases-loop-alloc
decreases-loop-alloc l = length l.self.log
