-- The next pointer leads on behind the last disk that was found.
use Rattle.std.proofs.Common.{◌<◌}
use Rattle.std.specs.Prelude.{IfSome}
use Rattle.cell_lists.proofs.Firsts.{after_of, ascent}
use Rattle.cell_lists.specs.Pointer.{disk_of}
use Rattle.cell_lists.specs.Chain.{LeadsOn, IsLast, InBucket}
use Rattle.cell_lists.proofs.chains.Chains.last_two_below.Given as goal

abbrev pub invariant-loop-i : goal.invariant-loop-i
invariant-loop-i l = record {
  next : LeadsOn l.self.cells l.self.buckets l.bucket (after_of l.last) l.next;
  last : IfSome l.last (λ p. (p < l.disk) × InBucket l.self.cells l.self.buckets l.bucket p);
  second_last : IfSome l.last (λ p. IsLast l.self.cells l.self.buckets l.bucket p l.second_last);
}

abbrev pub decreases-loop-i : goal.decreases-loop-i
decreases-loop-i l = ascent (disk_of l.next)
