use Rattle.std.proofs.Common.{◌+◌, length, ap, ◌∙◌, arith}
use Rattle.region_locks.proofs.Holds.{none_taken}
use Rattle.region_locks.proofs.locks.Locks.take_back.Goals as goal

pub loop-lock-init : goal.loop-lock-init
loop-lock-init g c =
    let empty = c.in_ok-regions.ensures.items in
    (ap length empty, none_taken g.O.Origin.opening _ _ empty)

pub loop-lock-preserved : goal.loop-lock-preserved
loop-lock-preserved g c =
    (c.in_ok-put_back.ensures.count ∙ ap (λ n. n + 1) c.loop-lock.invariant.0, c.in_ok-put_back.ensures.kept)

pub put_back-requires-clause-held : goal.put_back-requires-clause-held
put_back-requires-clause-held g c = c.taken_from.ensures

pub put_back-requires-clause-kept : goal.put_back-requires-clause-kept
put_back-requires-clause-kept g c = c.loop-lock.invariant.1

pub returns-clause-count : goal.returns-clause-count
returns-clause-count g c =
    omega (arith, ap length c.deref-lock-items.ensures.value, c.self.inside.regions.ok.0, c.self.view_is)

pub returns-clause-kept : goal.returns-clause-kept
returns-clause-kept g c = c.loop-lock.invariant.1
