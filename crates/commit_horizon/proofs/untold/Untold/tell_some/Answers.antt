use Rattle.std.proofs.lemmas.Result.{err_from_is_err_and}
use Rattle.commit_horizon.proofs.Goes.{hits_further, hits_awaited, torn_after}
use Rattle.commit_horizon.proofs.untold.Untold.tell_some.Goals as goal

pub tell_hit-requires : goal.tell_hit-requires
tell_hit-requires g c = let L = g.L.Listener in
    hits_awaited L.after L.awaits c.args.self.now c.loop.self _ _ _ _ c.loop.invariant c.requires

pub returns-then-not-more-clause-told : goal.returns-then-not-more-clause-told
returns-then-not-more-clause-told g c = let L = g.L.Listener in
    hits_further L.after c.args.self.now c.loop.self c.tell_hit.new.self _ _ _ _ _ _ c.loop.invariant
    c.in_ok-more.ensures.told

pub returns-then-not-more-clause-awaits : goal.returns-then-not-more-clause-awaits
returns-then-not-more-clause-awaits g c = let L = g.L.Listener in
    hits_awaited L.after L.awaits c.args.self.now c.tell_hit.new.self _ _ _ _ (returns-then-not-more-clause-told g c)
    c.requires

pub returns-in_err-more-clause-torn : goal.returns-in_err-more-clause-torn
returns-in_err-more-clause-torn g c = let L = g.L.Listener in
    let err = err_from_is_err_and c.from_residual.result c.from_residual.ensures.1 in
    rw err.1 (torn_after L.after L.torn c.args.self.now c.loop.self _ _ _ _ _ _ c.loop.invariant
    c.in_err-more.ensures.torn)

pub loop-preserved : goal.loop-preserved
loop-preserved g c = let L = g.L.Listener in
    hits_further L.after c.args.self.now c.loop.self c.tell_hit.new.self _ _ _ _ _ _ c.loop.invariant
    c.in_ok-more.ensures.told

pub returns-clause-awaits : goal.returns-clause-awaits
returns-clause-awaits g c = let L = g.L.Listener in
    hits_awaited L.after L.awaits c.args.self.now c.loop.self _ _ _ _ c.loop.invariant c.requires
