use Rattle.std.proofs.Common.{rules}
use Rattle.std.proofs.lemmas.Result.{err_from_is_err_and}
use Rattle.commit_horizon.proofs.Goes.{hits_further, hits_awaited, all_hits_told, torn_after}
use Rattle.commit_horizon.proofs.untold.Untold.tell_rest.Goals as goal

pub tell_hit-requires : goal.tell_hit-requires
tell_hit-requires g c = let L = g.L.Listener in
    hits_awaited L.after L.awaits c.args.self.now c.actions.self _ _ _ _ c.actions.invariant c.requires

pub returns-then-not-more-clause-rest : goal.returns-then-not-more-clause-rest
returns-then-not-more-clause-rest g c = search rules

pub returns-then-not-more-clause-told : goal.returns-then-not-more-clause-told
returns-then-not-more-clause-told g c = let L = g.L.Listener in
    all_hits_told L.after c.args.self.now c.tell_hit.new.self _ _ _ _
    (hits_further L.after c.args.self.now c.actions.self c.tell_hit.new.self _ _ _ _ _ _ c.actions.invariant
    c.in_ok-more.ensures.told)
    (returns-then-not-more-clause-rest g c)

pub returns-in_err-more-clause-torn : goal.returns-in_err-more-clause-torn
returns-in_err-more-clause-torn g c = let L = g.L.Listener in
    let err = err_from_is_err_and c.from_residual.result c.from_residual.ensures.1 in
    rw err.1 (torn_after L.after L.torn c.args.self.now c.actions.self _ _ _ _ _ _ c.actions.invariant
    c.in_err-more.ensures.torn)

pub actions-preserved : goal.actions-preserved
actions-preserved g c = let L = g.L.Listener in
    hits_further L.after c.args.self.now c.actions.self c.tell_hit.new.self _ _ _ _ _ _ c.actions.invariant
    c.in_ok-more.ensures.told
