use Rattle.std.proofs.Common.{List, ◌∷◌, [], ◌++◌, ℕ, Option, ◌<◌, length, map, set, sym, subst, ap, ◌∙◌, arith, refl}
use Rattle.std.proofs.lemmas.List.{length-map}
use Rattle.std.proofs.lemmas.Result.{err_from_is_err_and}
use Rattle.std.specs.Prelude.{IfSome}
use Rattle.region_view.specs.declared.action.Action.{Action}
use Rattle.event_rules.specs.Told.{Told}
use Rattle.cell_sequence.specs.Run.{hits}
use Rattle.event_log.specs.Logged.{entries_in}
use Rattle.commit_horizon.specs.Merging.{Heads, head_in, heads_in}
use Rattle.commit_horizon.specs.Leading.{IsLeader, NoOtherBefore}
use Rattle.commit_horizon.specs.Telling.{MayBeTold, IsHitAwaited, HitRefused}
use Rattle.commit_horizon.specs.Untold.{lefts, merged_of, AreUntold}
use Rattle.commit_horizon.proofs.Leaders.{set_in, others_stay}
use Rattle.commit_horizon.proofs.Lefts.{first_left, none_untold, place_within, may_be_told, goes, rest_can, hits_go, fewer_left, hits_untold}
use Rattle.commit_horizon.proofs.Goes.{one_hit_told, one_awaited, one_refused}
use Rattle.commit_horizon.proofs.untold.Untold.tell_hit.Goals as goal

pub returns-then-is_none-clause-rest : goal.returns-then-is_none-clause-rest
returns-then-is_none-clause-rest g c = λ done.
    sym c.self.view_is
    ∙ none_untold (map entries_in c.self.inside.logs.items) (heads_in c.self.inside.heads.items) c.self.inside.first
    c.self.invariant (sym (c.if-is_none.ensures.0 refl))

pub tell_in-requires-clause-tellable : goal.tell_in-requires-clause-tellable
tell_in-requires-clause-tellable g c =
    let a = c.self.inside in
    let logs = map entries_in a.logs.items in
    let heads = heads_in a.heads.items in
    let log = entries_in c.index-log.result.now in
    let here = first_left a.logs.items heads a.first c.self.invariant c.if-is_none.ensures.1 c.index-log.result.now
    c.index-log.ensures in
    subst (λ (o : Option Action). IfSome o MayBeTold) (sym here.found)
    (may_be_told logs heads a.first c.self.invariant log here)

pub tell_in-requires-clause-awaited : goal.tell_in-requires-clause-awaited
tell_in-requires-clause-awaited g c =
    let L = g.L.Listener in
    let a = c.self.inside in
    let logs = map entries_in a.logs.items in
    let heads = heads_in a.heads.items in
    let log = entries_in c.index-log.result.now in
    let here = first_left a.logs.items heads a.first c.self.invariant c.if-is_none.ensures.1 c.index-log.result.now
    c.index-log.ensures in
    let is = sym c.self.view_is ∙ (goes logs heads a.first c.self.invariant log here).first in
    subst (λ (o : Option Action). IfSome o (IsHitAwaited L.awaits (L.meaning c.args.listener.now))) (sym here.found)
    (one_awaited L.after L.awaits here.action c.args.self.now _ (L.meaning c.args.listener.now) is c.requires)

pub returns-in_err-tell_in-clause-torn : goal.returns-in_err-tell_in-clause-torn
returns-in_err-tell_in-clause-torn g c =
    let L = g.L.Listener in
    let a = c.self.inside in
    let logs = map entries_in a.logs.items in
    let heads = heads_in a.heads.items in
    let log = entries_in c.index-log.result.now in
    let here = first_left a.logs.items heads a.first c.self.invariant c.if-is_none.ensures.1 c.index-log.result.now
    c.index-log.ensures in
    let is = sym c.self.view_is ∙ (goes logs heads a.first c.self.invariant log here).first in
    let later = L.meaning c.tell_in.new.listener in
    let refused = subst (λ (o : Option Action). IfSome o (λ y. HitRefused L.torn (L.meaning c.args.listener.now) y later)) here.found
    c.in_err-tell_in.ensures.refused in
    let err = err_from_is_err_and c.from_residual.result c.from_residual.ensures.1 in
    rw err.1 (one_refused L.after L.torn here.action c.args.self.now _ (L.meaning c.args.listener.now) later
    (L.faults c.args.listener.now) (L.faults c.tell_in.new.listener) c.in_err-tell_in.field-0.0 is refused c.in_err-tell_in.ensures.counts)

pub hit_after-requires-clause-within : goal.hit_after-requires-clause-within
hit_after-requires-clause-within g c =
    let a = c.self.inside in
    let logs = map entries_in a.logs.items in
    let heads = heads_in a.heads.items in
    let log = entries_in c.index-log.result.now in
    let here = first_left a.logs.items heads a.first c.self.invariant c.if-is_none.ensures.1 c.index-log.result.now
    c.index-log.ensures in
    subst (λ (n : ℕ). a.first.place < n) (length-map c.index-log.result.now (λ l. l.0))
    (place_within logs heads a.first c.self.invariant log here)

pub hit_after-requires-clause-can : goal.hit_after-requires-clause-can
hit_after-requires-clause-can g c =
    let a = c.self.inside in
    let logs = map entries_in a.logs.items in
    let heads = heads_in a.heads.items in
    let log = entries_in c.index-log.result.now in
    let here = first_left a.logs.items heads a.first c.self.invariant c.if-is_none.ensures.1 c.index-log.result.now
    c.index-log.ensures in
    rest_can logs heads a.first c.self.invariant log here

pub leader_after-self-inside-requires-clause-others : goal.leader_after-self-inside-requires-clause-others
leader_after-self-inside-requires-clause-others g c =
    let a = c.self.inside in
    subst (λ v. NoOtherBefore (heads_in v) a.first.number a.first.second) (sym c.deref.ensures.value)
    (others_stay a.heads.items a.first.number c.hit_after.result a.first.second c.self.invariant.leads.others)

pub invariant_of-self : goal.invariant_of-self
invariant_of-self g c =
    let a = c.self.inside in
    let logs = map entries_in a.logs.items in
    let heads = heads_in a.heads.items in
    let log = entries_in c.index-log.result.now in
    let here = first_left a.logs.items heads a.first c.self.invariant c.if-is_none.ensures.1 c.index-log.result.now
    c.index-log.ensures in
    let new = c.hit_after.result in
    let leader = c.leader_after-self-inside.result in
    let leading = subst (λ v. IsLeader (heads_in v) leader) c.deref.ensures.value c.leader_after-self-inside.ensures in
    let set_is = set_in a.heads.items a.first.number new in
    subst (λ (v : Heads). AreUntold logs v leader) (sym set_is)
    (hits_untold logs heads a.first c.self.invariant log here (head_in new) c.hit_after.ensures leader
    (subst (λ (v : Heads). IsLeader v leader) set_is leading))

pub returns-clause-told : goal.returns-clause-told
returns-clause-told g c =
    let L = g.L.Listener in
    let a = c.self.inside in
    let logs = map entries_in a.logs.items in
    let heads = heads_in a.heads.items in
    let log = entries_in c.index-log.result.now in
    let here = first_left a.logs.items heads a.first c.self.invariant c.if-is_none.ensures.1 c.index-log.result.now
    c.index-log.ensures in
    let new = c.hit_after.result in
    let set_is = set_in a.heads.items a.first.number new in
    let is = ap hits (sym c.self.view_is)
    ∙ hits_go logs heads a.first c.self.invariant log here (head_in new) c.hit_after.ensures
    ∙ ap (λ (v : Heads). hits (here.action ∷ []) ++ hits (merged_of (lefts logs v))) (sym set_is) in
    let later = L.meaning c.tell_in.new.listener in
    let told = subst (λ (o : Option Action). IfSome o (λ y. Told L.after (L.meaning c.args.listener.now) (hits (y ∷ [])) later)) here.found
    c.in_ok-tell_in.ensures.told in
    one_hit_told L.after here.action c.args.self.now (merged_of (lefts logs (heads_in (set a.heads.items a.first.number new)))) (L.meaning c.args.listener.now) later
    (L.faults c.args.listener.now) (L.faults c.tell_in.new.listener) is told c.in_ok-tell_in.ensures.counts

pub returns-clause-fewer : goal.returns-clause-fewer
returns-clause-fewer g c =
    let a = c.self.inside in
    let logs = map entries_in a.logs.items in
    let heads = heads_in a.heads.items in
    let log = entries_in c.index-log.result.now in
    let here = first_left a.logs.items heads a.first c.self.invariant c.if-is_none.ensures.1 c.index-log.result.now
    c.index-log.ensures in
    let new = c.hit_after.result in
    let set_is = set_in a.heads.items a.first.number new in
    let fewer = fewer_left logs heads a.first c.self.invariant log here (head_in new) c.hit_after.ensures in
    let all = ap (λ (v : List Action). length v) (sym c.self.view_is) in
    let left = ap (λ (v : Heads). length (merged_of (lefts logs v))) set_is in
    λ more. omega arith
