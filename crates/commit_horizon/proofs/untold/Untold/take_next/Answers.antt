use Rattle.std.proofs.Common.{◌∷◌, ℕ, ◌<◌, map, set, sym, subst, ap, ◌∙◌, refl}
use Rattle.std.proofs.lemmas.List.{length-map}
use Rattle.std.proofs.lemmas.Option.{same_Some}
use Rattle.event_log.specs.Logged.{entries_in}
use Rattle.commit_horizon.specs.Merging.{Heads, head_in, heads_in}
use Rattle.commit_horizon.specs.Leading.{IsLeader, NoOtherBefore}
use Rattle.commit_horizon.specs.Untold.{lefts, merged_of, AreUntold}
use Rattle.commit_horizon.proofs.Leaders.{set_in, others_stay}
use Rattle.commit_horizon.proofs.Lefts.{first_left, none_untold, is_there, place_within, next_in_range, one_goes, still_untold}
use Rattle.commit_horizon.proofs.untold.Untold.take_next.Goals as goal

pub returns-then-is_none-clause-none : goal.returns-then-is_none-clause-none
returns-then-is_none-clause-none c = λ done.
    sym c.self.view_is
    ∙ none_untold (map entries_in c.self.inside.logs.items) (heads_in c.self.inside.heads.items) c.self.inside.first
    c.self.invariant (sym (c.if-is_none.ensures.0 refl))

pub action_in-action-requires : goal.action_in-action-requires
action_in-action-requires c =
    let a = c.self.inside in
    let logs = map entries_in a.logs.items in
    let heads = heads_in a.heads.items in
    let log = entries_in c.index-log.result.now in
    let here = first_left a.logs.items heads a.first c.self.invariant c.if-is_none.ensures.1 c.index-log.result.now
    c.index-log.ensures in
    is_there logs heads a.first c.self.invariant log here

pub head_after-requires-clause-within : goal.head_after-requires-clause-within
head_after-requires-clause-within c =
    let a = c.self.inside in
    let logs = map entries_in a.logs.items in
    let heads = heads_in a.heads.items in
    let log = entries_in c.index-log.result.now in
    let here = first_left a.logs.items heads a.first c.self.invariant c.if-is_none.ensures.1 c.index-log.result.now
    c.index-log.ensures in
    subst (λ (n : ℕ). a.first.place < n) (length-map c.index-log.result.now (λ l. l.0))
    (place_within logs heads a.first c.self.invariant log here)

pub head_after-requires-clause-range : goal.head_after-requires-clause-range
head_after-requires-clause-range c =
    let a = c.self.inside in
    let logs = map entries_in a.logs.items in
    let heads = heads_in a.heads.items in
    let log = entries_in c.index-log.result.now in
    let here = first_left a.logs.items heads a.first c.self.invariant c.if-is_none.ensures.1 c.index-log.result.now
    c.index-log.ensures in
    next_in_range logs heads a.first c.self.invariant log here

pub leader_after-self-inside-requires-clause-others : goal.leader_after-self-inside-requires-clause-others
leader_after-self-inside-requires-clause-others c =
    let a = c.self.inside in
    subst (λ v. NoOtherBefore (heads_in v) a.first.number a.first.second) (sym c.deref.ensures.value)
    (others_stay a.heads.items a.first.number c.head_after.result a.first.second c.self.invariant.leads.others)

pub invariant_of-self : goal.invariant_of-self
invariant_of-self c =
    let a = c.self.inside in
    let logs = map entries_in a.logs.items in
    let heads = heads_in a.heads.items in
    let log = entries_in c.index-log.result.now in
    let here = first_left a.logs.items heads a.first c.self.invariant c.if-is_none.ensures.1 c.index-log.result.now
    c.index-log.ensures in
    let new = c.head_after.result in
    let leader = c.leader_after-self-inside.result in
    let leading = subst (λ v. IsLeader (heads_in v) leader) c.deref.ensures.value c.leader_after-self-inside.ensures in
    let set_is = set_in a.heads.items a.first.number new in
    subst (λ (v : Heads). AreUntold logs v leader) (sym set_is)
    (still_untold logs heads a.first c.self.invariant log here (head_in new) c.head_after.ensures leader
    (subst (λ (v : Heads). IsLeader v leader) set_is leading))

pub returns-clause-next : goal.returns-clause-next
returns-clause-next c =
    let a = c.self.inside in
    let logs = map entries_in a.logs.items in
    let heads = heads_in a.heads.items in
    let log = entries_in c.index-log.result.now in
    let here = first_left a.logs.items heads a.first c.self.invariant c.if-is_none.ensures.1 c.index-log.result.now
    c.index-log.ensures in
    let new = c.head_after.result in
    let same = same_Some here.action c.action_in-action.result (sym here.found ∙ c.action_in-action.ensures) in
    sym c.self.view_is ∙ one_goes logs heads a.first c.self.invariant log here (head_in new) c.head_after.ensures
    ∙ ap (λ (v : Heads). here.action ∷ merged_of (lefts logs v)) (sym (set_in a.heads.items a.first.number new))
    ∙ ap (λ y. y ∷ merged_of (lefts logs (heads_in (set a.heads.items a.first.number new)))) same
