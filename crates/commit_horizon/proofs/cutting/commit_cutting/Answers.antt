use Rattle.std.proofs.Common.{◌≡◌, List, Some, length, map, vec_len, sym, ap, ◌∙◌, subst, arith}
use Rattle.std.proofs.lemmas.List.{with_items_is}
use Rattle.event_stamps.specs.declared.Stamp.{Stamp}
use Rattle.region_view.specs.declared.action.Action.{Action}
use Rattle.local_run.specs.declared.entry.Entry.{Entry}
use Rattle.event_log.specs.Logged.{entries_in}
use Rattle.commit_horizon.specs.Bounds.{HoldsUpTo, IsUpToAll}
use Rattle.commit_horizon.specs.Untold.{actions_in, CanBeTellings}
use Rattle.commit_horizon.specs.Cutting.{AllRise, SomeHasStamp, IsLatest}
use Rattle.commit_horizon.proofs.Tellings.{may_be_raised}
use Rattle.commit_horizon.proofs.CutLogs.{all_rise}
use Rattle.commit_horizon.proofs.CutMade.{can_be_told, final_made}
use Rattle.commit_horizon.proofs.cutting.commit_cutting.Goals as goal

pub cut_floors-requires-clause-may : goal.cut_floors-requires-clause-may
cut_floors-requires-clause-may c =
    let regions = c.args.regions.now in
    let bound = subst (λ (s : Stamp). HoldsUpTo (IsUpToAll s regions) (Some c.least_bound-floor.result))
    c.end_of.ensures c.least_bound-floor.ensures.bound in
    may_be_raised c.args.rules.now regions c.least_bound-floor.result bound c.least_bound-floor.ensures.kept
    c.requires.stand.0 c.requires.stand.1

pub last_of_all-last-requires : goal.last_of_all-last-requires
last_of_all-last-requires c =
    let size : length c.cut_floors.new.logs ≡ vec_len c.fit.new.logs
    = omega (arith, c.cut_floors.auto.logs, c.deref_mut.ensures.len) in
    let cut = ap (map entries_in) (c.deref.ensures.value ∙ with_items_is c.fit.new.logs c.cut_floors.new.logs size)
    ∙ c.in_ok-cut_floors.ensures.cut in
    subst AllRise (sym cut)
    (all_rise c.least_bound-floor.result c.args.regions.now c.least_bound-floor.ensures.kept)

pub begin-requires : goal.begin-requires
begin-requires c =
    let regions = c.args.regions.now in
    let bound = subst (λ (s : Stamp). HoldsUpTo (IsUpToAll s regions) (Some c.least_bound-floor.result))
    c.end_of.ensures c.least_bound-floor.ensures.bound in
    let size : length c.cut_floors.new.logs ≡ vec_len c.fit.new.logs
    = omega (arith, c.cut_floors.auto.logs, c.deref_mut.ensures.len) in
    let cut = ap (map entries_in) (with_items_is c.fit.new.logs c.cut_floors.new.logs size)
    ∙ c.in_ok-cut_floors.ensures.cut in
    subst (λ (v : List (List Entry)). (xs : List Action) × CanBeTellings (map actions_in v) xs) (sym cut)
    (can_be_told c.args.rules.now regions c.least_bound-floor.result bound c.least_bound-floor.ensures.kept
    c.requires.stand.0 c.requires.stand.1)

pub returns : goal.returns
returns c =
    let regions = c.args.regions.now in
    let last = c.last_of_all-last.result in
    let bound = subst (λ (s : Stamp). HoldsUpTo (IsUpToAll s regions) (Some c.least_bound-floor.result))
    c.end_of.ensures c.least_bound-floor.ensures.bound in
    let size : length c.cut_floors.new.logs ≡ vec_len c.fit.new.logs
    = omega (arith, c.cut_floors.auto.logs, c.deref_mut.ensures.len) in
    let held = ap (map entries_in) (with_items_is c.fit.new.logs c.cut_floors.new.logs size)
    ∙ c.in_ok-cut_floors.ensures.cut in
    let read = ap (map entries_in) c.deref.ensures.value ∙ held in
    λ state of. final_made c.args.rules.now regions c.least_bound-floor.result bound
    c.least_bound-floor.ensures.kept state of last c.begin.new.self c.cut_floors.new.regions
    (subst (λ (v : List (List Entry)). IsLatest (SomeHasStamp v) last) read c.last_of_all-last.ensures)
    (subst (λ (v : List (List Entry)). (xs : List Action) → CanBeTellings (map actions_in v) xs →
    c.begin.new.self ≡ xs) held c.in_ok-begin.ensures.begun)
    c.in_ok-cut_floors.ensures.raised
