use Rattle.std.proofs.Common.{◌∙◌, ◌∷◌, [], ◌++◌, List, map, take, sym, ap, subst}
use Rattle.std.proofs.lemmas.List.{map_more, take_all}
use Rattle.local_run.specs.declared.entry.Entry.{Entry}
use Rattle.event_log.specs.Logged.{Logged, entries_in}
use Rattle.commit_horizon.specs.Cutting.{SomeHasStamp, IsLatest}
use Rattle.commit_horizon.proofs.Latest.{none_latest, latest_more}
use Rattle.commit_horizon.proofs.CutLogs.{item_among}
use Rattle.commit_horizon.proofs.cutting.last_of_all.Goals as goal

pub loop-log-init : goal.loop-log-init
loop-log-init c = none_latest

pub last_of-requires : goal.last_of-requires
last_of-requires c = c.requires (entries_in c.log-item.result)
    (item_among c.args.logs.now c.loop-log.log-index c.log-item.result c.loop-log-test.true c.log-item.is)

pub loop-log-preserved : goal.loop-log-preserved
loop-log-preserved c =
    let logs = c.args.logs.now in
    let k = c.loop-log.log-index in
    let log = c.log-item.result in
    let more = map_more entries_in logs k log c.loop-log-test.true
    ∙ ap (λ (v : List Logged). map entries_in (take k logs) ++ entries_in v ∷ []) (sym c.log-item.is) in
    subst (λ (v : List (List Entry)). IsLatest (SomeHasStamp v) c.latest-last.result) (sym more)
    (subst (IsLatest (SomeHasStamp (map entries_in (take k logs) ++ entries_in log ∷ []))) (sym c.latest-last.ensures)
    (latest_more (map entries_in (take k logs)) (entries_in log) c.loop-log.last c.last_of.result
    c.loop-log.invariant c.last_of.ensures))

pub returns : goal.returns
returns c =
    let logs = c.args.logs.now in
    subst (λ (v : List (List Logged)). IsLatest (SomeHasStamp (map entries_in v)) c.loop-log.last)
    (take_all c.loop-log.log-index logs c.loop-log-test.false) c.loop-log.invariant
