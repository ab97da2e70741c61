use Rattle.std.proofs.Common.{◌≡◌, ◌≤◌, length, map, sym, ap, subst, arith, List}
use Rattle.event_log.specs.declared.heads.Head.{Head}
use Rattle.local_run.specs.Entries.{entry_stamp}
use Rattle.local_run.proofs.Counted.{IsPlace, counted_below, counted_from}
use Rattle.event_log.specs.Logged.{entries_in}
use Rattle.event_log.specs.Heads.{no_whole}
use Rattle.event_log.proofs.Counted.{heads_partitioned, place_of_heads}
use Rattle.event_log.proofs.Laid.{head_stamp}
use Rattle.event_log.proofs.Read.{count_is, have_stamps}
use Rattle.event_log.proofs.processed.EventLog.count_before.Goals as goal

pub count_earlier-requires : goal.count_earlier-requires
count_earlier-requires c =
    let a = c.self.inside in
    let log = c.args.self.now in
    let heads = c.deref.result.now in
    let same = subst (λ (hs : List Head). map head_stamp hs ≡ map entry_stamp (entries_in log))
    (sym c.deref.ensures.value)
    (have_stamps a.rows.items a.wholes.items a.heads.items log c.self.invariant c.self.view_is) in
    heads_partitioned c.requires.0 c.args.at heads (entries_in log) no_whole.0 same c.requires.1

pub returns : goal.returns
returns c =
    let a = c.self.inside in
    let log = c.args.self.now in
    let n = c.count_earlier.result in
    let heads = c.deref.result.now in
    let same = subst (λ (hs : List Head). map head_stamp hs ≡ map entry_stamp (entries_in log))
    (sym c.deref.ensures.value)
    (have_stamps a.rows.items a.wholes.items a.heads.items log c.self.invariant c.self.view_is) in
    let bound : n ≤ length heads = c.count_earlier.ensures.within in
    let place : IsPlace c.args.at (entries_in log) n =
    place_of_heads c.args.at heads (entries_in log) n same bound c.count_earlier.ensures.place in
    let count = count_is a.rows.items a.wholes.items a.heads.items log c.self.view_is in
    let here = ap length c.deref.ensures.value in
    record {
      within = omega arith;
      before = counted_below c.args.at (entries_in log) n place;
      from = counted_from c.args.at (entries_in log) n place;
    }
