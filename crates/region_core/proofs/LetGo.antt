-- A body that lets go of the entries before a later floor.
use Rattle.std.proofs.Common.{◌≡◌, ℕ, ◌+◌, List, [], length, take, drop, map, sym, ap, ◌∙◌, subst, arith}
use Rattle.std.proofs.lemmas.List.{length-map}
use Rattle.std.proofs.Math.ListN.{get_or-map}
use Rattle.event_stamps.specs.declared.Stamp.{Stamp}
use Rattle.region_view.specs.Views.{ViewData}
use Rattle.region_messages.specs.Trails.{from}
use Rattle.region_queue.specs.Queue.{QueueData, IsOf, StandsFor}
use Rattle.local_run.specs.declared.home.Home.{Home}
use Rattle.local_run.specs.declared.entry.Entry.{Entry}
use Rattle.region_core.specs.declared.live.Live.{Live}
use Rattle.local_run.specs.LocalRun.{Local, At, Trails, start_of, now_of, after_log}
use Rattle.local_run.specs.Entries.{entries_below, entries_from}
use Rattle.local_run.specs.LocalRun.{IsRight}
use Rattle.region_parts.specs.Inbox.{InboxData, taken_from}
use Rattle.local_run.specs.Taken.{taken_of}
use Rattle.event_log.specs.Logged.{Logged, entries_in, backs_in}
use Rattle.event_log.specs.Undoing.{undone}
use Rattle.region_core.specs.Live.{base_in, run_in, start_in, HasTrace, IsInbox, IsOutbox, IsBodyOf}
use Rattle.local_run.specs.Raising.{raised_run, HasNoneWaitingBelow, IsRaised}
use Rattle.region_core.proofs.Traced.{trace_raised, base_raised, entries_dropped}
use Rattle.local_run.proofs.Taken.{taken_below}

-- ---- what was heard and what is sent
inbox_raised : (home : Home) (to : Stamp) (log : List Entry) (old new : InboxData) → IsInbox home log old →
    new.heard ≡ map (from to) old.heard → length new.taken ≡ length old.taken →
    ((q : ℕ) → taken_from new q + taken_of q (entries_below to log) ≡ taken_from old q) →
    IsInbox home (entries_from to log) new
inbox_raised home to log old new is heard counts taken = record {
  regions = ap length heard ∙ length-map old.heard (from to) ∙ is.regions;
  counts = counts ∙ is.counts;
  taken = λ q region.
      let gone = taken q in
      let all = is.taken q region in
      let parts = taken_below q to log in
      omega arith;
}

outbox_raised : (home : Home) (to : Stamp) (r : Local) (sent : Trails) → IsRaised home to r →
    IsOutbox home r.base r.log sent →
    IsOutbox home (raised_run to r).base (raised_run to r).log (map (from to) sent)
outbox_raised home to r sent raised is = record {
  regions = length-map sent (from to) ∙ is.regions;
  each = λ q region linked. get_or-map (from to) sent q []
      ∙ ap (from to) (is.each q region linked) ∙ sym (raised.sent q);
}

-- ---- the whole
pub raised_run_is : (to : Stamp) (r : Local) (base : ViewData) (heard : Trails) (log : List Entry) →
    base ≡ (after_log (start_of r) (entries_below to r.log)).view → heard ≡ map (from to) r.heard →
    log ≡ entries_from to r.log →
    record { floor = to; base = base; heard = heard; log = log } ≡ raised_run to r
raised_run_is to r base heard log base_is heard_is log_is = λ i. record {
  floor = to;
  base = base_is i;
  heard = heard_is i;
  log = log_is i;
}

-- it begins in the view after the entries that go, and keeps what comes after them
pub base_let_go : (to : Stamp) (old : Live) (view : ViewData) (log : List Logged) (gone : ℕ) → HasTrace old →
    take gone (entries_in old.log) ≡ entries_below to (entries_in old.log) → view ≡ old.view →
    log ≡ drop gone old.log →
    undone view (backs_in log) ≡ (after_log (start_in old) (entries_below to (entries_in old.log))).view
base_let_go to old view log gone traced below same left =
    base_raised old view log gone traced same left
    ∙ ap (λ (es : List Entry). (after_log (start_in old) es).view) below

pub log_let_go : (to : Stamp) (old : Live) (log : List Logged) (gone : ℕ) →
    drop gone (entries_in old.log) ≡ entries_from to (entries_in old.log) → log ≡ drop gone old.log →
    entries_in log ≡ entries_from to (entries_in old.log)
log_let_go to old log gone rest left = ap entries_in left ∙ sym (entries_dropped gone old.log) ∙ rest

pub raised_is : (home : Home) (floor to : Stamp) (old new : Live) (gone : ℕ) → IsBodyOf home floor old →
    HasNoneWaitingBelow to (run_in floor old) → IsRaised home to (run_in floor old) →
    take gone (entries_in old.log) ≡ entries_below to (entries_in old.log) →
    drop gone (entries_in old.log) ≡ entries_from to (entries_in old.log) →
    new.log ≡ drop gone old.log → new.view ≡ old.view → new.inbox.heard ≡ map (from to) old.inbox.heard →
    length new.inbox.taken ≡ length old.inbox.taken →
    ((q : ℕ) → taken_from new.inbox q + taken_of q (entries_below to (entries_in old.log))
    ≡ taken_from old.inbox q) →
    new.sent.items ≡ map (from to) old.sent.items → new.queue ≡ old.queue → IsBodyOf home to new
raised_is home floor to old new gone is none raised below rest log view heard counts taken sent queue = record {
  right = subst (IsRight home) run raised.right;
  inbox = subst (λ (r : Local). IsInbox home r.log new.inbox) run
      (inbox_raised home to (entries_in old.log) old.inbox new.inbox is.inbox heard counts taken);
  sent = subst (λ (r : Local). IsOutbox home r.base r.log new.sent.items) run
      (subst (IsOutbox home (raised_run to before).base (raised_run to before).log) (sym sent)
      (outbox_raised home to before old.sent.items raised is.sent));
  traced = trace_raised old new gone is.traced view log;
  queue = subst (λ (q : QueueData). IsOf q home.rules home.grid home.number) (sym queue) is.queue;
  stands = subst (λ (r : Local). StandsFor new.queue (now_of r).view) run
      (subst (λ (a : At). StandsFor new.queue a.view) (sym raised.now)
      (subst (λ (q : QueueData). StandsFor q (now_of before).view) (sym queue) is.stands));
}
  where
    before : Local
    before = run_in floor old

    run : raised_run to before ≡ run_in to new
    run = sym (raised_run_is to before (base_in new) new.inbox.heard (entries_in new.log)
        (base_let_go to old new.view new.log gone is.traced below view log) heard
        (log_let_go to old new.log gone rest log))
