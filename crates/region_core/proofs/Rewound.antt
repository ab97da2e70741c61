-- A body from which the entries from a stamp on are taken back.
use Rattle.std.proofs.Common.{◌≡◌, inl, inr, ℕ, ◌+◌, ◌≤◌, List, [], length, map, sym, ap, subst, ◌∙◌, arith}
use Rattle.std.proofs.lemmas.List.{length-map, get_or_past}
use Rattle.std.proofs.Math.ListN.{get_or-map}
use Rattle.event_stamps.specs.declared.Stamp.{Stamp}
use Rattle.region_view.specs.Views.{ViewData}
use Rattle.region_messages.specs.Trails.{below}
use Rattle.region_queue.specs.Queue.{StandsFor}
use Rattle.local_run.specs.declared.home.Home.{Home}
use Rattle.local_run.specs.declared.entry.Entry.{Entry}
use Rattle.region_core.specs.declared.live.Live.{Live}
use Rattle.local_run.specs.Entries.{RiseFrom, entries_below, entries_from}
use Rattle.local_run.specs.LocalRun.{Local, Trails, start_of, after_log, IsRight}
use Rattle.region_parts.specs.Inbox.{InboxData, taken_from}
use Rattle.local_run.specs.Taken.{taken_of}
use Rattle.event_log.specs.Logged.{entries_in}
use Rattle.region_core.specs.Live.{base_in, run_in, IsInbox, IsOutbox, IsBodyOf, IsPartOf}
use Rattle.local_run.proofs.Taken.{taken_below, taken_fits}
use Rattle.region_parts.proofs.Firsts.{below_or_past, no_trail_past}
use Rattle.local_run.proofs.Sent.{sent_below}
use Rattle.local_run.proofs.Right.{right_rewound}

-- ---- what was taken in
-- the counts of a body are those of its log
pub all_taken : (home : Home) (floor : Stamp) (live : Live) (q : ℕ) → IsBodyOf home floor live →
    taken_from live.inbox q ≡ taken_of q (entries_in live.log)
all_taken home floor live q is = elim (below_or_past q home.grid.regions) [
  | inl region ↦ is.inbox.taken q region
  | inr past ↦
      let fits = taken_fits home (start_of (run_in floor live)) (entries_in live.log) q is.right.moves in
      let none = ap length (no_trail_past live.inbox.heard q
      (subst (λ (n : ℕ). n ≤ q) (sym is.inbox.regions) past)) in
      let uncounted = get_or_past live.inbox.taken q 0 (subst (λ (n : ℕ). n ≤ q) (sym is.inbox.counts) past) in
      omega arith
]

-- ---- what was heard and what is sent
inbox_rewound : (home : Home) (at : Stamp) (log : List Entry) (old new : InboxData) →
    IsInbox home log old → new.heard ≡ old.heard → length new.taken ≡ length old.taken →
    ((q : ℕ) → taken_from new q + taken_of q (entries_from at log) ≡ taken_from old q) →
    IsInbox home (entries_below at log) new
inbox_rewound home at log old new is heard counts taken = record {
  regions = ap length heard ∙ is.regions;
  counts = counts ∙ is.counts;
  taken = λ q region.
      let given = taken q in
      let all = is.taken q region in
      let parts = taken_below q at log in
      omega arith;
}

outbox_rewound : (home : Home) (base : ViewData) (floor at : Stamp) (log : List Entry)
    (sent : Trails) → RiseFrom floor log → IsOutbox home base log sent →
    IsOutbox home base (entries_below at log) (map (below at) sent)
outbox_rewound home base floor at log sent rises is = record {
  regions = length-map sent (below at) ∙ is.regions;
  each = λ q region linked. get_or-map (below at) sent q []
      ∙ ap (below at) (is.each q region linked)
      ∙ sym (sent_below home.grid q base at floor log rises);
}

-- ---- the whole
-- the local run with only the entries before a stamp
abbrev rewound_run : Stamp → Stamp → Live → Local
rewound_run floor at live = record (run_in floor live) { log = entries_below at (entries_in live.log) }

pub rewound_is : (home : Home) (floor at : Stamp) (old new : Live) → IsBodyOf home floor old →
    base_in new ≡ base_in old → entries_in new.log ≡ entries_below at (entries_in old.log) →
    new.inbox.heard ≡ old.inbox.heard → length new.inbox.taken ≡ length old.inbox.taken →
    ((q : ℕ) → taken_from new.inbox q + taken_of q (entries_from at (entries_in old.log))
    ≡ taken_from old.inbox q) →
    new.sent.items ≡ map (below at) old.sent.items → IsPartOf home floor new → IsBodyOf home floor new
rewound_is home floor at old new is base log heard counts taken sent along = record {
  right = subst (IsRight home) run (right_rewound home (run_in floor old) at is.right);
  inbox = subst (λ (es : List Entry). IsInbox home es new.inbox) (sym log)
      (inbox_rewound home at (entries_in old.log) old.inbox new.inbox is.inbox heard counts taken);
  sent = subst (λ (es : List Entry). IsOutbox home (base_in new) es new.sent.items) (sym log)
      (subst (λ (b : ViewData). IsOutbox home b (entries_below at (entries_in old.log)) new.sent.items) (sym base)
      (subst (IsOutbox home (base_in old) (entries_below at (entries_in old.log))) (sym sent)
      (outbox_rewound home (base_in old) floor at (entries_in old.log) old.sent.items is.right.rises is.sent)));
  traced = along.traced;
  queue = along.queue;
  stands = along.stands;
}
  where
    run : rewound_run floor at old ≡ run_in floor new
    run = λ i. record {
      floor = floor;
      base = sym base i;
      heard = sym heard i;
      log = sym log i;
    }

-- it is right and its queue stands for its view also if the messages that were taken in wait again
pub still_right : (home : Home) (floor : Stamp) (live : Live) (heard : Trails) → IsBodyOf home floor live →
    heard ≡ live.inbox.heard → IsRight home (record (run_in floor live) { heard = heard })
still_right home floor live heard is same =
    subst (λ (ts : Trails). IsRight home (record (run_in floor live) { heard = ts })) (sym same) is.right

pub still_stands : (home : Home) (floor : Stamp) (live : Live) (heard : Trails) → IsBodyOf home floor live →
    heard ≡ live.inbox.heard →
    StandsFor live.queue (after_log (record { view = base_in live; waiting = heard }) (entries_in live.log)).view
still_stands home floor live heard is same = subst (λ (ts : Trails). StandsFor live.queue
    (after_log (record { view = base_in live; waiting = ts }) (entries_in live.log)).view) (sym same) is.stands
