-- A body into which a message is woven keeps all.
use Rattle.std.proofs.Common.{◌≡◌, ◌≢◌, inl, inr, ℕ, ◌+◌, ◌<◌, List, ◌∷◌, ◌++◌, length, get_or, slice_set, Option, Some, None, sym, ap, ◌∙◌, subst, refl, arith}
use Rattle.std.proofs.lemmas.List.{get_or-set_same, get_or-set_other, length-set}
use Rattle.event_stamps.specs.declared.Stamp.{Stamp}
use Rattle.cell_grid.specs.Grid.{IsRegion}
use Rattle.region_view.specs.declared.rows.Message.{Message}
use Rattle.region_view.specs.Setting.{set_rows}
use Rattle.region_queue.specs.Queue.{IsOf, StandsFor}
use Rattle.region_messages.specs.Trails.{with_message}
use Rattle.local_run.specs.declared.home.Home.{Home}
use Rattle.local_run.specs.declared.entry.Entry.{Entry}
use Rattle.local_run.specs.declared.entry.Entry.TheVariants.{Heard}
use Rattle.region_core.specs.declared.live.Live.{Live}
use Rattle.local_run.specs.Entries.{entries_below, entries_from}
use Rattle.local_run.specs.LocalRun.{Local, trail_of, now_of, IsHearable, IsRight, sent_to}
use Rattle.region_parts.specs.Inbox.{InboxData, taken_from}
use Rattle.local_run.specs.Taken.{taken_of}
use Rattle.event_log.specs.Logged.{entries_in}
use Rattle.region_core.specs.Live.{base_in, run_in, HasTrace, IsInbox, IsBodyOf}
use Rattle.local_run.specs.Weaving.{IsWoven, MayWeave}
use Rattle.region_core.specs.Weaving.{Weaves}
use Rattle.local_run.proofs.Among.{same_or_other}
use Rattle.local_run.proofs.Logs.{below_then_from}
use Rattle.local_run.proofs.Taken.{taken_joined, taken_here, taken_other, other_is_of}
use Rattle.region_core.proofs.News.{heard_there, heard_elsewhere}
use Rattle.local_run.proofs.Woven.{weaving_keeps_right}
use Rattle.region_core.proofs.Traced.{now_is}

-- ---- how many were taken in
taken_woven : (q : ℕ) (m : Message) (xs ys : List Entry) →
    taken_of q (xs ++ Heard q m ∷ ys) ≡ taken_of q (xs ++ ys) + 1
taken_woven q m xs ys =
    let all = taken_joined q xs (Heard q m ∷ ys) in
    let rest = taken_joined q xs ys in
    let one = taken_here q m ys in
    omega arith

taken_woven_other : (p q : ℕ) (m : Message) (xs ys : List Entry) → p ≢ q →
    taken_of p (xs ++ Heard q m ∷ ys) ≡ taken_of p (xs ++ ys)
taken_woven_other p q m xs ys other =
    let all = taken_joined p xs (Heard q m ∷ ys) in
    let rest = taken_joined p xs ys in
    let none = taken_other p (Heard q m) ys (other_is_of q p m (λ e. other (sym e))) in
    omega arith

abbrev with_woven : ℕ → Message → List Entry → List Entry
with_woven q m log = entries_below m.stamp log ++ Heard q m ∷ entries_from m.stamp log

inbox_woven : (home : Home) (log : List Entry) (old new : InboxData) (q : ℕ) (m : Message) →
    IsRegion home.grid q → IsInbox home log old →
    new.heard ≡ slice_set old.heard q (with_message m (trail_of old.heard q)) →
    new.taken ≡ slice_set old.taken q (taken_from old q + 1) → IsInbox home (with_woven q m log) new
inbox_woven home log old new q m region is heard taken = record {
  regions = ap length heard ∙ length-set old.heard q (with_message m (trail_of old.heard q)) ∙ is.regions;
  counts = ap length taken ∙ length-set old.taken q (taken_from old q + 1) ∙ is.counts;
  taken = λ p lt. ap (λ (v : List ℕ). get_or v p 0) taken ∙ elim (same_or_other p q) [
    | inl same ↦ subst (λ (x : ℕ). get_or (slice_set old.taken q (taken_from old q + 1)) x 0
        ≡ taken_of x (with_woven q m log)) (sym same) here
    | inr other ↦ get_or-set_other old.taken q p (taken_from old q + 1) 0 other ∙ is.taken p lt
        ∙ ap (taken_of p) (below_then_from m.stamp log)
        ∙ sym (taken_woven_other p q m (entries_below m.stamp log) (entries_from m.stamp log) other)
  ];
}
  where
    within : q < length old.taken
    within = let counts = is.counts in omega arith

    here : get_or (slice_set old.taken q (taken_from old q + 1)) q 0 ≡ taken_of q (with_woven q m log)
    here = get_or-set_same old.taken q (taken_from old q + 1) 0 within
        ∙ ap (λ (n : ℕ). n + 1) (is.taken q region ∙ ap (taken_of q) (below_then_from m.stamp log))
        ∙ sym (taken_woven q m (entries_below m.stamp log) (entries_from m.stamp log))

-- ---- the whole
-- the parts of a body into which a message of region q is woven
pub record IsWovenInto (home : Home) (q : ℕ) (m : Message) (old new : Live) : Type 0 where
  pub base : base_in new ≡ base_in old
  pub heard : new.inbox.heard ≡ slice_set old.inbox.heard q (with_message m (trail_of old.inbox.heard q))
  pub taken : new.inbox.taken ≡ slice_set old.inbox.taken q (taken_from old.inbox q + 1)
  pub own : new.sent.items ≡ old.sent.items
  pub log : entries_in new.log ≡ with_woven q m (entries_in old.log)
  pub traced : HasTrace new
  pub queue : IsOf new.queue home.rules home.grid home.number
  pub stands : StandsFor new.queue new.view

pub woven_live : (home : Home) (floor : Stamp) (q : ℕ) (m : Message) (old new : Live) →
    IsRegion home.grid q → IsBodyOf home floor old → MayWeave home (run_in floor old) m →
    IsHearable home floor q (with_message m (trail_of old.inbox.heard q)) →
    IsWovenInto home q m old new → IsBodyOf home floor new
woven_live home floor q m old new region live may hearable is = record {
  right = law.0;
  inbox = subst (λ (es : List Entry). IsInbox home es new.inbox) (sym is.log)
      (inbox_woven home (entries_in old.log) old.inbox new.inbox q m region live.inbox is.heard is.taken);
  sent = record {
    regions = ap length is.own ∙ live.sent.regions;
    each = λ k lt linked. ap (λ ts. trail_of ts k) is.own ∙ live.sent.each k lt linked ∙ sym (law.2 k);
  };
  traced = is.traced;
  queue = is.queue;
  stands = subst (StandsFor new.queue) (sym (now_is new is.traced)) is.stands;
}
  where
    within : q < length old.inbox.heard
    within = let regions = live.inbox.regions in omega arith

    woven : IsWoven q m (run_in floor old) (run_in floor new)
    woven = record {
      base = is.base;
      floor = refl;
      log = is.log;
      trail = ap (λ ts. trail_of ts q) is.heard
          ∙ heard_there old.inbox.heard q (with_message m (trail_of old.inbox.heard q)) within;
      others = λ k other. ap (λ ts. trail_of ts k) is.heard
          ∙ heard_elsewhere old.inbox.heard q k (with_message m (trail_of old.inbox.heard q)) other;
    }

    law : IsRight home (run_in floor new)
        × ((now_of (run_in floor new)).view ≡ set_rows (now_of (run_in floor old)).view m.rows)
        × ((k : ℕ) → sent_to home.grid k (base_in new) (entries_in new.log)
        ≡ sent_to home.grid k (base_in old) (entries_in old.log))
    law = weaving_keeps_right home (run_in floor old) (run_in floor new) q m live.right may hearable woven

-- whether a message is woven in or not, the run begins in the same view
pub woven_base : (q : ℕ) (m : Message) (r new : Local) (hindrance : Option Stamp) → Weaves q m r hindrance new →
    new.base ≡ r.base
woven_base q m r new None woven = woven.base
woven_base q m r new (Some at) same = ap (λ (run : Local). run.base) same
