-- Weaving a message into a body, by what the code tests and changes.
use Rattle.std.proofs.Common.{◌≡◌, ◌≢◌, ◌⊎◌, inl, inr, ℕ, ◌+◌, ◌<◌, ◌≤◌, List, [], ◌∷◌, ◌++◌, length, take, drop, slice_set, Some, Option, sym, ap, ◌∙◌, subst, refl, arith, None}
use Rattle.std.specs.Prelude.{All, ◌↔◌}
use Rattle.std.proofs.lemmas.List.{take-append-drop}
use Rattle.std.proofs.lemmas.Option.{same_Some, none-some}
use Rattle.event_stamps.specs.declared.Stamp.{Stamp}
use Rattle.event_stamps.specs.Order.{Before}
use Rattle.cell_grid.specs.Grid.{IsRegion}
use Rattle.region_view.specs.declared.rows.Message.{Message}
use Rattle.region_view.specs.Placing.{IsNative, IsValidPlacing}
use Rattle.region_view.specs.Views.{ViewData, rows_in}
use Rattle.region_view.specs.Setting.{RowList, set_rows, rows_at}
use Rattle.region_view.proofs.ValidRows.{setting_keeps_valid}
use Rattle.region_messages.specs.Trails.{IsAmong, below, from, with_message, IsFree}
use Rattle.region_messages.proofs.Among.{among_either}
use Rattle.region_messages.proofs.Parts.{below_among, from_among}
use Rattle.region_messages.proofs.Inserted.{rises_with}
use Rattle.region_queue.specs.Queue.{QueueData, IsOf, StandsFor}
use Rattle.local_run.specs.declared.home.Home.{Home}
use Rattle.local_run.specs.declared.entry.Entry.{Entry}
use Rattle.local_run.specs.declared.entry.Entry.TheVariants.{Heard}
use Rattle.local_run.specs.declared.entry.TheConstants.{MAX_ENTRIES}
use Rattle.region_core.specs.declared.live.Live.{Live}
use Rattle.local_run.specs.Entries.{entry_stamp, EntriesRiseAfter as RiseOn, RiseFrom, entries_below, entries_from, clock_of, last_entry_stamp}
use Rattle.local_run.specs.LocalRun.{At, trail_of, after_log, Moves, IsInPlace, IsHearable, IsOwn, Local}
use Rattle.region_parts.specs.Inbox.{taken_from}
use Rattle.event_log.specs.Logged.{Logged, entries_in}
use Rattle.event_log.specs.Undoing.{LeadBack, view_after, LoggedAreAside as AreSpared}
use Rattle.event_log.specs.Traced.{IsTraced}
use Rattle.event_log.proofs.AtFloor.{view_of_log}
use Rattle.event_log.proofs.Traced.{traced_dropped, traced_woven}
use Rattle.region_core.specs.Live.{base_in, run_in, start_in, now_in, HasTrace, IsBodyOf}
use Rattle.local_run.specs.Weaving.{IsWoven, MayWeave, IsApart, AreAside}
use Rattle.region_parts.specs.Aside.{IsLateAside, IsValidBack}
use Rattle.region_core.specs.Weaving.{IsSetLate, BeginsAfter, IsTried, Weaves}
use Rattle.local_run.proofs.Logs.{below_then_from, moves_split}
use Rattle.region_core.proofs.News.{heard_there, heard_elsewhere}
use Rattle.region_parts.proofs.Lists.{as_many}
use Rattle.region_core.proofs.Traced.{now_is, base_is, has_trace, entries_joined, entries_taken, entries_dropped}
use Rattle.region_core.proofs.Appended.{few_of}
use Rattle.local_run.proofs.Valid.{valid_now}
use Rattle.region_core.proofs.Steps.{aside_by_backs, backs_valid, all_spared}
use Rattle.region_core.proofs.WovenLive.{woven_live}

-- ---- what may be heard
with_either : (m n : Message) (ms : List Message) → IsAmong n (with_message m ms) →
    IsAmong n ms ⊎ IsAmong n (m ∷ [])
with_either m n ms among = elim (among_either n (below m.stamp ms) (m ∷ from m.stamp ms) among) [
  | inl first ↦ inl (below_among m.stamp ms n first)
  | inr (inl same) ↦ inr (inl same)
  | inr (inr more) ↦ inl (from_among m.stamp ms n more)
]

hearable_with : (h : Home) (floor : Stamp) (q : ℕ) (m : Message) (ms : List Message) →
    IsHearable h floor q ms → IsHearable h floor q (m ∷ []) → IsFree m.stamp ms →
    IsHearable h floor q (with_message m ms)
hearable_with h floor q m ms all one free = record {
  rises = rises_with m ms all.rises free;
  from_floor = λ n among. elim (with_either m n ms among) [
    | inl old ↦ all.from_floor n old
    | inr new ↦ one.from_floor n new
  ];
  before_end = λ n among. elim (with_either m n ms among) [
    | inl old ↦ all.before_end n old
    | inr new ↦ one.before_end n new
  ];
  rows = λ n among. elim (with_either m n ms among) [
    | inl old ↦ all.rows n old
    | inr new ↦ one.rows n new
  ];
  linked = λ n among. elim (with_either m n ms among) [
    | inl old ↦ all.linked n old
    | inr new ↦ one.linked n new
  ];
}

-- one of the messages that may be heard
pub hearable_one : (h : Home) (floor : Stamp) (q : ℕ) (m : Message) (ms : List Message) →
    IsHearable h floor q ms → IsAmong m ms → IsHearable h floor q (m ∷ [])
hearable_one h floor q m ms all among = record {
  rises = tt;
  from_floor = λ n is. all.from_floor n (one n is);
  before_end = λ n is. all.before_end n (one n is);
  rows = λ n is. all.rows n (one n is);
  linked = λ n is. all.linked n (one n is);
}
  where
    one : (n : Message) → IsAmong n (m ∷ []) → IsAmong n ms
    one n (inl same) = subst (λ (x : Message). IsAmong x ms) (sym same) among
    one n (inr none) = absurd none

-- ---- the same body with its view and its queue
pub same_live : (home : Home) (floor : Stamp) (old : Live) (view : ViewData) (queue : QueueData) →
    IsBodyOf home floor old → view ≡ old.view → IsOf queue home.rules home.grid home.number →
    StandsFor queue view → IsBodyOf home floor (record old { view = view; queue = queue })
same_live home floor old view queue live same of stands =
    subst (λ (v : ViewData). IsBodyOf home floor (record old { view = v; queue = queue })) (sym same) (record {
      right = live.right;
      inbox = live.inbox;
      sent = live.sent;
      traced = live.traced;
      queue = of;
      stands = subst (StandsFor queue) (same ∙ sym (now_is old live.traced)) stands;
    })

-- ---- what is asked of the view
pub set_valid : (home : Home) (floor : Stamp) (live : Live) (q : ℕ) (m : Message) → IsInPlace home →
    IsBodyOf home floor live → IsHearable home floor q (m ∷ []) →
    IsValidPlacing live.queue.rules live.queue.grid (rows_in live.view)
    × IsValidPlacing live.queue.rules live.queue.grid (rows_in (set_rows live.view m.rows))
set_valid home floor live q m place is hearable =
    subst (λ (h : Home). IsValidPlacing h.rules h.grid (rows_in live.view)
    × IsValidPlacing h.rules h.grid (rows_in (set_rows live.view m.rows)))
    (λ i. record {
      number = home.number;
      rules = sym is.queue.rules i;
      grid = sym is.queue.grid i;
    }) (
      now,
      setting_keeps_valid home.rules home.grid live.view m.rows now (hearable.rows m (inl refl)).1,
    )
  where
    now : IsValidPlacing home.rules home.grid (rows_in live.view)
    now = subst (λ (v : ViewData). IsValidPlacing home.rules home.grid (rows_in v)) (now_is live is.traced)
        (valid_now home (run_in floor live) place is.right)

-- the rows that lead back over the entries are valid
pub back_valid : (home : Home) (floor : Stamp) (live : Live) → IsInPlace home → IsBodyOf home floor live →
    All (λ l. IsValidBack home l.1) live.log
back_valid home floor live place is =
    backs_valid home (start_in live) live.log place is.right.base
    (λ q m among. ((is.right.heard q).rows m among).1) is.right.moves is.traced.back

-- ---- the parts of the log
-- how the log is divided
pub record IsParted (live : Live) (kept : ℕ) (m : Message) : Type 0 where
  pub below : take kept (entries_in live.log) ≡ entries_below m.stamp (entries_in live.log)
  pub rest : drop kept (entries_in live.log) ≡ entries_from m.stamp (entries_in live.log)
  pub within : kept ≤ length live.log

-- the entries of its parts
entries_first : (live : Live) (kept : ℕ) (m : Message) → IsParted live kept m →
    entries_in (take kept live.log) ≡ entries_below m.stamp (entries_in live.log)
entries_first live kept m parted = sym (entries_taken kept live.log) ∙ parted.below

entries_last : (live : Live) (kept : ℕ) (m : Message) → IsParted live kept m →
    entries_in (drop kept live.log) ≡ entries_from m.stamp (entries_in live.log)
entries_last live kept m parted = sym (entries_dropped kept live.log) ∙ parted.rest

-- the point that the region has reached between them
abbrev middle_of : Live → Message → At
middle_of live m = after_log (start_in live) (entries_below m.stamp (entries_in live.log))

middle_is : (live : Live) (kept : ℕ) (m : Message) → IsParted live kept m →
    (middle_of live m).view ≡ view_after (base_in live) (take kept live.log)
middle_is live kept m parted =
    ap (λ (es : List Entry). (after_log (start_in live) es).view) (sym (entries_first live kept m parted))
    ∙ view_of_log (start_in live) (take kept live.log)

back_from : (live : Live) (kept : ℕ) (m : Message) → HasTrace live → IsParted live kept m →
    LeadBack (middle_of live m).view (drop kept live.log)
back_from live kept m traced parted =
    subst (λ (v : ViewData). LeadBack v (drop kept live.log)) (sym (middle_is live kept m parted))
    (traced_dropped (base_in live) live.view live.log kept traced).back

moves_from : (home : Home) (floor : Stamp) (live : Live) (kept : ℕ) (m : Message) → IsBodyOf home floor live →
    IsParted live kept m → Moves home (middle_of live m) (entries_in (drop kept live.log))
moves_from home floor live kept m is parted =
    subst (Moves home (middle_of live m)) (sym (entries_last live kept m parted))
    (moves_split home (start_in live) (entries_below m.stamp (entries_in live.log))
    (entries_from m.stamp (entries_in live.log))
    (subst (Moves home (start_in live)) (below_then_from m.stamp (entries_in live.log)) is.right.moves)).1

apart_from : (live : Live) (q kept : ℕ) (m : Message) → IsTried q kept m live →
    All (IsApart m.rows) (entries_in (drop kept live.log))
apart_from live q kept m tried =
    subst (All (IsApart m.rows)) (entries_dropped kept live.log) tried.apart

-- ---- what the tests tell
rises_past : (f : Stamp) (xs : List Entry) (e : Entry) (ys : List Entry) → RiseFrom f (xs ++ e ∷ ys) →
    RiseOn (entry_stamp e) ys
rises_past f [] e ys rises = rises.1
rises_past f (x ∷ xs) e ys rises = after (entry_stamp x) xs rises.1
  where
    after : (t : Stamp) (zs : List Entry) → RiseOn t (zs ++ e ∷ ys) → RiseOn (entry_stamp e) ys
    after t [] rises = rises.1
    after t (z ∷ zs) rises = after (entry_stamp z) zs rises.1

late_after : (f s : Stamp) (xs ys : List Entry) → RiseFrom f (xs ++ ys) → BeginsAfter s ys →
    (ys ≢ []) × RiseOn s ys
late_after f s xs [] rises begins = absurd begins
late_after f s xs (e ∷ ys) rises begins = ((λ none. cc), (begins, rises_past f xs e ys rises))

last_is_clock : (f last : Stamp) (log : List Entry) → Some last ≡ last_entry_stamp log → last ≡ clock_of f log
last_is_clock f last [] is = cc
last_is_clock f last (e ∷ es) is = same_Some last (clock_of (entry_stamp e) es) is

pub may_be_woven : (home : Home) (floor : Stamp) (live : Live) (q kept : ℕ) (m : Message) (last : Stamp) →
    IsBodyOf home floor live → IsParted live kept m → IsTried q kept m live →
    All (IsLateAside home m.rows) (drop kept live.log) → Some last ≡ last_entry_stamp (entries_in live.log) →
    ((s : Stamp) → IsOwn home (set_rows (now_in live).view m.rows) s → Before last s) →
    MayWeave home (run_in floor live) m
may_be_woven home floor live q kept m last is parted tried late ends later = record {
  room = let many = as_many live.log in let few = tried.room in omega arith;
  late = after.0;
  after = after.1;
  aside = subst (AreAside home m.rows (middle_of live m)) (entries_last live kept m parted)
      (aside_by_backs home m.rows (middle_of live m) (drop kept live.log)
      (back_from live kept m is.traced parted) late (apart_from live q kept m tried));
  later = λ s own names. subst (λ (t : Stamp). Before t s) (last_is_clock floor last (entries_in live.log) ends)
      (later s own);
}
  where
    after : (entries_from m.stamp (entries_in live.log) ≢ []) × RiseOn m.stamp (entries_from m.stamp (entries_in live.log))
    after = late_after floor m.stamp (entries_below m.stamp (entries_in live.log))
        (entries_from m.stamp (entries_in live.log))
        (subst (RiseFrom floor) (below_then_from m.stamp (entries_in live.log)) is.right.rises)
        (subst (BeginsAfter m.stamp) parted.rest tried.late)

-- ---- the whole
-- the message with the rows that lead back over it
abbrev pub woven_entry : Live → ℕ → Message → Logged
woven_entry live q m = (Heard q m, rows_at (rows_in live.view) m.rows)

-- how the code treats the parts
pub record IsPutInto (home : Home) (q kept : ℕ) (m : Message) (old new : Live) : Type 0 where
  pub heard : new.inbox.heard ≡ slice_set old.inbox.heard q (with_message m (trail_of old.inbox.heard q))
  pub taken : new.inbox.taken ≡ slice_set old.inbox.taken q (taken_from old.inbox q + 1)
  pub own : new.sent.items ≡ old.sent.items
  pub log : new.log ≡ take kept old.log ++ woven_entry old q m ∷ drop kept old.log
  pub view : new.view ≡ set_rows old.view m.rows
  pub queue : IsOf new.queue home.rules home.grid home.number
  pub stands : StandsFor new.queue new.view

-- its log leads from the same view to the newest one
put_traced : (home : Home) (floor : Stamp) (q kept : ℕ) (m : Message) (old new : Live) → IsBodyOf home floor old →
    IsParted old kept m → IsTried q kept m old → IsPutInto home q kept m old new →
    IsTraced (base_in old) new.view new.log
put_traced home floor q kept m old new is parted tried put =
    subst (λ (v : ViewData). IsTraced (base_in old) v new.log) (sym put.view)
    (subst (IsTraced (base_in old) (set_rows old.view m.rows)) (sym put.log)
    (traced_woven (base_in old) old.view (take kept old.log) (drop kept old.log) q m
    (subst (IsTraced (base_in old) old.view) (sym (take-append-drop kept old.log)) is.traced)
    (subst (λ (v : ViewData). AreSpared m.rows v (drop kept old.log)) (middle_is old kept m parted)
    (all_spared home m.rows (middle_of old m) (drop kept old.log) (apart_from old q kept m tried)
    (moves_from home floor old kept m is parted)))))

pub put_live : (home : Home) (floor : Stamp) (q kept : ℕ) (m : Message) (old new : Live) →
    IsRegion home.grid q → IsBodyOf home floor old → IsParted old kept m → IsTried q kept m old →
    MayWeave home (run_in floor old) m → IsHearable home floor q (m ∷ []) → IsPutInto home q kept m old new →
    IsBodyOf home floor new × IsWoven q m (run_in floor old) (run_in floor new)
put_live home floor q kept m old new region is parted tried may one put = (
  woven_live home floor q m old new region is may hearable (record {
    base = base;
    heard = put.heard;
    taken = put.taken;
    own = put.own;
    log = log;
    traced = has_trace (base_in old) new traced;
    queue = put.queue;
    stands = put.stands;
  }),
  record {
    base = base;
    floor = refl;
    log = log;
    trail = ap (λ ts. trail_of ts q) put.heard
        ∙ heard_there old.inbox.heard q (with_message m (trail_of old.inbox.heard q)) within;
    others = λ k other. ap (λ ts. trail_of ts k) put.heard
        ∙ heard_elsewhere old.inbox.heard q k (with_message m (trail_of old.inbox.heard q)) other;
  },
)
  where
    hearable : IsHearable home floor q (with_message m (trail_of old.inbox.heard q))
    hearable = hearable_with home floor q m (trail_of old.inbox.heard q) (is.right.heard q) one tried.free

    log : entries_in new.log
        ≡ entries_below m.stamp (entries_in old.log) ++ Heard q m ∷ entries_from m.stamp (entries_in old.log)
    log = ap entries_in put.log ∙ entries_joined (take kept old.log) (woven_entry old q m ∷ drop kept old.log)
        ∙ (λ i. entries_first old kept m parted i ++ Heard q m ∷ entries_last old kept m parted i)

    within : q < length old.inbox.heard
    within = let regions = is.inbox.regions in omega arith

    traced : IsTraced (base_in old) new.view new.log
    traced = put_traced home floor q kept m old new is parted tried put

    base : base_in new ≡ base_in old
    base = base_is (base_in old) new traced

-- ---- what the code knows
pub of_again : (a b : QueueData) (home : Home) → IsOf b a.rules a.grid a.region →
    IsOf a home.rules home.grid home.number → IsOf b home.rules home.grid home.number
of_again a b home again of = record {
  rules = again.rules ∙ of.rules;
  grid = again.grid ∙ of.grid;
  region = again.region ∙ of.region;
}

pub set_is : (last : Stamp) (view : ViewData) (rows : RowList) (queue : QueueData) (new : ViewData)
    (back : RowList) (late is : Option Stamp) → IsSetLate last view rows queue new back late → late ≡ is →
    IsSetLate last view rows queue new back is
set_is last view rows queue new back late is set same = subst (IsSetLate last view rows queue new back) same set

pub all_later : (home : Home) (queue : QueueData) (last : Stamp) (view now new : ViewData) (rows : RowList) →
    IsOf queue home.rules home.grid home.number → view ≡ now → new ≡ set_rows view rows →
    ((s : Stamp) → IsNative queue.rules queue.grid queue.region (rows_in new) s → Before last s) →
    (s : Stamp) → IsOwn home (set_rows now rows) s → Before last s
unfolding IsOwn
all_later home queue last view now new rows of same set later s own = later s
    (subst (λ (v : ViewData). IsNative queue.rules queue.grid queue.region (rows_in v) s)
    (sym (set ∙ ap (λ (v : ViewData). set_rows v rows) same))
    (subst (λ (h : Home). IsNative h.rules h.grid h.number (rows_in (set_rows now rows)) s) (λ i. record {
      number = sym of.region i;
      rules = sym of.rules i;
      grid = sym of.grid i;
    }) own))

pub few_taken : (home : Home) (floor : Stamp) (live : Live) (q kept : ℕ) (m : Message) →
    IsRegion home.grid q → IsBodyOf home floor live → IsTried q kept m live →
    taken_from live.inbox q < MAX_ENTRIES
few_taken home floor live q kept m region is tried =
    let same = is.inbox.taken q region in
    let few = few_of q (entries_in live.log) in
    let many = as_many live.log in
    let room = tried.room in
    omega arith

-- of two changes of a queue
pub of_before : (a b c : QueueData) → IsOf b a.rules a.grid a.region → IsOf c b.rules b.grid b.region →
    IsOf c a.rules a.grid a.region
of_before a b c of again = record {
  rules = again.rules ∙ of.rules;
  grid = again.grid ∙ of.grid;
  region = again.region ∙ of.region;
}

-- a hindrance that is given by another stamp is still one
pub still_weaves : (q : ℕ) (m : Message) (r new : Local) (o told : Option Stamp) → Weaves q m r o new →
    (told ≡ None) ↔ (o ≡ None) → Weaves q m r told new
still_weaves q m r new None None weaves both = weaves
still_weaves q m r new None (Some at) weaves both = absurd (none-some at (sym (both.1 refl)))
still_weaves q m r new (Some at) None weaves both = absurd (none-some at (sym (both.0 refl)))
still_weaves q m r new (Some at) (Some s) weaves both = weaves
