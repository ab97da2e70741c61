-- A body that hears another trail of messages.
use Rattle.std.proofs.Common.{◌≡◌, ◌≢◌, inl, inr, ℕ, ◌<◌, Bool, List, [], ◌∷◌, length, get_or, slice_set, Some, None, sym, ap, subst, ◌∙◌, refl}
use Rattle.std.specs.Prelude.{◌↔◌, IsTrue}
use Rattle.std.proofs.lemmas.List.{length-set, get_or-set_same, get_or-set_other}
use Rattle.std.proofs.lemmas.Option.{none-some, same_Some}
use Rattle.event_stamps.specs.declared.Stamp.{Stamp}
use Rattle.event_stamps.specs.Order.{Before}
use Rattle.region_view.specs.declared.rows.Message.{Message}
use Rattle.region_view.specs.Views.{ViewData}
use Rattle.region_view.specs.Setting.{set_rows, after_action}
use Rattle.region_messages.specs.Trails.{IsAmong, AgreeBelow, AgreesUpTo}
use Rattle.region_messages.proofs.Parts.{agreed_part, rises_below, rises_replaced, among_replaced}
use Rattle.region_queue.specs.Queue.{QueueData, IsOf, StandsFor}
use Rattle.local_run.specs.declared.home.Home.{Home}
use Rattle.local_run.specs.declared.entry.Entry.{Entry}
use Rattle.local_run.specs.declared.entry.Entry.TheVariants.{Native, Heard}
use Rattle.local_run.specs.declared.answers.Hearing.{Hearing}
use Rattle.local_run.specs.declared.answers.Hearing.TheVariants.{Same, Rewound, Later, Apart}
use Rattle.region_core.specs.declared.live.Live.{Live}
use Rattle.local_run.specs.Entries.{entry_stamp, RiseFrom, entries_below, clock_of, last_entry_stamp}
use Rattle.local_run.specs.LocalRun.{Local, Trails, trail_of, now_of, after_log, without_first, IsHearable, IsRight}
use Rattle.local_run.specs.Answers.{HasHeard, HearsFrom}
use Rattle.event_log.specs.Logged.{Logged, entries_in, backs_in}
use Rattle.event_log.specs.Undoing.{undone}
use Rattle.event_log.specs.Traced.{IsTraced}
use Rattle.region_core.specs.Live.{base_in, run_in, IsInbox, IsOutbox, IsBodyOf}
use Rattle.region_parts.specs.Inbox.{mixed}
use Rattle.region_core.specs.Replaced.{HearsOn, IsReplaced}
use Rattle.local_run.proofs.Logs.{below_kept, kept_below, all_below, below_whole}
use Rattle.local_run.proofs.Hears.{hearing, right_heard}
use Rattle.region_core.proofs.Traced.{has_trace}

-- ---- the last entry
pub none_there : (at : Stamp) (log : List Entry) → None ≡ last_entry_stamp log → entries_below at log ≡ log
none_there at [] last = refl
none_there at (e ∷ es) last = cc

pub ends_there : (f at s : Stamp) (log : List Entry) (b : Bool) → RiseFrom f log →
    Some s ≡ last_entry_stamp log → IsTrue b ↔ Before s at → IsTrue b ↔ (entries_below at log ≡ log)
ends_there f at s [] b rises last tested = absurd (none-some s (sym last))
ends_there f at s (e ∷ es) b rises last tested =
    let clock : s ≡ clock_of f (e ∷ es) = same_Some s (clock_of (entry_stamp e) es) last in (
      λ h. below_kept f at (e ∷ es) rises (inr (subst (λ (v : Stamp). Before v at) clock (tested.0 h))),
      λ same. tested.1 (elim (kept_below f at (e ∷ es) same) [
        | inl none ↦ cc
        | inr lt ↦ subst (λ (v : Stamp). Before v at) (sym clock) lt
      ]),
    )

-- the entries that are left when some are taken back are all before the stamp
pub nothing_more : (at : Stamp) (log left : List Entry) → left ≡ entries_below at log →
    entries_below at left ≡ left
nothing_more at log left is =
    ap (entries_below at) is ∙ below_whole at (entries_below at log) (all_below at log) ∙ sym is

-- ---- views don't depend on what waits
pub view_by_view : (view : ViewData) (w v : Trails) (log : List Entry) →
    (after_log (record { view = view; waiting = w }) log).view
    ≡ (after_log (record { view = view; waiting = v }) log).view
view_by_view view w v [] = refl
view_by_view view w v (Native x ∷ es) = view_by_view (after_action view x) w v es
view_by_view view w v (Heard q m ∷ es) =
    view_by_view (set_rows view m.rows) (without_first w q) (without_first v q) es

-- ---- another trail
pub heard_there : (ts : Trails) (k : ℕ) (sent : List Message) → k < length ts →
    trail_of (slice_set ts k sent) k ≡ sent
heard_there ts k sent lt = get_or-set_same ts k sent [] lt

pub heard_elsewhere : (ts : Trails) (k q : ℕ) (sent : List Message) → q ≢ k →
    trail_of (slice_set ts k sent) q ≡ trail_of ts q
heard_elsewhere ts k q sent other = get_or-set_other ts k q sent [] other

pub same_base : (mid new : Live) → new.view ≡ mid.view → new.log ≡ mid.log → base_in new ≡ base_in mid
same_base mid new view log = λ i. undone (view i) (backs_in (log i))

pub has_heard : (floor at : Stamp) (k : ℕ) (sent : List Message) (old mid new : Live) →
    base_in mid ≡ base_in old → mid.inbox.heard ≡ old.inbox.heard →
    entries_in mid.log ≡ entries_below at (entries_in old.log) → k < length mid.inbox.heard →
    IsReplaced k sent mid new → HasHeard k sent (run_in floor old) at (run_in floor new)
has_heard floor at k sent old mid new base heard log lt is = record {
  base = same_base mid new is.view is.log ∙ base;
  floor = refl;
  log = ap entries_in is.log ∙ log;
  trail = ap (λ (ts : Trails). trail_of ts k) is.heard ∙ heard_there mid.inbox.heard k sent lt;
  others = λ q other. ap (λ (ts : Trails). trail_of ts q) is.heard
      ∙ heard_elsewhere mid.inbox.heard k q sent other ∙ ap (λ (ts : Trails). trail_of ts q) heard;
}

pub news_live : (home : Home) (floor at : Stamp) (k : ℕ) (sent : List Message) (mid new : Live) →
    IsBodyOf home floor mid → entries_below at (entries_in mid.log) ≡ entries_in mid.log →
    AgreeBelow at (trail_of mid.inbox.heard k) sent → IsHearable home floor k sent →
    k < length mid.inbox.heard → IsReplaced k sent mid new → IsBodyOf home floor new
news_live home floor at k sent mid new live all agree hearable lt is = record {
  right = subst (IsRight home) run (right_heard home (run_in floor mid) k sent at heard live.right agree hearable
      (heard_there mid.inbox.heard k sent lt) (λ q other. heard_elsewhere mid.inbox.heard k q sent other));
  inbox = subst (λ (log : List Logged). IsInbox home (entries_in log) new.inbox) (sym is.log) (record {
    regions = ap length is.heard ∙ length-set mid.inbox.heard k sent ∙ live.inbox.regions;
    counts = ap length is.taken ∙ live.inbox.counts;
    taken = λ q region. ap (λ (v : List ℕ). get_or v q 0) is.taken ∙ live.inbox.taken q region;
  });
  sent = subst (λ (log : List Logged). IsOutbox home (base_in new) (entries_in log) new.sent.items) (sym is.log)
      (subst (λ (b : ViewData). IsOutbox home b (entries_in mid.log) new.sent.items) (sym base)
      (subst (IsOutbox home (base_in mid) (entries_in mid.log)) (sym is.own) live.sent));
  traced = has_trace (base_in mid) new (subst (λ (v : ViewData). IsTraced (base_in mid) v new.log) (sym is.view)
      (subst (IsTraced (base_in mid) mid.view) (sym is.log) live.traced));
  queue = subst (λ (q : QueueData). IsOf q home.rules home.grid home.number) (sym is.queue) live.queue;
  stands = subst (λ (r : Local). StandsFor new.queue (now_of r).view) run
      (subst (λ (q : QueueData). StandsFor q (now_of after).view) (sym is.queue)
      (subst (StandsFor mid.queue)
      (view_by_view (base_in mid) mid.inbox.heard heard (entries_in mid.log)
      ∙ ap (λ (es : List Entry). (after_log (record { view = base_in mid; waiting = heard }) es).view) (sym all))
      live.stands));
}
  where
    base : base_in new ≡ base_in mid
    base = same_base mid new is.view is.log

    heard : Trails
    heard = slice_set mid.inbox.heard k sent

    after : Local
    after = hearing at heard (run_in floor mid)

    run : hearing at (slice_set mid.inbox.heard k sent) (run_in floor mid) ≡ run_in floor new
    run = λ i. record {
      floor = floor;
      base = sym base i;
      heard = sym is.heard i;
      log = (all ∙ ap entries_in (sym is.log)) i;
    }

-- ---- a trail that is mixed
of_both : (P : Message → Type 0) (at : Stamp) (heard sent : List Message) →
    ((m : Message) → IsAmong m heard → P m) → ((m : Message) → IsAmong m sent → P m) →
    (m : Message) → IsAmong m (mixed at heard sent) → P m
of_both P at heard sent first second m among = elim (among_replaced at heard sent m among) [
  | inl was ↦ first m was
  | inr is ↦ second m is
]

pub mixed_hearable : (home : Home) (floor at : Stamp) (k : ℕ) (heard sent : List Message) →
    IsHearable home floor k heard → IsHearable home floor k sent →
    IsHearable home floor k (mixed at heard sent)
mixed_hearable home floor at k heard sent was is = record {
  rises = rises_replaced at heard sent (rises_below at heard was.rises) is.rises;
  from_floor = of_both _ at heard sent was.from_floor is.from_floor;
  before_end = of_both _ at heard sent was.before_end is.before_end;
  rows = of_both _ at heard sent was.rows is.rows;
  linked = of_both _ at heard sent was.linked is.linked;
}

-- from the stamp on at which what is sent differs, the trail is what is sent
pub hears_all : (at : Stamp) (k : ℕ) (sent : List Message) (r new : Local) (answer : Hearing) →
    AgreesUpTo (trail_of r.heard k) sent at →
    HearsOn at k (mixed at (trail_of r.heard k) sent) r answer new → HearsFrom k sent r answer new
hears_all at k sent r new answer agree on = by_answer answer
    (subst (λ (v : List Message). HearsOn at k v r answer new)
    (agreed_part (trail_of r.heard k) sent at agree) on)
  where
    by_answer : (answer : Hearing) → HearsOn at k sent r answer new → HearsFrom k sent r answer new
    by_answer Same none = absurd none
    by_answer Apart none = absurd none
    by_answer (Later d) (is, keeps, has) =
        subst (λ (v : Stamp). HearsFrom k sent r (Later v) new) (sym is) (agree, keeps, has)
    by_answer (Rewound d) (is, drops, has) =
        subst (λ (v : Stamp). HearsFrom k sent r (Rewound v) new) (sym is) (agree, drops, has)

-- ---- what is sent is marked
pub marked_live : (home : Home) (floor : Stamp) (old new : Live) → new.sent.items ≡ old.sent.items →
    new ≡ record old { sent = new.sent } → IsBodyOf home floor old → IsBodyOf home floor new
marked_live home floor old new sent rest live = subst (IsBodyOf home floor) (sym rest) (record {
  right = live.right;
  inbox = live.inbox;
  sent = subst (IsOutbox home (base_in old) (entries_in old.log)) (sym sent) live.sent;
  traced = live.traced;
  queue = live.queue;
  stands = live.stands;
})
