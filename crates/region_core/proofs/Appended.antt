-- What a region keeps, with one more entry.
use Rattle.std.proofs.Common.{◌≡◌, inl, inr, ℕ, ◌+◌, ◌<◌, ◌≤◌, List, [], ◌∷◌, ◌++◌, length, sym, ap, ◌∙◌, subst, refl, arith, Option}
use Rattle.std.specs.Prelude.{IsSome}
use Rattle.std.proofs.lemmas.List.{get_or-set_same, get_or-set_other, length-set}
use Rattle.std.proofs.lemmas.List.Sums.{count_by-le-length}
use Rattle.event_stamps.specs.declared.Stamp.{Stamp}
use Rattle.cell_grid.specs.Grid.{IsRegion}
use Rattle.region_view.specs.declared.action.Action.{Action}
use Rattle.region_view.specs.declared.rows.Message.{Message}
use Rattle.region_view.specs.Views.{ViewData, rows_in}
use Rattle.region_view.specs.Setting.{set_rows, rows_at, rows_set, after_action}
use Rattle.region_view.specs.Messages.{message_of}
use Rattle.region_messages.specs.Trails.{IsAmong, IsAfterAll}
use Rattle.region_view.specs.Acting.{stamp_of}
use Rattle.region_view.specs.Laws.{HasCells, IsValidAction}
use Rattle.region_queue.specs.Queue.{IsOf, StandsFor}
use Rattle.local_run.specs.declared.home.Home.{Home}
use Rattle.local_run.specs.declared.entry.Entry.{Entry}
use Rattle.local_run.specs.declared.entry.Entry.TheVariants.{Native, Heard}
use Rattle.local_run.specs.declared.entry.TheConstants.{MAX_ENTRIES}
use Rattle.region_core.specs.declared.live.Live.{Live}
use Rattle.local_run.specs.declared.moves.Move.TheVariants.{Run, TakeIn}
use Rattle.local_run.specs.Entries.{entry_stamp}
use Rattle.local_run.specs.LocalRun.{Local, Trails, trail_of, prepended, IsInPlace, IsRight, IsMove}
use Rattle.local_run.specs.Answers.{with_entry, IsInTurn}
use Rattle.region_parts.specs.Inbox.{InboxData, next_from, taken_from, with_taken}
use Rattle.region_parts.specs.Sending.{MaySend, HasSent}
use Rattle.local_run.specs.Taken.{is_of, taken_of}
use Rattle.region_core.specs.Live.{base_in, run_in, start_in, now_in, HasTrace, IsInbox, IsOutbox, IsBodyOf}
use Rattle.event_log.specs.Logged.{Logged, entries_in}
use Rattle.event_log.specs.Undoing.{rows_by}
use Rattle.event_log.specs.Traced.{IsTraced}
use Rattle.event_log.specs.Running.{logged_action}
use Rattle.event_log.proofs.Traced.{traced_pushed}
use Rattle.local_run.specs.Keeping.{SendsTo}
use Rattle.local_run.specs.Moves.{Fits}
use Rattle.local_run.proofs.Among.{same_or_other}
use Rattle.local_run.proofs.Taken.{taken_native, taken_heard, taken_from_other}
use Rattle.local_run.proofs.Sent.{sent_native, sent_heard, sent_before_turn}
use Rattle.local_run.proofs.Right.{right_appended, waiting_was_heard}
use Rattle.region_core.proofs.Traced.{now_is, base_is, has_trace, entries_joined}
use Rattle.local_run.proofs.Valid.{valid_now, valid_action}
use Rattle.region_core.proofs.NextMove.{next_of_waits}
use Rattle.region_view.proofs.ValidRows.{setting_keeps_valid}
use Rattle.region_view.specs.Placing.{IsValidPlacing}

-- an entry in the newest view of a body, with the rows that lead back over it
abbrev pub logged_in : Live → Entry → Logged
logged_in live e = (e, rows_at (rows_in live.view) (rows_by live.view e))

-- the parts of a body that is one entry further
pub record IsFurther (home : Home) (live new : Live) (e : Entry) : Type 0 where
  pub heard : new.inbox.heard ≡ live.inbox.heard
  pub log : new.log ≡ live.log ++ logged_in live e ∷ []
  pub view : new.view ≡ set_rows live.view (rows_by live.view e)
  pub queue : IsOf new.queue home.rules home.grid home.number
  pub stands : StandsFor new.queue new.view
  pub inbox : IsInbox home (entries_in live.log ++ e ∷ []) new.inbox
  pub sent : IsOutbox home (base_in live) (entries_in live.log ++ e ∷ []) new.sent.items

appended_traced : (live : Live) (view : ViewData) (log : List Logged) (e : Entry) → HasTrace live →
    log ≡ live.log ++ logged_in live e ∷ [] → view ≡ set_rows live.view (rows_by live.view e) →
    IsTraced (base_in live) view log
appended_traced live view log e traced more set =
    subst (λ (v : ViewData). IsTraced (base_in live) v log) (sym set)
    (subst (IsTraced (base_in live) (set_rows live.view (rows_by live.view e))) (sym more)
    (traced_pushed (base_in live) live.view live.log e traced))

pub further_run : (floor : Stamp) (live new : Live) (e : Entry) → HasTrace live →
    new.inbox.heard ≡ live.inbox.heard → new.log ≡ live.log ++ logged_in live e ∷ [] →
    new.view ≡ set_rows live.view (rows_by live.view e) → run_in floor new ≡ with_entry (run_in floor live) e
further_run floor live new e traced heard more set =
    let base = base_is (base_in live) new (appended_traced live new.view new.log e traced more set) in
    let log = ap entries_in more ∙ entries_joined live.log (logged_in live e ∷ []) in
    λ i. record {
      floor = floor;
      base = base i;
      heard = heard i;
      log = log i;
    }

-- it keeps all again
pub further_is : (home : Home) (floor : Stamp) (live new : Live) (e : Entry) → IsBodyOf home floor live →
    length (entries_in live.log) < MAX_ENTRIES → IsInTurn (run_in floor live) (entry_stamp e) →
    IsMove home (now_in live) e → IsFurther home live new e → IsBodyOf home floor new
further_is home floor live new e kept room turn move is = record {
  right = subst (IsRight home) run (right_appended home (run_in floor live) e kept.right room turn move);
  inbox = subst (λ (r : Local). IsInbox home r.log new.inbox) run is.inbox;
  sent = subst (λ (r : Local). IsOutbox home r.base r.log new.sent.items) run is.sent;
  traced = traced;
  queue = is.queue;
  stands = subst (StandsFor new.queue) (sym (now_is new traced)) is.stands;
}
  where
    run : with_entry (run_in floor live) e ≡ run_in floor new
    run = sym (further_run floor live new e kept.traced is.heard is.log is.view)

    traced : HasTrace new
    traced = has_trace (base_in live) new (appended_traced live new.view new.log e kept.traced is.log is.view)

pub few_of : (q : ℕ) (log : List Entry) → taken_of q log ≤ length log
few_of q log = count_by-le-length (is_of q) log

-- ---- the inbox
pub inbox_native : (home : Home) (log : List Entry) (inbox : InboxData) (x : Action) →
    IsInbox home log inbox → IsInbox home (log ++ Native x ∷ []) inbox
inbox_native home log inbox x is = record {
  regions = is.regions;
  counts = is.counts;
  taken = λ q lt. is.taken q lt ∙ sym (taken_native q x log);
}

pub inbox_heard : (home : Home) (log : List Entry) (inbox : InboxData) (q : ℕ) (m : Message) →
    IsRegion home.grid q → IsInbox home log inbox →
    IsInbox home (log ++ Heard q m ∷ []) (with_taken inbox q)
inbox_heard home log inbox q m region is = record {
  regions = is.regions;
  counts = length-set inbox.taken q (taken_from inbox q + 1) ∙ is.counts;
  taken = λ p lt. elim (same_or_other p q) [
    | inl same ↦ subst (λ (x : ℕ). taken_from (with_taken inbox q) x ≡ taken_of x (log ++ Heard q m ∷ []))
        (sym same) here
    | inr other ↦ get_or-set_other inbox.taken q p (taken_from inbox q + 1) 0 other ∙ is.taken p lt
        ∙ sym (taken_from_other q p m log (λ e. other (sym e)))
  ];
}
  where
    within : q < length inbox.taken
    within = let counts = is.counts in omega arith

    here : taken_from (with_taken inbox q) q ≡ taken_of q (log ++ Heard q m ∷ [])
    here = get_or-set_same inbox.taken q (taken_from inbox q + 1) 0 within
        ∙ ap (λ (n : ℕ). n + 1) (is.taken q region) ∙ sym (taken_heard q m log)

-- ---- the outbox
pub outbox_heard : (home : Home) (floor : Stamp) (live : Live) (q : ℕ) (m : Message) →
    IsOutbox home (base_in live) (entries_in live.log) live.sent.items →
    IsOutbox home (base_in live) ((entries_in live.log) ++ Heard q m ∷ []) live.sent.items
outbox_heard home floor live q m is = record {
  regions = is.regions;
  each = λ to lt linked. is.each to lt linked ∙ sym (sent_heard home.grid to (run_in floor live) q m);
}

pub outbox_native : (home : Home) (floor : Stamp) (live : Live) (x : Action) (sent : Trails) →
    IsOutbox home (base_in live) (entries_in live.log) live.sent.items →
    HasSent home (rows_in (now_in live).view) x live.sent.items sent →
    IsOutbox home (base_in live) ((entries_in live.log) ++ Native x ∷ []) sent
outbox_native home floor live x sent is has = record {
  regions = has.size ∙ is.regions;
  each = λ to lt linked. has.told to (lt, linked)
      ∙ ap (λ (ms : List Message). ms ++ prepended (message_of home.grid to (rows_in (now_in live).view) x) [])
      (is.each to lt linked)
      ∙ sym (sent_native home.grid to (run_in floor live) x);
}

-- a message that waits is that of a region
pub sender_is_region : (home : Home) (floor : Stamp) (live : Live) (q : ℕ) (m : Message) →
    IsBodyOf home floor live → Fits home (run_in floor live) (TakeIn q m) → IsRegion home.grid q
sender_is_region home floor live q m is fits =
    let first = fits.2.first in
    let among = waiting_was_heard (start_in live) (entries_in live.log) q m
    (subst (IsAmong m) (sym first.1) (inl refl)) in
    ((is.right.heard q).linked m among).0

-- ---- what may be taken in
heard_among : (home : Home) (floor : Stamp) (live : Live) (q : ℕ) (m : Message) →
    Fits home (run_in floor live) (TakeIn q m) → IsAmong m (trail_of live.inbox.heard q)
heard_among home floor live q m fits =
    waiting_was_heard (start_in live) (entries_in live.log) q m
    (subst (IsAmong m) (sym fits.2.first.1) (inl refl))

pub heard_valid : (home : Home) (floor : Stamp) (live : Live) (q : ℕ) (m : Message) → IsInPlace home →
    IsBodyOf home floor live → Fits home (run_in floor live) (TakeIn q m) →
    IsValidPlacing live.queue.rules live.queue.grid (rows_in (set_rows live.view m.rows))
heard_valid home floor live q m place is fits =
    let rows = ((is.right.heard q).rows m (heard_among home floor live q m fits)).1 in
    let valid = setting_keeps_valid home.rules home.grid (now_in live).view m.rows
    (valid_now home (run_in floor live) place is.right) rows in
    subst (λ (v : ViewData). IsValidPlacing live.queue.rules live.queue.grid (rows_in (set_rows v m.rows)))
    (now_is live is.traced)
    (subst (λ (h : Home). IsValidPlacing h.rules h.grid (rows_in (set_rows (now_in live).view m.rows)))
    (λ i. record {
      number = home.number;
      rules = sym is.queue.rules i;
      grid = sym is.queue.grid i;
    }) valid)

pub waits_in : (home : Home) (floor : Stamp) (live : Live) (q : ℕ) (m : Message) →
    IsBodyOf home floor live → Fits home (run_in floor live) (TakeIn q m) →
    IsSome (next_from live.inbox q)
waits_in home floor live q m is fits =
    subst (λ (o : Option Message). IsSome o)
    (sym (next_of_waits home live is.inbox q m fits.2.first.0 fits.2.first.1)) refl

pub few_taken : (home : Home) (floor : Stamp) (live : Live) (q : ℕ) (m : Message) →
    IsBodyOf home floor live → Fits home (run_in floor live) (TakeIn q m) →
    taken_from live.inbox q < MAX_ENTRIES
few_taken home floor live q m is fits =
    let same = is.inbox.taken q (sender_is_region home floor live q m is fits) in
    let room = fits.0.0 in
    let few = few_of q (entries_in live.log) in
    omega arith

-- ---- what may be run
pub native_action : (home : Home) (floor : Stamp) (live : Live) (x : Action) → IsInPlace home →
    IsBodyOf home floor live → Fits home (run_in floor live) (Run x) →
    IsValidAction home.rules home.grid (rows_in (now_in live).view) (stamp_of x) x
native_action home floor live x place is fits = valid_action home (now_in live) x place
    (valid_now home (run_in floor live) place is.right) fits.2

pub native_valid : (home : Home) (floor : Stamp) (live : Live) (x : Action) → IsInPlace home →
    IsBodyOf home floor live → Fits home (run_in floor live) (Run x) →
    IsValidPlacing live.queue.rules live.queue.grid (rows_in (after_action live.view x))
native_valid home floor live x place is fits =
    let rows = (native_action home floor live x place is fits).rows in
    let valid = setting_keeps_valid home.rules home.grid (now_in live).view
    (rows_set (rows_in (now_in live).view) x)
    (valid_now home (run_in floor live) place is.right) rows in
    subst (λ (v : ViewData). IsValidPlacing live.queue.rules live.queue.grid (rows_in (after_action v x)))
    (now_is live is.traced)
    (subst (λ (h : Home). IsValidPlacing h.rules h.grid (rows_in (after_action (now_in live).view x)))
    (λ i. record {
      number = home.number;
      rules = sym is.queue.rules i;
      grid = sym is.queue.grid i;
    }) valid)

after_what_was_sent : (home : Home) (floor : Stamp) (live : Live) (x : Action) → IsBodyOf home floor live →
    Fits home (run_in floor live) (Run x) → (to : ℕ) → SendsTo home to →
    IsAfterAll (trail_of live.sent.items to) (stamp_of x)
after_what_was_sent home floor live x is fits to sends m among =
    sent_before_turn home.grid to (base_in live) floor (stamp_of x) (entries_in live.log) is.right.rises fits.1.1 m
    (subst (IsAmong m) (is.sent.each to sends.0 sends.1) among)

pub may_send : (home : Home) (floor : Stamp) (live : Live) (x : Action) → IsInPlace home → IsBodyOf home floor live →
    Fits home (run_in floor live) (Run x) → MaySend home (rows_in live.view) x live.sent.items
may_send home floor live x place is fits =
    let valid = native_action home floor live x place is fits in
    record {
      number = place.number;
      cells = subst (λ (v : ViewData). HasCells home.grid (rows_in v)) (now_is live is.traced)
          (valid_now home (run_in floor live) place is.right).cell;
      order = valid.order;
      cell = valid.cell;
      size = is.sent.regions;
      after = after_what_was_sent home floor live x is fits;
    }

-- ---- what ran
-- a body that ran an action and sent its messages, in parts
pub record HasActed (home : Home) (live new : Live) (x : Action) : Type 0 where
  pub inbox : new.inbox ≡ live.inbox
  pub log : new.log ≡ live.log ++ logged_action live.view x ∷ []
  pub view : new.view ≡ after_action live.view x
  pub queue : IsOf new.queue live.queue.rules live.queue.grid live.queue.region
  pub stands : StandsFor new.queue new.view
  pub sent : HasSent home (rows_in live.view) x live.sent.items new.sent.items

pub acted_is_live : (home : Home) (floor : Stamp) (live new : Live) (x : Action) → IsBodyOf home floor live →
    Fits home (run_in floor live) (Run x) → HasActed home live new x → IsBodyOf home floor new
acted_is_live home floor live new x kept fits is =
    further_is home floor live new (Native x) kept fits.0.0 fits.1 fits.2
    record {
      heard = ap (λ (i : InboxData). i.heard) is.inbox;
      log = is.log;
      view = is.view;
      queue = record {
        rules = is.queue.rules ∙ kept.queue.rules;
        grid = is.queue.grid ∙ kept.queue.grid;
        region = is.queue.region ∙ kept.queue.region;
      };
      stands = is.stands;
      inbox = subst (IsInbox home (entries_in live.log ++ Native x ∷ [])) (sym is.inbox)
          (inbox_native home (entries_in live.log) live.inbox x kept.inbox);
      sent = outbox_native home floor live x new.sent.items kept.sent
          (subst (λ (v : ViewData). HasSent home (rows_in v) x live.sent.items new.sent.items)
          (sym (now_is live kept.traced)) is.sent);
    }
