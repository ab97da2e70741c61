-- One event: its home runs it, and the regions that are linked to the home take it in.
use Rattle.std.proofs.Common.{◌≡◌, ◌≢◌, ◌⊎◌, inl, inr, ℕ, ◌+◌, List, [], ◌∷◌, ◌++◌, sym, ap, ◌∙◌, subst, refl, arith, Option, Some, None}
use Rattle.event_stamps.specs.declared.Stamp.{Stamp}
use Rattle.event_stamps.specs.Order.{Before, end_stamp}
use Rattle.event_stamps.proofs.StampOrder.{not_before_itself, before_trans, before_tick}
use Rattle.event_stamps.proofs.Least.{one_least}
use Rattle.cell_grid.specs.Grid.{IsRegion, AreLinked}
use Rattle.region_view.specs.declared.action.Action.{Action}
use Rattle.region_view.specs.declared.rows.Message.{Message}
use Rattle.region_view.specs.Acting.{stamp_of}
use Rattle.region_view.specs.Views.{ViewData, rows_in}
use Rattle.region_view.specs.Setting.{set_rows, after_action}
use Rattle.region_view.specs.Messages.{message_of}
use Rattle.region_messages.specs.Trails.{IsAmong, AgreesUpTo, below}
use Rattle.region_messages.proofs.Order.{before_not_before}
use Rattle.cell_sequence.specs.State.{CellStateData, IsCellState, followed}
use Rattle.cell_sequence.specs.Laws.{Sees, IsNextAction, IsHomeOf}
use Rattle.cell_sequence.proofs.Orderly.{cell_states_are_orderly}
use Rattle.cell_sequence.proofs.Seen.{next_actions_are_seen}
use Rattle.local_run.specs.declared.entry.Entry.{Entry}
use Rattle.local_run.specs.declared.entry.Entry.TheVariants.{Native, Heard}
use Rattle.local_run.specs.declared.answers.Step.{Step}
use Rattle.local_run.specs.declared.answers.Step.TheVariants.{Ran, Heard as Took, Idle, Past, Tied, Halted, Held, Spent}
use Rattle.local_run.specs.declared.answers.Hearing.{Hearing}
use Rattle.local_run.specs.declared.answers.Hearing.TheVariants.{Same, Rewound, Later, Apart}
use Rattle.local_run.specs.LocalRun.{At, Local, trail_of, messages_after_first, without_first, start_of, now_of}
use Rattle.local_run.specs.Entries.{entries_below}
use Rattle.local_run.specs.LocalRun.{IsWaiting, IsOwn, IsOffered, IsDue, sent_to, prepended}
use Rattle.local_run.specs.Answers.{StepsTo, HearsFrom, IsInTurn, IsShared, with_entry}
use Rattle.local_run.specs.Opening.{home_of}
use Rattle.local_run.proofs.Among.{same_trail, other_trail, same_or_other}
use Rattle.local_run.proofs.Sent.{message_stamp}
use Rattle.commit_horizon.specs.Horizon.{LocalRuns, IsBound, IsHorizon}
use Rattle.commit_horizon.proofs.Offered.{cell_laws}
use Rattle.run_core.specs.Hearings.{sent_by}
use Rattle.run_core.specs.Second.{StepsIfLater, TakesIn, AllTakeIn}
use Rattle.run_core.proofs.Stamps.{next_stamp, before_next, after_is_next}
use Rattle.run_core.proofs.Fresh.{IsFresh, AllFresh, IsStill, IsNextAt, offered_is, fresh_now, in_turn, full_not_empty}

-- regions after region k ran the next action, and those linked to it took it in
pub record OneEvent (state : CellStateData) (k : ℕ) (x : Action) (fresh after : LocalRuns) : Type 0 where
  pub within : IsRegion state.grid k
  pub next : IsNextAction state x
  pub home : IsHomeOf state (stamp_of x) k
  pub ran : LocalRuns
  pub home_ran : ran k ≡ with_entry (fresh k) (Native x)
  pub others : (q : ℕ) → q ≢ k → ran q ≡ fresh q
  pub took_in : AllTakeIn state ran k after

-- region q heard region k's message of the action and took it in
record IsTold (state : CellStateData) (k : ℕ) (x : Action) (view : ViewData) (q : ℕ)
    (f run : Local) : Type 0 where
  apart : k ≢ q
  message : Message
  sent : message_of state.grid q (rows_in view) x ≡ Some message
  base : run.base ≡ f.base
  log : run.log ≡ Heard k message ∷ []
  trail : trail_of run.heard k ≡ message ∷ []
  others : (y : ℕ) → y ≢ k → trail_of run.heard y ≡ []

-- nothing was told to region q
record IsKept (state : CellStateData) (k : ℕ) (x : Action) (view : ViewData) (q : ℕ)
    (f run : Local) : Type 0 where
  apart : k ≢ q
  nothing : AreLinked state.grid k q → message_of state.grid q (rows_in view) x ≡ None
  same : run ≡ f

at_end : (run : Local) (e : Entry) → run.log ≡ [] → run.log ++ e ∷ [] ≡ e ∷ []
at_end run e is = ap (λ (v : List Entry). v ++ e ∷ []) is

no_news : (d : Stamp) → AgreesUpTo [] [] d → ⊥
no_news d h = h.beyond (record d { tick = d.tick + 1 })
    (before_tick d (record d { tick = d.tick + 1 }) (omega arith)) refl

-- ---- a region that is told
-- fresh but for one message, of the next event
record HasNews (state : CellStateData) (k q : ℕ) (s : Stamp) (run : Local) (m : Message) : Type 0 where
  apart : k ≢ q
  within : IsRegion state.grid q
  base : Sees state q run.base
  floor : run.floor ≡ state.floor
  log : run.log ≡ []
  trail : trail_of run.heard k ≡ m ∷ []
  others : (y : ℕ) → y ≢ k → trail_of run.heard y ≡ []
  stamp : m.stamp ≡ s

module _ (state : CellStateData) (k q : ℕ) (s : Stamp) (is : IsCellState state)
    (next : IsNextAt state k s) (run : Local) (m : Message) (news : HasNews state k q s run m) where
  now_is : now_of run ≡ start_of run
  now_is = fresh_now run news.log

  not_own : ¬ IsOwn (home_of state q) run.base s
  not_own own =
      let laws = cell_laws state is in
      news.apart (laws.one_home s k q next.0.0 next.1
      (laws.native q run.base s news.within news.base own).1)

  -- what waits is this message
  from_k : (y : ℕ) (n : Message) → IsAmong n (trail_of run.heard y) → (y ≡ k) × (n ≡ m)
  from_k y n among = elim (same_or_other y k) [
    | inl here ↦ (here, by_one (subst (IsAmong n) (ap (trail_of run.heard) here ∙ news.trail) among))
    | inr other ↦ absurd (subst (IsAmong n) (news.others y other) among)
  ]
    where
      by_one : IsAmong n (m ∷ []) → n ≡ m
      by_one (inl same) = same
      by_one (inr none) = absurd none

  waits_at : (t : Stamp) → IsWaiting run.heard t → t ≡ s
  unfolding IsWaiting
  waits_at t (y, n, among, at) =
      sym at ∙ ap (λ (v : Message). v.stamp) (from_k y n among).1 ∙ news.stamp

  waits : IsWaiting run.heard s
  unfolding IsWaiting
  waits = (k, m, subst (IsAmong m) (sym news.trail) (inl refl), news.stamp)

  due : IsDue (home_of state q) (start_of run) s
  due = (inr waits, not_before)
    where
      not_before : (t : Stamp) → IsOffered (home_of state q) (start_of run) t → ¬ Before t s
      not_before t (inl own) =
          next.0.1 t ((cell_laws state is).native q run.base t news.within news.base own).0
      not_before t (inr waiting) =
          subst (λ (v : Stamp). ¬ Before v s) (sym (waits_at t waiting)) (not_before_itself s)

  is_due : (t : Stamp) → IsDue (home_of state q) (now_of run) t → t ≡ s
  is_due t other = one_least (IsOffered (home_of state q) (start_of run)) t s
      (subst (λ (v : At). IsDue (home_of state q) v t) now_is other) due

  turn : IsInTurn run s
  turn = in_turn run s state.floor news.floor news.log ((cell_laws state is).floor s next.0.0)

  not_shared : (t : Stamp) → t ≡ s → ¬ IsShared (home_of state q) (start_of run) t
  not_shared t same (inl both) = not_own (subst (IsOwn (home_of state q) run.base) same both.0)
  not_shared t same (inr (y, z, n, o, ne, an, ao, en, eo)) = ne ((from_k y n an).0 ∙ sym (from_k z o ao).0)

  own_now : (t : Stamp) → t ≡ s → ¬ IsOwn (home_of state q) (now_of run).view t
  own_now t same own = not_own (subst (IsOwn (home_of state q) run.base) same
      (subst (λ (v : At). IsOwn (home_of state q) v.view t) now_is own))

  -- its step takes it in
  takes_it : (step : Step) (new : Local) → StepsTo (home_of state q) run step new →
      new ≡ with_entry run (Heard k m)
  takes_it (Ran t) new (has, order, (y, at, move, leaves)) =
      absurd (own_now (stamp_of y) (is_due (stamp_of y) move.due) move.native)
  takes_it (Took t) new (has, order, (y, n, at, move, leaves)) =
      let first = subst (λ (v : At). trail_of v.waiting y ≡ n ∷ move.first.0) now_is move.first.1 in
      let which = from_k y n (subst (IsAmong n) (sym first) (inl refl)) in
      leaves ∙ ap (λ (v : ℕ). with_entry run (Heard v n)) which.0
      ∙ ap (λ (v : Message). with_entry run (Heard k v)) which.1
  takes_it Idle new (few, none, leaves) =
      absurd (none s (subst (λ (v : At). IsOffered (home_of state q) v s) (sym now_is) due.0))
  takes_it (Past t clock) new (has, not, at, leaves) =
      absurd (not (subst (IsInTurn run) (sym (is_due t has.1)) turn))
  takes_it (Tied t) new (has, order, shared, leaves) = absurd (not_shared t (is_due t has.1)
      (subst (λ (v : At). IsShared (home_of state q) v t) now_is shared))
  takes_it (Halted limit) new ((t, has, order, alone, own, comes), leaves) =
      absurd (own_now t (is_due t has.1) own)
  takes_it Held new (full, leaves) = absurd (full_not_empty run.log news.log full)
  takes_it Spent new none = absurd none

-- ---- all regions
module _ (state : CellStateData) (k : ℕ) (x : Action) (fresh after : LocalRuns) (is : IsCellState state)
    (all : AllFresh state fresh) (one : OneEvent state k x fresh after) where
  home_fresh : IsFresh state k (fresh k)
  home_fresh = all k one.within

  leads : IsCellState (followed state x)
  leads = (next_actions_are_seen state x is one.next).leads

  -- what the home sends
  sent : (q : ℕ) →
      sent_by state one.ran k q ≡ prepended (message_of state.grid q (rows_in (fresh k).base) x) []
  sent q = ap (λ (v : Local). sent_to state.grid q v.base v.log) one.home_ran
      ∙ ap (sent_to state.grid q (fresh k).base) (at_end (fresh k) (Native x) home_fresh.log)

  -- how a linked region takes it in
  abbrev Told : ℕ → Type 0
  Told q = IsTold state k x (fresh k).base q (fresh q) (after q)
      ⊎ IsKept state k x (fresh k).base q (fresh q) (after q)

  takes_in : (q : ℕ) → IsRegion state.grid q → AreLinked state.grid k q →
      TakesIn state one.ran k q (after q) → Told q
  takes_in q lt linked takes = by_message (message_of state.grid q (rows_in (fresh k).base) x) refl
    where
      f : IsFresh state q (fresh q)
      f = all q lt

      heard : (ms : List Message) → prepended (message_of state.grid q (rows_in (fresh k).base) x) [] ≡ ms →
          HearsFrom k ms (fresh q) takes.answer takes.mid
      heard ms e = subst (λ (v : List Message). HearsFrom k v (fresh q) takes.answer takes.mid) (sent q ∙ e)
          (subst (λ (v : Local). HearsFrom k (sent_by state one.ran k q) v takes.answer takes.mid)
          (one.others q (λ e. linked.0 (sym e))) takes.hears)

      by_none : message_of state.grid q (rows_in (fresh k).base) x ≡ None → (answer : Hearing) →
          HearsFrom k [] (fresh q) answer takes.mid → StepsIfLater state q answer takes.mid (after q) →
          Told q
      by_none msg Same h steps =
          inr (record { apart = linked.0; nothing = λ _. msg; same = steps ∙ h.1 })
      by_none msg (Later d) h steps =
          absurd (no_news d (subst (λ (v : List Message). AgreesUpTo v [] d) (f.silent k) h.0))
      by_none msg (Rewound d) h steps =
          absurd (no_news d (subst (λ (v : List Message). AgreesUpTo v [] d) (f.silent k) h.0))
      by_none msg Apart h steps = absurd h

      by_some : (m : Message) → message_of state.grid q (rows_in (fresh k).base) x ≡ Some m →
          (answer : Hearing) → HearsFrom k (m ∷ []) (fresh q) answer takes.mid →
          StepsIfLater state q answer takes.mid (after q) → Told q
      by_some m msg Same h steps = let wrong : [] ≡ m ∷ [] = sym (f.silent k) ∙ h.0 in cc
      by_some m msg (Later d) h (step, steps) =
          let log : takes.mid.log ≡ [] = h.2.log ∙ ap (entries_below d) f.log in
          let others : (y : ℕ) → y ≢ k → trail_of takes.mid.heard y ≡ [] =
          λ y ne. h.2.others y ne ∙ f.silent y in
          let news : HasNews state k q (stamp_of x) takes.mid m = record {
            apart = linked.0;
            within = lt;
            base = subst (Sees state q) (sym h.2.base) f.base;
            floor = h.2.floor ∙ f.floor;
            log = log;
            trail = h.2.trail;
            others = others;
            stamp = message_stamp state.grid q (rows_in (fresh k).base) x m msg;
          } in
          let took : after q ≡ with_entry takes.mid (Heard k m) =
          takes_it state k q (stamp_of x) is (one.next.0, one.home) takes.mid m news step (after q) steps in
          inl (record {
            apart = linked.0;
            message = m;
            sent = msg;
            base = ap (λ (v : Local). v.base) took ∙ h.2.base;
            log = ap (λ (v : Local). v.log) took ∙ at_end takes.mid (Heard k m) log;
            trail = ap (λ (v : Local). trail_of v.heard k) took ∙ h.2.trail;
            others = λ y ne. ap (λ (v : Local). trail_of v.heard y) took ∙ others y ne;
          })
      by_some m msg (Rewound d) h steps = absurd (h.1 (ap (entries_below d) f.log ∙ sym f.log))
      by_some m msg Apart h steps = absurd h

      by_message : (o : Option Message) → message_of state.grid q (rows_in (fresh k).base) x ≡ o → Told q
      by_message None msg = by_none msg takes.answer
          (heard [] (ap (λ (v : Option Message). prepended v []) msg)) takes.steps
      by_message (Some m) msg = by_some m msg takes.answer
          (heard (m ∷ []) (ap (λ (v : Option Message). prepended v []) msg)) takes.steps

  -- each region afterwards
  abbrev Became : ℕ → Type 0
  Became q = ((q ≡ k) × (after q ≡ with_entry (fresh k) (Native x))) ⊎ Told q

  became : (q : ℕ) → IsRegion state.grid q → Became q
  became q lt = elim (one.took_in q lt) [
    | inl takes ↦ inr (takes_in q lt takes.0 takes.1)
    | inr kept ↦ elim (same_or_other q k) [
      | inl here ↦ inl (here, kept.1 ∙ ap one.ran here ∙ one.home_ran)
      | inr other ↦ inr (inr (record {
        apart = λ e. other (sym e);
        nothing = λ linked. absurd (kept.0 linked);
        same = kept.1 ∙ one.others q other;
      }))
    ]
  ]

  native_at : (run : Local) → run ≡ with_entry (fresh k) (Native x) →
      now_of run ≡ record { view = after_action (fresh k).base x; waiting = (fresh k).heard }
  native_at run e = ap now_of e
      ∙ ap (λ (v : List Entry). now_of (record (fresh k) { log = v }))
      (at_end (fresh k) (Native x) home_fresh.log)

  told_at : (run : Local) (m : Message) → run.log ≡ Heard k m ∷ [] →
      now_of run ≡ record { view = set_rows run.base m.rows; waiting = without_first run.heard k }
  told_at run m e = ap (λ (v : List Entry). now_of (record run { log = v })) e

  -- each sees the state after the action, and has nothing to take in
  still : (q : ℕ) → IsRegion state.grid q → IsStill (followed state x) q (now_of (after q))
  still q lt = by_case (became q lt)
    where
      by_case : Became q → IsStill (followed state x) q (now_of (after q))
      by_case (inl (here, ran)) = subst (IsStill (followed state x) q) (sym (native_at (after q) ran)) (
        subst (λ (n : ℕ). Sees (followed state x) n (after_action (fresh k).base x)) (sym here)
            ((cell_laws state is).view_home k (fresh k).base x one.next one.home home_fresh.base),
        home_fresh.silent,
      )
      by_case (inr (inl t)) =
          subst (IsStill (followed state x) q) (sym (told_at (after q) t.message t.log)) (
            subst (λ (v : ViewData). Sees (followed state x) q (set_rows v t.message.rows)) (sym t.base)
                ((cell_laws state is).view_told k q (fresh k).base (fresh q).base x t.message one.next
                one.home home_fresh.base (all q lt).base t.sent),
            silent,
          )
        where
          silent : (y : ℕ) → trail_of (without_first (after q).heard k) y ≡ []
          silent y = elim (same_or_other y k) [
            | inl here ↦ ap (trail_of (without_first (after q).heard k)) here
                ∙ same_trail (after q).heard k ∙ ap messages_after_first t.trail
            | inr other ↦ other_trail (after q).heard k y other ∙ t.others y other
          ]
      by_case (inr (inr kept)) = subst (IsStill (followed state x) q) (ap now_of (sym kept.same))
          (subst (IsStill (followed state x) q) (sym (fresh_now (fresh q) (all q lt).log)) (
            (cell_laws state is).view_kept k q (fresh k).base (fresh q).base x one.next one.home
                home_fresh.base (all q lt).base kept.apart lt kept.nothing,
            (all q lt).silent,
          ))

  -- what one sent is what another heard
  others_silent : (y z : ℕ) → IsRegion state.grid z → y ≢ k → trail_of (after z).heard y ≡ []
  others_silent y z lt ne = by_hearer (became z lt)
    where
      by_hearer : Became z → trail_of (after z).heard y ≡ []
      by_hearer (inl (here, ran)) = ap (λ (v : Local). trail_of v.heard y) ran ∙ home_fresh.silent y
      by_hearer (inr (inl t)) = t.others y ne
      by_hearer (inr (inr kept)) = ap (λ (v : Local). trail_of v.heard y) kept.same ∙ (all z lt).silent y

  home_heard : (z : ℕ) → IsRegion state.grid z → AreLinked state.grid k z →
      prepended (message_of state.grid z (rows_in (fresh k).base) x) [] ≡ trail_of (after z).heard k
  home_heard z lt linked = by_hearer (became z lt)
    where
      by_hearer : Became z →
          prepended (message_of state.grid z (rows_in (fresh k).base) x) [] ≡ trail_of (after z).heard k
      by_hearer (inl (is_k, ran)) = absurd (linked.0 (sym is_k))
      by_hearer (inr (inl t)) = ap (λ (v : Option Message). prepended v []) t.sent ∙ sym t.trail
      by_hearer (inr (inr kept)) = ap (λ (v : Option Message). prepended v []) (kept.nothing linked)
          ∙ sym (ap (λ (v : Local). trail_of v.heard k) kept.same ∙ (all z lt).silent k)

  agree : (y z : ℕ) → IsRegion state.grid y → IsRegion state.grid z → AreLinked state.grid y z →
      sent_by state after y z ≡ trail_of (after z).heard y
  agree y z sends hears linked = by_sender (became y sends)
    where
      by_sender : Became y → sent_by state after y z ≡ trail_of (after z).heard y
      by_sender (inl (here, ran)) = ap (λ (v : Local). sent_to state.grid z v.base v.log) ran
          ∙ ap (sent_to state.grid z (fresh k).base) (at_end (fresh k) (Native x) home_fresh.log)
          ∙ home_heard z hears (subst (λ (n : ℕ). AreLinked state.grid n z) here linked)
          ∙ ap (trail_of (after z).heard) (sym here)
      by_sender (inr (inl t)) = ap (sent_to state.grid z (after y).base) t.log
          ∙ sym (others_silent y z hears (λ e. t.apart (sym e)))
      by_sender (inr (inr kept)) = ap (λ (v : Local). sent_to state.grid z v.base v.log) kept.same
          ∙ ap (sent_to state.grid z (fresh y).base) (all y sends).log
          ∙ sym (others_silent y z hears (λ e. kept.apart (sym e)))

  -- so the stamp that follows the action's is a bound
  pub event_bound : IsBound state after (next_stamp (stamp_of x))
  event_bound = record {
    end = after_is_next (stamp_of x) (end_stamp state.rules.end)
        ((cell_states_are_orderly state is).before_end (stamp_of x) one.next.0.0);
    floor = λ less. (cell_laws state is).floor (stamp_of x) one.next.0.0
        (before_trans (stamp_of x) (next_stamp (stamp_of x)) state.floor (before_next (stamp_of x)) less);
    due = λ q t lt off. inl (after_is_next (stamp_of x) t ((next_actions_are_seen state x is one.next).rises t
        (offered_is (followed state x) q (now_of (after q)) t (cell_laws (followed state x) leads) lt
        (still q lt) off).1));
    agree = λ y z sends hears linked. ap (below (next_stamp (stamp_of x))) (agree y z sends hears linked);
  }

  -- and the horizon is after the action
  pub event_is_below : (h : Stamp) → IsHorizon state after h → Before (stamp_of x) h
  event_is_below h horizon = before_not_before (stamp_of x) h (next_stamp (stamp_of x))
      (before_next (stamp_of x)) (horizon.greatest (next_stamp (stamp_of x)) event_bound)
