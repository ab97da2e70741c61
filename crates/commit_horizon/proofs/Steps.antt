-- The central step: the least native entry is the next action, and after it all regions go on.
use Rattle.std.proofs.Common.{◌≡◌, ◌≢◌, ◌⊎◌, inl, inr, ℕ, List, [], ◌∷◌, sym, ap, ◌∙◌, subst, refl}
use Rattle.std.proofs.Common.{Option, Some, None, Ok}
use Rattle.event_stamps.specs.declared.Stamp.{Stamp}
use Rattle.event_stamps.specs.Order.{Before}
use Rattle.event_stamps.proofs.StampOrder.{before_trans, not_before_itself, same_stamp}
use Rattle.cell_grid.specs.Grid.{IsRegion, AreLinked}
use Rattle.region_view.specs.declared.action.Action.{Action}
use Rattle.region_view.specs.declared.rows.Message.{Message}
use Rattle.region_view.specs.Acting.{stamp_of}
use Rattle.region_view.specs.Views.{ViewData, rows_in}
use Rattle.region_view.specs.Setting.{set_rows, after_action}
use Rattle.region_view.specs.Messages.{message_of}
use Rattle.region_messages.specs.Trails.{IsAmong, below, AgreeBelow}
use Rattle.region_messages.proofs.Among.{among_right}
use Rattle.region_messages.proofs.Order.{before_not_before}
use Rattle.region_messages.proofs.Parts.{among_below, below_among, below_first, first_of_below}
use Rattle.cell_sequence.specs.State.{CellStateData, HasNoneBelow, followed}
use Rattle.cell_sequence.specs.Laws.{Sees, IsNextAction, IsHomeOf}
use Rattle.local_run.specs.declared.home.Home.{Home}
use Rattle.local_run.specs.declared.entry.Entry.{Entry}
use Rattle.local_run.specs.declared.entry.Entry.TheVariants.{Native, Heard}
use Rattle.local_run.specs.Entries.{entry_stamp, RiseFrom}
use Rattle.local_run.specs.LocalRun.{At, Local, Trails, trail_of, messages_after_first, without_first}
use Rattle.local_run.specs.LocalRun.{after_entry, after_log, start_of, Moves, IsMove, IsDue, IsOwn}
use Rattle.local_run.specs.LocalRun.{IsOffered, IsWaiting, sent_to, prepended}
use Rattle.local_run.specs.Opening.{home_of}
use Rattle.local_run.proofs.Among.{AllRise, rise_without, same_trail, other_trail, same_or_other}
use Rattle.local_run.proofs.Among.{among_rest, waits_first}
use Rattle.local_run.proofs.Sent.{message_stamp, sent_by, sent_after}
use Rattle.commit_horizon.specs.Horizon.{LocalRuns}
use Rattle.commit_horizon.proofs.GoesOn.{CellLaws, GoesOn, Agree, AllGoOn, NoneBefore, IsLeastEntry}
use Rattle.commit_horizon.proofs.GoesOn.{HeadNotBefore, after_first, past, CentralStep, CentralEnd}
use Rattle.commit_horizon.proofs.Past.{HeadAfter, head_is, rises_rest, past_cases, past_first}

move_due : (h : Home) (a : At) (e : Entry) → IsMove h a e → IsDue h a (entry_stamp e)
move_due h a (Native x) move = move.due
move_due h a (Heard q m) move = move.due

-- ---- the trails after an entry
-- the trail of k without the first message of p
rest_or_same : (waiting : Trails) (p k : ℕ) →
    (trail_of (without_first waiting p) k ≡ messages_after_first (trail_of waiting k))
    ⊎ (trail_of (without_first waiting p) k ≡ trail_of waiting k)
rest_or_same waiting p k = elim (same_or_other k p) [
  | inl same ↦ inl (subst (λ (v : ℕ). trail_of (without_first waiting p) v ≡ messages_after_first (trail_of waiting v))
      (sym same) (same_trail waiting p))
  | inr other ↦ inr (other_trail waiting p k other)
]

rise_after : (a : At) (e : Entry) → AllRise a.waiting → AllRise (after_entry a e).waiting
rise_after a (Native x) rise = rise
rise_after a (Heard p m) rise = rise_without a.waiting p rise

among_before : (a : At) (e : Entry) (k : ℕ) (m : Message) →
    IsAmong m (trail_of (after_entry a e).waiting k) → IsAmong m (trail_of a.waiting k)
among_before a (Native x) k m among = among
among_before a (Heard p n) k m among = elim (rest_or_same a.waiting p k) [
  | inl rest ↦ among_rest (trail_of a.waiting k) m (subst (IsAmong m) rest among)
  | inr same ↦ subst (IsAmong m) same among
]

module _ (state : CellStateData) (h : Stamp) (runs : LocalRuns) (laws : CellLaws state)
    (all : AllGoOn state h runs) where
  -- what the first entry of x sends to y
  sent_first : (x y : ℕ) (a : Action) (es : List Entry) → (runs x).log ≡ Native a ∷ es →
      (o : Option Message) → message_of state.grid y (rows_in (runs x).base) a ≡ o →
      sent_to state.grid y (runs x).base (runs x).log
      ≡ prepended o (sent_to state.grid y (after_action (runs x).base a) es)
  sent_first x y a es is o message = ap (sent_to state.grid y (runs x).base) is
      ∙ ap (λ (v : Option Message). prepended v (sent_to state.grid y (after_action (runs x).base a) es)) message

  -- what r heard from q before h, q sent
  was_sent : (r q : ℕ) → IsRegion state.grid r → (m : Message) → IsAmong m (trail_of (runs r).heard q) →
      Before m.stamp h → IsAmong m (sent_to state.grid r (runs q).base (runs q).log)
  was_sent r q within m among before =
      let here = all.each r within in
      let linked = here.linked q m among in
      let known : IsAmong m (below h (trail_of (runs r).heard q))
      = among_below h (trail_of (runs r).heard q) m (here.trails q) among before in
      below_among h (sent_to state.grid r (runs q).base (runs q).log) m
      (subst (IsAmong m) (sym (all.agree q r linked.0 within linked.1)) known)

  -- for a native entry of the same stamp
  heard_sent : (r q : ℕ) → IsRegion state.grid r → (m : Message) → IsAmong m (trail_of (runs r).heard q) →
      Before m.stamp h → (a : Action) × IsAmong (Native a) (runs q).log × (stamp_of a ≡ m.stamp)
  heard_sent r q within m among before =
      let by = sent_by state.grid r (start_of (runs q)) (runs q).log m
      (was_sent r q within m among before) in (
        by.action,
        subst (IsAmong (Native by.action)) (sym by.parts)
            (among_right (Native by.action) by.before (Native by.action ∷ by.rest) (inl refl)),
        sym (message_stamp state.grid r _ by.action m by.message),
      )

  -- the first entry of a log is its move
  first_move : (r : ℕ) → IsRegion state.grid r → (e : Entry) (es : List Entry) → (runs r).log ≡ e ∷ es →
      IsMove (home_of state r) (start_of (runs r)) e
  first_move r within e es is =
      let moves : Moves (home_of state r) (start_of (runs r)) (e ∷ es)
      = subst (Moves (home_of state r) (start_of (runs r))) is (all.each r within).moves in
      moves.0

  heard_first : (r : ℕ) → IsRegion state.grid r → (q : ℕ) (m : Message) (es : List Entry) →
      (runs r).log ≡ Heard q m ∷ es → IsAmong m (trail_of (runs r).heard q)
  heard_first r within q m es is =
      let first = (first_move r within (Heard q m) es is).first in
      subst (IsAmong m) (sym first.1) (inl refl)

  -- what an empty log leaves offered isn't before h, unless h isn't after the floor
  offered_at_end : (r : ℕ) → IsRegion state.grid r → (runs r).log ≡ [] → (s : Stamp) →
      IsOffered (home_of state r) (start_of (runs r)) s → (¬ Before s h) ⊎ (¬ Before state.floor h)
  offered_at_end r within is s offered = (all.each r within).due s
      (subst (λ (v : List Entry). IsOffered (home_of state r) (after_log (start_of (runs r)) v) s) (sym is)
      offered)

  module _ (t : Stamp) (sooner : (s : Stamp) → Before s t → Before s h) (none : NoneBefore state runs t) where
    -- if no native entry is before t, no entry is
    pub heads_not_before : (r : ℕ) → IsRegion state.grid r → (log : List Entry) → (runs r).log ≡ log →
        HeadNotBefore t log
    heads_not_before r within [] is = tt
    heads_not_before r within (Native a ∷ es) is = λ before.
        none r a within (subst (IsAmong (Native a)) (sym is) (inl refl)) before
    heads_not_before r within (Heard q m ∷ es) is = λ before.
        let among = heard_first r within q m es is in
        let found = heard_sent r q within m among (sooner m.stamp before) in
        none q found.0 ((all.each r within).linked q m among).0 found.1
        (subst (λ (v : Stamp). Before v t) (sym found.2) before)

    -- nor is any event: its home would have it before its first entry, or in the end
    pub none_before : HasNoneBelow state t
    none_before s event before =
        let home = laws.homed s event in
        by_log home.0 home.1.0
        (laws.candidate home.0 (runs home.0).base s (all.each home.0 home.1.0).base event home.1)
        (runs home.0).log refl
      where
        by_log : (k : ℕ) → IsRegion state.grid k → IsOwn (home_of state k) (runs k).base s →
            (log : List Entry) → (runs k).log ≡ log → ⊥
        by_log k within own [] is = elim (offered_at_end k within is s (inl own)) [
          | inl not ↦ not (sooner s before)
          | inr not ↦ laws.floor s event (before_not_before s state.floor h (sooner s before) not)
        ]
        by_log k within own (e ∷ es) is =
            let due = move_due (home_of state k) (start_of (runs k)) e (first_move k within e es is) in
            due.1 s (inl own)
            (before_not_before s (entry_stamp e) t before (heads_not_before k within (e ∷ es) is))

  -- what is known of a native entry that no other comes before
  abbrev IsNextEntry : ℕ → Action → Type 0
  IsNextEntry p a = IsNextAction state a × IsHomeOf state (stamp_of a) p
      × ((es : List Entry) × ((runs p).log ≡ Native a ∷ es))

  next_entry : (p : ℕ) (a : Action) → IsRegion state.grid p → IsAmong (Native a) (runs p).log →
      Before (stamp_of a) h → NoneBefore state runs (stamp_of a) → IsNextEntry p a
  next_entry p a within among before none =
      let t = stamp_of a in
      let sooner : (s : Stamp) → Before s t → Before s h = λ s less. before_trans s t h less before in
      let here = all.each p within in
      let head = head_is (runs p).floor a (runs p).log
      (heads_not_before t sooner none p within (runs p).log refl) here.rises among in
      let move = first_move p within (Native a) head.0 head.1 in
      let known = laws.native p (runs p).base t within here.base move.native in (
        (
          (known.0, none_before t sooner none),
          laws.comes p (runs p).base t (Ok a) within here.base move.native move.comes,
        ),
        known.1,
        head,
      )

  -- what the first entry of x sends to y, the hearer has first
  told_waits : (x y : ℕ) → IsRegion state.grid x → IsRegion state.grid y → AreLinked state.grid x y →
      (a : Action) (es : List Entry) → (runs x).log ≡ Native a ∷ es → Before (stamp_of a) h → (n : Message) →
      message_of state.grid y (rows_in (runs x).base) a ≡ Some n → (rest : List Message)
      × (trail_of (runs y).heard x ≡ n ∷ rest)
      × (below h rest ≡ below h (sent_to state.grid y (after_action (runs x).base a) es))
  told_waits x y within_x within_y linked a es is before n message =
      let stamp : Before n.stamp h = subst (λ (v : Stamp). Before v h)
      (sym (message_stamp state.grid y (rows_in (runs x).base) a n message)) before in
      let agrees : below h (trail_of (runs y).heard x)
      ≡ n ∷ below h (sent_to state.grid y (after_action (runs x).base a) es)
      = sym (all.agree x y within_x within_y linked) ∙ ap (below h) (sent_first x y a es is (Some n) message)
      ∙ below_first h n _ stamp in
      first_of_below h n (trail_of (runs y).heard x) _ agrees

  module _ (k : ℕ) (b : Action) (entry : IsLeastEntry state runs k b) (before : Before (stamp_of b) h) where
    abbrev Now : Stamp
    Now = stamp_of b

    now_before : (t : Stamp) → t ≡ Now → Before t h
    now_before t now = subst (λ (v : Stamp). Before v h) (sym now) before

    next_b : IsNextEntry k b
    next_b = next_entry k b entry.within entry.among before entry.least

    heads : (r : ℕ) → IsRegion state.grid r → (log : List Entry) → (runs r).log ≡ log → HeadNotBefore Now log
    heads = heads_not_before Now (λ s less. before_trans s Now h less before) entry.least

    -- any other native entry with the same stamp is the next action too, and so the same
    next_at : (p : ℕ) (a : Action) → IsRegion state.grid p → IsAmong (Native a) (runs p).log →
        stamp_of a ≡ Now → IsNextEntry p a
    next_at p a within among same = next_entry p a within among (now_before (stamp_of a) same)
        (subst (NoneBefore state runs) (sym same) entry.least)

    sees_after : (a : Action) (q : ℕ) (v : ViewData) → IsNextAction state a → Sees (followed state a) q v →
        Sees (followed state b) q v
    sees_after a q v next sees =
        subst (λ (c : Action). Sees (followed state c) q v) (laws.one_action a b next next_b.0) sees

    -- the first entry is a message at the stamp: its sender has the action first, and sent this
    heard_now : (q : ℕ) → IsRegion state.grid q → (p : ℕ) (m : Message) (es : List Entry) →
        (runs q).log ≡ Heard p m ∷ es → m.stamp ≡ Now → IsRegion state.grid p × AreLinked state.grid p q
        × ((a : Action) × IsNextEntry p a × (message_of state.grid q (rows_in (runs p).base) a ≡ Some m))
    heard_now q within p m es is now =
        let among = heard_first q within p m es is in
        let linked = (all.each q within).linked p m among in
        let found = heard_sent q p within m among (now_before m.stamp now) in
        let a = found.0 in
        let next = next_at p a linked.0 found.1 (found.2 ∙ now) in (
          linked.0,
          linked.1,
          (
            a,
            next,
            by_message a next (found.2 ∙ now) linked.0 linked.1
                (was_sent q p within m among (now_before m.stamp now))
                (message_of state.grid q (rows_in (runs p).base) a) refl,
          ),
        )
      where
        by_message : (a : Action) → IsNextEntry p a → stamp_of a ≡ Now → IsRegion state.grid p →
            AreLinked state.grid p q → IsAmong m (sent_to state.grid q (runs p).base (runs p).log) →
            (o : Option Message) → message_of state.grid q (rows_in (runs p).base) a ≡ o →
            message_of state.grid q (rows_in (runs p).base) a ≡ Some m
        by_message a next same within_p linked sent None message =
            let rest = next.2.0 in
            let rises : RiseFrom (runs p).floor (Native a ∷ rest)
            = subst (RiseFrom (runs p).floor) next.2.1 (all.each p within_p).rises in
            let later = sent_after state.grid q (after_action (runs p).base a) rest m (stamp_of a) rises.1
            (subst (IsAmong m) (sent_first p q a rest next.2.1 None message) sent) in
            absurd (not_before_itself Now
            (subst (λ (v : Stamp). Before v Now) same (subst (Before (stamp_of a)) now later)))
        by_message a next same within_p linked sent (Some n) message =
            let waits = told_waits p q within_p within linked a next.2.0 next.2.1
            (now_before (stamp_of a) same)
            n message in
            let first = (first_move q within (Heard p m) es is).first in
            let heads_same : n ∷ waits.0 ≡ m ∷ first.0 = sym waits.1 ∙ first.1 in
            let is_m : n ≡ m = cc in
            message ∙ ap Some is_m

    first_view : (q : ℕ) → IsRegion state.grid q → (e : Entry) (es : List Entry) → (runs q).log ≡ e ∷ es →
        entry_stamp e ≡ Now → Sees (followed state b) q (after_entry (start_of (runs q)) e).view
    first_view q within (Native a) es is now =
        let next = next_at q a within (subst (IsAmong (Native a)) (sym is) (inl refl)) now in
        sees_after a q (after_action (runs q).base a) next.0
        (laws.view_home q (runs q).base a next.0 next.1 (all.each q within).base)
    first_view q within (Heard p m) es is now =
        let told = heard_now q within p m es is now in
        let a = told.2.0 in
        let next = told.2.1 in
        sees_after a q (set_rows (runs q).base m.rows) next.0
        (laws.view_told p q (runs p).base (runs q).base a m next.0 next.1 (all.each p told.0).base
        (all.each q within).base told.2.2)

    -- what isn't before h, or h isn't after the floor, isn't before it: the floor of the next state is
    due_after : (s : Stamp) → (¬ Before s h) ⊎ (¬ Before state.floor h) → (¬ Before s h) ⊎ (¬ Before Now h)
    due_after s (inl not) = inl not
    due_after s (inr not) =
        absurd (laws.floor Now next_b.0.0.0 (before_not_before Now state.floor h before not))

    goes_first : (q : ℕ) → IsRegion state.grid q → (e : Entry) (es : List Entry) → (runs q).log ≡ e ∷ es →
        entry_stamp e ≡ Now → GoesOn (followed state b) h q (after_first (runs q) e es)
    goes_first q within e es is now =
        let here = all.each q within in
        let moves : Moves (home_of state q) (start_of (runs q)) (e ∷ es)
        = subst (Moves (home_of state q) (start_of (runs q))) is here.moves in
        record {
          base = first_view q within e es is now;
          moves = moves.1;
          rises = rises_rest (runs q).floor e es (subst (RiseFrom (runs q).floor) is here.rises);
          due = λ s offered. due_after s (here.due s (subst
              (λ (v : List Entry). IsOffered (home_of state q) (after_log (start_of (runs q)) v) s)
              (sym is) offered));
          trails = rise_after (start_of (runs q)) e here.trails;
          linked = λ p m among. here.linked p m (among_before (start_of (runs q)) e p m among);
        }

    -- the message that waits at the stamp is its hearer's first entry
    waits_then_first : (q : ℕ) → IsRegion state.grid q → (p : ℕ) (n : Message) (rest : List Message) →
        trail_of (runs q).heard p ≡ n ∷ rest → n.stamp ≡ Now →
        (es : List Entry) × ((runs q).log ≡ Heard p n ∷ es)
    waits_then_first q within p n rest trail now = by_log (runs q).log refl
      where
        waits : IsWaiting (runs q).heard n.stamp
        waits = waits_first (runs q).heard p n rest trail

        by_first : (e : Entry) (es : List Entry) → (runs q).log ≡ e ∷ es → entry_stamp e ≡ n.stamp →
            (es : List Entry) × ((runs q).log ≡ Heard p n ∷ es)
        by_first (Native a) es is same = absurd ((first_move q within (Native a) es is).alone
            (subst (IsWaiting (runs q).heard) (sym same) waits))
        by_first (Heard r m) es is same =
            let move = first_move q within (Heard r m) es is in
            let from_p : p ≡ r = move.only p n (subst (IsAmong n) (sym trail) (inl refl)) (sym same) in
            let both : n ∷ rest ≡ m ∷ move.first.0
            = sym trail ∙ ap (trail_of (runs q).heard) from_p ∙ move.first.1 in
            let is_m : m ≡ n = cc in
            (es, is ∙ ap (λ (v : ℕ). Heard v m ∷ es) (sym from_p) ∙ ap (λ (v : Message). Heard p v ∷ es) is_m)

        by_log : (log : List Entry) → (runs q).log ≡ log → (es : List Entry) × ((runs q).log ≡ Heard p n ∷ es)
        by_log [] is = absurd (elim (due_after n.stamp (offered_at_end q within is n.stamp (inr waits))) [
          | inl not ↦ not (now_before n.stamp now)
          | inr not ↦ not before
        ])
        by_log (e ∷ es) is =
            let due = move_due (home_of state q) (start_of (runs q)) e (first_move q within e es is) in
            let late : ¬ Before (entry_stamp e) n.stamp
            = subst (λ (v : Stamp). ¬ Before (entry_stamp e) v) (sym now) (heads q within (e ∷ es) is) in
            by_first e es is (same_stamp (entry_stamp e) n.stamp late (due.1 n.stamp (inr waits)))

    -- nothing of a region happens at the stamp: it was told nothing
    told_none : (q : ℕ) → IsRegion state.grid q → HeadAfter Now (runs q).log → AreLinked state.grid k q →
        message_of state.grid q (rows_in (runs k).base) b ≡ None
    told_none q within after linked = by_message (message_of state.grid q (rows_in (runs k).base) b) refl
      where
        by_message : (o : Option Message) → message_of state.grid q (rows_in (runs k).base) b ≡ o →
            message_of state.grid q (rows_in (runs k).base) b ≡ None
        by_message None message = message
        by_message (Some n) message =
            let waits = told_waits k q entry.within within linked b next_b.2.0 next_b.2.1 before n message in
            let now = message_stamp state.grid q (rows_in (runs k).base) b n message in
            let first = waits_then_first q within k n waits.0 waits.1 now in
            let head : HeadAfter Now (Heard k n ∷ first.0) = subst (HeadAfter Now) first.1 after in
            absurd (not_before_itself Now (subst (Before Now) now head))

    -- the region of the action isn't one of those
    not_home : (q : ℕ) → HeadAfter Now (runs q).log → k ≢ q
    not_home q after same =
        let mine : HeadAfter Now (runs k).log
        = subst (λ (v : ℕ). HeadAfter Now (runs v).log) (sym same) after in
        let head : HeadAfter Now (Native b ∷ next_b.2.0) = subst (HeadAfter Now) next_b.2.1 mine in
        not_before_itself Now head

    goes_kept : (q : ℕ) → IsRegion state.grid q → HeadAfter Now (runs q).log →
        GoesOn (followed state b) h q (runs q)
    goes_kept q within after =
        let here = all.each q within in
        record {
          base = laws.view_kept k q (runs k).base (runs q).base b next_b.0 next_b.1
              (all.each k entry.within).base here.base (not_home q after) within (told_none q within after);
          moves = here.moves;
          rises = here.rises;
          due = λ s offered. due_after s (here.due s offered);
          trails = here.trails;
          linked = here.linked;
        }

    goes : (q : ℕ) → IsRegion state.grid q → GoesOn (followed state b) h q (past Now (runs q))
    goes q within = elim (past_cases Now (runs q) (runs q).log refl (heads q within (runs q).log refl)) [
      | inl first ↦ subst (GoesOn (followed state b) h q) (sym first.4)
          (goes_first q within first.0 first.1 first.2 first.3)
      | inr kept ↦ subst (GoesOn (followed state b) h q) (sym kept.0) (goes_kept q within kept.1)
    ]

    -- what y hears from x is the same as before, or y had x's message first and now has the rest
    abbrev HeardAfter : ℕ → ℕ → Type 0
    HeardAfter x y = (trail_of (past Now (runs y)).heard x ≡ trail_of (runs y).heard x)
        ⊎ ((m : Message) × (es : List Entry) × ((runs y).log ≡ Heard x m ∷ es) × (m.stamp ≡ Now))

    heard_after : (x y : ℕ) → IsRegion state.grid y → HeardAfter x y
    heard_after x y within =
        elim (past_cases Now (runs y) (runs y).log refl (heads y within (runs y).log refl)) [
          | inl first ↦ by_entry first.0 first.1 first.2 first.3 first.4
          | inr kept ↦ inl (ap (λ (v : Local). trail_of v.heard x) kept.0)
        ]
      where
        by_entry : (e : Entry) (es : List Entry) → (runs y).log ≡ e ∷ es → entry_stamp e ≡ Now →
            past Now (runs y) ≡ after_first (runs y) e es → HeardAfter x y
        by_entry (Native a) es is now past_is = inl (ap (λ (v : Local). trail_of v.heard x) past_is)
        by_entry (Heard p m) es is now past_is = elim (same_or_other x p) [
          | inl same ↦ inr (m, es, is ∙ ap (λ (v : ℕ). Heard v m ∷ es) (sym same), now)
          | inr other ↦ inl (ap (λ (v : Local). trail_of v.heard x) past_is
              ∙ other_trail (runs y).heard p x other)
        ]

    -- what x sends to y is the same as before, or x had the action first and sent y a message
    abbrev SentAfter : ℕ → ℕ → Type 0
    SentAfter x y = (sent_to state.grid y (past Now (runs x)).base (past Now (runs x)).log
        ≡ sent_to state.grid y (runs x).base (runs x).log)
        ⊎ ((a : Action) × (es : List Entry) × ((runs x).log ≡ Native a ∷ es) × (stamp_of a ≡ Now)
        × ((n : Message) × (message_of state.grid y (rows_in (runs x).base) a ≡ Some n)))

    sent_after_step : (x y : ℕ) → IsRegion state.grid x → SentAfter x y
    sent_after_step x y within =
        elim (past_cases Now (runs x) (runs x).log refl (heads x within (runs x).log refl)) [
          | inl first ↦ by_entry first.0 first.1 first.2 first.3 first.4
          | inr kept ↦ inl (ap (λ (v : Local). sent_to state.grid y v.base v.log) kept.0)
        ]
      where
        by_message : (a : Action) (es : List Entry) → (runs x).log ≡ Native a ∷ es → stamp_of a ≡ Now →
            past Now (runs x) ≡ after_first (runs x) (Native a) es → (o : Option Message) →
            message_of state.grid y (rows_in (runs x).base) a ≡ o → SentAfter x y
        by_message a es is now past_is None message =
            inl (ap (λ (v : Local). sent_to state.grid y v.base v.log) past_is
            ∙ sym (sent_first x y a es is None message))
        by_message a es is now past_is (Some n) message = inr (a, es, is, now, (n, message))

        by_entry : (e : Entry) (es : List Entry) → (runs x).log ≡ e ∷ es → entry_stamp e ≡ Now →
            past Now (runs x) ≡ after_first (runs x) e es → SentAfter x y
        by_entry (Native a) es is now past_is =
            by_message a es is now past_is (message_of state.grid y (rows_in (runs x).base) a) refl
        by_entry (Heard p m) es is now past_is =
            inl (ap (λ (v : Local). sent_to state.grid y v.base v.log) past_is
            ∙ sym (ap (sent_to state.grid y (runs x).base) is))

    -- what x sends to y, and y hears from x, agree again
    abbrev AgreeAfter : ℕ → ℕ → Type 0
    AgreeAfter x y = AgreeBelow h (sent_to state.grid y (past Now (runs x)).base (past Now (runs x)).log)
        (trail_of (past Now (runs y)).heard x)

    -- after a message that was sent at the stamp, the rest agrees
    agree_rest : (x y : ℕ) → IsRegion state.grid x → IsRegion state.grid y → AreLinked state.grid x y →
        (a : Action) (es : List Entry) → (runs x).log ≡ Native a ∷ es → stamp_of a ≡ Now → (n : Message) →
        message_of state.grid y (rows_in (runs x).base) a ≡ Some n → AgreeAfter x y
    agree_rest x y within_x within_y linked a es is now n message =
        let waits = told_waits x y within_x within_y linked a es is (now_before (stamp_of a) now) n message in
        let stamp : n.stamp ≡ Now
        = message_stamp state.grid y (rows_in (runs x).base) a n message ∙ now in
        let first = waits_then_first y within_y x n waits.0 waits.1 stamp in
        let heard : trail_of (past Now (runs y)).heard x ≡ waits.0
        = ap (λ (v : Local). trail_of v.heard x) (past_first Now (runs y) (Heard x n) first.0 first.1 stamp)
        ∙ same_trail (runs y).heard x ∙ ap messages_after_first waits.1 in
        let sent : sent_to state.grid y (past Now (runs x)).base (past Now (runs x)).log
        ≡ sent_to state.grid y (after_action (runs x).base a) es
        = ap (λ (v : Local). sent_to state.grid y v.base v.log)
        (past_first Now (runs x) (Native a) es is now) in
        ap (below h) sent ∙ sym waits.2 ∙ sym (ap (below h) heard)

    agree_after : Agree (followed state b) h (λ q. past Now (runs q))
    agree_after x y within_x within_y linked =
        by_sent (sent_after_step x y within_x) (heard_after x y within_y)
      where
        by_sent : SentAfter x y → HeardAfter x y → AgreeAfter x y
        by_sent (inr sent) heard =
            agree_rest x y within_x within_y linked sent.0 sent.1 sent.2 sent.3 sent.4.0 sent.4.1
        by_sent (inl sent) (inl heard) =
            ap (below h) sent ∙ all.agree x y within_x within_y linked ∙ sym (ap (below h) heard)
        by_sent (inl sent) (inr heard) =
            let told = heard_now y within_y x heard.0 heard.1 heard.2 heard.3 in
            let a = told.2.0 in
            let next = told.2.1 in
            let now : stamp_of a ≡ Now
            = sym (message_stamp state.grid y (rows_in (runs x).base) a heard.0 told.2.2) ∙ heard.3 in
            agree_rest x y within_x within_y linked a next.2.0 next.2.1 now heard.0 told.2.2

    step : IsNextAction state b × IsHomeOf state (stamp_of b) k
        × AllGoOn (followed state b) h (λ q. past Now (runs q))
    step = (next_b.0, next_b.1, record { each = goes; agree = agree_after })

pub central_step : CentralStep
central_step state h runs k b laws all entry before = step state h runs laws all k b entry before

pub central_end : CentralEnd
central_end state h runs laws all none = (
  none_before state h runs laws all h (λ s less. less) none,
  λ q within. heads_not_before state h runs laws all h (λ s less. less) none q within (runs q).log refl,
)

-- no region has an entry before the least native one
pub heads_late : (state : CellStateData) (h : Stamp) (runs : LocalRuns) (k : ℕ) (b : Action) → CellLaws state →
    AllGoOn state h runs → IsLeastEntry state runs k b → Before (stamp_of b) h → (q : ℕ) →
    IsRegion state.grid q → HeadNotBefore (stamp_of b) (runs q).log
heads_late state h runs k b laws all entry before q within =
    heads state h runs laws all k b entry before q within (runs q).log refl
