-- What a log sends: whose messages they are, and when.
use Rattle.std.proofs.Common.{◌≡◌, ◌⊎◌, inl, inr, ℕ, List, [], ◌∷◌, ◌++◌, sym, ap, ◌∙◌, subst, refl}
use Rattle.std.proofs.Common.{Option, Some, None}
use Rattle.std.proofs.lemmas.Option.{none-some, same_Some}
use Rattle.std.proofs.lemmas.List.{append-nil}
use Rattle.event_stamps.specs.declared.Stamp.{Stamp}
use Rattle.event_stamps.specs.Order.{Before}
use Rattle.event_stamps.proofs.StampOrder.{before_trans, before_decides}
use Rattle.event_stamps.proofs.Rising.{among_right, rises_tail, from_if_after, after_if_from, among_from}
use Rattle.cell_grid.specs.Grid.{GridData}
use Rattle.region_view.specs.declared.action.Action.{Action}
use Rattle.region_view.specs.declared.rows.Message.{Message}
use Rattle.region_view.specs.Placing.{Placing}
use Rattle.region_view.specs.Views.{ViewData, rows_in}
use Rattle.region_view.specs.Acting.{stamp_of}
use Rattle.region_view.specs.Setting.{RowList, rows_set, set_rows, after_action}
use Rattle.region_view.specs.Messages.{message_of, message_with, told_rows}
use Rattle.region_messages.specs.Trails.{IsAmong, IsAfterAll, RisesAfter, Rises, below, message_key}
use Rattle.region_messages.proofs.Parts.{below_first, below_none}
use Rattle.local_run.specs.declared.entry.Entry.{Entry}
use Rattle.local_run.specs.declared.entry.Entry.TheVariants.{Native, Heard}
use Rattle.local_run.specs.Entries.{entry_stamp, EntriesRiseAfter, RiseFrom, entries_below, clock_of}
use Rattle.local_run.specs.LocalRun.{At, Local, start_of, after_entry, after_log}
use Rattle.local_run.specs.LocalRun.{now_of, sent_to, prepended}
use Rattle.local_run.proofs.Among.{below_nil}
use Rattle.local_run.proofs.Logs.{all_before_turn, among_before, below_in, below_out, among_after}
use Rattle.local_run.proofs.Logs.{rises_log_tail}

-- ---- one message
message_with_stamp : (s : Stamp) (rows : RowList) (m : Message) → message_with s rows ≡ Some m →
    m.stamp ≡ s
message_with_stamp s [] m e = absurd (none-some m e)
message_with_stamp s (r ∷ rows) m e = ap (λ (v : Message). v.stamp) (sym (same_Some _ m e))

pub message_stamp : (grid : GridData) (q : ℕ) (at : Placing) (a : Action) (m : Message) →
    message_of grid q at a ≡ Some m → m.stamp ≡ stamp_of a
unfolding message_of
message_stamp grid q at a m e = message_with_stamp (stamp_of a) (told_rows grid q at (rows_set at a)) m e

-- ---- which messages a log sends
-- the message is that of a native entry, by the view before it
pub record IsSentBy (grid : GridData) (q : ℕ) (a : At) (log : List Entry) (m : Message) : Type 0 where
  pub before : List Entry
  pub action : Action
  pub rest : List Entry
  pub parts : log ≡ before ++ Native action ∷ rest
  pub message : message_of grid q (rows_in (after_log a before).view) action ≡ Some m

one_more : (grid : GridData) (q : ℕ) (a : At) (e : Entry) (es : List Entry) (m : Message) →
    IsSentBy grid q (after_entry a e) es m → IsSentBy grid q a (e ∷ es) m
one_more grid q a e es m by = record {
  before = e ∷ by.before;
  action = by.action;
  rest = by.rest;
  parts = ap (λ (v : List Entry). e ∷ v) by.parts;
  message = by.message;
}

pub sent_by : (grid : GridData) (q : ℕ) (a : At) (log : List Entry) (m : Message) →
    IsAmong m (sent_to grid q a.view log) → IsSentBy grid q a log m
sent_by grid q a [] m h = absurd h
sent_by grid q a (Native x ∷ es) m h =
    by_message (message_of grid q (rows_in a.view) x) refl h (sent_by grid q (after_entry a (Native x)) es m)
  where
    by_message : (o : Option Message) → message_of grid q (rows_in a.view) x ≡ o →
        IsAmong m (prepended o (sent_to grid q (after_action a.view x) es)) →
        (IsAmong m (sent_to grid q (after_action a.view x) es) →
        IsSentBy grid q (after_entry a (Native x)) es m) → IsSentBy grid q a (Native x ∷ es) m
    by_message None e k more = one_more grid q a (Native x) es m (more k)
    by_message (Some n) e (inl same) more = record {
      before = [];
      action = x;
      rest = es;
      parts = refl;
      message = e ∙ ap (λ (v : Message). Some v) (sym same);
    }
    by_message (Some n) e (inr k) more = one_more grid q a (Native x) es m (more k)
sent_by grid q a (Heard r n ∷ es) m h =
    one_more grid q a (Heard r n) es m (sent_by grid q (after_entry a (Heard r n)) es m h)

-- ---- their stamps
among_middle : (xs : List Entry) (e : Entry) (ys : List Entry) → IsAmong e (xs ++ e ∷ ys)
among_middle xs e ys = among_right e xs (e ∷ ys) (inl refl)

-- what a log sends that rises after a stamp comes after it
pub sent_after : (grid : GridData) (q : ℕ) (view : ViewData) (log : List Entry) (m : Message)
    (s : Stamp) → EntriesRiseAfter s log → IsAmong m (sent_to grid q view log) → Before s m.stamp
sent_after grid q view log m s rises among =
    let by = sent_by grid q (record { view = view; waiting = [] }) log m among in
    let entry : IsAmong (Native by.action) log
    = subst (IsAmong (Native by.action)) (sym by.parts) (among_middle by.before (Native by.action) by.rest) in
    subst (Before s) (sym (message_stamp grid q _ by.action m by.message))
    (among_after s log (Native by.action) rises entry)

-- what a log sends that rises after a stamp not before s
sent_late : (grid : GridData) (q : ℕ) (view : ViewData) (s t : Stamp) (log : List Entry) →
    EntriesRiseAfter t log → ¬ Before t s → (m : Message) → IsAmong m (sent_to grid q view log) →
    ¬ Before m.stamp s
sent_late grid q view s t log rises not m among less =
    not (before_trans t m.stamp s (sent_after grid q view log m t rises among) less)

rises_further : (s t : Stamp) (ms : List Message) → Before s t → RisesAfter t ms → RisesAfter s ms
rises_further s t ms lt rises = after_if_from message_key s t ms lt (from_if_after message_key t ms rises)

-- messages before which all others of the log come
told_rises : (t : Stamp) (o : Option Message) (ms : List Message) →
    ((n : Message) → o ≡ Some n → n.stamp ≡ t) → RisesAfter t ms → Rises (prepended o ms)
told_rises t None ms stamp rises = rises_tail message_key t ms rises
told_rises t (Some n) ms stamp rises = subst (λ (v : Stamp). RisesAfter v ms) (sym (stamp n refl)) rises

told_rises_from : (s t : Stamp) (o : Option Message) (ms : List Message) →
    ((n : Message) → o ≡ Some n → n.stamp ≡ t) → Before s t → RisesAfter t ms → RisesAfter s (prepended o ms)
told_rises_from s t None ms stamp lt rises = rises_further s t ms lt rises
told_rises_from s t (Some n) ms stamp lt rises =
    subst (λ (v : Stamp). Before s v × RisesAfter v ms) (sym (stamp n refl)) (lt, rises)

sent_rises_after : (grid : GridData) (q : ℕ) (view : ViewData) (s : Stamp) (log : List Entry) →
    EntriesRiseAfter s log → RisesAfter s (sent_to grid q view log)
sent_rises_after grid q view s [] rises = tt
sent_rises_after grid q view s (Native a ∷ es) rises =
    told_rises_from s (stamp_of a) (message_of grid q (rows_in view) a) (sent_to grid q (after_action view a) es)
    (message_stamp grid q (rows_in view) a) rises.0
    (sent_rises_after grid q (after_action view a) (stamp_of a) es rises.1)
sent_rises_after grid q view s (Heard r m ∷ es) rises =
    rises_further s m.stamp (sent_to grid q (set_rows view m.rows) es) rises.0
    (sent_rises_after grid q (set_rows view m.rows) m.stamp es rises.1)

pub sent_rises : (grid : GridData) (q : ℕ) (view : ViewData) (f : Stamp) (log : List Entry) →
    RiseFrom f log → Rises (sent_to grid q view log)
sent_rises grid q view f [] rises = tt
sent_rises grid q view f (Native a ∷ es) rises =
    told_rises (stamp_of a) (message_of grid q (rows_in view) a) (sent_to grid q (after_action view a) es)
    (message_stamp grid q (rows_in view) a)
    (sent_rises_after grid q (after_action view a) (stamp_of a) es rises.1)
sent_rises grid q view f (Heard r m ∷ es) rises =
    rises_tail message_key m.stamp (sent_to grid q (set_rows view m.rows) es)
    (sent_rises_after grid q (set_rows view m.rows) m.stamp es rises.1)

-- from the floor on
pub sent_from : (grid : GridData) (q : ℕ) (view : ViewData) (f : Stamp) (log : List Entry) (m : Message) →
    RiseFrom f log → IsAmong m (sent_to grid q view log) → ¬ Before m.stamp f
sent_from grid q view f log m rises among =
    let by = sent_by grid q (record { view = view; waiting = [] }) log m among in
    let entry : IsAmong (Native by.action) log
    = subst (IsAmong (Native by.action)) (sym by.parts) (among_middle by.before (Native by.action) by.rest) in
    subst (λ (v : Stamp). ¬ Before v f) (sym (message_stamp grid q _ by.action m by.message))
    (among_from entry_stamp f log (Native by.action) rises entry)

-- ---- what the entries before a stamp send
pub sent_below : (grid : GridData) (q : ℕ) (view : ViewData) (s f : Stamp) (log : List Entry) →
    RiseFrom f log → sent_to grid q view (entries_below s log) ≡ below s (sent_to grid q view log)
sent_below grid q view s f [] rises = refl
sent_below grid q view s f (Native a ∷ es) rises =
    by_test (before_decides (stamp_of a) s)
    (sent_below grid q (after_action view a) s (stamp_of a) es (rises_log_tail (stamp_of a) es rises.1))
  where
    later : List Message
    later = sent_to grid q (after_action view a) es

    keeps : (o : Option Message) → message_of grid q (rows_in view) a ≡ o → Before (stamp_of a) s →
        prepended o (below s later) ≡ below s (prepended o later)
    keeps None msg lt = refl
    keeps (Some n) msg lt = sym (below_first s n later (subst (λ (v : Stamp). Before v s)
        (sym (message_stamp grid q (rows_in view) a n msg)) lt))

    drops : (o : Option Message) → message_of grid q (rows_in view) a ≡ o → ¬ Before (stamp_of a) s →
        [] ≡ below s (prepended o later)
    drops None msg not =
        sym (below_nil s later (sent_late grid q (after_action view a) s (stamp_of a) es rises.1 not))
    drops (Some n) msg not = sym (below_none s n later (subst (λ (v : Stamp). ¬ Before v s)
        (sym (message_stamp grid q (rows_in view) a n msg)) not))

    by_test : Before (stamp_of a) s ⊎ ¬ Before (stamp_of a) s →
        sent_to grid q (after_action view a) (entries_below s es) ≡ below s later →
        sent_to grid q view (entries_below s (Native a ∷ es))
        ≡ below s (prepended (message_of grid q (rows_in view) a) later)
    by_test (inl lt) rest = ap (sent_to grid q view) (below_in s (Native a) es lt)
        ∙ ap (prepended (message_of grid q (rows_in view) a)) rest
        ∙ keeps (message_of grid q (rows_in view) a) refl lt
    by_test (inr not) rest = ap (sent_to grid q view) (below_out s (Native a) es not)
        ∙ drops (message_of grid q (rows_in view) a) refl not
sent_below grid q view s f (Heard r m ∷ es) rises =
    by_test (before_decides m.stamp s)
    (sent_below grid q (set_rows view m.rows) s m.stamp es (rises_log_tail m.stamp es rises.1))
  where
    by_test : Before m.stamp s ⊎ ¬ Before m.stamp s →
        sent_to grid q (set_rows view m.rows) (entries_below s es)
        ≡ below s (sent_to grid q (set_rows view m.rows) es) →
        sent_to grid q view (entries_below s (Heard r m ∷ es))
        ≡ below s (sent_to grid q (set_rows view m.rows) es)
    by_test (inl lt) rest = ap (sent_to grid q view) (below_in s (Heard r m) es lt) ∙ rest
    by_test (inr not) rest = ap (sent_to grid q view) (below_out s (Heard r m) es not)
        ∙ sym (below_nil s (sent_to grid q (set_rows view m.rows) es)
        (sent_late grid q (set_rows view m.rows) s m.stamp es rises.1 not))

-- ---- what one more entry sends
told_joined : (o : Option Message) (ms ns : List Message) → prepended o (ms ++ ns) ≡ prepended o ms ++ ns
told_joined None ms ns = refl
told_joined (Some m) ms ns = refl

pub sent_joined : (grid : GridData) (q : ℕ) (a : At) (xs ys : List Entry) →
    sent_to grid q a.view (xs ++ ys)
    ≡ sent_to grid q a.view xs ++ sent_to grid q (after_log a xs).view ys
sent_joined grid q a [] ys = refl
sent_joined grid q a (Native x ∷ xs) ys =
    ap (prepended (message_of grid q (rows_in a.view) x)) (sent_joined grid q (after_entry a (Native x)) xs ys)
    ∙ told_joined (message_of grid q (rows_in a.view) x) _ _
sent_joined grid q a (Heard r m ∷ xs) ys = sent_joined grid q (after_entry a (Heard r m)) xs ys

pub sent_native : (grid : GridData) (q : ℕ) (r : Local) (a : Action) →
    sent_to grid q r.base (r.log ++ Native a ∷ [])
    ≡ sent_to grid q r.base r.log ++ prepended (message_of grid q (rows_in (now_of r).view) a) []
sent_native grid q r a = sent_joined grid q (start_of r) r.log (Native a ∷ [])

pub sent_heard : (grid : GridData) (q : ℕ) (r : Local) (p : ℕ) (m : Message) →
    sent_to grid q r.base (r.log ++ Heard p m ∷ []) ≡ sent_to grid q r.base r.log
sent_heard grid q r p m =
    sent_joined grid q (start_of r) r.log (Heard p m ∷ []) ∙ append-nil (sent_to grid q r.base r.log)

-- all that was sent is before a stamp that may come next
pub sent_before_turn : (grid : GridData) (q : ℕ) (view : ViewData) (f s : Stamp) (log : List Entry) →
    RiseFrom f log → (log ≡ []) ⊎ Before (clock_of f log) s →
    IsAfterAll (sent_to grid q view log) s
sent_before_turn grid q view f s log rises turn m among =
    let by = sent_by grid q (record { view = view; waiting = [] }) log m among in
    let entry : IsAmong (Native by.action) log
    = subst (IsAmong (Native by.action)) (sym by.parts) (among_middle by.before (Native by.action) by.rest) in
    subst (λ (v : Stamp). Before v s) (sym (message_stamp grid q _ by.action m by.message))
    (among_before s log (Native by.action) (all_before_turn f s log rises turn) entry)
