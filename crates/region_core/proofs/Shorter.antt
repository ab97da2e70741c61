-- A log whose last entry is taken back, with its view and its queue.
use Rattle.std.proofs.Common.{◌≡◌, inl, ℕ, zero, suc, ◌-◌, List, [], ◌∷◌, ◌++◌, length, take, slice_get, None, Some, sym, ap, ◌∙◌, subst, refl, arith}
use Rattle.std.specs.Prelude.{unwrap_or}
use Rattle.std.proofs.lemmas.Option.{none-some, same_Some, slice_get-get_or}
use Rattle.event_stamps.specs.declared.Stamp.{Stamp}
use Rattle.event_stamps.specs.Least.{IsLeast}
use Rattle.region_view.specs.declared.action.Action.{Action}
use Rattle.region_view.specs.declared.rows.Message.{Message}
use Rattle.region_view.specs.Acting.{stamp_of}
use Rattle.region_view.specs.Placing.{IsNative, IsValidPlacing}
use Rattle.region_view.specs.Views.{ViewData, rows_in}
use Rattle.region_view.specs.Setting.{set_rows, after_action, numbers_of}
use Rattle.region_view.specs.Naming.{IsSameBut, IsSameButBy}
use Rattle.region_queue.specs.Queue.{QueueData, IsOf, StandsFor}
use Rattle.local_run.specs.declared.home.Home.{Home}
use Rattle.local_run.specs.declared.entry.Entry.{Entry}
use Rattle.local_run.specs.declared.entry.Entry.TheVariants.{Native, Heard}
use Rattle.local_run.specs.LocalRun.{At, Local, start_of, after_entry, after_log, IsInPlace, IsOwn, IsMove, Moves, IsRight}
use Rattle.event_log.specs.Logged.{Logged, entries_in, backs_in}
use Rattle.event_log.specs.Undoing.{last_back}
use Rattle.event_log.specs.Traced.{IsTraced}
use Rattle.event_log.proofs.AtFloor.{view_of_log}
use Rattle.event_log.proofs.Traced.{traced_popped}
use Rattle.region_core.specs.declared.live.Live.{Live}
use Rattle.region_core.specs.Live.{base_in, run_in, start_in, HasTrace, IsPartOf}
use Rattle.local_run.proofs.Logs.{moves_split, after_join}
use Rattle.local_run.proofs.Right.{right_before}
use Rattle.region_parts.proofs.Lists.{as_many}
use Rattle.region_core.proofs.Traced.{now_is, base_is, has_trace, entries_joined}
use Rattle.local_run.proofs.Touched.{same_but}
use Rattle.local_run.proofs.Untouched.{action_leaves}
use Rattle.local_run.proofs.Valid.{valid_after}

-- ---- the queue
-- a native move is the least of the native candidates that the queue may have
pub least_again : (h : Home) (queue : QueueData) (a : At) (view : ViewData) (e : Entry) (x : Action)
    (s : Stamp) → IsOf queue h.rules h.grid h.number → IsMove h a e → e ≡ Native x → s ≡ stamp_of x →
    a.view ≡ view → IsLeast (IsNative queue.rules queue.grid queue.region (rows_in view)) s
unfolding IsOwn
least_again h queue a view e x s of move is stamp here =
    let due = subst (IsMove h a) is move in
    let least : IsLeast (IsOwn h a.view) (stamp_of x) = (due.native, λ t own. due.due.1 t (inl own)) in
    subst (λ (v : ViewData). IsLeast (IsNative queue.rules queue.grid queue.region (rows_in v)) s) here
    (subst (λ (y : Home). IsLeast (IsNative y.rules y.grid y.number (rows_in a.view)) s) (λ i. record {
      number = sym of.region i;
      rules = sym of.rules i;
      grid = sym of.grid i;
    }) (subst (IsLeast (IsOwn h a.view)) (sym stamp) least))

-- ---- what an entry that is taken back leaves
-- before a native one, disks other than its event's are as they were
pub native_leaves : (h : Home) (a b : At) (view : ViewData) (e : Entry) (x : Action) (s : Stamp) →
    IsMove h a e → e ≡ Native x → s ≡ stamp_of x → a.view ≡ view → b.view ≡ view →
    IsSameButBy s (after_entry b e).view view
native_leaves h a b view e x s move is stamp here also =
    let later : after_action a.view x ≡ (after_entry b e).view =
    ap (λ (v : ViewData). after_action v x) (here ∙ sym also)
    ∙ ap (λ (y : Entry). (after_entry b y).view) (sym is) in
    subst (λ (v : ViewData). IsSameButBy s (after_entry b e).view v) here
    (subst (λ (v : ViewData). IsSameButBy s v a.view) later
    (subst (λ (t : Stamp). IsSameButBy t (after_action a.view x) a.view) (sym stamp)
    (action_leaves h a.view x (subst (IsMove h a) is move).comes)))

-- before a message, disks without a row in it are as they were
pub heard_leaves : (a : At) (view : ViewData) (e : Entry) (q : ℕ) (m : Message) → e ≡ Heard q m →
    a.view ≡ view → IsSameBut (numbers_of m.rows) (after_entry a e).view view
heard_leaves a view e q m is here =
    subst (λ (v : ViewData). IsSameBut (numbers_of m.rows) v view)
    (ap (λ (v : ViewData). set_rows v m.rows) (sym here)
    ∙ ap (λ (y : Entry). (after_entry a y).view) (sym is))
    (λ i none. sym (same_but view m.rows i none))

-- ---- one entry less
-- the local run and the queue of its view, if the log was these entries and a last one
pub record IsShorter (home : Home) (run : Local) (queue : QueueData) (xs : List Entry) (e : Entry) : Type 0 where
  pub right : IsRight home (record run { log = xs })
  pub valid : IsValidPlacing home.rules home.grid (rows_in (after_log (start_of run) xs).view)
  pub move : IsMove home (after_log (start_of run) xs) e
  pub stands : StandsFor queue (after_entry (after_log (start_of run) xs) e).view

pub shorter_is : (home : Home) (floor : Stamp) (live : Live) (xs : List Entry) (e : Entry) → IsInPlace home →
    IsPartOf home floor live → entries_in live.log ≡ xs ++ e ∷ [] →
    IsShorter home (run_in floor live) live.queue xs e
shorter_is home floor live xs e place along parts = record {
  right = right_before home run xs (e ∷ []) parts along.right;
  valid = valid_after home run xs (e ∷ []) place along.right parts;
  move = (moves_split home (start_of run) xs (e ∷ [])
      (subst (Moves home (start_of run)) parts along.right.moves)).1.0;
  stands = subst (λ (a : At). StandsFor live.queue a.view)
      (ap (after_log (start_of run)) parts ∙ after_join (start_of run) xs (e ∷ [])) along.stands;
}
  where
    run : Local
    run = run_in floor live

-- ---- the last entry of a log
-- the log is the others and it
apart_at : (log : List Logged) (n : ℕ) (e : Entry) → suc n ≡ length log → Some e ≡ slice_get (entries_in log) n →
    (l : Logged) × (l.0 ≡ e) × (unwrap_or (slice_get (backs_in log) n) [] ≡ l.1) × (log ≡ take n log ++ l ∷ [])
apart_at [] n e len is = absurd (none-some e (sym is))
apart_at (l ∷ []) zero e len is = (l, sym (same_Some e l.0 is), refl, refl)
apart_at (l ∷ []) (suc n) e len is = absurd (omega arith)
apart_at (l ∷ k ∷ log) zero e len is = absurd (omega arith)
apart_at (l ∷ k ∷ log) (suc n) e len is =
    let rest = apart_at (k ∷ log) n e (omega arith) is in
    (rest.0, rest.1, rest.2, ap (λ (xs : List Logged). l ∷ xs) rest.3)

last_apart : (log : List Logged) (e : Entry) → Some e ≡ slice_get (entries_in log) (length log - 1) →
    (l : Logged) × (l.0 ≡ e) × (last_back log ≡ l.1) × (log ≡ take (length log - 1) log ++ l ∷ [])
last_apart [] e is = absurd (none-some e (sym is))
last_apart (l ∷ log) e is = apart_at (l ∷ log) (length (l ∷ log) - 1) e (omega arith) is

-- there is none
none_last : (log : List Logged) → None ≡ slice_get (entries_in log) (length log - 1) → log ≡ []
none_last [] is = refl
none_last (l ∷ log) is =
    let many = as_many (l ∷ log) in
    absurd (none-some _ (is ∙ slice_get-get_or (entries_in (l ∷ log)) (length (l ∷ log) - 1) l.0 (omega arith)))

-- then nothing is taken back
pub nothing_taken : (live : Live) (view : ViewData) (log : List Logged) →
    log ≡ take (length live.log - 1) live.log → view ≡ set_rows live.view (last_back live.log) →
    None ≡ slice_get (entries_in live.log) (length live.log - 1) → record live { view = view; log = log } ≡ live
nothing_taken live view log left set last =
    let none = none_last live.log last in
    let same_log : log ≡ live.log = left ∙ ap (λ (xs : List Logged). take (length xs - 1) xs) none ∙ sym none in
    let same_view : view ≡ live.view = set ∙ ap (λ (xs : List Logged). set_rows live.view (last_back xs)) none in
    λ i. record live { view = same_view i; log = same_log i }

-- what a body is with the last entry taken back
pub record IsTakenBack (live : Live) (view : ViewData) (log : List Logged) (e : Entry) : Type 0 where
  pub parts : entries_in live.log ≡ entries_in log ++ e ∷ []
  pub traced : IsTraced (base_in live) view log
  pub newest : (after_log (start_in live) (entries_in log)).view ≡ view

pub taken_back : (live : Live) (view : ViewData) (log : List Logged) (e : Entry) → HasTrace live →
    log ≡ take (length live.log - 1) live.log → view ≡ set_rows live.view (last_back live.log) →
    Some e ≡ slice_get (entries_in live.log) (length live.log - 1) → IsTakenBack live view log e
taken_back live view log e traced left set last = record {
  parts = ap entries_in there ∙ entries_joined log (l ∷ []) ∙ ap (λ (x : Entry). entries_in log ++ x ∷ []) apart.1;
  traced = led;
  newest = view_of_log (start_in live) log ∙ led.forth;
}
  where
    apart : (l : Logged) × (l.0 ≡ e) × (last_back live.log ≡ l.1)
        × (live.log ≡ take (length live.log - 1) live.log ++ l ∷ [])
    apart = last_apart live.log e last

    l : Logged
    l = apart.0

    there : live.log ≡ log ++ l ∷ []
    there = apart.3 ∙ ap (λ (xs : List Logged). xs ++ l ∷ []) (sym left)

    led : IsTraced (base_in live) view log
    led = subst (λ (v : ViewData). IsTraced (base_in live) v log)
        (sym (set ∙ ap (set_rows live.view) apart.2))
        (traced_popped (base_in live) live.view log l (subst (IsTraced (base_in live) live.view) there traced))

-- it goes along what is left
pub along_before : (home : Home) (floor : Stamp) (live : Live) (view : ViewData) (log : List Logged)
    (queue : QueueData) (e : Entry) → IsTakenBack live view log e →
    IsShorter home (run_in floor live) live.queue (entries_in log) e → IsOf queue home.rules home.grid home.number →
    StandsFor queue view → IsPartOf home floor (record live { view = view; log = log; queue = queue })
along_before home floor live view log queue e back shorter of stands = record {
  right = subst (λ (b : ViewData). IsRight home (record {
    floor = floor;
    base = b;
    heard = live.inbox.heard;
    log = entries_in log;
  })) (sym (base_is (base_in live) new back.traced)) shorter.right;
  traced = traced;
  queue = of;
  stands = subst (StandsFor queue) (sym (now_is new traced)) stands;
}
  where
    new : Live
    new = record live { view = view; log = log; queue = queue }

    traced : HasTrace new
    traced = has_trace (base_in live) new back.traced
