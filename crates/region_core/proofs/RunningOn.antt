-- Events of a region's own columns that run one after the other.
use Rattle.std.proofs.Common.{◌≡◌, inl, inr, ℕ, zero, suc, ◌+◌, ◌<◌, ◌≤◌, [], ◌∷◌, ◌++◌, length, length-append, sym, ap, ◌∙◌, subst, refl, arith, Bool, true, false, Option, Some, Result, Ok, Err, None}
use Rattle.std.specs.Prelude.{◌↔◌, IfOk, IfSome, OnErr}
use Rattle.event_stamps.specs.declared.Stamp.{Stamp}
use Rattle.event_stamps.specs.Order.{Before}
use Rattle.event_stamps.specs.Least.{IsLeast, IsLeastOf}
use Rattle.event_stamps.proofs.Least.{one_least}
use Rattle.event_stamps.proofs.Rising.{last_joined}
use Rattle.event_tree.specs.Keys.{IsKeyBefore}
use Rattle.event_tree.specs.Codes.{IsCoded}
use Rattle.event_stamps.proofs.StampOrder.{before_trans}
use Rattle.event_stamps.proofs.IsBefore.{before_not_before}
use Rattle.local_run.specs.declared.home.Home.{Home}
use Rattle.local_run.specs.declared.entry.Entry.TheVariants.{Native}
use Rattle.local_run.specs.declared.entry.TheConstants.{MAX_ENTRIES}
use Rattle.local_run.specs.declared.answers.Step.{Step}
use Rattle.local_run.specs.declared.answers.Step.TheVariants.{Ran}
use Rattle.local_run.specs.Entries.{entry_stamp, clock_of}
use Rattle.local_run.specs.LocalRun.{At, Local, Trails, now_of, IsOwn, IsWaiting}
use Rattle.local_run.specs.Answers.{IsInTurn}
use Rattle.local_run.specs.Opening.{RegionData}
use Rattle.local_run.specs.Running.{GoesOn, IsDueBefore}
use Rattle.local_run.specs.Steps.{RegionSteps}
use Rattle.local_run.proofs.Logs.{now_appended}
use Rattle.local_run.proofs.Running.{IsUnderWayBefore, one_more_made_before}
use Rattle.region_core.specs.declared.live.Live.{Live}
use Rattle.region_parts.specs.declared.place.Place.{Place}
use Rattle.region_core.specs.Choices.{IsAtTurn}
use Rattle.region_core.specs.Live.{run_in, now_in, region_in, IsLive}
use Rattle.region_core.specs.RunsOn.{IsClear, IsOwnInTurn, MayRunOn, RunsOneBefore, RunsOrFails, RunsOn, Follow, answer_after}
use Rattle.region_core.specs.declared.running_on.RunSoFar.{RunSoFar}
use Rattle.event_log.specs.Logged.{entries_in}
use Rattle.region_parts.proofs.Lists.{as_many}

-- ---- before all messages that wait
pub clear_of_first : (first : Stamp) (waiting : Trails) → IsLeast (IsWaiting waiting) first → IsClear first waiting
clear_of_first first waiting least s waits lt = least.1 s waits lt

pub clear_of_bound : (first bound : Stamp) (waiting : Trails) → IsLeast (IsWaiting waiting) first →
    ¬ Before first bound → IsClear bound waiting
clear_of_bound first bound waiting least late s waits lt =
    least.1 s waits (before_not_before s first bound lt late)

-- an event of its own columns leaves the messages that wait
pub still_clear : (h : Home) (limit s : Stamp) (r new : Local) → RunsOneBefore h limit s r new →
    IsClear limit (now_of r).waiting → IsClear limit (now_of new).waiting
still_clear h limit s r new next clear =
    subst (IsClear limit)
    (sym (ap (λ (x : Local). (now_of x).waiting) next.1.2.3
    ∙ ap (λ (a : At). a.waiting) (now_appended r (Native next.1.2.0)))) clear

-- the least event of its own columns comes next, if it is before what waits
pub clear_turn : (h : Home) (r : Local) (s limit : Stamp) → length r.log < MAX_ENTRIES →
    IsLeast (IsOwn h (now_of r).view) s → Before s limit → IsClear limit (now_of r).waiting → IsInTurn r s →
    IsAtTurn h r s
clear_turn h r s limit room least lt clear turn = record {
  due = (
    room,
    (
      inl least.0,
      λ t offered before. elim offered [
        | inl own ↦ least.1 t own before
        | inr waits ↦ clear t waits (before_trans t s limit before lt)
      ],
    ),
  );
  turn = turn;
  alone = λ waits. clear s waits lt;
}

-- ---- turns
-- what is found of the least native candidate
pub found_in_turn : (h : Home) (r : Local) (own : Option Stamp) → IsLeastOf (IsOwn h (now_of r).view) own →
    IfSome own (IsInTurn r) → IsOwnInTurn h r
found_in_turn h r None none turn = λ s least. absurd (none s least.0)
found_in_turn h r (Some own) is turn = λ s least.
    subst (IsInTurn r) (one_least (IsOwn h (now_of r).view) own s is least) turn

-- what is later than the event that ran is in turn
later_in_turn : (h : Home) (limit s t : Stamp) (r new : Local) → RunsOneBefore h limit s r new → Before s t → IsInTurn new t
later_in_turn h limit s t r new (near, (due, turn, (x, same, move, run))) lt =
    let clock : clock_of r.floor (r.log ++ Native x ∷ []) ≡ s =
    last_joined entry_stamp r.floor r.log (Native x) [] ∙ same in
    subst (λ (l : Local). IsInTurn l t) (sym run) (
      λ early. turn.0 (before_trans s t r.floor lt early),
      inr (subst (λ (v : Stamp). Before v t) (sym clock) lt),
    )

pub next_in_turn : (h : Home) (limit s : Stamp) (r new : Local) (top : Option Stamp) → RunsOneBefore h limit s r new →
    IsLeastOf (IsOwn h (now_of new).view) top → IsKeyBefore (Some s) top → IsOwnInTurn h new
next_in_turn h limit s r new None next none later = λ t least. absurd (none t least.0)
next_in_turn h limit s r new (Some t) next least later =
    found_in_turn h new (Some t) least (later_in_turn h limit s t r new next later)

-- an event before the limit ran
pub ran_next : (place : Place) (limit s : Stamp) (live new : Live) (ran : Bool) → Before s limit → ran ≡ true →
    RunsOrFails place s live new ran → RunsOneBefore place.home limit s (run_in place.floor live) (run_in place.floor new)
ran_next place limit s live new ran near did steps = (near, subst (RunsOrFails place s live new) did steps)

-- its key is before that of the limit
pub near_key : (limit s : Stamp) (top bound found : Option Stamp) → found ≡ top → found ≡ Some s → bound ≡ Some limit →
    IsKeyBefore top bound → Before s limit
near_key limit s top bound found same is at near =
    subst (λ (k : Option Stamp). IsKeyBefore (Some s) k) at (subst (λ (k : Option Stamp). IsKeyBefore k bound) (sym same ∙ is) near)

-- its code is before the bound for codes
pub near_code : (limit s : Stamp) (top bound found : Option Stamp) → found ≡ top → found ≡ Some s → IfSome found IsCoded →
    ((t : Stamp) → IsCoded t → (IsKeyBefore (Some t) bound ↔ Before t limit)) → IsKeyBefore top bound → Before s limit
near_code limit s top bound found same is coded bounds near =
    (bounds s (subst (λ (k : Option Stamp). IfSome k IsCoded) is coded)).0
    (subst (λ (k : Option Stamp). IsKeyBefore k bound) (sym same ∙ is) near)

-- a step that runs an event appends one entry
pub one_longer : (h : Home) (floor limit s : Stamp) (live new : Live) →
    RunsOneBefore h limit s (run_in floor live) (run_in floor new) → length new.log ≡ length live.log + 1
one_longer h floor limit s live new (near, (due, turn, (x, same, move, run))) =
    sym (as_many new.log) ∙ ap (λ (r : Local). length r.log) run
    ∙ length-append (entries_in live.log) (Native x ∷ []) ∙ ap (λ (n : ℕ). n + 1) (as_many live.log)

-- ---- what follows
-- one more step after those that follow
one_follows : (place : Place) (limit s : Stamp) (made : ℕ) (given before : Step) (old : RegionData)
    (live new : Live) → Follow limit made given old before (region_in place live) →
    RunsOneBefore place.home limit s (run_in place.floor live) (run_in place.floor new) →
    Follow limit (made + 1) given old (Ran s) (region_in place new)
one_follows place limit s made given before old live new follow next =
    let step : RegionSteps (region_in place live) (Ran s) (region_in place new) =
    record { home = refl; floor = refl; run = (run_in place.floor new, next.1, refl) } in
    let more : suc made ≡ made + 1 = omega arith in
    subst (λ (n : ℕ). Follow limit n given old (Ran s) (region_in place new)) more
    (before, region_in place live, follow, (s, inl next.1.0.1, next.0), step, tt)

-- the same for equal things
pub still_follows : (place : Place) (limit : Stamp) (given : Step) (old : RegionData) (made n : ℕ)
    (last event : Option Stamp) (live new : Live) → n ≡ made → event ≡ last → new ≡ live →
    Follow limit made given old (answer_after given last) (region_in place live) →
    Follow limit n given old (answer_after given event) (region_in place new)
still_follows place limit given old made n last event live new many which same follow =
    subst (λ (k : ℕ). Follow limit k given old (answer_after given event) (region_in place new)) (sym many)
    (subst (λ (e : Option Stamp). Follow limit made given old (answer_after given e) (region_in place new)) (sym which)
    (subst (λ (l : Live). Follow limit made given old (answer_after given last) (region_in place l)) (sym same)
    follow))

-- the last of them ran an event
pub stops_after : (place : Place) (limit s : Stamp) (given : Step) (old : RegionData) (made n : ℕ) (last event : Option Stamp)
    (live new end : Live) → n ≡ made + 1 → event ≡ Some s → end ≡ new →
    Follow limit made given old (answer_after given last) (region_in place live) →
    RunsOneBefore place.home limit s (run_in place.floor live) (run_in place.floor new) →
    Follow limit n given old (answer_after given event) (region_in place end)
stops_after place limit s given old made n last event live new end many which same follow one =
    still_follows place limit given old (made + 1) n (Some s) event new end many which same
    (one_follows place limit s made given (answer_after given last) old live new follow one)

-- what is before a limit is before what isn't before the limit
follow_further : (bound limit : Stamp) (made : ℕ) (before answer : Step) (old new : RegionData) → ¬ Before bound limit →
    Follow limit made before old answer new → Follow bound made before old answer new
follow_further bound limit zero before answer old new near follow = follow
follow_further bound limit (suc made) before answer old new near (last, mid, follow, (s, due, lt), step, goes) = (
  last,
  mid,
  follow_further bound limit made before last old mid near follow,
  (s, due, before_not_before s bound limit lt near),
  step,
  goes,
)

pub runs_further : {E : Type 0} (done : Result RunSoFar E) (bound limit : Stamp) (given : RunSoFar) (old new : RegionData) →
    ¬ Before bound limit → IfOk done (RunsOn limit given old new) → IfOk done (RunsOn bound given old new)
runs_further (Ok so_far) bound limit given old new near (made, left, follow) =
    (made, left, follow_further bound limit made given.answer so_far.answer old new near follow)
runs_further (Err e) bound limit given old new near ran = tt

-- ---- while events run
-- the events that ran so far are steps for which the log has room, and what comes next is known and in turn
pub record HasRun (place : Place) (limit : Stamp) (most : ℕ) (given : Step) (old : RegionData) (made : ℕ) (last next : Option Stamp)
    (live : Live) : Type 0 where
  pub ready : MayRunOn place limit live
  pub top : IsLeastOf (IsOwn place.home (now_in live).view) next
  pub room : length live.log + most ≤ MAX_ENTRIES + made
  pub within : made ≤ most
  pub ran : Follow limit made given old (answer_after given last) (region_in place live)

pub has_run_none : (place : Place) (limit : Stamp) (most room : ℕ) (given : Step) (last top : Option Stamp) (live : Live) →
    MayRunOn place limit live → IsLeastOf (IsOwn place.home (now_in live).view) top → length live.log + room ≡ MAX_ENTRIES →
    most ≤ room → last ≡ None → HasRun place limit most given (region_in place live) 0 last top live
has_run_none place limit most room given last top live ready least len few none = record {
  ready = ready;
  top = least;
  room = omega (arith, len, few);
  within = omega arith;
  ran = still_follows place limit given (region_in place live) 0 0 None last live live refl none refl (refl, refl);
}

-- what comes next, before the limit
pub next_at_turn : (place : Place) (limit s : Stamp) (most : ℕ) (given : Step) (old : RegionData) (ran : ℕ) (last top : Option Stamp)
    (live : Live) → HasRun place limit most given old ran last top live → ran < most → top ≡ Some s → Before s limit →
    IsAtTurn place.home (run_in place.floor live) s
next_at_turn place limit s most given old ran last top live has few is near =
    let least = subst (IsLeastOf (IsOwn place.home (now_in live).view)) is has.top in
    let many = as_many live.log in
    clear_turn place.home (run_in place.floor live) s limit (omega (arith, many, has.room, few)) least near has.ready.clear
    (has.ready.turn s least)

pub has_run_more : (place : Place) (limit s : Stamp) (most : ℕ) (given : Step) (old : RegionData) (ran : ℕ)
    (last top event next : Option Stamp) (live new : Live) → HasRun place limit most given old ran last top live → ran < most →
    RunsOneBefore place.home limit s (run_in place.floor live) (run_in place.floor new) → IsLive place new → event ≡ Some s →
    IsLeastOf (IsOwn place.home (now_in new).view) next → IsKeyBefore event next →
    HasRun place limit most given old (ran + 1) event next new
has_run_more place limit s most given old ran last top event next live new has few one right is least later =
    let longer = one_longer place.home place.floor limit s live new one in
    record {
      ready = record {
        live = right;
        in_range = has.ready.in_range;
        clear = still_clear place.home limit s (run_in place.floor live) (run_in place.floor new) one has.ready.clear;
        turn = next_in_turn place.home limit s (run_in place.floor live) (run_in place.floor new) next one least
            (subst (λ (k : Option Stamp). IsKeyBefore k next) is later);
      };
      top = least;
      room = omega (arith, longer, has.room);
      within = omega (arith, few);
      ran = stops_after place limit s given old ran (ran + 1) last event live new new refl is refl has.ran one;
    }

-- an event that fails changes nothing
pub failed_same : (place : Place) (s : Stamp) (live new : Live) (ran : Bool) → ran ≡ false →
    RunsOrFails place s live new ran → new ≡ live
failed_same place s live new ran is steps = (subst (RunsOrFails place s live new) is steps).0

-- a number of steps, with their results
pub runs_on : (limit : Stamp) (given so_far : RunSoFar) (made : ℕ) (old new : RegionData) (last : Option Stamp) →
    so_far.answer ≡ answer_after given.answer last → so_far.left + made ≡ given.left →
    Follow limit made given.answer old (answer_after given.answer last) new → RunsOn limit given old new so_far
runs_on limit given so_far made old new last answer left follow =
    (made, left, subst (λ (a : Step). Follow limit made given.answer old a new) (sym answer) follow)

pub went_on : (bound : Stamp) (made n : ℕ) (first : RegionData) (before answer : Step) (old new : RegionData) →
    IsUnderWayBefore bound made first before old → GoesOn before → Follow bound n before old answer new →
    IsUnderWayBefore bound (made + n) first answer new × GoesOn answer
went_on bound made zero first before answer old new way on (is, same) =
    let none : made ≡ made + 0 = omega arith in
    let here : IsUnderWayBefore bound made first before new =
    subst (λ (r : RegionData). IsUnderWayBefore bound made first before r) (sym same) way in (
      subst (λ (n : ℕ). IsUnderWayBefore bound n first answer new) none
          (subst (λ (a : Step). IsUnderWayBefore bound made first a new) (sym is) here),
      subst GoesOn (sym is) on,
    )
went_on bound made (suc n) first before answer old new way on (last, mid, follow, due, step, goes) =
    let r = went_on bound made n first before last old mid way on follow in
    let one : (made + n) + 1 ≡ made + suc n = omega arith in (
      subst (λ (k : ℕ). IsUnderWayBefore bound k first answer new) one
          (one_more_made_before bound (made + n) first mid new last answer r.0 r.1 due step),
      goes,
    )

pub on_err : {A E : Type 0} (r : Result A E) (P : Type 0) → P → OnErr r P
on_err (Ok x) P p = tt
on_err (Err e) P p = p
