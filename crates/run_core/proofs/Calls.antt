-- Calls on regions, one after the other, and what goes on standing.
use Rattle.std.proofs.Common.{◌≡◌, inl, inr, ℕ, ◌+◌, ◌<◌, ◌≤◌, List, [], ◌∷◌, ◌++◌}
use Rattle.std.proofs.Common.{length, take, slice_get, slice_set, get_or, append_assoc}
use Rattle.std.proofs.Common.{sym, ap, ◌∙◌, subst, refl, Option, Some, None, Result, Ok, Err}
use Rattle.std.specs.Prelude.{OnErr}
use Rattle.std.proofs.lemmas.List.{take_more}
use Rattle.std.proofs.lemmas.Option.{same_Some}
use Rattle.event_stamps.proofs.Decision.{same_number}
use Rattle.cell_sequence.specs.State.{CellStateData}
use Rattle.cell_sequence.proofs.Lists.{get_here, get_other}
use Rattle.region_view.specs.Views.{IsViewOf}
use Rattle.region_view.specs.declared.rows.Message.{Message}
use Rattle.local_run.specs.declared.home.Home.{Home}
use Rattle.local_run.specs.declared.answers.Step.{Step}
use Rattle.local_run.specs.declared.answers.Step.TheVariants.{Ran, Heard as Took, Idle, Past, Tied}
use Rattle.local_run.specs.declared.answers.Step.TheVariants.{Halted, Held, Spent}
use Rattle.local_run.specs.declared.answers.Hearing.{Hearing}
use Rattle.local_run.specs.declared.answers.Hearing.TheVariants.{Same, Rewound, Later, Apart}
use Rattle.local_run.specs.LocalRun.{Local}
use Rattle.local_run.specs.Answers.{StepsTo, HearsFrom}
use Rattle.local_run.specs.Opening.{RegionData}
use Rattle.local_run.specs.Steps.{RegionSteps, StepsOn}
use Rattle.local_run.specs.Hearing.{HearsAnother, HearsRegion}
use Rattle.local_run.specs.Standing.{StandsOn}
use Rattle.run_core.specs.declared.playing.CoreStep.{CoreStep}
use Rattle.run_core.specs.declared.playing.CoreStep.TheVariants.{Turn, Hear}
use Rattle.run_core.specs.declared.playing.Answer.{Answer}
use Rattle.run_core.specs.declared.playing.Answer.TheVariants.{Step as Stepped, Hearing as Heard}
use Rattle.run_core.specs.Turns.{Turns, Meets}
use Rattle.run_core.specs.Plays.{ArePair, PlaysOne, Plays, answers_of, GoOnStanding}

-- ---- one call
pub turned : (regions : List RegionData) (call : CoreStep) (k : ℕ) (s : Step) (after : List RegionData) →
    call ≡ Turn k → k < length regions → Turns regions k s after →
    PlaysOne regions call (Some (Stepped s)) after
unfolding PlaysOne
turned regions call k s after is within turns =
    subst (λ (v : CoreStep). PlaysOne regions v (Some (Stepped s)) after) (sym is)
    (inl (s, within, turns, refl))

pub turn_passed_over : (regions : List RegionData) (call : CoreStep) (k : ℕ) → call ≡ Turn k →
    length regions ≤ k → PlaysOne regions call None regions
unfolding PlaysOne
turn_passed_over regions call k is past =
    subst (λ (v : CoreStep). PlaysOne regions v None regions) (sym is) (inr (past, (refl, refl)))

pub met : (regions : List RegionData) (call : CoreStep) (k q : ℕ) (h : Hearing) (after : List RegionData) →
    call ≡ Hear k q → ArePair regions k q → Meets regions k q h after →
    PlaysOne regions call (Some (Heard h)) after
unfolding PlaysOne
met regions call k q h after is pair meets =
    subst (λ (v : CoreStep). PlaysOne regions v (Some (Heard h)) after) (sym is)
    (inl (h, pair, meets, refl))

pub hearing_passed_over : (regions : List RegionData) (call : CoreStep) (k q : ℕ) → call ≡ Hear k q →
    ¬ ArePair regions k q → PlaysOne regions call None regions
unfolding PlaysOne
hearing_passed_over regions call k q is not =
    subst (λ (v : CoreStep). PlaysOne regions v None regions) (sym is) (inr (not, (refl, refl)))

-- ---- calls one after the other
pub plays_none : (regions : List RegionData) → Plays regions [] [] regions
unfolding Plays
plays_none regions = (refl, refl)

plays_one : (regions after : List RegionData) (c : CoreStep) (first : Option Answer) →
    PlaysOne regions c first after → Plays regions (c ∷ []) (answers_of first ++ []) after
unfolding Plays
plays_one regions after c first one = (after, first, [], one, (refl, refl), refl)

plays_join : (regions mid after : List RegionData) (cs ds : List CoreStep) (xs ys : List Answer) →
    Plays regions cs xs mid → Plays mid ds ys after → Plays regions (cs ++ ds) (xs ++ ys) after
unfolding Plays
plays_join regions mid after [] ds xs ys (none, same) more =
    subst (λ (v : List Answer). Plays regions ds (v ++ ys) after) (sym none)
    (subst (λ (v : List RegionData). Plays v ds ys after) same more)
plays_join regions mid after (c ∷ cs) ds xs ys (next, first, rest, one, others, is) more = (
  next,
  first,
  rest ++ ys,
  one,
  plays_join next mid after cs ds rest ys others more,
  ap (λ (v : List Answer). v ++ ys) is ∙ append_assoc (answers_of first) rest ys,
)

-- one more call of a list
pub plays_more : (regions mid after : List RegionData) (calls : List CoreStep) (i : ℕ) (d : CoreStep)
    (answers : List Answer) (first : Option Answer) → i < length calls →
    Plays regions (take i calls) answers mid → PlaysOne mid (get_or calls i d) first after →
    Plays regions (take (i + 1) calls) (answers ++ answers_of first) after
plays_more regions mid after calls i d answers first within so_far one =
    subst (λ (v : List CoreStep). Plays regions v (answers ++ answers_of first) after)
    (sym (take_more calls i d within))
    (subst (λ (v : List Answer). Plays regions (take i calls ++ get_or calls i d ∷ []) (answers ++ v) after)
    (without_empty first)
    (plays_join regions mid after (take i calls) (get_or calls i d ∷ []) answers (answers_of first ++ [])
    so_far (plays_one mid after (get_or calls i d) first one)))
  where
    without_empty : (o : Option Answer) → answers_of o ++ [] ≡ answers_of o
    without_empty None = refl
    without_empty (Some a) = refl

-- ---- what goes on standing
step_keeps_base : (h : Home) (r new : Local) (answer : Step) → StepsTo h r answer new → new.base ≡ r.base
step_keeps_base h r new (Ran s) (due, turn, (a, is, move, left)) = ap (λ (v : Local). v.base) left
step_keeps_base h r new (Took s) (due, turn, (q, m, is, move, left)) = ap (λ (v : Local). v.base) left
step_keeps_base h r new Idle (few, none, left) = ap (λ (v : Local). v.base) left
step_keeps_base h r new (Past s clock) (due, not, is, left) = ap (λ (v : Local). v.base) left
step_keeps_base h r new (Tied s) (due, turn, shared, left) = ap (λ (v : Local). v.base) left
step_keeps_base h r new (Halted limit) (halts, left) = ap (λ (v : Local). v.base) left
step_keeps_base h r new Held (full, left) = ap (λ (v : Local). v.base) left
step_keeps_base h r new Spent none = absurd none

hearing_keeps_base : (k : ℕ) (sent : List Message) (r new : Local) (answer : Hearing) →
    HearsFrom k sent r answer new → new.base ≡ r.base
hearing_keeps_base k sent r new Same h = ap (λ (v : Local). v.base) h.1
hearing_keeps_base k sent r new (Later d) h = h.2.base
hearing_keeps_base k sent r new (Rewound d) h = h.2.base
hearing_keeps_base k sent r new Apart none = absurd none

-- the same base, floor and home
goes_on : (state : CellStateData) (k : ℕ) (old new : RegionData) (left : Local) (h : StandsOn state k old) →
    new.home ≡ old.home → new.floor ≡ old.floor → new.run ≡ Some left → left.base ≡ h.run.base →
    StandsOn state k new
goes_on state k old new left h home floor alive base = record {
  run = left;
  alive = alive;
  number = ap (λ (v : Home). v.number) home ∙ h.number;
  rules = ap (λ (v : Home). v.rules) home ∙ h.rules;
  grid = ap (λ (v : Home). v.grid) home ∙ h.grid;
  floor = floor ∙ h.floor;
  base = subst (IsViewOf state.grid k (slice_get state.placed)) (sym base) h.base;
}

pub stepped_stands : (state : CellStateData) (k : ℕ) (old new : RegionData) (answer : Step) →
    RegionSteps old answer new → StandsOn state k old → StandsOn state k new
stepped_stands state k old new answer steps h =
    let on : StepsOn old.home (Some h.run) answer new.run =
    subst (λ (v : Option Local). StepsOn old.home v answer new.run) h.alive steps.run in
    goes_on state k old new on.0 h steps.home steps.floor on.2
    (step_keeps_base old.home h.run on.0 answer on.1)

heard_another_stands : (state : CellStateData) (k : ℕ) (old from new : RegionData) (answer : Hearing) →
    HearsAnother old from new answer → StandsOn state k old → StandsOn state k new
heard_another_stands state k old from new answer hears h =
    goes_on state k old new hears.after h hears.home hears.floor hears.is_run
    (hearing_keeps_base from.home.number _ hears.before hears.after answer hears.hears
    ∙ ap (λ (v : Local). v.base) (same_Some hears.before h.run (sym hears.was_run ∙ h.alive)))

pub heard_stands : (state : CellStateData) (k : ℕ) (old from new : RegionData) (answer : Hearing) →
    HearsRegion old from answer new → StandsOn state k old → StandsOn state k new
heard_stands state k old from new Apart same h = subst (StandsOn state k) (sym same) h
heard_stands state k old from new Same hears h = heard_another_stands state k old from new Same hears h
heard_stands state k old from new (Later at) hears h =
    heard_another_stands state k old from new (Later at) hears h
heard_stands state k old from new (Rewound at) hears h =
    heard_another_stands state k old from new (Rewound at) hears h

-- the region at each place goes on standing, if one region is set
set_stands : (regions : List RegionData) (place : ℕ) (old new : RegionData) →
    slice_get regions place ≡ Some old →
    ((state : CellStateData) (k : ℕ) → StandsOn state k old → StandsOn state k new) →
    GoOnStanding regions (slice_set regions place new)
set_stands regions place old new here on state i k region at h = elim (same_number i place) [
  | inl same ↦
      let there : slice_get regions place ≡ Some region = ap (slice_get regions) (sym same) ∙ at in
      let is : region ≡ old = same_Some region old (sym there ∙ here) in (
        new,
        ap (slice_get (slice_set regions place new)) same ∙ get_here regions place new old here,
        on state k (subst (StandsOn state k) is h),
      )
  | inr other ↦ (region, get_other regions place i new other ∙ at, h)
]

all_stand : (regions after : List RegionData) → after ≡ regions → GoOnStanding regions after
all_stand regions after same =
    subst (GoOnStanding regions) (sym same) (λ state i k region at h. (region, at, h))

turn_stands : (regions after : List RegionData) (k : ℕ) (s : Step) → Turns regions k s after →
    GoOnStanding regions after
turn_stands regions after k s turns = subst (GoOnStanding regions) (sym turns.is)
    (set_stands regions k turns.region turns.left turns.here
    (λ state n h. stepped_stands state n turns.region turns.left s turns.steps h))

meeting_stands : (regions after : List RegionData) (k q : ℕ) (answer : Hearing) →
    Meets regions k q answer after → GoOnStanding regions after
meeting_stands regions after k q answer meets = subst (GoOnStanding regions) (sym meets.is)
    (set_stands regions k meets.hearer meets.left meets.here
    (λ state n h. heard_stands state n meets.hearer meets.sender meets.left answer meets.hears h))

one_stands : (regions after : List RegionData) (c : CoreStep) (first : Option Answer) →
    PlaysOne regions c first after → GoOnStanding regions after
unfolding PlaysOne
one_stands regions after (Turn k) first (inl (s, within, turns, is)) = turn_stands regions after k s turns
one_stands regions after (Turn k) first (inr (past, (none, same))) = all_stand regions after same
one_stands regions after (Hear k q) first (inl (answer, pair, meets, is)) =
    meeting_stands regions after k q answer meets
one_stands regions after (Hear k q) first (inr (not, (none, same))) = all_stand regions after same

pub plays_stand : (regions after : List RegionData) (cs : List CoreStep) (answers : List Answer) →
    Plays regions cs answers after → GoOnStanding regions after
unfolding Plays
plays_stand regions after [] answers (none, same) = all_stand regions after same
plays_stand regions after (c ∷ cs) answers (mid, first, rest, one, others, is) =
    λ state i k region at h. let now = one_stands regions mid c first one state i k region at h in
    plays_stand mid after cs rest others state i k now.0 now.1 now.2

-- ---- memory runs out
pub on_err : {T E : Type 0} (r : Result T E) (P : Type 0) → P → OnErr r P
on_err (Ok x) P p = tt
on_err (Err e) P p = p
