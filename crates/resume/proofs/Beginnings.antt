-- The run up to a tick is the beginning of the run.
use Rattle.std.proofs.Common.{◌≡◌, ◌⊎◌, inl, inr, ℕ, zero, suc, ◌+◌, ◌<◌, ◌≤◌, Bool, true, false, List, [], ◌∷◌, ◌++◌, sym, ap, ◌∙◌, refl, arith, Option, Some, None, Result, Ok, Err, slice_get, slice_set, map, fold, take_while, nat_lt, cond}
use Rattle.std.specs.Prelude.{ℤ, ◌==◌, if◌then◌else◌}
use Rattle.std.proofs.lemmas.Option.{none-some, same_Some}
use Rattle.std.proofs.lemmas.List.Sums.{take_while-cons}
use Rattle.fixed_motion.specs.declared.rules.Rules.{Rules}
use Rattle.fixed_motion.specs.declared.disk.Disk.{Disk}
use Rattle.fixed_motion.specs.Motion.{mark_at}
use Rattle.event_stamps.specs.declared.Stamp.{Stamp}
use Rattle.event_stamps.specs.Order.{Before}
use Rattle.event_stamps.proofs.StampOrder.{tick_not_after, not_before_itself, before_trans}
use Rattle.event_rules.specs.declared.change.Change.{Change}
use Rattle.event_rules.specs.declared.change.Limit.{Limit}
use Rattle.event_rules.specs.declared.change.Limit.TheVariants.{Rounds, Speed}
use Rattle.event_rules.specs.declared.outcome.Spot.{Spot}
use Rattle.event_rules.specs.declared.outcome.Outcome.{Outcome}
use Rattle.event_rules.specs.declared.outcome.Outcome.TheVariants.{Done, Limit as Passes}
use Rattle.event_rules.specs.Effect.{applied, change_of, keeps_speed}
use Rattle.event_rules.specs.Run.{Runs, Steps, IsCandidate, IsNext, ComesTo, IsValidState, partner_of, effect, set_some, spots_of, state_at}
use Rattle.event_rules.proofs.Apart.{KeepsPlace, KeepPlaces, wall_keeps, pair_keeps}
use Rattle.event_rules.proofs.Ran.{ran, event_valid}
use Rattle.event_rules.proofs.Rise.{candidate_before_end}
use Rattle.event_rules.proofs.States.{IsTouched, after_effect, fails_next}
use Rattle.resume.specs.Shift.{later_change, shifted}
use Rattle.resume.specs.Parts.{ending_at, tick_of_limit, PassesBefore}
use Rattle.resume.proofs.Rebased.{HasStarted, wall_tick_same, contact_tick_same}
use Rattle.resume.proofs.Resumed.{NoneBefore}

-- ---- candidates
-- the candidates of a run that ends at another tick which are before its end
candidate_ending : (rules : Rules) (e : ℕ) (xs : List Disk) (s : Stamp) → s.tick < e →
    IsCandidate rules xs s → IsCandidate (ending_at e rules) xs s
candidate_ending rules e xs s lt h = elim h [
  | inl wall ↦
      let a = wall.0 in
      let tick = wall.2.0 in
      inl (
        a,
        wall.1,
        (
          wall_tick_same rules e a a s.second s.tick s.tick refl tick.base refl refl tick,
          lt,
          wall.2.2,
        ),
      )
  | inr pair ↦
      let a = pair.1.0 in
      let b = pair.1.2.0 in
      let event = pair.1.2.2 in
      let tick = event.0 in
      inr (
        pair.0,
        (
          a,
          pair.1.1,
          (
            b,
            pair.1.2.1,
            (
              contact_tick_same rules e a b a b s.tick s.tick refl refl refl refl tick.first_base
                  tick.second_base refl refl tick,
              lt,
              event.2,
            ),
          ),
        ),
      )
]

candidate_of_all : (rules : Rules) (at : ℕ) (xs : List Disk) (s : Stamp) → at ≤ rules.end →
    IsCandidate (ending_at at rules) xs s → IsCandidate rules xs s
candidate_of_all rules at xs s le h =
    let lt : s.tick < at = candidate_before_end (ending_at at rules) xs s h in
    candidate_ending (ending_at at rules) rules.end xs s (omega arith) h

tick_up_to : (s t : Stamp) → Before s t → s.tick ≤ t.tick
tick_up_to s t before = tick_not_after s t (λ back. not_before_itself s (before_trans s t s before back))

next_of_all : (rules : Rules) (at : ℕ) (xs : List Disk) (s : Stamp) → at ≤ rules.end →
    IsNext (ending_at at rules) xs s → IsNext rules xs s
next_of_all rules at xs s le next =
    let lt : s.tick < at = candidate_before_end (ending_at at rules) xs s next.0 in (
      candidate_of_all rules at xs s le next.0,
      λ t candidate before.
          let tick = tick_up_to t s before in
          next.1 t (candidate_ending rules at xs t (omega arith) candidate) before,
    )

speed_of_all : (rules : Rules) (e : ℕ) (c : Change) → keeps_speed (ending_at e rules) c ≡ keeps_speed rules c
speed_of_all rules e c = by_second c.second
  where
    by_second : (o : Option Disk) →
        keeps_speed (ending_at e rules) (record c { second = o }) ≡ keeps_speed rules (record c { second = o })
    by_second None = refl
    by_second (Some d) = refl

comes_of_all : (rules : Rules) (e : ℕ) (xs : List Disk) (s : Stamp) (r : Result Change Limit) →
    ComesTo (ending_at e rules) xs s r → ComesTo rules xs s r
comes_of_all rules e xs s r comes =
    let b = partner_of s.kind xs s.second in
    let c = change_of s comes.0 b in
    let same : applied (ending_at e rules) s comes.0 b ≡ applied rules s comes.0 b =
    λ i. if s.round == rules.round_limit then Err (Rounds s)
    else if speed_of_all rules e c i then Ok c else Err (Speed s) in
    (comes.0, comes.1, comes.2 ∙ same)

-- the changes that lead on up to the tick lead on
pub steps_of_all : (rules : Rules) (at : ℕ) (xs : List Disk) (changes : List Change) (later : List Disk) →
    at ≤ rules.end → Steps (ending_at at rules) xs changes later → Steps rules xs changes later
steps_of_all rules at xs [] later le steps = steps
steps_of_all rules at xs (c ∷ cs) later le steps = (
  next_of_all rules at xs c.stamp le steps.0,
  comes_of_all rules at xs c.stamp (Ok c) steps.1,
  steps_of_all rules at (effect xs c) cs later le steps.2,
)

-- ---- sizes
abbrev pub sizes : List Disk → List ℤ
sizes xs = map (λ (a : Disk). a.size) xs

set_sizes : (xs : List Disk) (i : ℕ) (v : Disk) → slice_get (sizes xs) i ≡ Some v.size →
    sizes (slice_set xs i v) ≡ sizes xs
set_sizes [] i v e = refl
set_sizes (x ∷ xs) zero v e = let same : x.size ≡ v.size = same_Some x.size v.size e in
    ap (λ (n : ℤ). n ∷ sizes xs) (sym same)
set_sizes (x ∷ xs) (suc i) v e = ap (λ (ns : List ℤ). x.size ∷ ns) (set_sizes xs i v e)

size_at : (xs : List Disk) (i : ℕ) (a : Disk) → slice_get xs i ≡ Some a → slice_get (sizes xs) i ≡ Some a.size
size_at [] i a e = absurd (none-some a e)
size_at (x ∷ xs) zero a e = ap (λ (d : Disk). Some d.size) (same_Some x a e)
size_at (x ∷ xs) (suc i) a e = size_at xs i a e

effect_sizes : (xs : List Disk) (c : Change) → KeepPlaces xs c → sizes (effect xs c) ≡ sizes xs
effect_sizes xs c keep =
    let k = keep.first in
    let first = set_sizes xs c.stamp.first c.first (size_at xs c.stamp.first k.old k.at ∙ ap Some (sym k.size)) in
    by_second c.second keep.second first
  where
    by_second : (o : Option Disk) →
        ((d : Disk) → o ≡ Some d → KeepsPlace xs c.stamp.tick c.stamp.second d) →
        sizes (slice_set xs c.stamp.first c.first) ≡ sizes xs →
        sizes (set_some (slice_set xs c.stamp.first c.first) c.stamp.second o) ≡ sizes xs
    by_second None keeps first = first
    by_second (Some d) keeps first =
        let k = keeps d refl in
        let ys = slice_set xs c.stamp.first c.first in
        set_sizes ys c.stamp.second d
        (ap (λ (ns : List ℤ). slice_get ns c.stamp.second) first
        ∙ size_at xs c.stamp.second k.old k.at ∙ ap Some (sym k.size))
        ∙ first

-- ---- disks that have started
abbrev pub AllStarted : ℕ → List Disk → Type 0
AllStarted at xs = (i : ℕ) (a : Disk) → slice_get xs i ≡ Some a → HasStarted at a

touched_started : (at : ℕ) (s : Stamp) (x : Disk) → s.tick < at → IsTouched s x → HasStarted at x
touched_started at s x lt touched =
    let base : x.base ≡ s.tick = touched.base in
    record { begun = omega arith; mark = unmarked x at (omega arith) }
  where
    unmarked : (x : Disk) (at : ℕ) → x.base < at → mark_at x at ≡ 0
    unmarked x at lt = grind arith

effect_started : (rules : Rules) (at : ℕ) (xs : List Disk) (c : Change) → c.stamp.tick < at →
    ComesTo rules xs c.stamp (Ok c) → AllStarted at xs → AllStarted at (effect xs c)
effect_started rules at xs c lt comes all i x h = elim (after_effect rules xs c i x comes h) [
  | inl touched ↦ touched_started at c.stamp x lt touched
  | inr kept ↦ all i x kept.1
]

-- ---- the state at the tick
abbrev is_before : ℕ → Change → Bool
is_before at c = nat_lt c.stamp.tick at

abbrev pub NoneTaken : ℕ → List Change → Type 0
NoneTaken at cs = take_while (λ c. nat_lt c.stamp.tick at) cs ≡ []

pub none_taken : (at : ℕ) (cs : List Change) → NoneTaken at (shifted at cs)
none_taken at [] = refl
none_taken at (c ∷ cs) =
    let e : nat_lt (c.stamp.tick + at) at ≡ false = grind arith in
    let d = later_change at c in
    take_while-cons (is_before at) d (shifted at cs)
    ∙ ap (λ (b : Bool). cond b (d ∷ take_while (is_before at) (shifted at cs)) []) e

state_after : (at : ℕ) (xs : List Disk) (c : Change) (cs : List Change) → c.stamp.tick < at →
    state_at xs (c ∷ cs) at ≡ state_at (effect xs c) cs at
state_after at xs c cs lt =
    let e : nat_lt c.stamp.tick at ≡ true = grind arith in
    ap (fold effect xs) (take_while-cons (is_before at) c cs
    ∙ ap (λ (b : Bool). cond b (c ∷ take_while (is_before at) cs) []) e)

-- ---- runs
-- the state to which a run up to a tick leads
pub record LeadsTo (rules : Rules) (at : ℕ) (xs : List Disk) (cs : List Change) (spots : List Spot) : Type 0 where
  pub ends : List Disk
  pub places : spots ≡ spots_of at ends
  pub none : NoneBefore rules ends at
  pub same : sizes ends ≡ sizes xs
  pub started : AllStarted at ends
  pub valid : IsValidState (ending_at at rules) ends
  pub state : (more : List Change) → NoneTaken at more → state_at xs (cs ++ more) at ≡ ends
  pub goes_on : (more : List Change) (outcome : Outcome) → Runs rules ends more outcome →
      Runs rules xs (cs ++ more) outcome

none_left : (rules : Rules) (at : ℕ) (xs : List Disk) → ((s : Stamp) → ¬ IsCandidate (ending_at at rules) xs s) →
    NoneBefore rules xs at
unfolding NoneBefore
none_left rules at xs none t h = elim (below_or_not t.tick at) [
  | inl lt ↦ absurd (none t (candidate_ending rules at xs t lt h))
  | inr le ↦ le
]
  where
    below_or_not : (m n : ℕ) → (m < n) ⊎ (n ≤ m)
    below_or_not m n = grind arith

kept_places : (rules : Rules) (xs : List Disk) (c : Change) → IsCandidate rules xs c.stamp →
    ComesTo rules xs c.stamp (Ok c) → KeepPlaces xs c
kept_places rules xs c candidate comes = elim (ran rules xs c candidate comes) [
  | inl wall ↦ wall_keeps rules xs c wall
  | inr pair ↦ pair_keeps rules xs c pair
]

pub leads : (rules : Rules) (at : ℕ) (xs : List Disk) (cs : List Change) (spots : List Spot) →
    at ≤ rules.end → AllStarted at xs → IsValidState (ending_at at rules) xs →
    Runs (ending_at at rules) xs cs (Done spots) → LeadsTo rules at xs cs spots
leads rules at xs [] spots le all valid run = record {
  ends = xs;
  places = run.1;
  none = none_left rules at xs run.0;
  same = refl;
  started = all;
  valid = valid;
  state = λ more none. ap (fold effect xs) none;
  goes_on = λ more outcome h. h;
}
leads rules at xs (c ∷ cs) spots le all valid run =
    let lt : c.stamp.tick < at = candidate_before_end (ending_at at rules) xs c.stamp run.0.0 in
    let rest =
    leads rules at (effect xs c) cs spots le (effect_started (ending_at at rules) at xs c lt run.1 all)
    (event_valid (ending_at at rules) xs c valid run.0.0 run.1) run.2 in record {
      ends = rest.ends;
      places = rest.places;
      none = rest.none;
      same = rest.same ∙ effect_sizes xs c (kept_places (ending_at at rules) xs c run.0.0 run.1);
      started = rest.started;
      valid = rest.valid;
      state = λ more none. state_after at xs c (cs ++ more) lt ∙ rest.state more none;
      goes_on = λ more outcome h. (
        next_of_all rules at xs c.stamp le run.0,
        comes_of_all rules at xs c.stamp (Ok c) run.1,
        rest.goes_on more outcome h,
      );
    }

limit_tick : (rules : Rules) (xs : List Disk) (limit : Limit) → Runs rules xs [] (Passes limit) →
    tick_of_limit limit < rules.end
limit_tick rules xs (Rounds s) run =
    candidate_before_end rules xs s (fails_next rules xs (Rounds s) run).0
limit_tick rules xs (Speed s) run =
    candidate_before_end rules xs s (fails_next rules xs (Speed s) run).0

-- a limit that a run up to a tick passes
pub passes : (rules : Rules) (at : ℕ) (xs : List Disk) (cs : List Change) (limit : Limit) → at ≤ rules.end →
    Runs (ending_at at rules) xs cs (Passes limit) → Runs rules xs cs (Passes limit) × PassesBefore at (Passes limit)
passes rules at xs [] limit le run = (
  (
    run.0,
    next_of_all rules at xs run.0 le run.1,
    comes_of_all rules at xs run.0 (Err limit) run.2,
  ),
  limit_tick (ending_at at rules) xs limit run,
)
passes rules at xs (c ∷ cs) limit le run =
    let rest = passes rules at (effect xs c) cs limit le run.2 in (
      (
        next_of_all rules at xs c.stamp le run.0,
        comes_of_all rules at xs c.stamp (Ok c) run.1,
        rest.0,
      ),
      rest.1,
    )
