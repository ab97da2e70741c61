-- Regions that stand on a state, of which one steps or hears.
use Rattle.std.proofs.Common.{◌≡◌, ◌≢◌, inl, inr, ℕ, zero, suc, ◌<◌, List, [], ◌∷◌, length, slice_get, slice_set, sym, ap, ap₂, ◌∙◌, subst, refl, Some}
use Rattle.std.specs.Prelude.{map, option_map}
use Rattle.std.proofs.lemmas.List.{length-set, length-map}
use Rattle.std.proofs.lemmas.Option.{same_Some, slice_get_within, slice_get-map}
use Rattle.event_stamps.specs.declared.Stamp.{Stamp}
use Rattle.cell_grid.specs.Grid.{IsRegion, AreLinked}
use Rattle.region_view.specs.Views.{IsViewOf}
use Rattle.cell_sequence.specs.State.{CellStateData}
use Rattle.local_run.specs.declared.answers.Step.{Step}
use Rattle.local_run.specs.declared.answers.Step.TheVariants.{Ran, Heard as Took, Idle, Past, Tied, Halted, Held, Spent}
use Rattle.local_run.specs.declared.answers.Hearing.{Hearing}
use Rattle.local_run.specs.declared.answers.Hearing.TheVariants.{Same, Rewound, Later, Apart}
use Rattle.local_run.specs.declared.home.Home.{Home}
use Rattle.local_run.specs.LocalRun.{Local, sent_to}
use Rattle.local_run.specs.Answers.{StepsTo, HearsFrom}
use Rattle.local_run.specs.Opening.{RegionData, home_of, AreApart}
use Rattle.local_run.specs.Steps.{RegionSteps}
use Rattle.local_run.specs.Hearing.{rewound, HearsAnother, HearsRegion}
use Rattle.local_run.specs.Standing.{StandsOn}
use Rattle.local_run.proofs.Among.{same_or_other}
use Rattle.commit_horizon.specs.Horizon.{run_of, runs_of, AllStand}
use Rattle.commit_horizon.proofs.Standing.{region_on, region_at}
use Rattle.run_core.specs.Hearings.{sent_by}
use Rattle.run_core.specs.Second.{rewound_to}
use Rattle.run_core.specs.Taking.{at_floor}
use Rattle.run_core.specs.Turns.{Turns, Meets}
use Rattle.run_core.proofs.Hearing.{hears_what}
use Rattle.run_core.proofs.Pass.{base_kept}
use Rattle.cell_sequence.proofs.Lists.{get_here, get_other}

-- ---- their runs
pub run_at : (state : CellStateData) (regions : List RegionData) (k : ℕ) (run : Local) →
    slice_get regions k ≡ Some (region_on state k run) → runs_of regions k ≡ run
unfolding runs_of
run_at state regions k run at = ap run_of at

pub same_run : (old new : List RegionData) (k : ℕ) → slice_get new k ≡ slice_get old k →
    runs_of new k ≡ runs_of old k
unfolding runs_of
same_run old new k same = ap run_of same

-- it stands with each run that begins as its own
pub stands_with : (state : CellStateData) (regions : List RegionData) (k : ℕ) (run : Local) →
    AllStand state regions → IsRegion state.grid k → run.base ≡ (runs_of regions k).base →
    StandsOn state k (region_on state k run)
stands_with state regions k run stand is base =
    let stood = stand.each k (region_on state k (runs_of regions k)) (region_at state regions k stand is) in
    let first = ap (λ (v : Local). v.base) (same_Some (runs_of regions k) stood.run stood.alive) in record {
      run = run;
      alive = refl;
      number = refl;
      rules = refl;
      grid = refl;
      floor = refl;
      base = subst (IsViewOf state.grid k (slice_get state.placed)) (sym (base ∙ first)) stood.base;
    }

-- ---- one of them is another
-- the region at a place has another run that begins as the one before, and the others are as they were
pub record Changes (state : CellStateData) (old new : List RegionData) (q : ℕ) (run : Local) : Type 0 where
  pub here : runs_of new q ≡ run
  pub others : (x : ℕ) → x ≢ q → runs_of new x ≡ runs_of old x
  pub stand : AllStand state new

changes : (state : CellStateData) (old new : List RegionData) (q : ℕ) (run : Local) → AllStand state old →
    IsRegion state.grid q → new ≡ slice_set old q (region_on state q run) →
    run.base ≡ (runs_of old q).base → Changes state old new q run
changes state old new q run stand is set base = record {
  here = run_at state new q run at_q;
  others = λ x ne. same_run old new x (at_other x ne);
  stand = record { count = ap length set ∙ length-set old q _ ∙ stand.count; each = each };
}
  where
    at_q : slice_get new q ≡ Some (region_on state q run)
    at_q = ap (λ (v : List RegionData). slice_get v q) set
        ∙ get_here old q (region_on state q run) (region_on state q (runs_of old q))
        (region_at state old q stand is)

    at_other : (x : ℕ) → x ≢ q → slice_get new x ≡ slice_get old x
    at_other x ne = ap (λ (v : List RegionData). slice_get v x) set
        ∙ get_other old q x (region_on state q run) ne

    each : (x : ℕ) (region : RegionData) → slice_get new x ≡ Some region → StandsOn state x region
    each x region at = elim (same_or_other x q) [
      | inr other ↦ stand.each x region (sym (at_other x other) ∙ at)
      | inl here ↦ subst (λ (n : ℕ). StandsOn state n region) (sym here)
          (subst (StandsOn state q) (same_Some (region_on state q run) region
          (sym at_q ∙ ap (slice_get new) (sym here) ∙ at)) (stands_with state old q run stand is base))
    ]

-- ---- a step
step_base : (h : Home) (run new : Local) (s : Step) → StepsTo h run s new → new.base ≡ run.base
step_base h run new (Ran t) (due, turn, (a, is, move, left)) = ap (λ (v : Local). v.base) left
step_base h run new (Took t) (due, turn, (q, m, is, move, left)) = ap (λ (v : Local). v.base) left
step_base h run new Idle (few, none, left) = ap (λ (v : Local). v.base) left
step_base h run new (Past t clock) (due, not, is, left) = ap (λ (v : Local). v.base) left
step_base h run new (Tied t) (due, turn, shared, left) = ap (λ (v : Local). v.base) left
step_base h run new (Halted limit) (halts, left) = ap (λ (v : Local). v.base) left
step_base h run new Held (full, left) = ap (λ (v : Local). v.base) left
step_base h run new Spent none = absurd none

-- a region that stands made the step of its run
pub record HasStepped (state : CellStateData) (old new : List RegionData) (q : ℕ) (s : Step) : Type 0 where
  pub run : Local
  pub steps : StepsTo (home_of state q) (runs_of old q) s run
  pub changes : Changes state old new q run

pub has_stepped : (state : CellStateData) (old new : List RegionData) (q : ℕ) (s : Step) → AllStand state old →
    IsRegion state.grid q → Turns old q s new → HasStepped state old new q s
has_stepped state old new q s stand is turns =
    by_run (subst (λ (v : RegionData). RegionSteps v s turns.left) same turns.steps)
  where
    same : turns.region ≡ region_on state q (runs_of old q)
    same = same_Some turns.region (region_on state q (runs_of old q))
        (sym turns.here ∙ region_at state old q stand is)

    by_run : RegionSteps (region_on state q (runs_of old q)) s turns.left → HasStepped state old new q s
    by_run steps =
        let run = steps.run.0 in
        let left : turns.left ≡ region_on state q run =
        λ i. record { home = steps.home i; floor = steps.floor i; run = steps.run.2 i } in record {
          run = run;
          steps = steps.run.1;
          changes = changes state old new q run stand is (turns.is ∙ ap (slice_set old q) left)
              (step_base (home_of state q) (runs_of old q) run s steps.run.1);
        }

-- ---- a hearing
-- a region that stands heard what another sent
pub record HasHeardAt (state : CellStateData) (old new : List RegionData) (q k : ℕ)
    (answer : Hearing) : Type 0 where
  pub run : Local
  pub hears : HearsFrom k (sent_by state (runs_of old) k q) (runs_of old q) answer run
  pub changes : Changes state old new q run

-- two that stand and are linked aren't apart
not_apart : (state : CellStateData) (q k : ℕ) (r s : Local) → AreLinked state.grid k q →
    ¬ AreApart (region_on state q r) (region_on state k s)
not_apart state q k r s linked (inl none) = cc
not_apart state q k r s linked (inr (inl none)) = cc
not_apart state q k r s linked (inr (inr (inl not))) = not refl
not_apart state q k r s linked (inr (inr (inr (inl not)))) = not refl
not_apart state q k r s linked (inr (inr (inr (inr (inl not))))) = not refl
not_apart state q k r s linked (inr (inr (inr (inr (inr not))))) = not linked

module _ (state : CellStateData) (old new : List RegionData) (q k : ℕ) (answer : Hearing)
    (stand : AllStand state old) (is_q : IsRegion state.grid q) (is_k : IsRegion state.grid k)
    (linked : AreLinked state.grid k q) (meets : Meets old q k answer new) where
  abbrev hearer : RegionData
  hearer = region_on state q (runs_of old q)

  abbrev sender : RegionData
  sender = region_on state k (runs_of old k)

  is_hearer : meets.hearer ≡ hearer
  is_hearer = same_Some meets.hearer hearer (sym meets.here ∙ region_at state old q stand is_q)

  is_sender : meets.sender ≡ sender
  is_sender = same_Some meets.sender sender (sym meets.there ∙ region_at state old k stand is_k)

  hears : HearsRegion hearer sender answer meets.left
  hears = subst (λ (v : RegionData). HearsRegion hearer v answer meets.left) is_sender
      (subst (λ (v : RegionData). HearsRegion v meets.sender answer meets.left) is_hearer meets.hears)

  apart : answer ≡ Apart → AreApart hearer sender
  apart e = subst (AreApart hearer) is_sender
      (subst (λ (v : RegionData). AreApart v meets.sender) is_hearer (meets.apart.0 e))

  from_hears : HearsAnother hearer sender meets.left answer → HasHeardAt state old new q k answer
  from_hears h =
      let run = h.after in
      let heard : HearsFrom k (sent_by state (runs_of old) k q) (runs_of old q) answer run =
      subst (λ (v : Local). HearsFrom k (sent_to state.grid q v.base v.log) (runs_of old q) answer run)
      (sym (same_Some (runs_of old k) h.sender h.sends))
      (subst (λ (v : Local). HearsFrom k (sent_to state.grid q h.sender.base h.sender.log) v answer run)
      (sym (same_Some (runs_of old q) h.before h.was_run)) h.hears) in
      let left : meets.left ≡ region_on state q run =
      λ i. record { home = h.home i; floor = h.floor i; run = h.is_run i } in record {
        run = run;
        hears = heard;
        changes = changes state old new q run stand is_q (meets.is ∙ ap (slice_set old q) left)
            (base_kept k (sent_by state (runs_of old) k q) (runs_of old q) run
            (hears_what k (sent_by state (runs_of old) k q) (runs_of old q) run answer heard)).0;
      }

  by_answer : (a : Hearing) → a ≡ answer → HearsRegion hearer sender a meets.left →
      HasHeardAt state old new q k answer
  by_answer Same e h = from_hears (subst (HearsAnother hearer sender meets.left) e h)
  by_answer (Rewound d) e h = from_hears (subst (HearsAnother hearer sender meets.left) e h)
  by_answer (Later d) e h = from_hears (subst (HearsAnother hearer sender meets.left) e h)
  by_answer Apart e h =
      absurd (not_apart state q k (runs_of old q) (runs_of old k) linked (apart (sym e)))

  pub has_heard : HasHeardAt state old new q k answer
  has_heard = by_answer answer refl hears

-- ---- all taken back
-- regions that stand and are taken back stand
pub all_rewound : (state : CellStateData) (old new : List RegionData) (at : Stamp) → AllStand state old →
    new ≡ map (rewound at) old → AllStand state new
    × ((k : ℕ) → IsRegion state.grid k → runs_of new k ≡ rewound_to at (runs_of old k))
all_rewound state old new at stand is = (
  record { count = ap length is ∙ length-map old (rewound at) ∙ stand.count; each = each },
  λ k within. run_at state new k (rewound_to at (runs_of old k)) (there k within),
)
  where
    there : (k : ℕ) → IsRegion state.grid k →
        slice_get new k ≡ Some (region_on state k (rewound_to at (runs_of old k)))
    there k within = ap (λ (v : List RegionData). slice_get v k) is ∙ slice_get-map (rewound at) old k
        ∙ ap (option_map (rewound at)) (region_at state old k stand within)

    each : (k : ℕ) (region : RegionData) → slice_get new k ≡ Some region → StandsOn state k region
    each k region here =
        let within : IsRegion state.grid k =
        subst (λ (n : ℕ). k < n) (ap length is ∙ length-map old (rewound at) ∙ stand.count)
        (slice_get_within new k region here) in
        subst (StandsOn state k) (same_Some (region_on state k (rewound_to at (runs_of old k))) region
        (sym (there k within) ∙ here))
        (stands_with state old k (rewound_to at (runs_of old k)) stand within refl)

-- to the floor of each, which is the state's
pub all_at_floor : (state : CellStateData) (regions : List RegionData) → AllStand state regions →
    map at_floor regions ≡ map (rewound state.floor) regions
all_at_floor state regions stand = by_list regions (λ k region at. (stand.each k region at).floor)
  where
    by_list : (rest : List RegionData) →
        ((k : ℕ) (region : RegionData) → slice_get rest k ≡ Some region → region.floor ≡ state.floor) →
        map at_floor rest ≡ map (rewound state.floor) rest
    by_list [] floors = refl
    by_list (region ∷ rest) floors = ap₂ (λ (r : RegionData) (rs : List RegionData). r ∷ rs)
        (ap (λ (at : Stamp). rewound at region) (floors zero region refl))
        (by_list rest (λ k r at. floors (suc k) r at))
