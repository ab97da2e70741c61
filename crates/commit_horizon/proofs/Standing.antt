-- Regions that stand on a state, as its local runs.
use Rattle.std.proofs.Common.{◌≡◌, inr, ℕ, zero, suc, ◌<◌, List, [], ◌∷◌, length, sym, ap, ◌∙◌, subst, refl, arith, Some}
use Rattle.std.specs.Prelude.{slice_get}
use Rattle.std.proofs.lemmas.Option.{same_Some, slice_get_within}
use Rattle.event_stamps.specs.declared.Stamp.{Stamp}
use Rattle.event_stamps.specs.Order.{Before, end_stamp}
use Rattle.event_stamps.proofs.StampOrder.{not_before_itself}
use Rattle.cell_grid.specs.Grid.{IsRegion}
use Rattle.region_messages.specs.Trails.{below}
use Rattle.cell_sequence.specs.State.{CellStateData, IsCellState}
use Rattle.cell_sequence.specs.Laws.{Sees}
use Rattle.local_run.specs.Entries.{RiseFrom}
use Rattle.local_run.specs.LocalRun.{Local, sent_to, trail_of}
use Rattle.local_run.specs.Opening.{RegionData, home_of}
use Rattle.local_run.specs.Keeping.{IsKept}
use Rattle.local_run.specs.Standing.{StandsOn}
use Rattle.local_run.proofs.Among.{below_nil}
use Rattle.local_run.proofs.Sent.{sent_from}
use Rattle.commit_horizon.specs.Horizon.{run_of, runs_of, AllStand, AllKept, AreStanding, IsBound, IsHorizon}
use Rattle.commit_horizon.specs.Bounds.{HoldsUpTo, OfAll, IsUpToDue, AgreeOn, AllAgree, IsUpToAll}

-- a region that stands on a state with this run, as contracts see it
abbrev pub region_on : CellStateData → ℕ → Local → RegionData
region_on state k run = record { home = home_of state k; floor = state.floor; run = Some run }

stands_as : (state : CellStateData) (k : ℕ) (region : RegionData) → (stands : StandsOn state k region) →
    region ≡ region_on state k stands.run
stands_as state k region stands = λ i. record {
  home = record { number = stands.number i; rules = stands.rules i; grid = stands.grid i };
  floor = stands.floor i;
  run = stands.alive i;
}

pub at_number : (regions : List RegionData) (k : ℕ) → k < length regions →
    (region : RegionData) × (slice_get regions k ≡ Some region)
at_number [] k lt = absurd (omega arith)
at_number (r ∷ rs) zero lt = (r, refl)
at_number (r ∷ rs) (suc k) lt = at_number rs k (omega arith)

pub region_at : (state : CellStateData) (regions : List RegionData) (k : ℕ) → AllStand state regions →
    IsRegion state.grid k → slice_get regions k ≡ Some (region_on state k (runs_of regions k))
unfolding runs_of
region_at state regions k stand is =
    let found = at_number regions k (subst (λ (n : ℕ). k < n) (sym stand.count) is) in
    let same = stands_as state k found.0 (stand.each k found.0 found.1) in
    let there = found.1 ∙ ap Some same in
    let run = ap run_of there in
    there ∙ ap (λ (v : Local). Some (region_on state k v)) (sym run)

pub region_is : (state : CellStateData) (regions : List RegionData) (k : ℕ) (region : RegionData) →
    AllStand state regions → slice_get regions k ≡ Some region →
    IsRegion state.grid k × (region_on state k (runs_of regions k) ≡ region)
region_is state regions k region stand at =
    let is : IsRegion state.grid k
    = subst (λ (n : ℕ). k < n) stand.count (slice_get_within regions k region at) in
    (is, same_Some _ region (sym (region_at state regions k stand is) ∙ at))

pub kept_at : (state : CellStateData) (regions : List RegionData) (k : ℕ) → AllStand state regions →
    AllKept regions → IsRegion state.grid k → IsKept (region_on state k (runs_of regions k))
kept_at state regions k stand kept is = kept k _ (region_at state regions k stand is)

-- regions that stand on a state, and what they keep, give right local runs that do
pub are_standing : (state : CellStateData) (regions : List RegionData) → AllStand state regions →
    AllKept regions → AreStanding state (runs_of regions)
are_standing state regions stand kept k is =
    let at = region_at state regions k stand is in
    let stands = stand.each k _ at in
    let is_kept = kept k _ at in
    record {
      floor = is_kept.begins;
      base = subst (λ (run : Local). Sees state k run.base)
          (sym (same_Some (runs_of regions k) stands.run stands.alive)) stands.base;
      right = is_kept.run;
    }

-- ---- bounds
-- a bound of the runs is one of the regions
pub within_is_bound : (state : CellStateData) (regions : List RegionData) (t : Stamp) →
    AllStand state regions → IsUpToAll (end_stamp state.rules.end) regions t → ¬ Before t state.floor →
    IsBound state (runs_of regions) t
within_is_bound state regions t stand within floor = record {
  end = within.0;
  floor = floor;
  due = λ k s is off. (within.1 k _ (number is) (region_at state regions k stand is)).1 s off;
  agree = λ k q is_k is_q linked.
      within.2 k _ (number is_k) (region_at state regions k stand is_k)
      q _ (number is_q) (region_at state regions q stand is_q) _ _
      (runs_of regions k, refl, (is_q, linked), refl) (runs_of regions q, refl, (is_k, linked), refl);
}
  where
    number : {k : ℕ} → IsRegion state.grid k → k < length regions
    number {k} is = subst (λ (n : ℕ). k < n) (sym stand.count) is

pub bound_is_within : (state : CellStateData) (regions : List RegionData) (t : Stamp) →
    AllStand state regions → IsBound state (runs_of regions) t →
    IsUpToAll (end_stamp state.rules.end) regions t
bound_is_within state regions t stand bound = (bound.end, due, agree)
  where
    due : OfAll IsUpToDue regions t
    due k region lt at =
        let is = region_is state regions k region stand at in
        subst (λ (v : RegionData). IsUpToDue v t) is.1 (bound.end, λ s off. bound.due k s is.0 off)

    agree_on : (k q : ℕ) → IsRegion state.grid k → IsRegion state.grid q →
        AgreeOn (region_on state k (runs_of regions k)) (region_on state q (runs_of regions q)) t
    agree_on k q is_k is_q a b (run, alive, sends, e) (other, other_alive, hears, f) =
        ap (below t) (e ∙ ap (λ (v : Local). sent_to state.grid q v.base v.log) (sym (same_Some _ run alive)))
        ∙ bound.agree k q is_k is_q sends.1
        ∙ ap (below t) (sym (f ∙ ap (λ (v : Local). trail_of v.heard k) (sym (same_Some _ other other_alive))))

    agree : AllAgree regions t
    agree k sender lt at q hearer lt_q at_q =
        let here = region_is state regions k sender stand at in
        let there = region_is state regions q hearer stand at_q in
        subst (λ (v : RegionData). AgreeOn v hearer t) here.1
        (subst (λ (v : RegionData). AgreeOn (region_on state k (runs_of regions k)) v t) there.1
        (agree_on k q here.0 there.0))

-- the floor is a bound: nothing is sent or heard before it
floor_is_within : (state : CellStateData) (regions : List RegionData) → IsCellState state →
    AllStand state regions → AllKept regions → IsBound state (runs_of regions) state.floor
floor_is_within state regions is stand kept = record {
  end = is.before_end;
  floor = not_before_itself state.floor;
  due = λ k s is_k off. inr (not_before_itself state.floor);
  agree = λ k q is_k is_q linked. sent_none k q is_k ∙ sym (heard_none k q is_q);
}
  where
    sent_none : (k q : ℕ) → IsRegion state.grid k →
        below state.floor (sent_to state.grid q (runs_of regions k).base (runs_of regions k).log) ≡ []
    sent_none k q is_k =
        let run = runs_of regions k in
        let standing = are_standing state regions stand kept k is_k in
        below_nil state.floor (sent_to state.grid q run.base run.log)
        (λ m among. sent_from state.grid q run.base state.floor run.log m
        (subst (λ (f : Stamp). RiseFrom f run.log) standing.floor standing.right.rises) among)

    heard_none : (k q : ℕ) → IsRegion state.grid q →
        below state.floor (trail_of (runs_of regions q).heard k) ≡ []
    heard_none k q is_q =
        let run = runs_of regions q in
        let standing = are_standing state regions stand kept q is_q in
        below_nil state.floor (trail_of run.heard k)
        (λ m among. subst (λ (f : Stamp). ¬ Before m.stamp f) standing.floor
        ((standing.right.heard k).from_floor m among))

-- the greatest stamp within what bounds the regions is the horizon
pub horizon_is : (state : CellStateData) (regions : List RegionData) (h : Stamp) → IsCellState state →
    AllStand state regions → AllKept regions →
    HoldsUpTo (IsUpToAll (end_stamp state.rules.end) regions) (Some h) →
    IsHorizon state (runs_of regions) h
horizon_is state regions h is stand kept holds = record {
  bound = within_is_bound state regions h stand ((holds.exactly h).1 (not_before_itself h))
      ((holds.exactly state.floor).0 (bound_is_within state regions state.floor stand
      (floor_is_within state regions is stand kept)));
  greatest = λ t bound. (holds.exactly t).0 (bound_is_within state regions t stand bound);
}
