-- One region after the other takes in what it is told.
use Rattle.std.proofs.Common.{◌≡◌, ◌⊎◌, inl, inr, ℕ, ◌+◌, ◌<◌, ◌≤◌, List, length, Some, sym, ◌∙◌, subst, refl, arith}
use Rattle.std.specs.Prelude.{slice_get}
use Rattle.std.proofs.lemmas.Option.{slice_get_within}
use Rattle.event_stamps.specs.declared.Stamp.{Stamp}
use Rattle.cell_grid.specs.Grid.{GridData, IsRegion, AreLinked}
use Rattle.cell_sequence.specs.State.{CellStateData}
use Rattle.local_run.specs.declared.answers.Step.{Step}
use Rattle.local_run.specs.declared.answers.Hearing.{Hearing}
use Rattle.local_run.specs.declared.answers.Hearing.TheVariants.{Same, Rewound, Later, Apart}
use Rattle.local_run.specs.LocalRun.{Local, sent_to}
use Rattle.local_run.specs.Answers.{StepsTo, HearsFrom}
use Rattle.local_run.specs.Opening.{RegionData, home_of}
use Rattle.commit_horizon.specs.Horizon.{LocalRuns, runs_of, AllStand}
use Rattle.run_core.specs.Hearings.{sent_by}
use Rattle.run_core.specs.Second.{StepsIfLater}
use Rattle.run_core.specs.Passing.{StandOn}
use Rattle.run_core.specs.Taking.{TookIn, OneTookIn, AllTookIn}
use Rattle.run_core.specs.Turns.{Turns, Meets}
use Rattle.run_core.proofs.Standing.{HasHeardAt, has_heard, HasStepped, has_stepped}

-- ---- one region
-- it isn't told anything
pub not_told : (state : CellStateData) (regions : List RegionData) (k q : ℕ) → AllStand state regions →
    ¬ AreLinked state.grid k q → OneTookIn state regions regions k q
not_told state regions k q stand not =
    record { took = inr (not, refl); others = λ x ne. refl; teller = refl; stand = stand }

stays : (state : CellStateData) (q : ℕ) (answer : Hearing) (run : Local) →
    ((d : Stamp) → ¬ (answer ≡ Later d)) → StepsIfLater state q answer run run
stays state q Same run not = refl
stays state q (Rewound d) run not = refl
stays state q (Later d) run not = absurd (not d refl)
stays state q Apart run not = refl

module _ (state : CellStateData) (old mid : List RegionData) (k q : ℕ) (answer : Hearing)
    (stand : AllStand state old) (is_q : IsRegion state.grid q) (is_k : IsRegion state.grid k)
    (linked : AreLinked state.grid k q) (meets : Meets old q k answer mid) where
  heard : HasHeardAt state old mid q k answer
  heard = has_heard state old mid q k answer stand is_q is_k linked meets

  hears_it : HearsFrom k (sent_by state (runs_of old) k q) (runs_of old q) answer (runs_of mid q)
  hears_it = subst (λ (v : Local). HearsFrom k (sent_by state (runs_of old) k q) (runs_of old q) answer v)
      (sym heard.changes.here) heard.hears

  -- it heard nothing new
  pub no_news : ((d : Stamp) → ¬ (answer ≡ Later d)) → OneTookIn state old mid k q
  no_news not = record {
    took = inl (
      linked,
      record {
        answer = answer;
        mid = runs_of mid q;
        hears = hears_it;
        steps = stays state q answer (runs_of mid q) not;
      },
    );
    others = heard.changes.others;
    teller = heard.changes.others k linked.0;
    stand = heard.changes.stand;
  }

  -- it heard something new, and made a step
  module _ (d : Stamp) (later : answer ≡ Later d) (new : List RegionData) (s : Step)
      (turns : Turns mid q s new) where
    stepped : HasStepped state mid new q s
    stepped = has_stepped state mid new q s heard.changes.stand is_q turns

    steps_it : StepsTo (home_of state q) (runs_of mid q) s (runs_of new q)
    steps_it = subst (StepsTo (home_of state q) (runs_of mid q) s) (sym stepped.changes.here) stepped.steps

    pub news : OneTookIn state old new k q
    news = record {
      took = inl (
        linked,
        record {
          answer = answer;
          mid = runs_of mid q;
          hears = hears_it;
          steps = subst (λ (v : Hearing). StepsIfLater state q v (runs_of mid q) (runs_of new q)) (sym later)
              (s, steps_it);
        },
      );
      others = λ x ne. stepped.changes.others x ne ∙ heard.changes.others x ne;
      teller = stepped.changes.others k linked.0 ∙ heard.changes.others k linked.0;
      stand = stepped.changes.stand;
    }

-- ---- all regions
below_or_last : (q i : ℕ) → q < i + 1 → (q < i) ⊎ (q ≡ i)
below_or_last q i lt = grind arith

-- how region q takes it in depends only on the teller and on q
took_from : (state : CellStateData) (runs mid : LocalRuns) (k q : ℕ) (after : Local) → mid k ≡ runs k →
    mid q ≡ runs q → TookIn state mid k q after → TookIn state runs k q after
took_from state runs mid k q after teller same (inl (linked, takes)) = inl (
  linked,
  record {
    answer = takes.answer;
    mid = takes.mid;
    hears = subst
        (λ (v : Local). HearsFrom k (sent_to state.grid q v.base v.log) (runs q) takes.answer takes.mid) teller
        (subst (λ (v : Local). HearsFrom k (sent_by state mid k q) v takes.answer takes.mid) same takes.hears);
    steps = takes.steps;
  },
)
took_from state runs mid k q after teller same (inr (not, is)) = inr (not, is ∙ same)

-- the first i took it in, and all others are as they were
pub record TookInUpTo (state : CellStateData) (old new : List RegionData) (k i : ℕ) : Type 0 where
  pub took : (q : ℕ) → q < i → TookIn state (runs_of old) k q (runs_of new q)
  pub rest : (q : ℕ) → i ≤ q → runs_of new q ≡ runs_of old q
  pub teller : runs_of new k ≡ runs_of old k
  pub stand : AllStand state new

pub one_more_took : (state : CellStateData) (old mid new : List RegionData) (k i : ℕ) →
    TookInUpTo state old mid k i → OneTookIn state mid new k i → TookInUpTo state old new k (i + 1)
one_more_took state old mid new k i so_far one = record {
  took = λ q lt. elim (below_or_last q i lt) [
    | inl less ↦ subst (TookIn state (runs_of old) k q) (sym (one.others q (omega arith))) (so_far.took q less)
    | inr same ↦ subst (λ (n : ℕ). TookIn state (runs_of old) k n (runs_of new n)) (sym same)
        (took_from state (runs_of old) (runs_of mid) k i (runs_of new i) so_far.teller
        (so_far.rest i (omega arith)) one.took)
  ];
  rest = λ q le. one.others q (omega arith) ∙ so_far.rest q (omega arith);
  teller = one.teller ∙ so_far.teller;
  stand = one.stand;
}

-- none of them did at first, and all at last
pub none_took : (state : CellStateData) (regions : List RegionData) (k : ℕ) → AllStand state regions →
    TookInUpTo state regions regions k 0
none_took state regions k stand =
    record { took = λ q lt. absurd (omega (arith, lt)); rest = λ q le. refl; teller = refl; stand = stand }

pub all_took : (grid : GridData) (old new : List RegionData) (state : CellStateData) (k i : ℕ) →
    StandOn grid old state → i ≡ grid.regions → TookInUpTo state old new k i → AllTookIn state old k new
all_took grid old new state k i on is took = record {
  took = λ q within. took.took q (subst (λ (n : ℕ). q < n) (sym is)
      (subst (λ (g : GridData). IsRegion g q) on.grid_is within));
  stand = took.stand;
}

-- the number of the teller is its place
pub number_of : (grid : GridData) (regions : List RegionData) (state : CellStateData) (k number : ℕ)
    (region : RegionData) → StandOn grid regions state → slice_get regions k ≡ Some region →
    number ≡ region.home.number → (number ≡ k) × IsRegion grid number
number_of grid regions state k number region on at is =
    let same : number ≡ k = is ∙ (on.stand.each k region at).number in
    let within : k < length regions = slice_get_within regions k region at in (
      same,
      subst (λ (n : ℕ). n < grid.regions) (sym same)
          (subst (λ (g : GridData). k < g.regions) on.grid_is
          (subst (λ (n : ℕ). k < n) on.stand.count within)),
    )
