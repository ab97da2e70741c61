-- Calls over regions that stand on a state, and the passes that they make up.
use Rattle.std.proofs.Common.{◌≡◌, ◌⊎◌, inl, inr, ℕ, ◌+◌, ◌<◌, ◌≤◌, Bool, true, false, ◌||◌, List, [], ◌∷◌, ◌++◌, length, sym, ap, ◌∙◌, subst, refl, arith}
use Rattle.std.specs.Prelude.{nat_lt}
use Rattle.cell_grid.specs.Grid.{GridData, IsRegion, AreLinked}
use Rattle.region_messages.specs.Trails.{IsAmong}
use Rattle.cell_sequence.specs.State.{CellStateData}
use Rattle.local_run.specs.declared.answers.Hearing.{Hearing}
use Rattle.local_run.specs.declared.answers.Hearing.TheVariants.{Same, Rewound, Later, Apart}
use Rattle.local_run.specs.LocalRun.{Local}
use Rattle.local_run.specs.Answers.{HearsFrom}
use Rattle.local_run.specs.Opening.{RegionData}
use Rattle.commit_horizon.specs.Horizon.{LocalRuns, runs_of, AllStand}
use Rattle.run_core.specs.Hearings.{Call, sent_by, Hearings, IsPass, one_if_rewound, rewinds, entry_count}
use Rattle.run_core.specs.Passing.{StandOn, is_rewound, Heard, HearsOne, HearsUpTo, AllHearUpTo, Agrees}
use Rattle.run_core.specs.Turns.{Meets}
use Rattle.run_core.proofs.Pass.{same_runs, rewinds_take}
use Rattle.run_core.proofs.Standing.{has_heard}

-- ---- lists of calls
hearings_join : (state : CellStateData) (runs mid after : LocalRuns) (cs ds : List Call) →
    Hearings state runs cs mid → Hearings state mid ds after → Hearings state runs (cs ++ ds) after
hearings_join state runs mid after [] ds same more =
    subst (λ (v : LocalRuns). Hearings state v ds after) (sym (same_runs runs mid same)) more
hearings_join state runs mid after (c ∷ cs) ds (next, one, rest) more =
    (next, one, hearings_join state next mid after cs ds rest more)

among_left : (c : Call) (cs ds : List Call) → IsAmong c cs → IsAmong c (cs ++ ds)
among_left c [] ds h = absurd h
among_left c (x ∷ cs) ds (inl e) = inl e
among_left c (x ∷ cs) ds (inr h) = inr (among_left c cs ds h)

among_right : (c : Call) (cs ds : List Call) → IsAmong c ds → IsAmong c (cs ++ ds)
among_right c [] ds h = h
among_right c (x ∷ cs) ds h = inr (among_right c cs ds h)

rewinds_join : (cs ds : List Call) → rewinds (cs ++ ds) ≡ rewinds cs + rewinds ds
rewinds_join [] ds = omega arith
rewinds_join (c ∷ cs) ds =
    let rest : rewinds (cs ++ ds) ≡ rewinds cs + rewinds ds = rewinds_join cs ds in omega arith

either_rewinds : (m n : ℕ) → (nat_lt 0 m || nat_lt 0 n) ≡ nat_lt 0 (m + n)
either_rewinds m n = grind arith

-- ---- regions of a grid
-- a region's number is a place
pub place_of : (grid : GridData) (regions : List RegionData) (state : CellStateData) (q : ℕ) →
    StandOn grid regions state → IsRegion grid q → q < length regions
place_of grid regions state q on is = subst (λ (n : ℕ). q < n)
    (ap (λ (g : GridData). g.regions) (sym on.grid_is) ∙ sym on.stand.count) is

pub region_of : (grid : GridData) (regions : List RegionData) (state : CellStateData) (q : ℕ) →
    StandOn grid regions state → IsRegion grid q → IsRegion state.grid q
region_of grid regions state q on is = subst (λ (g : GridData). IsRegion g q) (sym on.grid_is) is

pub linked_of : (grid : GridData) (regions : List RegionData) (state : CellStateData) (k q : ℕ) →
    StandOn grid regions state → AreLinked grid k q → AreLinked state.grid k q
linked_of grid regions state k q on linked = subst (λ (g : GridData). AreLinked g k q) (sym on.grid_is) linked

-- other regions of it stand on the same state
pub still_on : (grid : GridData) (old new : List RegionData) (state : CellStateData) → StandOn grid old state →
    AllStand state new → StandOn grid new state
still_on grid old new state on stand = record { grid_is = on.grid_is; stand = stand }

-- what holds up to the last region holds for all
pub up_to_all : (grid : GridData) (regions : List RegionData) (state : CellStateData) (P : ℕ → Type 0) (n : ℕ) →
    StandOn grid regions state → n ≡ grid.regions → P n → P state.grid.regions
up_to_all grid regions state P n on is p = subst P (is ∙ ap (λ (g : GridData). g.regions) (sym on.grid_is)) p

pub heard_none : (state : CellStateData) (regions : List RegionData) (P : List Call → Type 0) →
    AllStand state regions → P [] → Heard state regions regions false P
heard_none state regions P stand covers =
    record { calls = []; hearings = λ x. refl; tells = refl; stand = stand; covers = covers }

-- calls, and then others
heard_join : (state : CellStateData) (old mid new : List RegionData) (a b : Bool)
    (P Q R : List Call → Type 0) → ((xs ys : List Call) → P xs → Q ys → R (xs ++ ys)) →
    Heard state old mid a P → Heard state mid new b Q → Heard state old new (a || b) R
heard_join state old mid new a b P Q R both first second = record {
  calls = first.calls ++ second.calls;
  hearings = hearings_join state (runs_of old) (runs_of mid) (runs_of new) first.calls second.calls
      first.hearings second.hearings;
  tells = ap (λ (v : Bool). v || b) first.tells
      ∙ ap (λ (v : Bool). nat_lt 0 (rewinds first.calls) || v) second.tells
      ∙ either_rewinds (rewinds first.calls) (rewinds second.calls)
      ∙ ap (nat_lt 0) (sym (rewinds_join first.calls second.calls));
  stand = second.stand;
  covers = both first.calls second.calls first.covers second.covers;
}

below_or_last : (k j : ℕ) → k < j + 1 → (k < j) ⊎ (k ≡ j)
below_or_last k j lt = grind arith

-- one more that is heard
pub hears_more : (state : CellStateData) (q j : ℕ) (old mid new : List RegionData) (a b : Bool) →
    Heard state old mid a (HearsUpTo state q j) → Heard state mid new b (HearsOne state q j) →
    Heard state old new (a || b) (HearsUpTo state q (j + 1))
hears_more state q j old mid new a b first second =
    heard_join state old mid new a b (HearsUpTo state q j) (HearsOne state q j) (HearsUpTo state q (j + 1))
    (λ xs ys before here k lt linked. elim (below_or_last k j lt) [
      | inl less ↦ let found = before k less linked in (found.0, among_left _ xs ys found.1)
      | inr same ↦
          let found = here (subst (λ (v : ℕ). AreLinked state.grid v q) same linked) in (
            found.0,
            subst (λ (v : ℕ). IsAmong (record { hearer = q; sender = v; answer = found.0 }) (xs ++ ys))
                (sym same) (among_right _ xs ys found.1),
          )
    ]) first second

-- one more that hears
pub all_hear_more : (state : CellStateData) (i : ℕ) (old mid new : List RegionData) (a b : Bool) →
    Heard state old mid a (AllHearUpTo state i) →
    Heard state mid new b (HearsUpTo state i state.grid.regions) →
    Heard state old new (a || b) (AllHearUpTo state (i + 1))
all_hear_more state i old mid new a b first second =
    heard_join state old mid new a b (AllHearUpTo state i) (HearsUpTo state i state.grid.regions)
    (AllHearUpTo state (i + 1))
    (λ xs ys before here q lt k lt_k linked. elim (below_or_last q i lt) [
      | inl less ↦ let found = before q less k lt_k linked in (found.0, among_left _ xs ys found.1)
      | inr same ↦
          let found = here k lt_k (subst (AreLinked state.grid k) same linked) in (
            found.0,
            subst (λ (v : ℕ). IsAmong (record { hearer = v; sender = k; answer = found.0 }) (xs ++ ys))
                (sym same) (among_right _ xs ys found.1),
          )
    ]) first second

-- ---- one call
tells_rewound : (answer : Hearing) → is_rewound answer ≡ nat_lt 0 (one_if_rewound answer + 0)
tells_rewound Same = refl
tells_rewound (Rewound d) = refl
tells_rewound (Later d) = refl
tells_rewound Apart = refl

pub heard_one : (state : CellStateData) (old new : List RegionData) (q k : ℕ) (answer : Hearing) (more : Bool) →
    AllStand state old → IsRegion state.grid q → IsRegion state.grid k → AreLinked state.grid k q →
    Meets old q k answer new → more ≡ is_rewound answer → Heard state old new more (HearsOne state q k)
heard_one state old new q k answer more stand is_q is_k linked meets tells =
    let heard = has_heard state old new q k answer stand is_q is_k linked meets in record {
      calls = record { hearer = q; sender = k; answer = answer } ∷ [];
      hearings = (
        runs_of new,
        record {
          hearer = is_q;
          sender = is_k;
          linked = linked;
          hears = subst (λ (v : Local). HearsFrom k (sent_by state (runs_of old) k q) (runs_of old q) answer v)
              (sym heard.changes.here) heard.hears;
          others = heard.changes.others;
        },
        λ x. refl,
      );
      tells = tells ∙ tells_rewound answer;
      stand = heard.changes.stand;
      covers = λ linked. (answer, inl refl);
    }

-- ---- passes
pub is_pass : (state : CellStateData) (calls : List Call) → AllHearUpTo state state.grid.regions calls →
    IsPass state calls
is_pass state calls all k q is_k is_q linked = all q is_q k is_k linked

rewinds_some : (n : ℕ) → true ≡ nat_lt 0 n → 0 < n
rewinds_some n e = grind arith

rewinds_none : (n : ℕ) → false ≡ nat_lt 0 n → n ≡ 0
rewinds_none n e = grind arith

pub last_pass : (state : CellStateData) (old new : List RegionData) →
    Heard state old new false (AllHearUpTo state state.grid.regions) → Agrees state old new
last_pass state old new heard = record {
  passes = heard.calls ∷ [];
  hear = (
    is_pass state heard.calls heard.covers,
    (runs_of new, heard.hearings, inl (rewinds_none (rewinds heard.calls) heard.tells, refl, λ x. refl)),
  );
}

pub more_passes : (state : CellStateData) (old mid new : List RegionData) →
    Heard state old mid true (AllHearUpTo state state.grid.regions) → Agrees state mid new →
    Agrees state old new
more_passes state old mid new heard rest = record {
  passes = heard.calls ∷ rest.passes;
  hear = (
    is_pass state heard.calls heard.covers,
    (runs_of mid, heard.hearings, inr (rewinds_some (rewinds heard.calls) heard.tells, rest.hear)),
  );
}

-- regions that were made of others by passes, and stand still
pub record HavePassed (state : CellStateData) (old now : List RegionData) : Type 0 where
  pub stand : AllStand state now
  pub so_far : (new : List RegionData) → Agrees state now new → Agrees state old new

-- all entries of the regions of a grid
unfoldable pub entries_left : GridData → List RegionData → ℕ
entries_left grid regions = entry_count grid.regions (runs_of regions)

pub entries_fall : (state : CellStateData) (old mid : List RegionData) →
    Heard state old mid true (AllHearUpTo state state.grid.regions) →
    entries_left state.grid mid < entries_left state.grid old
unfolding entries_left
entries_fall state old mid heard =
    let some : 0 < rewinds heard.calls = rewinds_some (rewinds heard.calls) heard.tells in
    let taken : rewinds heard.calls + entry_count state.grid.regions (runs_of mid)
    ≤ entry_count state.grid.regions (runs_of old) =
    rewinds_take state (runs_of old) (runs_of mid) heard.calls heard.hearings in
    omega arith
