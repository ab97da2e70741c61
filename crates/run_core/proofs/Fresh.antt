-- Regions that were taken back to the floor and have heard each other: the least that they have due is the
-- next event of the cell run, and its home runs it.
use Rattle.std.proofs.Common.{◌≡◌, ◌⊎◌, inl, inr, ℕ, ◌≤◌, List, [], ◌∷◌, length, sym, ap, ◌∙◌, subst, refl, arith, Ok, Err}
use Rattle.event_stamps.specs.declared.Stamp.{Stamp}
use Rattle.event_stamps.specs.Order.{Before, end_stamp}
use Rattle.event_stamps.specs.Least.{HasNone}
use Rattle.event_stamps.proofs.Least.{one_least}
use Rattle.event_rules.specs.declared.change.Limit.{Limit}
use Rattle.cell_grid.specs.Grid.{IsRegion}
use Rattle.region_view.specs.declared.action.Action.{Action}
use Rattle.region_view.specs.declared.rows.Message.{Message}
use Rattle.region_view.specs.Acting.{stamp_of}
use Rattle.region_messages.specs.Trails.{IsAmong}
use Rattle.region_messages.proofs.Order.{before_not_before}
use Rattle.cell_sequence.specs.State.{CellStateData, IsCellState, IsCandidateOf, IsNextOf, ComesToInState}
use Rattle.cell_sequence.specs.Laws.{Sees, IsNextAction, IsHomeOf}
use Rattle.cell_sequence.proofs.Orderly.{cell_states_are_orderly}
use Rattle.local_run.specs.declared.entry.Entry.{Entry}
use Rattle.local_run.specs.declared.entry.Entry.TheVariants.{Native}
use Rattle.local_run.specs.declared.entry.TheConstants.{MAX_ENTRIES}
use Rattle.local_run.specs.declared.answers.Step.{Step}
use Rattle.local_run.specs.declared.answers.Step.TheVariants.{Ran, Heard as Took, Idle, Past, Tied, Halted, Held, Spent}
use Rattle.local_run.specs.declared.answers.Hearing.{Hearing}
use Rattle.local_run.specs.declared.answers.Hearing.TheVariants.{Same, Rewound, Later, Apart}
use Rattle.local_run.specs.LocalRun.{Trails, At, Local, trail_of, start_of, now_of, IsWaiting, IsOwn, IsOffered}
use Rattle.local_run.specs.Entries.{RiseFrom, entries_below}
use Rattle.local_run.specs.LocalRun.{IsDue, IsDueOrEnd, sent_to}
use Rattle.local_run.specs.Answers.{StepsTo, HearsFrom, IsInTurn, IsShared, with_entry}
use Rattle.local_run.specs.Opening.{home_of}
use Rattle.local_run.proofs.Logs.{below_out}
use Rattle.local_run.proofs.Right.{right_rewound}
use Rattle.commit_horizon.specs.Horizon.{LocalRuns, IsStanding, AreStanding}
use Rattle.commit_horizon.proofs.GoesOn.{CellLaws}
use Rattle.run_core.specs.Hearings.{Call, sent_by, Hearings, IsPass, one_if_rewound, rewinds}
use Rattle.run_core.specs.Second.{rewound_to, IsLeastDue}
use Rattle.run_core.specs.Advances.{FailsNext}
use Rattle.run_core.proofs.Pass.{one_log, all_heard, hearings_keep_bounds}

-- ---- fresh regions
-- a region that sees the state, has done nothing and has nothing to take in
pub record IsFresh (state : CellStateData) (k : ℕ) (run : Local) : Type 0 where
  pub base : Sees state k run.base
  pub floor : run.floor ≡ state.floor
  pub log : run.log ≡ []
  pub silent : (q : ℕ) → trail_of run.heard q ≡ []

abbrev pub AllFresh : CellStateData → LocalRuns → Type 0
AllFresh state runs = (k : ℕ) → IsRegion state.grid k → IsFresh state k (runs k)

-- no entry of a log that rises from a stamp on is before it
none_below_floor : (s : Stamp) (log : List Entry) → RiseFrom s log → entries_below s log ≡ []
none_below_floor s [] rises = refl
none_below_floor s (e ∷ es) rises = below_out s e es rises.0

pub no_member : {A : Type 0} (xs : List A) → ((x : A) → ¬ IsAmong x xs) → xs ≡ []
no_member [] none = refl
no_member (x ∷ xs) none = absurd (none x (inl refl))

abbrev AreEmpty : CellStateData → LocalRuns → Type 0
AreEmpty state runs = (k : ℕ) → IsRegion state.grid k → (runs k).log ≡ []

pub not_rewound : (k : ℕ) (sent : List Message) (r new : Local) (a : Hearing) →
    HearsFrom k sent r a new → r.log ≡ [] → one_if_rewound a ≡ 0
not_rewound k sent r new Same h e = refl
not_rewound k sent r new (Later d) h e = refl
not_rewound k sent r new (Rewound d) h e = absurd (h.1 (ap (entries_below d) e ∙ sym e))
not_rewound k sent r new Apart h e = refl

-- regions with empty logs rewind none, and keep empty logs
stay_empty : (state : CellStateData) (runs after : LocalRuns) (cs : List Call) → AreEmpty state runs →
    Hearings state runs cs after → (rewinds cs ≡ 0) × AreEmpty state after
stay_empty state runs after [] empty same =
    (refl, λ k within. ap (λ (v : Local). v.log) (same k) ∙ empty k within)
stay_empty state runs after (c ∷ cs) empty (mid, hears, rest) =
    let none : one_if_rewound c.answer ≡ 0 =
    not_rewound c.sender (sent_by state runs c.sender c.hearer) (runs c.hearer) (mid c.hearer) c.answer
    hears.hears (empty c.hearer hears.hearer) in
    let more = stay_empty state mid after cs
    (λ k within. one_log state runs mid c hears none k ∙ empty k within) rest in
    let left : rewinds cs ≡ 0 = more.0 in
    (omega arith, more.1)

-- regions that are taken back to the floor stand, with empty logs
taken_back : (state : CellStateData) (k : ℕ) (run : Local) → IsStanding state k run →
    IsStanding state k (rewound_to state.floor run) × ((rewound_to state.floor run).log ≡ [])
taken_back state k run stand = (
  record {
    floor = stand.floor;
    base = stand.base;
    right = right_rewound (home_of state k) run state.floor stand.right;
  },
  none_below_floor state.floor run.log
      (subst (λ (v : Stamp). RiseFrom v run.log) stand.floor stand.right.rises),
)

-- and are fresh once they have heard each other, in any order
pub pass_makes_fresh : (state : CellStateData) (runs mid after : LocalRuns) (cs : List Call) →
    IsCellState state → AreStanding state runs →
    ((k : ℕ) → IsRegion state.grid k → mid k ≡ rewound_to state.floor (runs k)) → IsPass state cs →
    Hearings state mid cs after → AllFresh state after
pass_makes_fresh state runs mid after cs is stand rewound pass hearings k within = record {
  base = (standing k within).base;
  floor = (standing k within).floor;
  log = end.1 k within;
  silent = silent;
}
  where
    back : (q : ℕ) → IsRegion state.grid q → IsStanding state q (mid q) × ((mid q).log ≡ [])
    back q lt = subst (λ (v : Local). IsStanding state q v × (v.log ≡ [])) (sym (rewound q lt))
        (taken_back state q (runs q) (stand q lt))

    standing : AreStanding state after
    standing = (hearings_keep_bounds state mid after cs is (λ q lt. (back q lt).0) hearings).standing

    end : (rewinds cs ≡ 0) × AreEmpty state after
    end = stay_empty state mid after cs (λ q lt. (back q lt).1) hearings

    silent : (q : ℕ) → trail_of (after k).heard q ≡ []
    silent q = no_member (trail_of (after k).heard q) (λ m among.
        let linked = ((standing k within).right.heard q).linked m among in
        let nothing : trail_of (after k).heard q ≡ [] =
        all_heard state mid after cs pass hearings end.0 q k linked.0 within linked.1
        ∙ ap (sent_to state.grid k (after q).base) (end.1 q linked.0) in
        subst (IsAmong m) nothing among)

-- ---- the next event
-- a region that sees a state and has nothing to take in
abbrev pub IsStill : CellStateData → ℕ → At → Type 0
IsStill state k a = Sees state k a.view × ((q : ℕ) → trail_of a.waiting q ≡ [])

pub nothing_waits : (w : Trails) (s : Stamp) → ((q : ℕ) → trail_of w q ≡ []) → ¬ IsWaiting w s
unfolding IsWaiting
nothing_waits w s silent (q, m, among, is) = subst (IsAmong m) (silent q) among

-- it is offered the events whose home it is
pub offered_is : (state : CellStateData) (k : ℕ) (a : At) (s : Stamp) → CellLaws state →
    IsRegion state.grid k → IsStill state k a → IsOffered (home_of state k) a s →
    IsOwn (home_of state k) a.view s × IsCandidateOf state s × IsHomeOf state s k
offered_is state k a s laws within still (inl own) =
    let known = laws.native k a.view s within still.0 own in (own, known.0, known.1)
offered_is state k a s laws within still (inr waits) = absurd (nothing_waits a.waiting s still.1 waits)

pub fresh_now : (run : Local) → run.log ≡ [] → now_of run ≡ start_of run
fresh_now run e = ap (λ (v : List Entry). now_of (record run { log = v })) e

pub fresh_still : (state : CellStateData) (k : ℕ) (run : Local) → IsFresh state k run →
    IsStill state k (now_of run)
fresh_still state k run f = subst (IsStill state k) (sym (fresh_now run f.log)) (f.base, f.silent)

-- the next event, and the region that is its home
abbrev pub IsNextAt : CellStateData → ℕ → Stamp → Type 0
IsNextAt state k s = IsNextOf state s × IsHomeOf state s k

-- the least that fresh regions have due is the next event, or the end if no event is left
pub least_due_is_next : (state : CellStateData) (runs : LocalRuns) (dues : ℕ → Stamp) (k : ℕ) →
    IsCellState state → CellLaws state → AllFresh state runs → IsLeastDue state runs dues k →
    IsNextAt state k (dues k)
    ⊎ (HasNone (IsCandidateOf state) × (dues k ≡ end_stamp state.rules.end))
least_due_is_next state runs dues k is laws fresh least = by_due (least.due k least.within)
  where
    still : (q : ℕ) → IsRegion state.grid q → IsStill state q (now_of (runs q))
    still q lt = fresh_still state q (runs q) (fresh q lt)

    not_before : (t : Stamp) → IsCandidateOf state t → ¬ Before t (dues k)
    not_before t event less =
        let home = laws.homed t event in
        let off = laws.candidate home.0 (now_of (runs home.0)).view t (still home.0 home.1.0).0 event
        home.1 in
        elim (least.due home.0 home.1.0) [
          | inl due ↦ due.1 t (inl off)
              (before_not_before t (dues home.0) (dues k) less (least.least home.0 home.1.0))
          | inr none ↦ none.0 t (inl off)
        ]

    by_due : IsDueOrEnd (home_of state k) (now_of (runs k)) (dues k) →
        IsNextAt state k (dues k)
        ⊎ (HasNone (IsCandidateOf state) × (dues k ≡ end_stamp state.rules.end))
    by_due (inl due) =
        let known = offered_is state k (now_of (runs k)) (dues k) laws least.within
        (still k least.within) due.0 in
        inl ((known.1, not_before), known.2)
    by_due (inr none) = inr (
      λ t event. not_before t event (subst (Before t) (sym none.1)
          ((cell_states_are_orderly state is).before_end t event)),
      none.1,
    )

-- ---- its home
pub in_turn : (run : Local) (s f : Stamp) → run.floor ≡ f → run.log ≡ [] → ¬ Before s f → IsInTurn run s
in_turn run s f is e not = (subst (λ (v : Stamp). ¬ Before s v) (sym is) not, inl e)

pub full_not_empty : (log : List Entry) → log ≡ [] → MAX_ENTRIES ≤ length log → ⊥
full_not_empty log e full = let none : length log ≡ 0 = ap length e in omega arith

-- a step ran the next event, or halted with the limit that it fails
abbrev pub RunsNext : CellStateData → Stamp → Local → Step → Local → Type 0
RunsNext state s run step new =
    ((x : Action) × (step ≡ Ran s) × (stamp_of x ≡ s) × IsNextAction state x
    × (new ≡ with_entry run (Native x)))
    ⊎ ((limit : Limit) × (step ≡ Halted limit) × FailsNext state limit × (new ≡ run))

pub home_runs_next : (state : CellStateData) (k : ℕ) (s : Stamp) (run new : Local) (step : Step) →
    CellLaws state → IsFresh state k run → IsNextAt state k s → StepsTo (home_of state k) run step new →
    RunsNext state s run step new
home_runs_next state k s run new step laws fresh next = by_step step
  where
    within : IsRegion state.grid k
    within = next.1.0

    still : IsStill state k (now_of run)
    still = fresh_still state k run fresh

    own : IsOwn (home_of state k) (now_of run).view s
    own = laws.candidate k (now_of run).view s still.0 next.0.0 next.1

    due : IsDue (home_of state k) (now_of run) s
    due = (inl own, λ t off. next.0.1 t (offered_is state k (now_of run) t laws within still off).1)

    is_due : (t : Stamp) → IsDue (home_of state k) (now_of run) t → t ≡ s
    is_due t other = one_least (IsOffered (home_of state k) (now_of run)) t s other due

    turn : IsInTurn run s
    turn = in_turn run s state.floor fresh.floor fresh.log (laws.floor s next.0.0)

    not_shared : (t : Stamp) → ¬ IsShared (home_of state k) (now_of run) t
    not_shared t (inl both) = nothing_waits (now_of run).waiting t still.1 both.1
    not_shared t (inr (p, q, m, n, ne, first, second, em, en)) = subst (IsAmong m) (still.1 p) first

    by_step : (step : Step) → StepsTo (home_of state k) run step new → RunsNext state s run step new
    by_step (Ran t) (has, order, (x, is, move, leaves)) =
        let same : t ≡ s = is_due t has.1 in
        inl (
          x,
          ap Ran same,
          is ∙ same,
          (
            subst (IsNextOf state) (sym (is ∙ same)) next.0,
            laws.comes k (now_of run).view (stamp_of x) (Ok x) within still.0 move.native move.comes,
          ),
          leaves,
        )
    by_step (Took t) (has, order, (q, m, is, move, leaves)) =
        absurd (subst (IsAmong m) (sym move.first.1 ∙ still.1 q) (inl refl))
    by_step Idle (few, none, leaves) = absurd (none s (inl own))
    by_step (Past t clock) (has, not, is, leaves) =
        absurd (not (subst (IsInTurn run) (sym (is_due t has.1)) turn))
    by_step (Tied t) (has, order, shared, leaves) = absurd (not_shared t shared)
    by_step (Halted limit) ((t, has, order, alone, native, comes), leaves) = inr (
      limit,
      refl,
      (
        s,
        next.0,
        subst (λ (v : Stamp). ComesToInState state v (Err limit)) (is_due t has.1)
            (laws.comes k (now_of run).view t (Err limit) within still.0 native comes),
      ),
      leaves,
    )
    by_step Held (full, leaves) = absurd (full_not_empty run.log fresh.log full)
    by_step Spent none = absurd none
