-- Hearings, passes, and that the passes end.
use Rattle.std.proofs.Common.{◌≡◌, ◌≢◌, ◌⊎◌, inl, inr, ℕ, zero, suc, ◌+◌, ◌<◌, ◌≤◌, Bool, true, false, List, [], ◌∷◌, length, sym, ap, ◌∙◌, subst, refl, arith}
use Rattle.std.specs.Prelude.{if◌then◌else◌}
use Rattle.event_stamps.specs.declared.Stamp.{Stamp}
use Rattle.event_stamps.proofs.StampOrder.{before_decides}
use Rattle.region_view.specs.declared.rows.Message.{Message}
use Rattle.region_view.specs.Views.{ViewData}
use Rattle.region_messages.specs.Trails.{is_before, IsAmong}
use Rattle.cell_sequence.specs.State.{CellStateData, IsCellState}
use Rattle.cell_sequence.specs.Laws.{Sees}
use Rattle.local_run.specs.declared.entry.Entry.{Entry}
use Rattle.local_run.specs.declared.answers.Hearing.{Hearing}
use Rattle.local_run.specs.declared.answers.Hearing.TheVariants.{Same, Rewound, Later, Apart}
use Rattle.local_run.specs.Entries.{entry_stamp, entries_below}
use Rattle.local_run.specs.LocalRun.{Local, trail_of, IsRight}
use Rattle.local_run.specs.LocalRun.{sent_to}
use Rattle.local_run.specs.Answers.{HearsFrom}
use Rattle.local_run.specs.Opening.{home_of}
use Rattle.local_run.proofs.Among.{same_or_other}
use Rattle.local_run.proofs.Keeps.{hearing_keeps_right}
use Rattle.local_run.proofs.Valid.{heard_from}
use Rattle.local_run.proofs.Opened.{state_place}
use Rattle.commit_horizon.specs.Horizon.{LocalRuns, IsStanding, AreStanding, IsBound}
use Rattle.run_core.specs.Hearings.{Call, sent_by, Hears, Hearings, IsPass, one_if_rewound, rewinds}
use Rattle.run_core.specs.Hearings.{entry_count, Passes, AllHeard, SameBases}
use Rattle.run_core.specs.Laws.{HearingsKeepBounds, PassesEnd, PassesEndInAgreement}
use Rattle.run_core.proofs.Hearing.{HearsWhat, hears_what, IsLike, like_itself, like_with_news}

-- ---- what a hearing leaves of the hearer
pub base_kept : (k : ℕ) (sent : List Message) (r new : Local) → HearsWhat k sent r new →
    (new.base ≡ r.base) × (new.floor ≡ r.floor)
base_kept k sent r new (inl same) =
    (ap (λ (v : Local). v.base) same.1, ap (λ (v : Local). v.floor) same.1)
base_kept k sent r new (inr news) = (news.has.base, news.has.floor)

pub trail_is : (k : ℕ) (sent : List Message) (r new : Local) → HearsWhat k sent r new →
    trail_of new.heard k ≡ sent
trail_is k sent r new (inl same) = ap (λ (v : Local). trail_of v.heard k) same.1 ∙ same.0
trail_is k sent r new (inr news) = news.has.trail

pub other_trails : (k : ℕ) (sent : List Message) (r new : Local) → HearsWhat k sent r new → (q : ℕ) →
    q ≢ k → trail_of new.heard q ≡ trail_of r.heard q
other_trails k sent r new (inl same) q ne = ap (λ (v : Local). trail_of v.heard q) same.1
other_trails k sent r new (inr news) q ne = news.has.others q ne

log_kept : (k : ℕ) (sent : List Message) (r new : Local) (a : Hearing) → HearsFrom k sent r a new →
    one_if_rewound a ≡ 0 → new.log ≡ r.log
log_kept k sent r new Same h e = ap (λ (v : Local). v.log) h.1
log_kept k sent r new (Later d) h e = h.2.log ∙ h.1
log_kept k sent r new (Rewound d) h e = absurd (omega arith)
log_kept k sent r new Apart h e = absurd h

-- ---- one hearing
module _ (state : CellStateData) (runs mid : LocalRuns) (c : Call) (hears : Hears state runs c mid) where
  sent : List Message
  sent = sent_by state runs c.sender c.hearer

  what : HearsWhat c.sender (sent_by state runs c.sender c.hearer) (runs c.hearer) (mid c.hearer)
  what = hears_what c.sender (sent_by state runs c.sender c.hearer) (runs c.hearer) (mid c.hearer)
      c.answer hears.hears

  pub one_base : SameBases runs mid
  one_base x = elim (same_or_other x c.hearer) [
    | inl here ↦ subst
        (λ (n : ℕ). ((mid n).base ≡ (runs n).base) × ((mid n).floor ≡ (runs n).floor)) (sym here)
        (base_kept c.sender (sent_by state runs c.sender c.hearer) (runs c.hearer) (mid c.hearer) what)
    | inr other ↦ (
      ap (λ (v : Local). v.base) (hears.others x other),
      ap (λ (v : Local). v.floor) (hears.others x other),
    )
  ]

  module _ (is : IsCellState state) (stand : AreStanding state runs) where
    right_after : IsRight (home_of state c.hearer) (mid c.hearer)
    right_after =
        let from = stand c.sender hears.sender in
        let to = stand c.hearer hears.hearer in
        hearing_keeps_right (home_of state c.hearer) c.sender (sent_by state runs c.sender c.hearer)
        (runs c.hearer) (mid c.hearer) c.answer to.right
        (heard_from (home_of state c.hearer) (home_of state c.sender) (runs c.sender)
        (runs c.hearer).floor refl refl (to.floor ∙ sym from.floor)
        (state_place state c.sender is hears.sender) from.right hears.linked) hears.hears

    pub one_stands : AreStanding state mid
    one_stands k within = elim (same_or_other k c.hearer) [
      | inr other ↦ subst (IsStanding state k) (sym (hears.others k other)) (stand k within)
      | inl here ↦ subst (λ (n : ℕ). IsStanding state n (mid n)) (sym here) (record {
        floor = (one_base c.hearer).1 ∙ (stand c.hearer hears.hearer).floor;
        base = subst (Sees state c.hearer) (sym (one_base c.hearer).0)
            (stand c.hearer hears.hearer).base;
        right = right_after;
      })
    ]

    -- below a bound each region is what it was
    like : (h : Stamp) → IsBound state runs h → (k : ℕ) → IsLike state h k (runs k) (mid k)
    like h bound k = elim (same_or_other k c.hearer) [
      | inr other ↦ subst (IsLike state h k (runs k)) (sym (hears.others k other))
          (like_itself state h k (runs k))
      | inl here ↦ subst (λ (n : ℕ). IsLike state h n (runs n) (mid n)) (sym here) (by_what what)
    ]
      where
        by_what : HearsWhat c.sender (sent_by state runs c.sender c.hearer) (runs c.hearer) (mid c.hearer) →
            IsLike state h c.hearer (runs c.hearer) (mid c.hearer)
        by_what (inl same) = subst (IsLike state h c.hearer (runs c.hearer)) (sym same.1)
            (like_itself state h c.hearer (runs c.hearer))
        by_what (inr news) = like_with_news state h c.hearer c.sender
            (sent_by state runs c.sender c.hearer) (runs c.hearer) (mid c.hearer)
            (stand c.hearer hears.hearer).right right_after news
            (λ less. news.agree.beyond h less
            (sym (bound.agree c.sender c.hearer hears.sender hears.hearer hears.linked)))

    pub one_bound : (h : Stamp) → IsBound state runs h → IsBound state mid h
    one_bound h bound = record {
      end = bound.end;
      floor = bound.floor;
      due = λ k s within off. elim (before_decides s h) [
        | inr late ↦ inl late
        | inl lt ↦ bound.due k s within ((like h bound k).due s lt off)
      ];
      agree = λ k q sends hears linked.
          (like h bound k).sent q ∙ bound.agree k q sends hears linked ∙ (like h bound q).heard k;
    }

-- ---- hearings
pub same_runs : (runs after : LocalRuns) → ((x : ℕ) → after x ≡ runs x) → runs ≡ after
same_runs runs after same = λ i x. sym (same x) i

pub hearings_keep_bounds : HearingsKeepBounds
hearings_keep_bounds state runs after [] is stand same = record {
  standing = subst (AreStanding state) (same_runs runs after same) stand;
  bound = λ h. subst (λ (v : LocalRuns). IsBound state v h) (same_runs runs after same);
  bases = λ x. (ap (λ (v : Local). v.base) (same x), ap (λ (v : Local). v.floor) (same x));
}
hearings_keep_bounds state runs after (c ∷ cs) is stand (mid, hears, rest) =
    let more = hearings_keep_bounds state mid after cs is
    (one_stands state runs mid c hears is stand) rest in
    let base = one_base state runs mid c hears in record {
      standing = more.standing;
      bound = λ h b. more.bound h (one_bound state runs mid c hears is stand h b);
      bases = λ x. ((more.bases x).0 ∙ (base x).0, (more.bases x).1 ∙ (base x).1);
    }

-- ---- hearings that rewind none
abbrev pub SameLogs : LocalRuns → LocalRuns → Type 0
SameLogs runs after = (x : ℕ) → (after x).log ≡ (runs x).log

abbrev HasHeard : CellStateData → LocalRuns → ℕ → ℕ → Type 0
HasHeard state runs k q = trail_of (runs q).heard k ≡ sent_by state runs k q

module _ (state : CellStateData) (runs mid : LocalRuns) (c : Call) (hears : Hears state runs c mid)
    (none : one_if_rewound c.answer ≡ 0) where
  pub one_log : SameLogs runs mid
  one_log x = elim (same_or_other x c.hearer) [
    | inl here ↦ subst (λ (n : ℕ). (mid n).log ≡ (runs n).log) (sym here)
        (log_kept c.sender (sent_by state runs c.sender c.hearer) (runs c.hearer) (mid c.hearer)
        c.answer hears.hears none)
    | inr other ↦ ap (λ (v : Local). v.log) (hears.others x other)
  ]

  same_sent : (k q : ℕ) → sent_by state mid k q ≡ sent_by state runs k q
  same_sent k q =
      ap (λ (v : ViewData). sent_to state.grid q v (mid k).log) (one_base state runs mid c hears k).0
      ∙ ap (sent_to state.grid q (runs k).base) (one_log k)

  heard_what : HearsWhat c.sender (sent_by state runs c.sender c.hearer) (runs c.hearer) (mid c.hearer)
  heard_what = hears_what c.sender (sent_by state runs c.sender c.hearer) (runs c.hearer) (mid c.hearer)
      c.answer hears.hears

  -- the hearer has then heard
  now_heard : HasHeard state mid c.sender c.hearer
  now_heard = trail_is c.sender (sent_by state runs c.sender c.hearer) (runs c.hearer) (mid c.hearer)
      heard_what
      ∙ sym (same_sent c.sender c.hearer)

  -- and what was heard stays so
  stays_heard : (k q : ℕ) → HasHeard state runs k q → HasHeard state mid k q
  stays_heard k q heard = elim (same_or_other q c.hearer) [
    | inr other ↦ ap (λ (v : Local). trail_of v.heard k) (hears.others q other) ∙ heard
        ∙ sym (same_sent k q)
    | inl here ↦ subst (HasHeard state mid k) (sym here)
        (at_hearer (subst (HasHeard state runs k) here heard))
  ]
    where
      at_hearer : HasHeard state runs k c.hearer → HasHeard state mid k c.hearer
      at_hearer heard = elim (same_or_other k c.sender) [
        | inl from_it ↦ subst (λ (n : ℕ). HasHeard state mid n c.hearer) (sym from_it) now_heard
        | inr from_other ↦
            other_trails c.sender (sent_by state runs c.sender c.hearer) (runs c.hearer)
            (mid c.hearer) heard_what k from_other
            ∙ heard ∙ sym (same_sent k c.hearer)
      ]

stay_heard : (state : CellStateData) (runs after : LocalRuns) (cs : List Call) →
    Hearings state runs cs after → rewinds cs ≡ 0 → (k q : ℕ) → HasHeard state runs k q →
    HasHeard state after k q
stay_heard state runs after [] same none k q heard =
    subst (λ (v : LocalRuns). HasHeard state v k q) (same_runs runs after same) heard
stay_heard state runs after (c ∷ cs) (mid, hears, rest) none k q heard =
    stay_heard state mid after cs rest (omega arith) k q
    (stays_heard state runs mid c hears (omega arith) k q heard)

each_heard : (state : CellStateData) (runs after : LocalRuns) (cs : List Call) →
    Hearings state runs cs after → rewinds cs ≡ 0 → (c : Call) → IsAmong c cs →
    HasHeard state after c.sender c.hearer
each_heard state runs after [] same none c among = absurd among
each_heard state runs after (x ∷ xs) (mid, hears, rest) none c (inl first) =
    subst (λ (v : Call). HasHeard state after v.sender v.hearer) (sym first)
    (stay_heard state mid after xs rest (omega arith) x.sender x.hearer
    (now_heard state runs mid x hears (omega arith)))
each_heard state runs after (x ∷ xs) (mid, hears, rest) none c (inr more) =
    each_heard state mid after xs rest (omega arith) c more

-- after a pass that rewinds none each has heard just what the others sent
pub all_heard : (state : CellStateData) (runs after : LocalRuns) (cs : List Call) → IsPass state cs →
    Hearings state runs cs after → rewinds cs ≡ 0 → AllHeard state after
all_heard state runs after cs pass hearings none k q sends hears linked =
    let call = pass k q sends hears linked in
    each_heard state runs after cs hearings none (record { hearer = q; sender = k; answer = call.0 }) call.1

pub passes_end_in_agreement : PassesEndInAgreement
passes_end_in_agreement state runs after [] passes = absurd passes
passes_end_in_agreement state runs after (p ∷ ps) (pass, (mid, hearings, inl last)) =
    subst (AllHeard state) (same_runs mid after last.2) (all_heard state runs mid p pass hearings last.0)
passes_end_in_agreement state runs after (p ∷ ps) (pass, (mid, hearings, inr (some, more))) =
    passes_end_in_agreement state mid after ps more

-- ---- passes end
-- the entries before a stamp are all, or fewer
below_shorter : (d : Stamp) (log : List Entry) →
    (entries_below d log ≡ log) ⊎ (length (entries_below d log) < length log)
below_shorter d [] = inl refl
below_shorter d (e ∷ es) = by_test (is_before (entry_stamp e) d) (below_shorter d es)
  where
    by_test : (b : Bool) → (entries_below d es ≡ es) ⊎ (length (entries_below d es) < length es) →
        ((if b then e ∷ entries_below d es else []) ≡ e ∷ es)
        ⊎ (length (if b then e ∷ entries_below d es else []) < length (e ∷ es))
    by_test true (inl same) = inl (ap (λ v. e ∷ v) same)
    by_test true (inr less) = inr (omega arith)
    by_test false rest = inr (omega arith)

log_takes : (k : ℕ) (sent : List Message) (r new : Local) (a : Hearing) → HearsFrom k sent r a new →
    one_if_rewound a + length new.log ≤ length r.log
log_takes k sent r new Same h =
    let e : length new.log ≡ length r.log = ap (λ (v : Local). length v.log) h.1 in omega arith
log_takes k sent r new (Later d) h =
    let e : length new.log ≡ length r.log = ap length (h.2.log ∙ h.1) in omega arith
log_takes k sent r new (Rewound d) h =
    let e : length new.log ≡ length (entries_below d r.log) = ap length h.2.log in
    elim (below_shorter d r.log) [ inl same ↦ absurd (h.1 same) | inr less ↦ omega arith ]
log_takes k sent r new Apart h = absurd h

entries_same : (n : ℕ) (runs mid : LocalRuns) → ((x : ℕ) → x < n → (mid x).log ≡ (runs x).log) →
    entry_count n mid ≡ entry_count n runs
entries_same zero runs mid same = refl
entries_same (suc n) runs mid same =
    let rest : entry_count n mid ≡ entry_count n runs =
    entries_same n runs mid (λ x lt. same x (omega arith)) in
    let last : length (mid n).log ≡ length (runs n).log = ap length (same n (omega arith)) in
    omega arith

entries_less : (n taken q : ℕ) (runs mid : LocalRuns) → q < n → ((x : ℕ) → x ≢ q → mid x ≡ runs x) →
    taken + length (mid q).log ≤ length (runs q).log → taken + entry_count n mid ≤ entry_count n runs
entries_less zero taken q runs mid lt others less = absurd (omega arith)
entries_less (suc n) taken q runs mid lt others less = elim (same_or_other q n) [
  | inl here ↦
      let rest : entry_count n mid ≡ entry_count n runs =
      entries_same n runs mid (λ x ltx. ap (λ (v : Local). v.log) (others x (omega arith))) in
      let last : taken + length (mid n).log ≤ length (runs n).log =
      subst (λ (x : ℕ). taken + length (mid x).log ≤ length (runs x).log) here less in
      omega arith
  | inr other ↦
      let rest : taken + entry_count n mid ≤ entry_count n runs =
      entries_less n taken q runs mid (omega arith) others less in
      let last : length (mid n).log ≡ length (runs n).log =
      ap (λ (v : Local). length v.log) (others n (λ e. other (sym e))) in
      omega arith
]

-- each hearing that rewinds takes an entry
pub rewinds_take : (state : CellStateData) (runs after : LocalRuns) (cs : List Call) →
    Hearings state runs cs after →
    rewinds cs + entry_count state.grid.regions after ≤ entry_count state.grid.regions runs
rewinds_take state runs after [] same =
    let e : entry_count state.grid.regions after ≡ entry_count state.grid.regions runs =
    entries_same state.grid.regions runs after (λ x lt. ap (λ (v : Local). v.log) (same x)) in
    omega arith
rewinds_take state runs after (c ∷ cs) (mid, hears, rest) =
    let n = state.grid.regions in
    let more : rewinds cs + entry_count n after ≤ entry_count n mid = rewinds_take state mid after cs rest in
    let one : one_if_rewound c.answer + entry_count n mid ≤ entry_count n runs =
    entries_less n (one_if_rewound c.answer) c.hearer runs mid hears.hearer hears.others
    (log_takes c.sender (sent_by state runs c.sender c.hearer) (runs c.hearer) (mid c.hearer) c.answer
    hears.hears) in
    omega arith

pub passes_end : PassesEnd
passes_end state runs after [] passes = absurd passes
passes_end state runs after (p ∷ ps) (pass, (mid, hearings, inl last)) =
    let none : length ps ≡ 0 = ap length last.1 in omega arith
passes_end state runs after (p ∷ ps) (pass, (mid, hearings, inr (some, more))) =
    let n = state.grid.regions in
    let rest : length ps ≤ 1 + entry_count n mid = passes_end state mid after ps more in
    let taken : rewinds p + entry_count n mid ≤ entry_count n runs =
    rewinds_take state runs mid p hearings in
    omega arith

-- ---- what passes keep
pub record PassesKeep (state : CellStateData) (runs after : LocalRuns) : Type 0 where
  pub standing : AreStanding state after
  pub bound : (h : Stamp) → IsBound state runs h → IsBound state after h
  pub heard : AllHeard state after

pub passes_keep : (state : CellStateData) (runs after : LocalRuns) (ps : List (List Call)) →
    IsCellState state → AreStanding state runs → Passes state runs ps after →
    PassesKeep state runs after
passes_keep state runs after [] is stand passes = absurd passes
passes_keep state runs after (p ∷ ps) is stand (pass, (mid, hearings, inl last)) =
    let same = same_runs mid after last.2 in
    let kept = hearings_keep_bounds state runs mid p is stand hearings in record {
      standing = subst (AreStanding state) same kept.standing;
      bound = λ h b. subst (λ (v : LocalRuns). IsBound state v h) same (kept.bound h b);
      heard = subst (AllHeard state) same (all_heard state runs mid p pass hearings last.0);
    }
passes_keep state runs after (p ∷ ps) is stand (pass, (mid, hearings, inr (some, more))) =
    let kept = hearings_keep_bounds state runs mid p is stand hearings in
    let rest = passes_keep state mid after ps is kept.standing more in record {
      standing = rest.standing;
      bound = λ h b. rest.bound h (kept.bound h b);
      heard = rest.heard;
    }
