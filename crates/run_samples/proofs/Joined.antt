-- The meaning of a sampler that was told the changes of a run.
use Rattle.std.proofs.Common.{◌≡◌, inl, inr, ℕ, suc, ◌+◌, ◌^◌, ◌<◌, Bool, true, false, cond, List, [], ◌∷◌, ◌++◌, length, take, drop, slice_get, Option, Some, None, option_map, arith, append_assoc, append-nil, ap, sym, refl, ◌∙◌, subst, if◌then◌else◌, count_by}
use Rattle.std.specs.Prelude.{fold, ⊤}
use Rattle.std.proofs.lemmas.List.{take-append-drop}
use Rattle.std.proofs.lemmas.List.Sums.{sum_by-cons, count_by-le-length}
use Rattle.report_ports.specs.Ports.{AppendsPrefix, MayTake}
use Rattle.report_ports.proofs.Allowed.{may_front, may_next}
use Rattle.fixed_motion.specs.declared.rules.Rules.{Rules}
use Rattle.fixed_motion.specs.declared.disk.Disk.{Disk}
use Rattle.fixed_motion.specs.Scene.{SceneData, IsValidScene}
use Rattle.event_rules.specs.declared.change.Change.{Change}
use Rattle.event_rules.specs.declared.outcome.Outcome.{Outcome}
use Rattle.event_rules.specs.Laws.{ChangesFit, FewEvents, last_tick}
use Rattle.event_rules.specs.Outcomes.{IsChangeOf}
use Rattle.event_rules.specs.Run.{IsRun, effect}
use Rattle.event_rules.specs.Told.{told, Told, Torn}
use Rattle.event_rules.proofs.Ran.{length-effect}
use Rattle.collision_report.specs.Meaning.{TableData, IsSceneOf, takes_part, with_records, counted}
use Rattle.collision_report.specs.Report.{is_wall, is_pair, latest}
use Rattle.collision_report.proofs.Pieces.{begins_more, begins_after, appends_map}
use Rattle.collision_report.proofs.Tables.{change_takes_part}
use Rattle.collision_report.proofs.Told.{counted_step, alike_after}
use Rattle.collision_sums.specs.declared.sums.Sums.{Sums}
use Rattle.collision_sums.specs.Sums.{no_sums}
use Rattle.run_samples.specs.declared.sample.Sample.{Sample}
use Rattle.run_samples.specs.Samples.{summed, samples_of, sums_after, samples_text, sampled_end, samples}
use Rattle.run_samples.specs.Meaning.{SampledSoFar, sampled_so_far, due_samples, sampled_text, nothing_sampled, with_sampled, IsSampleTornAt, sampled_end_text, sampled_on_loan}
use Rattle.run_samples.specs.Laws.{after_sampled, SamplesJoin, SamplesBegin, SamplesBreakOff}

-- changes that fit the rules and this many disks
abbrev pub Fit : Rules → ℕ → List Change → Type 0
Fit rules count [] = ⊤
Fit rules count (c ∷ cs) = IsChangeOf rules count c × Fit rules count cs

fit_from : (rules : Rules) (count : ℕ) (cs : List Change) → ((i : ℕ) (c : Change) → slice_get cs i ≡ Some c → IsChangeOf rules count c) → Fit rules count cs
fit_from rules count [] h = tt
fit_from rules count (c ∷ cs) h = (h 0 c refl, fit_from rules count cs (λ i d e. h (suc i) d e))

-- a count goes on from another
counts_on : (n j k l : ℕ) → l ≡ j + k → counted ((n + j) + k) ≡ counted (n + l)
counts_on n j k l e = ap counted (let d : (n + j) + k ≡ n + l = omega (arith, e) in d)

appends_none : (t : Option (List ℕ)) → t ≡ option_map (λ (bytes : List ℕ). bytes ++ []) t
appends_none None = refl
appends_none (Some p) = ap Some (sym (append-nil p))

-- one text appended after another
appends_on : (t : Option (List ℕ)) (xs ys : List ℕ) →
    option_map (λ (bytes : List ℕ). bytes ++ ys) (option_map (λ (bytes : List ℕ). bytes ++ xs) t) ≡ option_map (λ (bytes : List ℕ). bytes ++ (xs ++ ys)) t
appends_on None xs ys = refl
appends_on (Some p) xs ys = ap Some (append_assoc p xs ys)

same_appended : (t : Option (List ℕ)) (xs ys : List ℕ) → xs ≡ ys →
    option_map (λ (bytes : List ℕ). bytes ++ xs) t ≡ option_map (λ (bytes : List ℕ). bytes ++ ys) t
same_appended t xs ys e = ap (λ (v : List ℕ). option_map (λ (bytes : List ℕ). bytes ++ v) t) e

-- equal parts make equal meanings
same_meaning : (sample : Sample) (table : TableData) (sums : Sums) (t u : Option (List ℕ)) (w v p q : ℕ) → t ≡ u → w ≡ v → p ≡ q →
    sampled_so_far sample table sums t w p ≡ sampled_so_far sample table sums u v q
same_meaning sample table sums t u w v p q e f g =
    ap (λ (x : Option (List ℕ)). sampled_so_far sample table sums x w p) e
    ∙ (ap (λ (x : ℕ). sampled_so_far sample table sums u x p) f ∙ ap (λ (x : ℕ). sampled_so_far sample table sums u v x) g)

-- the table of a scene's run with these records
abbrev pub table_at : SceneData → List Disk → ℕ → TableData
table_at scene disks shown = record { rules = scene.rules; every = scene.every; disks = disks; shown = shown }

-- one change told, which takes part
by_part : (b : Bool) → b ≡ true → (sample : Sample) (table next : TableData) (sums added : Sums) (text : List ℕ) (t : Option (List ℕ)) (w p : ℕ) →
    sampled_so_far sample (if b then next else table) (if b then added else sums) (option_map (λ (bytes : List ℕ). bytes ++ (if b then text else [])) t) w p
    ≡ sampled_so_far sample next added (option_map (λ (bytes : List ℕ). bytes ++ text) t) w p
by_part true e sample table next sums added text t w p = refl
by_part false e sample table next sums added text t w p = cc

step : (sample : Sample) (scene : SceneData) (disks : List Disk) (sums : Sums) (from : ℕ) (t : Option (List ℕ)) (w p : ℕ) (c : Change) →
    IsChangeOf scene.rules (length disks) c →
    with_sampled (sampled_so_far sample (table_at scene disks from) sums t (counted w) (counted p)) c
    ≡ sampled_so_far sample (table_at scene (effect disks c) (latest from c)) (summed sample scene.rules disks sums c)
    (option_map (λ (bytes : List ℕ). bytes ++ samples_of sample scene.rules scene.every disks sums from c.stamp.tick) t)
    (counted (w + cond (is_wall c) 1 0)) (counted (p + cond (is_pair c) 1 0))
step sample scene disks sums from t w p c fit =
    let table = table_at scene disks from in
    let text = due_samples sample table sums c.stamp.tick in
    let added = summed sample scene.rules disks sums c in
    by_part (takes_part table c) (change_takes_part table c fit) sample table (with_records table c) sums added text t _ _
    ∙ same_meaning sample (with_records table c) added _ _ _ _ _ _ refl (counted_step (is_wall c) w) (counted_step (is_pair c) p)

-- changes told, from these records, sums and counts on
pub told_from : (sample : Sample) (scene : SceneData) (disks : List Disk) (sums : Sums) (from : ℕ) (t : Option (List ℕ)) (w p : ℕ) (changes : List Change) →
    Fit scene.rules (length disks) changes →
    told with_sampled (sampled_so_far sample (table_at scene disks from) sums t (counted w) (counted p)) changes
    ≡ sampled_so_far sample (table_at scene (fold effect disks changes) (fold latest from changes)) (sums_after sample scene.rules disks sums changes)
    (option_map (λ (bytes : List ℕ). bytes ++ samples_text sample scene disks sums from changes) t)
    (counted (w + count_by is_wall changes)) (counted (p + count_by is_pair changes))
told_from sample scene disks sums from t w p [] fit =
    same_meaning sample (table_at scene disks from) sums _ _ _ _ _ _ (appends_none t) (counted_step false w) (counted_step false p)
told_from sample scene disks sums from t w p (c ∷ cs) fit =
    let text = samples_of sample scene.rules scene.every disks sums from c.stamp.tick in
    let added = summed sample scene.rules disks sums c in
    ap (λ (m : SampledSoFar). told with_sampled m cs) (step sample scene disks sums from t w p c fit.0)
    ∙ told_from sample scene (effect disks c) added (latest from c) (option_map (λ (bytes : List ℕ). bytes ++ text) t)
    (w + cond (is_wall c) 1 0) (p + cond (is_pair c) 1 0) cs
    (subst (λ (n : ℕ). Fit scene.rules n cs) (sym (length-effect disks c)) fit.1)
    ∙ same_meaning sample (table_at scene (fold effect (effect disks c) cs) (fold latest (latest from c) cs))
    (sums_after sample scene.rules (effect disks c) added cs) _ _ _ _ _ _
    (appends_on t text (samples_text sample scene (effect disks c) added (latest from c) cs))
    (counts_on w (cond (is_wall c) 1 0) (count_by is_wall cs) (count_by is_wall (c ∷ cs)) (sum_by-cons (λ (d : Change). cond (is_wall d) 1 0) c cs))
    (counts_on p (cond (is_pair c) 1 0) (count_by is_pair cs) (count_by is_pair (c ∷ cs)) (sum_by-cons (λ (d : Change). cond (is_pair d) 1 0) c cs))

small_count : (n : ℕ) → n < 2 ^ 90 → counted (0 + n) ≡ n
small_count n h = omega arith

-- the meaning after the changes of a run, or some of them
abbrev pub told_of : Sample → SceneData → Option (List ℕ) → List Change → SampledSoFar
told_of sample scene taken changes =
    sampled_so_far sample (table_at scene (fold effect scene.disks changes) (fold latest 0 changes)) (sums_after sample scene.rules scene.disks no_sums changes)
    (option_map (λ (bytes : List ℕ). bytes ++ samples_text sample scene scene.disks no_sums 0 changes) taken)
    (counted (0 + count_by is_wall changes)) (counted (0 + count_by is_pair changes))

-- the text of all changes, and what is appended at the end, are the samples
whole_text : (sample : Sample) (scene : SceneData) (taken : Option (List ℕ)) (changes : List Change) (outcome : Outcome) → length changes < 2 ^ 90 →
    samples_text sample scene scene.disks no_sums 0 changes ++ sampled_end_text (told_of sample scene taken changes) scene outcome
    ≡ samples sample scene changes outcome
whole_text sample scene taken changes outcome few =
    let walls : counted (0 + count_by is_wall changes) ≡ count_by is_wall changes = small_count _ (omega (arith, few, count_by-le-length is_wall changes)) in
    let pairs : counted (0 + count_by is_pair changes) ≡ count_by is_pair changes = small_count _ (omega (arith, few, count_by-le-length is_pair changes)) in
    let sums = sums_after sample scene.rules scene.disks no_sums changes in
    let text = samples_text sample scene scene.disks no_sums 0 changes in
    let last = samples_of sample scene.rules scene.every (fold effect scene.disks changes) sums (fold latest 0 changes) (last_tick scene outcome) in
    ap (λ (w : ℕ). text ++ (last ++ sampled_end sample scene sums outcome w (counted (0 + count_by is_pair changes)))) walls
    ∙ ap (λ (p : ℕ). text ++ (last ++ sampled_end sample scene sums outcome (count_by is_wall changes) p)) pairs

module _ (changes_fit : ChangesFit) (few_events : FewEvents) where
  pub samples_join_by : SamplesJoin
  samples_join_by sample scene taken changes outcome valid run =
      let fit = fit_from scene.rules (length scene.disks) changes (changes_fit scene changes outcome valid run) in
      ap (λ (m : SampledSoFar). option_map (λ (bytes : List ℕ). bytes ++ sampled_end_text m scene outcome) m.taken)
      (told_from sample scene scene.disks no_sums 0 taken 0 0 changes fit)
      ∙ appends_on taken (samples_text sample scene scene.disks no_sums 0 changes) (sampled_end_text (told_of sample scene taken changes) scene outcome)
      ∙ same_appended taken _ _ (whole_text sample scene taken changes outcome (few_events scene changes outcome valid run))

  pub samples_break_off_by : SamplesBreakOff
  samples_break_off_by sample scene taken left changes outcome valid run h =
      let fit = fit_from scene.rules (length scene.disks) changes (changes_fit scene changes outcome valid run) in
      let same = told_from sample scene scene.disks no_sums 0 taken 0 0 changes fit in
      let text = samples_text sample scene scene.disks no_sums 0 changes in
      subst (λ (all : List ℕ). AppendsPrefix taken left all)
      (whole_text sample scene taken changes outcome (few_events scene changes outcome valid run))
      (begins_after taken (told_of sample scene taken changes).taken left text (sampled_end_text (told_of sample scene taken changes) scene outcome)
      (appends_map taken text)
      (subst (λ (m : SampledSoFar). AppendsPrefix m.taken left (sampled_end_text m scene outcome)) same h))

-- the text of changes, and of those after them
samples_text-append : (sample : Sample) (scene : SceneData) (disks : List Disk) (sums : Sums) (from : ℕ) (xs ys : List Change) →
    samples_text sample scene disks sums from (xs ++ ys)
    ≡ samples_text sample scene disks sums from xs
    ++ samples_text sample scene (fold effect disks xs) (sums_after sample scene.rules disks sums xs) (fold latest from xs) ys
samples_text-append sample scene disks sums from [] ys = refl
samples_text-append sample scene disks sums from (x ∷ xs) ys =
    let due = samples_of sample scene.rules scene.every disks sums from x.stamp.tick in
    let added = summed sample scene.rules disks sums x in
    let first = samples_text sample scene (effect disks x) added (latest from x) xs in
    let second = samples_text sample scene (fold effect (effect disks x) xs) (sums_after sample scene.rules (effect disks x) added xs) (fold latest (latest from x) xs) ys in
    ap (λ (v : List ℕ). due ++ v) (samples_text-append sample scene (effect disks x) added (latest from x) xs ys)
    ∙ sym (append_assoc due first second)

length-effects : (ds : List Disk) (cs : List Change) → length (fold effect ds cs) ≡ length ds
length-effects ds [] = refl
length-effects ds (c ∷ cs) = length-effects (effect ds c) cs ∙ length-effect ds c

fit_left : (rules : Rules) (count : ℕ) (xs ys : List Change) → Fit rules count (xs ++ ys) → Fit rules count xs
fit_left rules count [] ys h = tt
fit_left rules count (x ∷ xs) ys h = (h.0, fit_left rules count xs ys h.1)

fit_right : (rules : Rules) (count : ℕ) (xs ys : List Change) → Fit rules count (xs ++ ys) → Fit rules count ys
fit_right rules count [] ys h = h
fit_right rules count (x ∷ xs) ys h = fit_right rules count xs ys h.1

-- what was told of the first changes, and a part of what the others add, is a prefix of the samples
begins : (sample : Sample) (scene : SceneData) (taken left : Option (List ℕ)) (changes xs ys : List Change) (outcome : Outcome) (text rest : List ℕ) →
    changes ≡ xs ++ ys →
    samples_text sample scene (fold effect scene.disks xs) (sums_after sample scene.rules scene.disks no_sums xs) (fold latest 0 xs) ys ≡ text ++ rest →
    AppendsPrefix (told_of sample scene taken xs).taken left text → AppendsPrefix taken left (samples sample scene changes outcome)
begins sample scene taken left changes xs ys outcome text rest e f h =
    let sums = sums_after sample scene.rules scene.disks no_sums changes in
    let first = samples_text sample scene scene.disks no_sums 0 xs in
    let more = samples_of sample scene.rules scene.every (fold effect scene.disks changes) sums (fold latest 0 changes) (last_tick scene outcome)
    ++ sampled_end sample scene sums outcome (count_by is_wall changes) (count_by is_pair changes) in
    let all : samples_text sample scene scene.disks no_sums 0 changes ≡ (first ++ text) ++ rest =
    ap (samples_text sample scene scene.disks no_sums 0) e ∙ samples_text-append sample scene scene.disks no_sums 0 xs ys
    ∙ ap (λ (v : List ℕ). first ++ v) f ∙ sym (append_assoc first text rest) in
    subst (λ (v : List ℕ). AppendsPrefix taken left v) (ap (λ (v : List ℕ). v ++ more) (sym all))
    (begins_more taken left ((first ++ text) ++ rest) more
    (begins_more taken left (first ++ text) rest
    (begins_after taken (told_of sample scene taken xs).taken left first text (appends_map taken first) h)))

nothing_appended : (a : Option (List ℕ)) → AppendsPrefix a a []
nothing_appended None = ([], [], refl, tt)
nothing_appended (Some a) = ([], [], refl, sym (append-nil a))

-- what is written for a change of the run
text_of_part : (sample : Sample) (scene : SceneData) (disks : List Disk) (sums : Sums) (from : ℕ) (c : Change) → IsChangeOf scene.rules (length disks) c →
    sampled_text sample (table_at scene disks from) sums c ≡ samples_of sample scene.rules scene.every disks sums from c.stamp.tick
text_of_part sample scene disks sums from c fit =
    ap (λ (b : Bool). if b then samples_of sample scene.rules scene.every disks sums from c.stamp.tick else []) (change_takes_part (table_at scene disks from) c fit)

-- the first of the changes that follow was refused
torn_begins : (sample : Sample) (scene : SceneData) (taken : Option (List ℕ)) (changes xs rest : List Change) (change : Change) (outcome : Outcome)
    (m : SampledSoFar) → changes ≡ xs ++ (change ∷ rest) → Fit scene.rules (length scene.disks) changes →
    IsSampleTornAt (told_of sample scene taken xs) change m → AppendsPrefix taken m.taken (samples sample scene changes outcome)
torn_begins sample scene taken changes xs rest change outcome m e fit h =
    let disks = fold effect scene.disks xs in let from = fold latest 0 xs in
    let sums = sums_after sample scene.rules scene.disks no_sums xs in
    let all : Fit scene.rules (length scene.disks) (xs ++ (change ∷ rest)) = subst (Fit scene.rules (length scene.disks)) e fit in
    let text = text_of_part sample scene disks sums from change
    (subst (λ (n : ℕ). IsChangeOf scene.rules n change) (sym (length-effects scene.disks xs)) (fit_right scene.rules (length scene.disks) xs (change ∷ rest) all).0) in
    begins sample scene taken m.taken changes xs (change ∷ rest) outcome (samples_of sample scene.rules scene.every disks sums from change.stamp.tick)
    (samples_text sample scene (effect disks change) (summed sample scene.rules disks sums change) (latest from change) rest) e refl
    (subst (λ (v : List ℕ). AppendsPrefix (told_of sample scene taken xs).taken m.taken v) text h.taken)

module _ (changes_fit : ChangesFit) where
  pub samples_begin_by : SamplesBegin
  samples_begin_by sample scene taken changes outcome m valid run (n, h) =
      let fit : Fit scene.rules (length scene.disks) changes = fit_from scene.rules (length scene.disks) changes (changes_fit scene changes outcome valid run) in
      let parts : changes ≡ take n changes ++ drop n changes = sym (take-append-drop n changes) in
      let first : Fit scene.rules (length scene.disks) (take n changes) =
      fit_left scene.rules (length scene.disks) (take n changes) (drop n changes) (subst (Fit scene.rules (length scene.disks)) parts fit) in
      let same = told_from sample scene scene.disks no_sums 0 taken 0 0 (take n changes) first in
      elim h [
        | inl all ↦ begins sample scene taken m.taken changes (take n changes) (drop n changes) outcome []
            (samples_text sample scene (fold effect scene.disks (take n changes)) (sums_after sample scene.rules scene.disks no_sums (take n changes)) (fold latest 0 (take n changes)) (drop n changes)) parts refl
            (subst (λ (k : SampledSoFar). AppendsPrefix k.taken m.taken []) same
            (subst (λ (k : SampledSoFar). AppendsPrefix (after_sampled sample scene taken (take n changes)).taken k.taken []) (sym all)
            (nothing_appended (after_sampled sample scene taken (take n changes)).taken)))
        | inr torn ↦ at_torn n fit parts same torn.0 torn.1 torn.2 torn.3 torn.4 torn.5
      ]
    where
      at_torn : (n : ℕ) → Fit scene.rules (length scene.disks) changes → changes ≡ take n changes ++ drop n changes →
          after_sampled sample scene taken (take n changes) ≡ told_of sample scene taken (take n changes) →
          (mid : Option SampledSoFar) (change : Change) (rest : List Change) → drop n changes ≡ change ∷ rest →
          Told with_sampled (Some (nothing_sampled sample scene taken)) (take n changes) mid → Torn IsSampleTornAt mid change (Some m) →
          AppendsPrefix taken m.taken (samples sample scene changes outcome)
      at_torn n fit parts same None change rest e first torn = absurd first
      at_torn n fit parts same (Some k) change rest e first torn =
          torn_begins sample scene taken changes (take n changes) rest change outcome m
          (parts ∙ ap (λ (v : List Change). take n changes ++ v) e) fit
          (subst (λ (k : SampledSoFar). IsSampleTornAt k change m) (first ∙ same) torn)

-- the table of a sampler that was told the changes of a run is one for the scene of the run
pub serves_by : ChangesFit → (sample : Sample) (scene : SceneData) (taken : Option (List ℕ)) (changes : List Change) (outcome : Outcome) →
    IsValidScene scene → IsRun scene changes outcome → IsSceneOf (after_sampled sample scene taken changes).table scene
serves_by changes_fit sample scene taken changes outcome valid run =
    subst (λ (m : SampledSoFar). IsSceneOf m.table scene)
    (sym (told_from sample scene scene.disks no_sums 0 taken 0 0 changes
    (fit_from scene.rules (length scene.disks) changes (changes_fit scene changes outcome valid run))))
    (record { rules = refl; every = refl; count = length-effects scene.disks changes })

-- the loan stays, and the samples go on
pub sampled_lent : {Loan : Type 0} (loan : Loan) (m : SampledSoFar) (changes : List Change) → told sampled_on_loan (loan, m) changes ≡ (loan, told with_sampled m changes)
sampled_lent loan m [] = refl
sampled_lent loan m (change ∷ changes) = sampled_lent loan (with_sampled m change) changes

-- ---- what a sink may take of a run
-- the texts of changes that are told one after another
abbrev pub text_sampled : SampledSoFar → List Change → List ℕ
text_sampled m [] = []
text_sampled m (c ∷ cs) = sampled_text m.sample m.table m.sums c ++ text_sampled (with_sampled m c) cs

text_from : (sample : Sample) (scene : SceneData) (disks : List Disk) (sums : Sums) (from : ℕ) (t : Option (List ℕ)) (w p : ℕ) (changes : List Change) →
    Fit scene.rules (length disks) changes →
    text_sampled (sampled_so_far sample (table_at scene disks from) sums t (counted w) (counted p)) changes ≡ samples_text sample scene disks sums from changes
text_from sample scene disks sums from t w p [] fit = refl
text_from sample scene disks sums from t w p (c ∷ cs) fit =
    let text = samples_of sample scene.rules scene.every disks sums from c.stamp.tick in
    let added = summed sample scene.rules disks sums c in
    ap (λ (v : List ℕ). v ++ text_sampled (with_sampled (sampled_so_far sample (table_at scene disks from) sums t (counted w) (counted p)) c) cs)
    (text_of_part sample scene disks sums from c fit.0)
    ∙ ap (λ (m : SampledSoFar). text ++ text_sampled m cs) (step sample scene disks sums from t w p c fit.0)
    ∙ ap (λ (v : List ℕ). text ++ v)
    (text_from sample scene (effect disks c) added (latest from c) (option_map (λ (bytes : List ℕ). bytes ++ text) t)
    (w + cond (is_wall c) 1 0) (p + cond (is_pair c) 1 0) cs (subst (λ (n : ℕ). Fit scene.rules n cs) (sym (length-effect disks c)) fit.1))

module _ (changes_fit : ChangesFit) where
  -- a sink that may take the samples of a run may take the texts of its first changes
  pub may_sample_by : (allows : List ℕ → Type 0) (sample : Sample) (scene : SceneData) (taken : Option (List ℕ)) (xs ys : List Change) (outcome : Outcome) →
      IsValidScene scene → IsRun scene (xs ++ ys) outcome → MayTake allows taken (samples sample scene (xs ++ ys) outcome) →
      MayTake allows taken (text_sampled (nothing_sampled sample scene taken) xs)
  may_sample_by allows sample scene taken xs ys outcome valid run may =
      let changes = xs ++ ys in
      let fit = fit_from scene.rules (length scene.disks) changes (changes_fit scene changes outcome valid run) in
      let sums = sums_after sample scene.rules scene.disks no_sums changes in
      let first = samples_text sample scene scene.disks no_sums 0 xs in
      let second = samples_text sample scene (fold effect scene.disks xs) (sums_after sample scene.rules scene.disks no_sums xs) (fold latest 0 xs) ys in
      let more = samples_of sample scene.rules scene.every (fold effect scene.disks changes) sums (fold latest 0 changes) (last_tick scene outcome)
      ++ sampled_end sample scene sums outcome (count_by is_wall changes) (count_by is_pair changes) in
      subst (λ (v : List ℕ). MayTake allows taken v)
      (sym (text_from sample scene scene.disks no_sums 0 taken 0 0 xs (fit_left scene.rules (length scene.disks) xs ys fit)))
      (may_front allows taken first second
      (may_front allows taken (first ++ second) more
      (subst (λ (v : List ℕ). MayTake allows taken v)
      (ap (λ (v : List ℕ). v ++ more) (samples_text-append sample scene scene.disks no_sums 0 xs ys)) may)))

module _ (changes_fit : ChangesFit) (few_events : FewEvents) where
  -- and once it has taken them all, it may take the end
  pub may_end_by : (allows : List ℕ → Type 0) (sample : Sample) (scene : SceneData) (taken : Option (List ℕ)) (changes : List Change) (outcome : Outcome) →
      IsValidScene scene → IsRun scene changes outcome → MayTake allows taken (samples sample scene changes outcome) →
      MayTake allows (after_sampled sample scene taken changes).taken (sampled_end_text (after_sampled sample scene taken changes) scene outcome)
  may_end_by allows sample scene taken changes outcome valid run may =
      let fit = fit_from scene.rules (length scene.disks) changes (changes_fit scene changes outcome valid run) in
      let text = samples_text sample scene scene.disks no_sums 0 changes in
      let end = sampled_end_text (told_of sample scene taken changes) scene outcome in
      subst (λ (m : SampledSoFar). MayTake allows m.taken (sampled_end_text m scene outcome))
      (sym (told_from sample scene scene.disks no_sums 0 taken 0 0 changes fit))
      (may_next allows taken (told_of sample scene taken changes).taken text end (appends_map taken text) (alike_after taken text)
      (subst (λ (v : List ℕ). MayTake allows taken v) (sym (whole_text sample scene taken changes outcome (few_events scene changes outcome valid run))) may))
