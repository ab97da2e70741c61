-- What a listener has written that was told a run, if what it writes makes a text of the run.
use Rattle.std.proofs.Common.{◌≡◌, inl, inr, ℕ, List, [], ◌∷◌, ◌++◌, take, drop, ◌≤◌, Option, Some, None, option_map, sym, ap, subst, refl, ◌∙◌}
use Rattle.std.specs.Io.KnownBytes.{Appends}
use Rattle.report_ports.specs.Ports.{AppendsPrefix, Rose, MayTake}
use Rattle.fixed_motion.specs.Scene.{SceneData, IsValidScene}
use Rattle.event_rules.specs.declared.change.Change.{Change}
use Rattle.event_rules.specs.declared.outcome.Outcome.{Outcome}
use Rattle.event_rules.specs.declared.outcome.Outcome.TheVariants.{Done as DoneOutcome, Limit as Passes}
use Rattle.event_rules.specs.declared.change.Limit.TheVariants.{Rounds, Speed}
use Rattle.event_rules.specs.Run.{IsRun}
use Rattle.event_rules.specs.Told.{told, Told, Torn, PrefixTold}
use Rattle.event_rules.proofs.Exists.{each_scene_runs}
use Rattle.collision_report.specs.Meaning.{TableData, IsSceneOf}
use Rattle.program_modes.specs.Reports.{IsOfRun, status_of}
use Rattle.program_modes.specs.declared.status.Status.{Status}
use Rattle.program_modes.specs.Answers.{Wrote, WrotePrefix}
use Rattle.program_modes.specs.Shows.{WritesText}
use Rattle.program_modes.proofs.Wrote.{kept, IsOwn, whole, wrote_nothing}

-- how a listener of this meaning writes: what a change does to it, and one that is refused; what its sink has taken, the
-- records that it has, and what it writes at the end
pub record Writer (M : Type 0) : Type 1 where
  pub next : M → Change → M
  pub torn : M → Change → M → Type 0
  pub taken : M → Option (List ℕ)
  pub table : M → TableData
  pub end : M → SceneData → Outcome → List ℕ

-- the same of a listener that holds a loan of its sink
abbrev pub next_on_loan : {M Loan : Type 0} → Writer M → Loan × M → Change → Loan × M
next_on_loan w m change = (m.0, w.next m.1 change)

abbrev pub torn_on_loan : {M Loan : Type 0} → Writer M → Loan × M → Change → Loan × M → Type 0
torn_on_loan w m change n = (n.0 ≡ m.0) × w.torn m.1 change n.1

-- what it writes from its start on is a text of the run, or a prefix of it
pub record Makes {M : Type 0} (w : Writer M) (text_of : SceneData → List Change → Outcome → List ℕ) (scene : SceneData) (start : M) : Type 1 where
  pub join : (changes : List Change) (outcome : Outcome) → IsRun scene changes outcome →
      option_map (λ (bytes : List ℕ). bytes ++ w.end (told w.next start changes) scene outcome) (w.taken (told w.next start changes))
      ≡ option_map (λ (bytes : List ℕ). bytes ++ text_of scene changes outcome) (w.taken start)
  pub begin : (changes : List Change) (outcome : Outcome) (m : M) → IsRun scene changes outcome →
      PrefixTold w.next w.torn (Some start) changes (Some m) → AppendsPrefix (w.taken start) (w.taken m) (text_of scene changes outcome)
  pub break_off : (changes : List Change) (outcome : Outcome) (left : Option (List ℕ)) → IsRun scene changes outcome →
      AppendsPrefix (w.taken (told w.next start changes)) left (w.end (told w.next start changes) scene outcome) →
      AppendsPrefix (w.taken start) left (text_of scene changes outcome)
  pub may_end : (allows : List ℕ → Type 0) (changes : List Change) (outcome : Outcome) → IsRun scene changes outcome →
      MayTake allows (w.taken start) (text_of scene changes outcome) →
      MayTake allows (w.taken (told w.next start changes)) (w.end (told w.next start changes) scene outcome)
  pub first : IsSceneOf (w.table start) scene
  pub serves : (m : M) (change : Change) → IsSceneOf (w.table m) scene → IsSceneOf (w.table (w.next m change)) scene

-- ---- changes told on a loan
told_lent : {M Loan : Type 0} (w : Writer M) (loan : Loan) (m : M) (changes : List Change) →
    told (next_on_loan w) (loan, m) changes ≡ (loan, told w.next m changes)
told_lent w loan m [] = refl
told_lent w loan m (c ∷ cs) = told_lent w loan (w.next m c) cs

pub told_on : {M Loan : Type 0} (w : Writer M) (loan : Loan) (m start : M) (changes : List Change) (n : Loan × M) → m ≡ start →
    n ≡ told (next_on_loan w) (loan, m) changes → n ≡ (loan, told w.next start changes)
told_on {M} {Loan} w loan m start changes n e h = h ∙ told_lent w loan m changes ∙ ap (λ (v : M). (loan, told w.next v changes)) e

-- a telling that broke off, and the loan kept
pub begun_lent : {M Loan : Type 0} (w : Writer M) (loan : Loan) (m : M) (changes : List Change) (n : Loan × M) →
    PrefixTold (next_on_loan w) (torn_on_loan w) (Some (loan, m)) changes (Some n) → (n.0 ≡ loan) × PrefixTold w.next w.torn (Some m) changes (Some n.1)
begun_lent {M} {Loan} w loan m changes n (k, h) = elim h [
  | inl all ↦
      let same = told_on w loan m m (take k changes) n refl all in
      (ap (λ v. v.0) same, (k, inl (ap (λ v. v.1) same)))
  | inr torn ↦ at_torn torn.0 torn.1 torn.2 torn.3 torn.4 torn.5
]
  where
    at_torn : (mid : Option (Loan × M)) (c : Change) (rest : List Change) → drop k changes ≡ c ∷ rest →
        Told (next_on_loan w) (Some (loan, m)) (take k changes) mid → Torn (torn_on_loan w) mid c (Some n) →
        (n.0 ≡ loan) × PrefixTold w.next w.torn (Some m) changes (Some n.1)
    at_torn None c rest e first torn = absurd first
    at_torn (Some mid) c rest e first torn =
        let same = told_on w loan m m (take k changes) mid refl first in
        (torn.0 ∙ ap (λ v. v.0) same, (k, inr (Some mid.1, c, rest, e, ap (λ v. v.1) same, torn.1)))

-- the records still serve the scene
serves_on : {M : Type 0} (w : Writer M) (scene : SceneData) → ((m : M) (change : Change) → IsSceneOf (w.table m) scene → IsSceneOf (w.table (w.next m change)) scene) →
    (m : M) (changes : List Change) → IsSceneOf (w.table m) scene → IsSceneOf (w.table (told w.next m changes)) scene
serves_on w scene keeps m [] h = h
serves_on w scene keeps m (c ∷ cs) h = serves_on w scene keeps (w.next m c) cs (keeps m c h)

pub serves_scene : {M Loan : Type 0} (w : Writer M) (text_of : SceneData → List Change → Outcome → List ℕ) (scene : SceneData) (start : M) → Makes w text_of scene start →
    (loan : Loan) (changes : List Change) (m : M) (n : Loan × M) → m ≡ start → n ≡ told (next_on_loan w) (loan, m) changes → IsSceneOf (w.table n.1) scene
serves_scene w text_of scene start makes loan changes m n e h =
    subst (λ v. IsSceneOf (w.table v.1) scene) (sym (told_on w loan m start changes n e h)) (serves_on w scene makes.serves start changes makes.first)

-- ---- what was written
joined : (a taken after : Option (List ℕ)) (xs ys : List ℕ) →
    option_map (λ (bytes : List ℕ). bytes ++ xs) a ≡ option_map (λ (bytes : List ℕ). bytes ++ ys) taken → Appends a after xs → Appends taken after ys
joined a None after xs ys e h = tt
joined None (Some t) after xs ys e h = cc
joined (Some a) (Some t) None xs ys e h = absurd h
joined (Some a) (Some t) (Some b) xs ys e h = let both : a ++ xs ≡ t ++ ys = cc in h ∙ both

pub own : (outcome : Outcome) → IsOwn (status_of outcome)
own (DoneOutcome spots) = tt
own (Passes (Speed s)) = tt
own (Passes (Rounds s)) = tt

-- all changes told, and the end or a part of it
pub wrote_end : {M Loan : Type 0} (w : Writer M) (text_of : SceneData → List Change → Outcome → List ℕ) (scene : SceneData) (start : M) → Makes w text_of scene start →
    (loan : Loan) (after : Option (List ℕ)) (changes : List Change) (outcome : Outcome) (m : M) (n : Loan × M) (status : Status) → IsRun scene changes outcome →
    m ≡ start → n ≡ told (next_on_loan w) (loan, m) changes → WritesText (w.end n.1 scene outcome) (status_of outcome) (w.taken n.1) after status →
    Wrote (IsOfRun text_of scene) (w.taken start) after status
wrote_end {M} {Loan} w text_of scene start makes loan after changes outcome m n status run e h text = elim text [
  | inl all ↦ subst (Wrote (IsOfRun text_of scene) (w.taken start) after) (sym all.0)
      (whole (IsOfRun text_of scene) (w.taken start) after (status_of outcome) (own outcome) (
        text_of scene changes outcome,
        (changes, outcome, run, refl, refl),
        joined (w.taken last) (w.taken start) after (w.end last scene outcome) (text_of scene changes outcome) (makes.join changes outcome run)
            (subst (λ (v : Loan × M). Appends (w.taken v.1) after (w.end v.1 scene outcome)) same all.1),
      ))
  | inr part ↦ subst (Wrote (IsOfRun text_of scene) (w.taken start) after) (sym part.0) (
    text_of scene changes outcome,
    status_of outcome,
    (changes, outcome, run, refl, refl),
    makes.break_off changes outcome after run
        (subst (λ (v : Loan × M). AppendsPrefix (w.taken v.1) after (w.end v.1 scene outcome)) same part.1),
  )
]
  where
    last : M
    last = told w.next start changes

    same : n ≡ (loan, last)
    same = told_on w loan m start changes n e h

-- some changes told, on the same loan
pub record IsBegun {M Loan : Type 0} (w : Writer M) (text_of : SceneData → List Change → Outcome → List ℕ) (scene : SceneData) (start : M) (loan : Loan) (n : Loan × M) : Type 0 where
  pub kept : n.0 ≡ loan
  pub prefix : WrotePrefix (IsOfRun text_of scene) (w.taken start) (w.taken n.1)

pub begun : {M Loan : Type 0} (w : Writer M) (text_of : SceneData → List Change → Outcome → List ℕ) (scene : SceneData) (start : M) → Makes w text_of scene start →
    (loan : Loan) (changes : List Change) (outcome : Outcome) (m : M) (n : Loan × M) → IsRun scene changes outcome → m ≡ start →
    PrefixTold (next_on_loan w) (torn_on_loan w) (Some (loan, m)) changes (Some n) → IsBegun w text_of scene start loan n
begun {M} {Loan} w text_of scene start makes loan changes outcome m n run e h =
    let here = begun_lent w loan start changes n
    (subst (λ (v : M). PrefixTold (next_on_loan w) (torn_on_loan w) (Some (loan, v)) changes (Some n)) e h) in record {
      kept = here.0;
      prefix = (
        text_of scene changes outcome,
        status_of outcome,
        (changes, outcome, run, refl, refl),
        makes.begin changes outcome n.1 run here.1,
      );
    }

-- nothing was told, and nothing written
pub unwritten : (text_of : SceneData → List Change → Outcome → List ℕ) (scene : SceneData) (taken : Option (List ℕ)) → IsValidScene scene →
    WrotePrefix (IsOfRun text_of scene) taken taken
unwritten text_of scene taken valid =
    let run = each_scene_runs scene valid in
    wrote_nothing (IsOfRun text_of scene) (text_of scene run.0 run.1) (status_of run.1) taken taken (run.0, run.1, run.2, refl, refl) (kept taken)

-- the sink failed since before
pub failed_since : (first before after : ℕ) → before ≡ first → (before ≤ after) × Rose before after → (first ≤ after) × Rose first after
failed_since first before after e h = subst (λ (n : ℕ). (n ≤ after) × Rose n after) e h

-- a sink that may take the text of a run may take the end, once all changes were told
pub may_end : {M Loan : Type 0} (w : Writer M) (text_of : SceneData → List Change → Outcome → List ℕ) (scene : SceneData) (start : M) → Makes w text_of scene start →
    (allows : Loan → List ℕ → Type 0) (loan : Loan) (changes : List Change) (outcome : Outcome) (m : M) (n : Loan × M) → IsRun scene changes outcome →
    m ≡ start → n ≡ told (next_on_loan w) (loan, m) changes →
    MayTake (allows loan) (w.taken start) (text_of scene changes outcome) → MayTake (allows n.0) (w.taken n.1) (w.end n.1 scene outcome)
may_end {M} {Loan} w text_of scene start makes allows loan changes outcome m n run e h may =
    subst (λ (v : Loan × M). MayTake (allows v.0) (w.taken v.1) (w.end v.1 scene outcome)) (sym (told_on w loan m start changes n e h))
    (makes.may_end (allows loan) changes outcome run may)
