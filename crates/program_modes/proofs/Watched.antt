-- What a watched listener has published and written that was told a run, if what it writes makes a text of the run.
use Rattle.std.proofs.Common.{◌≡◌, ◌∙◌, inl, inr, ℕ, ◌≤◌, List, [], Option, Some, Result, Ok, Err, sym, ap, subst}
use Rattle.report_ports.specs.Ports.{MayTake}
use Rattle.fixed_motion.specs.Scene.{SceneData, IsValidScene}
use Rattle.event_rules.specs.declared.change.Change.{Change}
use Rattle.event_rules.specs.declared.outcome.Outcome.{Outcome}
use Rattle.event_rules.specs.declared.outcome.RunFault.{RunFault}
use Rattle.event_rules.specs.declared.outcome.RunFault.TheVariants.{Listener, NoMemory}
use Rattle.event_rules.specs.declared.listener.Deaf.{Deaf}
use Rattle.event_rules.specs.Run.{IsRun}
use Rattle.event_rules.specs.Told.{Told, PrefixTold}
use Rattle.event_rules.specs.Tellings.{RunTold, RunBegun, RunCutShort, CountsRun}
use Rattle.collision_report.specs.Meaning.{IsSceneOf}
use Rattle.collision_report.specs.Writes.{Writes}
use Rattle.live_progress.specs.Lists.{StartsWith}
use Rattle.live_progress.specs.Watching.{SoFar, with_published, IsTorn, pairs_of}
use Rattle.live_progress.proofs.Watches.{run_watched, cut_watched}
use Rattle.program_modes.specs.Reports.{IsOfRun, status_of}
use Rattle.program_modes.specs.declared.status.Status.{Status}
use Rattle.program_modes.specs.Answers.{Wrote, WrotePrefix, CountsWrites}
use Rattle.program_modes.specs.Shows.{WritesText, status_of_fault, status_at_end}
use Rattle.program_modes.proofs.Wrote.{own_counts}
use Rattle.program_modes.proofs.Writers.{Writer, Makes, next_on_loan, torn_on_loan, told_on, serves_scene, wrote_end, begun, failed_since, may_end, own}

-- ---- the listener within, which always tells
told_between : {M : Type 0} (next : M → Change → M) {before after : Option M} (a b : M) → before ≡ Some a → after ≡ Some b → (changes : List Change) →
    Told next before changes after → Told next (Some a) changes (Some b)
told_between {M} next {before} {after} a b from to changes told =
    subst (λ (o : Option M). Told next o changes (Some b)) from
    (subst (λ (o : Option M). Told next before changes o) to told)

begun_between : {M : Type 0} (next : M → Change → M) (torn : M → Change → M → Type 0) {before after : Option M} (a b : M) → before ≡ Some a → after ≡ Some b →
    (changes : List Change) → PrefixTold next torn before changes after → PrefixTold next torn (Some a) changes (Some b)
begun_between {M} next torn {before} {after} a b from to changes told =
    subst (λ (o : Option M). PrefixTold next torn o changes (Some b)) from
    (subst (λ (o : Option M). PrefixTold next torn before changes o) to told)

-- ---- the end of a run
-- all changes were told: all pairs are published, and with the end the whole text is written
pub record ToldAll {M Loan : Type 0} (w : Writer M) (text_of : SceneData → List Change → Outcome → List ℕ) (scene : SceneData) (start : M) (outcome : Outcome)
    (m n : SoFar (Loan × M)) (a b : Loan × M) : Type 0 where
  pub changes : List Change
  pub run : IsRun scene changes outcome
  pub pen : n.loan ≡ m.loan
  pub board : n.board ≡ m.board
  pub list : n.list ≡ pairs_of changes
  pub sink : b.0 ≡ a.0
  pub table : IsSceneOf (w.table b.1) scene
  pub ended : (after : Option (List ℕ)) (status : Status) →
      WritesText (w.end b.1 scene outcome) (status_of outcome) (w.taken b.1) after status →
      Wrote (IsOfRun text_of scene) (w.taken start) after status

pub told_all : {M Loan : Type 0} (w : Writer M) (text_of : SceneData → List Change → Outcome → List ℕ) (scene : SceneData) (start : M) → Makes w text_of scene start →
    (outcome : Outcome) (m n : SoFar (Loan × M)) (a b : Loan × M) → RunTold (with_published (next_on_loan w)) scene outcome (Some m) (Some n) →
    m.inner ≡ Some a → n.inner ≡ Some b → IsValidScene scene → m.list ≡ [] → a.1 ≡ start → ToldAll w text_of scene start outcome m n a b
told_all w text_of scene start makes outcome m n a b told before after valid none first =
    let changes = told.0 in let run = told.1 in
    let seen = run_watched (next_on_loan w) scene changes outcome m n valid run none told.2 in
    let inner = told_between (next_on_loan w) a b before after changes seen.inner in record {
      changes = changes;
      run = run;
      pen = seen.loan;
      board = seen.board;
      list = seen.list;
      sink = ap (λ v. v.0) (told_on w a.0 a.1 start changes b first inner);
      table = serves_scene w text_of scene start makes a.0 changes a.1 b first inner;
      ended = (λ after status text. wrote_end w text_of scene start makes a.0 after changes outcome a.1 b status run first inner text);
    }

-- and the sink may take the end, if it may take the text
pub told_may : {M Loan : Type 0} (w : Writer M) (text_of : SceneData → List Change → Outcome → List ℕ) (scene : SceneData) (start : M) → Makes w text_of scene start →
    (allows : Loan → List ℕ → Type 0) (outcome : Outcome) (m n : SoFar (Loan × M)) (a b : Loan × M) →
    RunTold (with_published (next_on_loan w)) scene outcome (Some m) (Some n) → m.inner ≡ Some a → n.inner ≡ Some b → IsValidScene scene → m.list ≡ [] →
    a.1 ≡ start → ((changes : List Change) → IsRun scene changes outcome → MayTake (allows a.0) (w.taken start) (text_of scene changes outcome)) →
    MayTake (allows b.0) (w.taken b.1) (w.end b.1 scene outcome)
told_may w text_of scene start makes allows outcome m n a b told before after valid none first may =
    let changes = told.0 in let run = told.1 in
    let seen = run_watched (next_on_loan w) scene changes outcome m n valid run none told.2 in
    may_end w text_of scene start makes allows a.0 changes outcome a.1 b run first (told_between (next_on_loan w) a b before after changes seen.inner) (may changes run)

-- a prefix was told, and perhaps one change refused: a prefix of the pairs is published, and one of the text written
pub record ToldPart {M Loan : Type 0} (w : Writer M) (text_of : SceneData → List Change → Outcome → List ℕ) (scene : SceneData) (start : M)
    (m n : SoFar (Loan × M)) (a b : Loan × M) : Type 0 where
  pub changes : List Change
  pub outcome : Outcome
  pub run : IsRun scene changes outcome
  pub pen : n.loan ≡ m.loan
  pub board : n.board ≡ m.board
  pub list : StartsWith (pairs_of changes) n.list
  pub sink : b.0 ≡ a.0
  pub prefix : WrotePrefix (IsOfRun text_of scene) (w.taken start) (w.taken b.1)

told_begun : {M Loan : Type 0} (w : Writer M) (text_of : SceneData → List Change → Outcome → List ℕ) (scene : SceneData) (start : M) → Makes w text_of scene start →
    (m n : SoFar (Loan × M)) (a b : Loan × M) → RunBegun (with_published (next_on_loan w)) (IsTorn (torn_on_loan w)) scene (Some m) (Some n) →
    m.inner ≡ Some a → n.inner ≡ Some b → IsValidScene scene → m.list ≡ [] → a.1 ≡ start → ToldPart w text_of scene start m n a b
told_begun w text_of scene start makes m n a b told before after valid none first =
    let changes = told.0 in let outcome = told.1 in let run = told.2 in
    let seen = cut_watched (next_on_loan w) (torn_on_loan w) scene changes outcome m n valid run none told.3 in
    let inner = begun_between (next_on_loan w) (torn_on_loan w) a b before after changes seen.inner in
    let here = begun w text_of scene start makes a.0 changes outcome a.1 b run first inner in record {
      changes = changes;
      outcome = outcome;
      run = run;
      pen = seen.loan;
      board = seen.board;
      list = seen.list;
      sink = here.kept;
      prefix = here.prefix;
    }

pub told_part : {M Loan : Type 0} (w : Writer M) (text_of : SceneData → List Change → Outcome → List ℕ) (scene : SceneData) (start : M) → Makes w text_of scene start →
    (m n : SoFar (Loan × M)) (a b : Loan × M) (fault : RunFault) →
    RunCutShort (with_published (next_on_loan w)) (IsTorn (torn_on_loan w)) scene fault (Some m) (Some n) → m.inner ≡ Some a → n.inner ≡ Some b →
    IsValidScene scene → m.list ≡ [] → a.1 ≡ start → ToldPart w text_of scene start m n a b
told_part w text_of scene start makes m n a b Listener told before after valid none first =
    told_begun w text_of scene start makes m n a b told before after valid none first
told_part w text_of scene start makes m n a b NoMemory told before after valid none first =
    told_begun w text_of scene start makes m n a b (told.0, told.1, told.2, (told.3.0, inl told.3.1)) before after valid none first

-- the count of refusals after a run that broke off, which began with a count
pub broken_counts : (T : Type 0) (first before after : ℕ) (fault : RunFault) → CountsRun {T = T} before after (Err fault) → before ≡ first →
    CountsWrites first after (status_of_fault fault)
broken_counts T first before after Listener h e = failed_since first before after e h
broken_counts T first before after NoMemory h e = h ∙ e

-- ---- the end of a text was given or refused
pub given_text : {S Lasting : Type 0} {taken : S → Option (List ℕ)} {faults : S → ℕ} {lasting : S → Lasting} {old new : S} (given : Result (Unit {0}) Deaf)
    (text : List ℕ) (outcome : Outcome) (status : Status) → status ≡ status_at_end given outcome → Writes taken faults lasting old new given text →
    WritesText text (status_of outcome) (taken old) (taken new) status
given_text (Ok u) text outcome status e w = inl (e, w.whole)
given_text (Err d) text outcome status e w = inr (e, w.prefix)

pub given_counts : {S Lasting : Type 0} {taken : S → Option (List ℕ)} {faults : S → ℕ} {lasting : S → Lasting} {old new : S} (given : Result (Unit {0}) Deaf)
    (text : List ℕ) (outcome : Outcome) (status : Status) (first : ℕ) → status ≡ status_at_end given outcome → faults old ≡ first →
    Writes taken faults lasting old new given text → CountsWrites first (faults new) status
given_counts {faults} {old} {new} (Ok u) text outcome status first e same w =
    subst (CountsWrites first (faults new)) (sym e) (own_counts first (faults new) (status_of outcome) (own outcome) (w.counts ∙ same))
given_counts {faults} {old} {new} (Err d) text outcome status first e same w =
    subst (CountsWrites first (faults new)) (sym e) (failed_since first (faults old) (faults new) same w.counts)
