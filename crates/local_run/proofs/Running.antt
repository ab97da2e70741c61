-- Steps of a region that are made one after the other.
use Rattle.std.proofs.Common.{◌≡◌, ◌⊎◌, ℕ, ◌+◌, suc, inl, inr, refl, sym, subst, ◌∙◌, arith}
use Rattle.event_stamps.specs.declared.Stamp.{Stamp}
use Rattle.local_run.specs.declared.answers.Step.{Step}
use Rattle.local_run.specs.declared.answers.Step.TheVariants.{Ran, Heard, Idle, Past, Tied, Halted, Held, Spent}
use Rattle.local_run.specs.Opening.{RegionData, spent}
use Rattle.local_run.specs.Running.{GoesOn, RunsSteps, IsDueBefore, IsDueLater, RunsBefore}
use Rattle.local_run.specs.Steps.{RegionSteps}

-- a number of steps were made: the run ends with them, or goes on from there
pub record IsUnderWay (made : ℕ) (old : RegionData) (answer : Step) (mid : RegionData) : Type 0 where
  pub same : spent mid ≡ spent old
  pub ends : (left steps : ℕ) → made + left ≡ steps → (GoesOn answer → left ≡ 0) →
      RunsSteps steps old answer mid
  pub goes : (left steps : ℕ) (last : Step) (new : RegionData) → made + left ≡ steps →
      GoesOn answer → RunsSteps left mid last new → RunsSteps steps old last new

spent_same : (old new : RegionData) (answer : Step) → RegionSteps old answer new → spent new ≡ spent old
spent_same old new answer step = let home = step.home in let floor = step.floor in cc

pub first_made : (old new : RegionData) (answer : Step) → RegionSteps old answer new →
    IsUnderWay 1 old answer new
first_made old new answer step = record {
  same = spent_same old new answer step;
  ends = λ left steps e last.
      let one : suc left ≡ steps = omega arith in
      subst (λ (n : ℕ). RunsSteps n old answer new) one (inl (step, last));
  goes = λ left steps last after e on rest.
      let one : suc left ≡ steps = omega arith in
      subst (λ (n : ℕ). RunsSteps n old last after) one (inr (answer, new, step, on, rest));
}

pub one_more_made : (made : ℕ) (old mid new : RegionData) (first answer : Step) →
    IsUnderWay made old first mid → GoesOn first → RegionSteps mid answer new →
    IsUnderWay (made + 1) old answer new
one_more_made made old mid new first answer before on step = record {
  same = spent_same mid new answer step ∙ before.same;
  ends = λ left steps e last.
      before.goes (suc left) steps answer new (omega arith) on (inl (step, last));
  goes = λ left steps last after e goes rest.
      before.goes (suc left) steps last after (omega arith) on (inr (answer, new, step, goes, rest));
}

-- ---- while what is due is before a bound
-- the same for steps that were each made before a bound
pub record IsUnderWayBefore (bound : Stamp) (made : ℕ) (old : RegionData) (answer : Step) (mid : RegionData) :
    Type 0 where
  pub same : spent mid ≡ spent old
  pub ends : (left steps : ℕ) → made + left ≡ steps →
      (GoesOn answer → (left ≡ 0) ⊎ IsDueLater bound mid) → RunsBefore bound steps old answer mid
  pub goes : (left steps : ℕ) (last : Step) (new : RegionData) → made + left ≡ steps →
      GoesOn answer → RunsBefore bound left mid last new → RunsBefore bound steps old last new

pub first_made_before : (bound : Stamp) (old new : RegionData) (answer : Step) → IsDueBefore bound old →
    RegionSteps old answer new → IsUnderWayBefore bound 1 old answer new
first_made_before bound old new answer due step = record {
  same = spent_same old new answer step;
  ends = λ left steps e last.
      let one : suc left ≡ steps = omega arith in
      subst (λ (n : ℕ). RunsBefore bound n old answer new) one (due, inl (step, last));
  goes = λ left steps last after e on rest.
      let one : suc left ≡ steps = omega arith in
      subst (λ (n : ℕ). RunsBefore bound n old last after) one (due, inr (answer, new, step, on, rest));
}

pub one_more_made_before : (bound : Stamp) (made : ℕ) (old mid new : RegionData) (first answer : Step) →
    IsUnderWayBefore bound made old first mid → GoesOn first → IsDueBefore bound mid →
    RegionSteps mid answer new → IsUnderWayBefore bound (made + 1) old answer new
one_more_made_before bound made old mid new first answer before on due step = record {
  same = spent_same mid new answer step ∙ before.same;
  ends = λ left steps e last.
      before.goes (suc left) steps answer new (omega arith) on (due, inl (step, last));
  goes = λ left steps last after e goes rest.
      before.goes (suc left) steps last after (omega arith) on (due, inr (answer, new, step, goes, rest));
}

-- ---- which answers are the last
-- after any other answer no step follows
pub stops : (answer : Step) → ((s : Stamp) → answer ≡ Ran s → ⊥) →
    ((s : Stamp) → answer ≡ Heard s → ⊥) → ¬ GoesOn answer
stops (Ran s) ran heard goes = ran s refl
stops (Heard s) ran heard goes = heard s refl
stops Idle ran heard goes = goes
stops (Past due clock) ran heard goes = goes
stops (Tied s) ran heard goes = goes
stops (Halted limit) ran heard goes = goes
stops Held ran heard goes = goes
stops Spent ran heard goes = goes

pub follows : (answer : Step) →
    ((s : Stamp) × (answer ≡ Ran s)) ⊎ ((s : Stamp) × (answer ≡ Heard s)) → GoesOn answer
follows answer (inl ran) = subst GoesOn (sym ran.1) tt
follows answer (inr heard) = subst GoesOn (sym heard.1) tt
