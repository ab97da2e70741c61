-- How an advance works.
use Rattle.std.proofs.Common.{◌≡◌, ◌≢◌, inl, inr, ℕ, List, [], sym, subst, refl}
use Rattle.event_stamps.specs.declared.Stamp.{Stamp}
use Rattle.event_stamps.specs.Order.{Before}
use Rattle.event_stamps.proofs.StampOrder.{not_before_itself}
use Rattle.region_view.specs.declared.action.Action.{Action}
use Rattle.region_messages.proofs.Order.{before_not_before}
use Rattle.cell_sequence.specs.State.{CellStateData}
use Rattle.local_run.specs.Opening.{RegionData}
use Rattle.commit_horizon.specs.Horizon.{LocalRuns, runs_of, AreStanding}
use Rattle.commit_horizon.specs.Commits.{Commits}
use Rattle.run_core.specs.declared.answers.Advance.{Advance}
use Rattle.run_core.specs.declared.answers.Advance.TheVariants.{Raised, End, Limit}
use Rattle.run_core.specs.Advances.{FirstPart, SecondAnswers, WorksInParts, CommitsAtOnce, Works}
use Rattle.run_core.specs.Passing.{Agrees}
use Rattle.run_core.specs.Taking.{MakesNext}

-- ---- a commit at once
module _ (old mid : CellStateData) (given left : List RegionData) (batch : List Action)
    (commits : Commits old given batch mid left) where
  at_once : CommitsAtOnce old (runs_of given) batch mid left
  at_once = record { given = given; are = refl; commits = commits }

  -- some actions were committed
  pub works_at_once : batch ≢ [] → Works old (runs_of given) (Raised batch) mid left
  works_at_once some = inl (batch, at_once, some, refl)

  -- none was, and both parts followed
  pub works_later : (new : CellStateData) (after : List RegionData) (answer : Advance) → batch ≡ [] →
      AreStanding mid (runs_of left) → WorksInParts mid (runs_of left) answer new after →
      Works old (runs_of given) answer new after
  works_later new after answer none standing parts = inr (
    mid,
    left,
    subst (λ (xs : List Action). CommitsAtOnce old (runs_of given) xs mid left) none at_once,
    standing,
    parts,
  )

-- ---- the two parts
module _ (old mid : CellStateData) (given heard left : List RegionData) (batch : List Action)
    (agrees : Agrees old given heard) (commits : Commits old heard batch mid left) where
  first : FirstPart old (runs_of given) batch mid left
  first = record { passes = agrees.passes; heard = heard; hear = agrees.hear; commits = commits }

  -- some actions were committed
  pub in_first : batch ≢ [] → WorksInParts old (runs_of given) (Raised batch) mid left
  in_first some = inl (batch, first, some, refl)

  -- none was, and one event was made after that
  pub in_second : (new : CellStateData) (after : List RegionData) (answer : Advance) → batch ≡ [] →
      MakesNext mid left answer new after → WorksInParts old (runs_of given) answer new after
  in_second new after answer none made = inr (
    mid,
    left,
    subst (λ (xs : List Action). FirstPart old (runs_of given) xs mid left) none first,
    made.0,
    made.1,
  )

-- ---- what each commit keeps
module _ (P : CellStateData → Type 0) (keeps : (old new : CellStateData) (given left : List RegionData)
    (batch : List Action) → Commits old given batch new left → P old → P new) (new : CellStateData)
    (left : List RegionData) where
  event_keeps : (mid : CellStateData) (fresh : LocalRuns) (home : ℕ) (s : Stamp) (answer : Advance) →
      SecondAnswers mid fresh home s answer new left → P mid → P new
  event_keeps mid fresh home s (Raised batch) (ran, after, step, others, took, commits) there =
      keeps mid new after left batch commits there
  event_keeps mid fresh home s (End batch) (at_end, none, same) there = subst P (sym same) there
  event_keeps mid fresh home s (Limit batch limit) (kept, none, same) there = subst P (sym same) there

  parts_keep : (old : CellStateData) (runs : LocalRuns) (answer : Advance) →
      WorksInParts old runs answer new left → P old → P new
  parts_keep old runs answer (inl (batch, first, some, same)) there =
      keeps old new first.heard left batch first.commits there
  parts_keep old runs answer (inr (mid, regions, first, standing, second)) there =
      event_keeps mid second.fresh second.home (second.dues second.home) answer second.answers
      (keeps old mid first.heard regions [] first.commits there)

  -- an advance keeps
  pub works_keep : (old : CellStateData) (runs : LocalRuns) (answer : Advance) →
      Works old runs answer new left → P old → P new
  works_keep old runs answer (inl (batch, at_once, some, same)) there =
      keeps old new at_once.given left batch at_once.commits there
  works_keep old runs answer (inr (mid, regions, at_once, standing, parts)) there =
      parts_keep mid (runs_of regions) answer parts
      (keeps old mid at_once.given regions [] at_once.commits there)

-- so it never lowers the floor
pub never_lowered : (old new : CellStateData) (runs : LocalRuns) (answer : Advance) (left : List RegionData) →
    Works old runs answer new left → ¬ Before new.floor old.floor
never_lowered old new runs answer left works = works_keep (λ (v : CellStateData). ¬ Before v.floor old.floor)
    (λ before after given rest batch commits not less. subst (λ (v : CellStateData). ¬ Before v.floor before.floor)
    (sym commits.state) commits.is_horizon.bound.floor
    (before_not_before after.floor before.floor old.floor less not))
    new left old runs answer works (not_before_itself old.floor)
