-- What a commit makes final, and leaves to be told.
use Rattle.std.proofs.Common.{◌≡◌, List, Option, Some, map, sym, subst, refl}
use Rattle.fixed_motion.specs.declared.rules.Rules.{Rules}
use Rattle.event_stamps.specs.declared.Stamp.{Stamp}
use Rattle.event_stamps.specs.Order.{end_stamp}
use Rattle.region_view.specs.declared.action.Action.{Action}
use Rattle.cell_sequence.specs.State.{CellStateData, followed_by}
use Rattle.cell_sequence.specs.State.{raised as raised_state}
use Rattle.local_run.specs.Opening.{RegionData}
use Rattle.local_run.specs.Raising.{raised_region as raised_region}
use Rattle.commit_horizon.specs.Horizon.{runs_of, AllKept, IsHorizon}
use Rattle.commit_horizon.specs.Bounds.{HoldsUpTo, IsUpToAll}
use Rattle.commit_horizon.proofs.Merging.{Merges}
use Rattle.commit_horizon.specs.Telling.{IsStateOf}
use Rattle.commit_horizon.specs.Untold.{actions_in, CanBeTellings}
use Rattle.commit_horizon.specs.Cutting.{logs_below, SomeHasStamp, IsLatest, FinalMade}
use Rattle.commit_horizon.proofs.Commit.{commits}
use Rattle.commit_horizon.proofs.Tellings.{horizon_of}
use Rattle.commit_horizon.proofs.Whole.{merge_whole}
use Rattle.commit_horizon.proofs.Cut.{cut_batch}
use Rattle.commit_horizon.proofs.CutLogs.{last_is}

module _ (rules : Rules) (regions : List RegionData) (h : Stamp)
    (bound : HoldsUpTo (IsUpToAll (end_stamp rules.end) regions) (Some h)) (kept : AllKept regions)
    (old : CellStateData) (of : IsStateOf rules regions old) where
  horizon : IsHorizon old (runs_of regions) h
  horizon = horizon_of rules regions h bound kept old of

  -- what the regions did before the horizon can be merged
  batch : (actions : List Action) × Merges old regions h actions (followed_by old actions)
  batch =
      let whole = merge_whole old regions h of.is of.stand kept horizon.bound in
      (whole.0, subst (Merges old regions h whole.0) whole.2.follows whole.2)

  told_of : CanBeTellings (map actions_in (logs_below h regions)) batch.0
  told_of = cut_batch old regions h batch.0 of.is of.stand kept horizon.bound batch.1.merged

  pub can_be_told : (xs : List Action) × CanBeTellings (map actions_in (logs_below h regions)) xs
  can_be_told = (batch.0, told_of)

  -- and is what is to be told
  pub final_made : (last : Option Stamp) (untold : List Action) (left : List RegionData) →
      IsLatest (SomeHasStamp (logs_below h regions)) last →
      ((xs : List Action) → CanBeTellings (map actions_in (logs_below h regions)) xs → untold ≡ xs) →
      left ≡ map (raised_region h) regions →
      FinalMade old regions (record { last = last; floor = h }) untold left
  final_made last untold left latest begun is_left =
      subst (λ (v : List Action). FinalMade old regions (record { last = last; floor = h }) v left)
      (sym (begun batch.0 told_of)) (record {
        new = raised_state h (followed_by old batch.0);
        cell = batch.1.next.leads;
        floor = refl;
        commits = commits old regions h batch.0 (followed_by old batch.0)
            (raised_state h (followed_by old batch.0)) left of.stand horizon batch.1 refl is_left;
        is_last = last_is old regions h of.stand kept batch.0 batch.1.merged last latest;
      })
