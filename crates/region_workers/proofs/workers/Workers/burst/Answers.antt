use Rattle.std.proofs.Common.{List, length, sym, ap, ◌∙◌, arith}
use Rattle.std.specs.Prelude.{slice_get}
use Rattle.local_run.specs.Opening.{RegionData}
use Rattle.std.proofs.lemmas.Result.{IfOk-weaker, IfOk-from_err}
use Rattle.std.proofs.lemmas.Option.{slice_get_within}
use Rattle.region_workers.specs.declared.shared.Shared.{Shared}
use Rattle.region_workers.proofs.Grids.{counted_by_first}
use Rattle.region_workers.proofs.Taken.{taken_run_on}
use Rattle.region_workers.proofs.workers.Workers.burst.Goals as goal

pub share-requires-clause-grid : goal.share-requires-clause-grid
share-requires-clause-grid g c κs within =
    counted_by_first c.args.regions.items c.deref.result.now c.in-Some.first.now c.grid-grid.result.now
    c.requires.together c.deref.ensures.value c.in-Some.ensures.value c.grid-grid.ensures.value

pub returns : goal.returns
returns g c =
    let first = c.in-Some.first.now in
    let at_first = ap (λ (xs : List RegionData). slice_get xs 0) (sym c.deref.ensures.value) ∙ sym c.in-Some.ensures.value in
    record {
      count = IfOk-weaker c.work_to_the_end.result _ _
          (λ worked same. same ∙ ap (λ (shared : Shared g.row.O.Denot g.O.Origin). shared.locks) (c.deref-2.ensures
          ∙ c.in_ok-shared.ensures.ok) ∙ c.in_ok-share.ensures.locks)
          c.work_to_the_end.ensures.count;
      kept = IfOk-weaker c.work_to_the_end.result _ _ (λ worked taken.
          taken_run_on g.O.Origin.opening c.args.regions.items worked.items first c.floor-floor.result
          c.requires.stand at_first c.floor-floor.ensures.value taken) c.work_to_the_end.ensures.kept;
      beside = c.work_to_the_end.ensures.beside;
    }

pub returns-in_err-share : goal.returns-in_err-share
returns-in_err-share g c =
    let failed = c.from_residual.ensures.0 in
    record {
      count = IfOk-from_err _ _ failed;
      kept = IfOk-from_err _ _ failed;
      beside = g.met.S.Beside.stays _ _;
    }

pub returns-in_err-shared : goal.returns-in_err-shared
returns-in_err-shared g c =
    let failed = c.from_residual-in_err-shared.ensures.0 in
    record {
      count = IfOk-from_err _ _ failed;
      kept = IfOk-from_err _ _ failed;
      beside = g.met.S.Beside.stays _ _;
    }

pub returns-in_default-clause-kept : goal.returns-in_default-clause-kept
returns-in_default-clause-kept g c k old new was is =
    absurd (omega (arith, slice_get_within c.args.regions.items k old was, ap length c.deref.ensures.value, c.in_default.ensures.item))
