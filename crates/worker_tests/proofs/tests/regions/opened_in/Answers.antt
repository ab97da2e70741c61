use Rattle.std.proofs.Common.{◌≡◌, length, min, ◌≤◌, sym, ap, ◌∙◌, subst, arith}
use Rattle.std.proofs.lemmas.Result.{IfOk-weaker}
use Rattle.cell_grid.specs.Grid.{columns_of}
use Rattle.cell_sequence.specs.State.{CellStateData}
use Rattle.run_floors.specs.Regions.{AllStand}
use Rattle.region_workers.proofs.Opened.{opened_of_run}
use Rattle.run_core.proofs.SoFar.{stand_together}
use Rattle.worker_tests.proofs.tests.regions.opened_in.Goals as goal

pub returns-clause-few : goal.returns-clause-few
returns-clause-few c = IfOk-weaker c.open_all.result _ _
    (λ regions stand. let most : c.args.asked ≤ 64 = c.requires.1 in
    let count : length regions.items ≡ min c.args.asked (columns_of c.args.scene.now.rules)
    = stand.count ∙ ap (λ (s : CellStateData). s.grid.regions) c.in_ok-committed.ensures in omega arith)
    c.open_all.ensures

pub returns-clause-together : goal.returns-clause-together
returns-clause-together c = IfOk-weaker c.open_all.result _ _
    (λ regions. stand_together c.in_ok-committed.committed regions.items) c.open_all.ensures

pub returns-clause-stand : goal.returns-clause-stand
returns-clause-stand c = IfOk-weaker c.open_all.result _ _
    (λ regions stand. opened_of_run c.args.scene.now c.args.asked regions.items
    c.count-count.ensures.valid c.requires
    (subst (λ (s : CellStateData). AllStand s regions.items) c.in_ok-committed.ensures stand)) c.open_all.ensures
