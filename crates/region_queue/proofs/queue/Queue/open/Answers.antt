-- An empty queue takes in all disks of the view.
use Rattle.std.proofs.Common.{List, ℕ, ◌∙◌, sym, subst}
use Rattle.std.proofs.lemmas.Result.{IfOk-weaker}
use Rattle.std.specs.FinMap as map
use Rattle.fixed_motion.specs.declared.rules.Rules.{Rules}
use Rattle.cell_grid.specs.Grid.{GridData}
use Rattle.region_view.specs.Placing.{IsValidPlacing}
use Rattle.region_view.specs.Views.{rows_in}
use Rattle.region_view.specs.Naming.{IsSameBut}
use Rattle.region_queue.proofs.Standing.{none_in_empty}
use Rattle.region_queue.proofs.queue.Queue.open.Goals as goal

pub returns : goal.returns
returns c =
    let is = c.in_ok-empty.ensures in
    IfOk-weaker c.with.result _ _
    (λ queue made. (
      record { rules = made.0.rules ∙ is.0.rules; grid = made.0.grid ∙ is.0.grid; region = made.0.region ∙ is.0.region },
      made.1 map.empty is.1
          (subst (λ (disks : List ℕ). IsSameBut disks map.empty c.args.view.now) (sym c.deref.ensures.value)
          (λ i none. c.in_ok-disks.ensures i none ∙ sym (none_in_empty i))),
    ))
    c.with.ensures

pub with-requires : goal.with-requires
with-requires c =
    let is = c.in_ok-empty.ensures.0 in
    record {
      valid = subst (λ (r : Rules). IsValidPlacing r c.in_ok-empty.field-0.grid (rows_in c.args.view.now)) (sym is.rules)
          (subst (λ (g : GridData). IsValidPlacing c.args.rules.now g (rows_in c.args.view.now)) (sym is.grid) c.requires.valid);
    }
