-- Two disks of which the region doesn't own the lower one have no native event.
use Rattle.std.proofs.Common.{sym, subst, ◌∙◌}
use Rattle.std.proofs.lemmas.Bool.{both_ways}
use Rattle.event_stamps.specs.Least.{HasNone}
use Rattle.event_tree.specs.Keys.{Key}
use Rattle.region_queue.specs.Finding.{IsNativePair, IsLowKey}
use Rattle.region_queue.proofs.Low.{least_pair_low}
use Rattle.region_queue.proofs.finder.Finder.low_owned.Goals as goal
use Rattle.region_queue.proofs.finder.Finder.low_owned.Goals.{then-whole, else-whole}

pub returns-else-owns_pair : goal.returns-else-owns_pair
returns-else-owns_pair c =
    let finder = c.args.self.now in
    let view = c.args.view.now in
    let none : HasNone (IsNativePair finder view c.args.disk c.args.other) =
    elim c.if-whole.branch [
      | then-whole w ↦ absurd (both_ways _ c.if-owns_pair.false (w.value-is ∙ w.if-whole.true))
      | else-whole w ↦ w.owns_pair.ensures (sym w.value-is ∙ c.if-owns_pair.false) c.args.placed.now c.requires.placed c.requires.own.1
    ] in
    subst (λ (key : Key). IsLowKey (IsNativePair finder view c.args.disk c.args.other) c.args.disk key) (sym c.none.ensures)
    (least_pair_low finder view c.args.disk c.args.other _ none)
