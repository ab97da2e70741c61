-- An event has one disk or two.
use Rattle.std.proofs.Common.{[], ◌∷◌}
use Rattle.std.proofs.lemmas.Bool.{both_ways}
use Rattle.region_view.specs.Naming.{Names}
use Rattle.region_queue.specs.Finding.{AreRelisted, AreRelistedOf}
use Rattle.region_queue.proofs.Again.{on_ok}
use Rattle.region_queue.proofs.Unchanged.{relisted_one, relisted_two}
use Rattle.region_queue.proofs.listing.list_event.Goals as goal

pub returns-then-is_of_pair-clause-listed : goal.returns-then-is_of_pair-clause-listed
returns-then-is_of_pair-clause-listed c =
    let view = c.args.view.now in
    let s = c.args.event.now in
    let old = c.args.lists.now.cells in
    let new = c.list_again.new.lists.cells in
    on_ok c.list_again.result (AreRelisted view (s.first ∷ s.second ∷ []) old new) (AreRelistedOf view (Names s) old new)
    (relisted_two view s old new) c.list_again.ensures.listed

pub returns-else-is_of_pair-clause-listed : goal.returns-else-is_of_pair-clause-listed
returns-else-is_of_pair-clause-listed c =
    let view = c.args.view.now in
    let s = c.args.event.now in
    let old = c.args.lists.now.cells in
    let new = c.list_again-else-is_of_pair.new.lists.cells in
    on_ok c.list_again-else-is_of_pair.result (AreRelisted view (s.first ∷ []) old new) (AreRelistedOf view (Names s) old new)
    (relisted_one view s old new (λ pair. both_ways c.is_of_pair.result c.if-is_of_pair.false (c.is_of_pair.ensures.1 pair)))
    c.list_again-else-is_of_pair.ensures.listed
