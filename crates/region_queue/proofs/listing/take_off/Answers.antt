-- The disk is taken off.
use Rattle.region_queue.proofs.Again.{taken_off}
use Rattle.region_queue.proofs.listing.take_off.Goals as goal

pub returns-in-Some : goal.returns-in-Some
returns-in-Some c = taken_off c.args.lists.now c.take.new.self c.args.disk c.take.ensures
