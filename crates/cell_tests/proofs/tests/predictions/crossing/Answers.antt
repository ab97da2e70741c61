-- The rules and the disks were checked before.
use Rattle.cell_tests.proofs.tests.predictions.crossing.Goals as goal

pub reach_square-requires-clause-checked : goal.reach_square-requires-clause-checked
reach_square-requires-clause-checked c = c.are_valid.ensures.checked c.if-not-are_valid.false

pub reach_square-requires-clause-valid : goal.reach_square-requires-clause-valid
reach_square-requires-clause-valid c = c.are_valid.ensures.first c.if-not-are_valid.false
