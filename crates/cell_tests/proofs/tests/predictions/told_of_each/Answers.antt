-- The rules and the disks were checked before.
use Rattle.cell_tests.proofs.tests.predictions.told_of_each.Goals as goal

pub of-requires-clause-checked : goal.of-requires-clause-checked
of-requires-clause-checked c = c.are_valid.ensures.checked c.if-not-are_valid.false

pub of-requires-clause-first_valid : goal.of-requires-clause-first_valid
of-requires-clause-first_valid c = c.are_valid.ensures.first c.if-not-are_valid.false

pub of-requires-clause-second_valid : goal.of-requires-clause-second_valid
of-requires-clause-second_valid c = c.are_valid.ensures.second c.if-not-are_valid.false
