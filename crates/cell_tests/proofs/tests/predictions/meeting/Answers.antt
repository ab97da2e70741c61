-- The rules and the disks were checked before.
use Rattle.cell_tests.proofs.tests.predictions.meeting.Goals as goal

pub pair_event-requires-clause-checked : goal.pair_event-requires-clause-checked
pair_event-requires-clause-checked c = c.are_valid.ensures.checked c.if-not-are_valid.false

pub pair_event-requires-clause-first_valid : goal.pair_event-requires-clause-first_valid
pair_event-requires-clause-first_valid c = c.are_valid.ensures.first c.if-not-are_valid.false

pub pair_event-requires-clause-second_valid : goal.pair_event-requires-clause-second_valid
pair_event-requires-clause-second_valid c = c.are_valid.ensures.second c.if-not-are_valid.false
