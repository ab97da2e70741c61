-- The rules and the disk were checked before.
use Rattle.cell_tests.proofs.tests.predictions.hit.Goals as goal

pub wall_event-requires-clause-checked : goal.wall_event-requires-clause-checked
wall_event-requires-clause-checked c = c.is_valid.ensures.checked c.if-not-is_valid.false

pub wall_event-requires-clause-valid : goal.wall_event-requires-clause-valid
wall_event-requires-clause-valid c = c.is_valid.ensures.disk c.if-not-is_valid.false
