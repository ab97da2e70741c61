-- The rules and the disk were checked before.
use Rattle.cell_tests.proofs.tests.motion.place_of.Goals as goal

pub place-requires-clause-valid : goal.place-requires-clause-valid
place-requires-clause-valid c = c.is_valid.ensures.disk c.if-not-is_valid.false
