use Rattle.run_core.proofs.Interleaved.{played_stand, interleavings_tell_the_run}
use Rattle.run_core.proofs.laws.interleavings_tell_the_run.Goals as goal

pub returns-clause-stand : goal.returns-clause-stand
returns-clause-stand c = played_stand

pub returns-clause-run : goal.returns-clause-run
returns-clause-run c = interleavings_tell_the_run
