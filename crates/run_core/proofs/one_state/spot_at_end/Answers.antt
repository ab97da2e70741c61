use Rattle.std.proofs.Common.{rules}
use Rattle.std.proofs.lemmas.Int.{to_z-of_z}
use Rattle.run_core.proofs.one_state.spot_at_end.Goals as goal

pub centre_at-centre-requires-clause-base : goal.centre_at-centre-requires-clause-base
centre_at-centre-requires-clause-base c = c.requires.valid.base

pub returns : goal.returns
returns c = search (rules, to_z-of_z, c.centre_at-centre.ensures)
