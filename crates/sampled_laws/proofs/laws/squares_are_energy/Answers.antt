-- All disks are in the box.
use Rattle.sampled_laws.proofs.Inside.{squares_are_energy, last_squares_are_energy}
use Rattle.sampled_laws.proofs.laws.squares_are_energy.Goals as goal

pub returns-clause-ticks : goal.returns-clause-ticks
returns-clause-ticks c = squares_are_energy

pub returns-clause-end : goal.returns-clause-end
returns-clause-end c = last_squares_are_energy
