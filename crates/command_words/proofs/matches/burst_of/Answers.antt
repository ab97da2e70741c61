-- The text is known in its arm. That is said here, so that a wrong arm is refused as soon as this fails.
use Rattle.command_words.proofs.matches.burst_of.Goals as goal

pub returns-in-table : goal.returns-in-table
returns-in-table c = rw c.in-table.is
