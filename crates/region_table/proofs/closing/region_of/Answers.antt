-- A region that isn't given wasn't at home. That is said here, so that one that was is refused as soon as this fails.
use Rattle.region_table.proofs.closing.region_of.Goals as goal

pub returns-else-is_home-clause-home : goal.returns-else-is_home-clause-home
returns-else-is_home-clause-home c = λ home. absurd (c.if-is_home.false home)
