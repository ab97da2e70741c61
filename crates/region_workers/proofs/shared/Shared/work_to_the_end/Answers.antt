-- The regions are those that are taken back. That is said here, so that others are refused as soon as this fails.
use Rattle.region_workers.proofs.shared.Shared.work_to_the_end.Goals as goal

pub returns-clause-count : goal.returns-clause-count
returns-clause-count g c = c.take_back.ensures.count

pub returns-clause-kept : goal.returns-clause-kept
returns-clause-kept g c = c.take_back.ensures.kept
