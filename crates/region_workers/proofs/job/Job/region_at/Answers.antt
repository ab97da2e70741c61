-- There is a worker. That is said here, so that fewer are refused as soon as this fails.
use Rattle.std.proofs.Common.{arith}
use Rattle.region_workers.proofs.job.Job.region_at.Goals as goal

pub nonzero_div-first : goal.nonzero_div-first
nonzero_div-first g c = omega (arith, c.args.self.now.shared.now.some_workers)
