-- There is a worker and a region. That is said here, so that fewer are refused as soon as this fails.
use Rattle.std.proofs.Common.{arith}
use Rattle.region_workers.proofs.workers.Workers.threads.Goals as goal

pub returns : goal.returns
returns g c = omega (arith, c.args.self.now.some_workers)
