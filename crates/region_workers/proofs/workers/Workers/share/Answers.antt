-- What is shared keeps what is known of its parts. That is said here, so that others are refused as soon as this fails.
use Rattle.std.proofs.Common.{◌≤◌, arith}
use Rattle.std.proofs.lemmas.Result.{IfOk-from_err}
use Rattle.region_workers.proofs.workers.Workers.share.Goals as goal

pub open-requires-clause-few : goal.open-requires-clause-few
open-requires-clause-few g c =
    let same = c.requires.grid in
    let most : c.args.grid.regions ≤ 64 = c.regions.ensures.kept.most_regions in
    omega arith

pub new-requires-3 : goal.new-requires-3
new-requires-3 g c = c.args.self.now.some_steps

pub overflow_cast-count : goal.overflow_cast-count
overflow_cast-count g c = omega (arith, c.count.type_inv)

pub invariant_of-result : goal.invariant_of-result
invariant_of-result g c = record { some_workers = c.threads-workers.ensures }

pub returns : goal.returns
returns g c = record { locks = c.in_ok-locks.ensures }

pub returns-in_err-new-2 : goal.returns-in_err-new-2
returns-in_err-new-2 g c = record { locks = IfOk-from_err _ _ c.from_residual-in_err-new-2.ensures.0 }
