-- At most six doublings are at most sixty-four times the rest of the first workers.
use Rattle.std.proofs.Common.{◌≤◌, ◌^◌, arith}
use Rattle.std.proofs.Math.Pow.{pow_mono}
use Rattle.terminal_line.proofs.time_sharing.rest_micros.Goals as goal

pub returns : goal.returns
returns c = let times : 2 ^ c.doublings.result ≤ 64 = pow_mono c.doublings.ensures in omega arith
