use Rattle.std.proofs.Common.{◌≡◌, ◌+◌, ◌-◌, min, max, arith}
use Rattle.event_log.proofs.Adjacent.{beyond_bounds}
use Rattle.event_log.proofs.nearness.bounded.Goals as goal

pub returns-clause-bounds : goal.returns-clause-bounds
returns-clause-bounds c =
    let grid = c.args.grid.now in
    let low : c.saturating_sub.result ≡ min c.args.first.cell c.args.second.cell - (grid.columns + 1) =
    omega (arith, c.saturating_sub.ensures, c.min.ensures, c.columns-reach.ensures.value) in
    let high : c.saturating_add.result ≡ min (max c.args.first.cell c.args.second.cell + (grid.columns + 1)) 4294967295 =
    omega (arith, c.saturating_add.ensures, c.max.ensures, c.columns-reach.ensures.value) in
    λ cell. beyond_bounds grid c.args.first.cell c.args.second.cell cell c.saturating_sub.result c.saturating_add.result
    low high
