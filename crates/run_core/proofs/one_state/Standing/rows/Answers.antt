use Rattle.std.proofs.Common.{◌≤◌, length, ◌∙◌, arith}
use Rattle.std.proofs.lemmas.List.{take_all}
use Rattle.run_core.proofs.Spots.{one_more_row}
use Rattle.run_core.proofs.one_state.Standing.rows.Goals as goal

pub loop-disk-preserved : goal.loop-disk-preserved
loop-disk-preserved c = c.in_ok-push.ensures.items ∙ one_more_row c.args.self.now.placed c.loop-disk.disk
    c.row.result c.loop-disk.placed.items c.row.ensures.value c.loop-disk.invariant

pub returns : goal.returns
returns c =
    let past : length c.args.self.now.placed ≤ c.loop-disk.disk
    = omega (arith, c.loop-disk-test.false, c.count-disk-end.ensures) in
    c.loop-disk.invariant ∙ take_all c.loop-disk.disk c.args.self.now.placed past
