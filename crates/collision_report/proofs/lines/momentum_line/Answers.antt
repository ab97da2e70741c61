-- There is room for each piece.
use Rattle.std.proofs.Common.{ap, arith, length}
use Rattle.collision_report.proofs.lines.momentum_line.Goals as goal

pub push_signed_pair-requires : goal.push_signed_pair-requires
push_signed_pair-requires c =
    let none = ap length c.new-line.ensures in
    omega (arith, none, c.push_text.ensures.len)

pub push_newline-requires : goal.push_newline-requires
push_newline-requires c =
    let none = ap length c.new-line.ensures in
    omega (arith, none, c.push_text.ensures.len, c.push_signed_pair.ensures.len)
