-- The line is in the grid, and has all that is beyond.
use Rattle.std.proofs.Common.{arith}
use Rattle.region_queue.proofs.Line.{line_beyond}
use Rattle.region_queue.proofs.parts.line_beyond.Goals as goal

pub overflow_mul-result : goal.overflow_mul-result
overflow_mul-result c =
    let is = line_beyond c.args.grid.now c.args.cell c.args.old c.abs_diff.result c.columns.result c.in_ok-step.step c.columns.ensures.kept
    (c.is_inside.ensures c.if-not-is_inside.false) c.abs_diff.ensures c.columns.ensures.value c.in_ok-step.ensures in
    let twice = is.0.twice in
    omega arith

pub overflow_sub-result : goal.overflow_sub-result
overflow_sub-result c =
    let is = line_beyond c.args.grid.now c.args.cell c.args.old c.abs_diff.result c.columns.result c.in_ok-step.step c.columns.ensures.kept
    (c.is_inside.ensures c.if-not-is_inside.false) c.abs_diff.ensures c.columns.ensures.value c.in_ok-step.ensures in
    let first = is.0.first in
    omega arith

pub overflow_sub-result-2 : goal.overflow_sub-result-2
overflow_sub-result-2 c =
    let is = line_beyond c.args.grid.now c.args.cell c.args.old c.abs_diff.result c.columns.result c.in_ok-step.step c.columns.ensures.kept
    (c.is_inside.ensures c.if-not-is_inside.false) c.abs_diff.ensures c.columns.ensures.value c.in_ok-step.ensures in
    let first = is.0.first in
    omega arith

pub returns-clause-cells : goal.returns-clause-cells
returns-clause-cells c =
    let is = line_beyond c.args.grid.now c.args.cell c.args.old c.abs_diff.result c.columns.result c.in_ok-step.step c.columns.ensures.kept
    (c.is_inside.ensures c.if-not-is_inside.false) c.abs_diff.ensures c.columns.ensures.value c.in_ok-step.ensures in
    is.0.last

pub returns-clause-beyond : goal.returns-clause-beyond
returns-clause-beyond c =
    let is = line_beyond c.args.grid.now c.args.cell c.args.old c.abs_diff.result c.columns.result c.in_ok-step.step c.columns.ensures.kept
    (c.is_inside.ensures c.if-not-is_inside.false) c.abs_diff.ensures c.columns.ensures.value c.in_ok-step.ensures in
    is.1
