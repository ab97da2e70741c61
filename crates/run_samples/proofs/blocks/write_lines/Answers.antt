-- The line of the disks and pairs, and then that of the sides.
use Rattle.std.proofs.Common.{refl}
use Rattle.collision_sums.specs.SumLines.{inside_line, sides_line}
use Rattle.collision_report.proofs.Pieces.{writes_next, writes_stopped, may_begin, may_go_on}
use Rattle.run_samples.proofs.blocks.write_lines.Goals as goal

pub returns-in_err-give_line : goal.returns-in_err-give_line
returns-in_err-give_line g c =
    writes_stopped (inside_line c.args.tick c.args.inside.disks c.args.inside.squares c.args.sums.now) (sides_line c.args.tick c.args.sums.now)
    c.from_residual.ensures.0 c.inside_line.ensures c.in_err-give_line.ensures

pub returns : goal.returns
returns g c =
    writes_next (inside_line c.args.tick c.args.inside.disks c.args.inside.squares c.args.sums.now) (sides_line c.args.tick c.args.sums.now)
    c.inside_line.ensures c.sides_line.ensures c.in_ok-give_line.ensures c.give_line-2.ensures

pub give_line-requires : goal.give_line-requires
give_line-requires g c = let K = g.K.Sink in
    may_begin (K.allows (K.lasting c.args.sink.now)) (K.taken c.args.sink.now)
    (inside_line c.args.tick c.args.inside.disks c.args.inside.squares c.args.sums.now) (sides_line c.args.tick c.args.sums.now)
    c.inside_line.ensures refl c.requires

pub give_line-requires-2 : goal.give_line-requires-2
give_line-requires-2 g c = let K = g.K.Sink in
    may_go_on K.allows (inside_line c.args.tick c.args.inside.disks c.args.inside.squares c.args.sums.now) (sides_line c.args.tick c.args.sums.now)
    c.inside_line.ensures c.sides_line.ensures refl c.in_ok-give_line.ensures c.requires
