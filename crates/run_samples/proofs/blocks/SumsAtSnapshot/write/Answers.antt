-- The lines of the sums over the disks.
use Rattle.std.proofs.Common.{ℕ, ◌++◌, sym, subst}
use Rattle.report_ports.specs.Ports.{MayTake}
use Rattle.event_rules.specs.Run.{spots_of}
use Rattle.collision_report.specs.Writes.{Writes}
use Rattle.collision_sums.specs.Sums.{disks_in, squares_in}
use Rattle.collision_sums.specs.SumLines.{inside_line, sides_line}
use Rattle.run_samples.proofs.blocks.SumsAtSnapshot.write.Goals as goal

pub returns : goal.returns
returns g c = let K = g.K.Sink in
    let tick = c.args.tick in let sums = c.args.self.now.sums.now in
    subst (λ (squares : ℕ). Writes K.taken K.faults K.lasting c.args.sink.now c.write_lines.new.sink c.write_lines.result
    (inside_line tick (disks_in c.args.self.now.rules.now c.args.self.now.margin (spots_of tick c.args.self.now.disks.now)) squares sums ++ sides_line tick sums))
    c.inside_at-inside.ensures.squares
    (subst (λ (disks : ℕ). Writes K.taken K.faults K.lasting c.args.sink.now c.write_lines.new.sink c.write_lines.result
    (inside_line tick disks c.inside_at-inside.result.squares sums ++ sides_line tick sums))
    c.inside_at-inside.ensures.disks c.write_lines.ensures)

pub write_lines-requires : goal.write_lines-requires
write_lines-requires g c = let K = g.K.Sink in
    let tick = c.args.tick in let sums = c.args.self.now.sums.now in let spots = spots_of tick c.args.self.now.disks.now in
    subst (λ (squares : ℕ). MayTake (K.allows (K.lasting c.args.sink.now)) (K.taken c.args.sink.now)
    (inside_line tick c.inside_at-inside.result.disks squares sums ++ sides_line tick sums))
    (sym c.inside_at-inside.ensures.squares)
    (subst (λ (disks : ℕ). MayTake (K.allows (K.lasting c.args.sink.now)) (K.taken c.args.sink.now)
    (inside_line tick disks (squares_in c.args.self.now.rules.now c.args.self.now.margin spots) sums ++ sides_line tick sums))
    (sym c.inside_at-inside.ensures.disks) c.requires.allowed)

pub inside_at-inside-requires-clause-rules : goal.inside_at-inside-requires-clause-rules
inside_at-inside-requires-clause-rules g c = c.requires.stands.0

pub inside_at-inside-requires-clause-disks : goal.inside_at-inside-requires-clause-disks
inside_at-inside-requires-clause-disks g c = c.requires.stands.1

pub inside_at-inside-requires-clause-count : goal.inside_at-inside-requires-clause-count
inside_at-inside-requires-clause-count g c = c.requires.stands.2
