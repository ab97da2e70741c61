-- The line of the tick, and then the disks.
use Rattle.std.proofs.Common.{codes, refl, ap, ◌∙◌}
use Rattle.event_rules.specs.Run.{spots_of}
use Rattle.collision_report.specs.Lines.{number_line, state_line}
use Rattle.collision_report.specs.Blocks.{disk_lines}
use Rattle.collision_report.proofs.Pieces.{writes_next, writes_stopped, may_begin, may_go_on}
use Rattle.collision_report.proofs.blocks.StatesSnapshot.write.Goals as goal

pub returns-in_err-give_line : goal.returns-in_err-give_line
returns-in_err-give_line g c =
    writes_stopped (state_line c.args.tick) (disk_lines 0 (spots_of c.args.tick c.args.self.now.disks.now)) c.from_residual.ensures.0
    (c.number_line.ensures ∙ ap (number_line (codes "state")) c.from.ensures) c.in_err-give_line.ensures

pub returns : goal.returns
returns g c =
    writes_next (state_line c.args.tick) (disk_lines 0 (spots_of c.args.tick c.args.self.now.disks.now))
    (c.number_line.ensures ∙ ap (number_line (codes "state")) c.from.ensures) refl c.in_ok-give_line.ensures c.write_states.ensures

pub give_line-requires : goal.give_line-requires
give_line-requires g c = let K = g.K.Sink in
    may_begin (K.allows (K.lasting c.args.sink.now)) (K.taken c.args.sink.now) (state_line c.args.tick) (disk_lines 0 (spots_of c.args.tick c.args.self.now.disks.now))
    (c.number_line.ensures ∙ ap (number_line (codes "state")) c.from.ensures) refl c.requires.allowed

pub write_states-requires-clause-allowed : goal.write_states-requires-clause-allowed
write_states-requires-clause-allowed g c = let K = g.K.Sink in
    may_go_on K.allows (state_line c.args.tick) (disk_lines 0 (spots_of c.args.tick c.args.self.now.disks.now))
    (c.number_line.ensures ∙ ap (number_line (codes "state")) c.from.ensures) refl refl c.in_ok-give_line.ensures c.requires.allowed

pub write_states-requires-clause-rules : goal.write_states-requires-clause-rules
write_states-requires-clause-rules g c = c.requires.stands.0

pub write_states-requires-clause-disks : goal.write_states-requires-clause-disks
write_states-requires-clause-disks g c = c.requires.stands.1
