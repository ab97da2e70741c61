-- The sink may ask for the output.
use Rattle.std.proofs.Common.{map, take, Some, ap}
use Rattle.report_ports.specs.Memory.{SourceData}
use Rattle.program_tests.proofs.Expected.{may_ask}
use Rattle.program_tests.proofs.tests.expecting.taken_bare.Goals as goal

pub top-status-requires-clause-allowed : goal.top-status-requires-clause-allowed
top-status-requires-clause-allowed g c κs within =
    let sink = c.in_ok-sink.sink in
    let made = c.in_ok-sink.ensures in
    may_ask c.prefixes_may_be_asked.ensures (map (λ w. w.now) c.args.words.now) c.args.scene.now c.in_ok-source.source.left c.args.output.now
    sink.want.items (Some (take sink.at sink.want.items)) c.requires (ap (λ (s : SourceData). s.left) c.in_ok-source.ensures) made.0
    (ap (λ n. Some (take n sink.want.items)) made.1)
