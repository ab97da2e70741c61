-- What the sink below asks, the timely sink asks.
use Rattle.std.proofs.Common.{◌∙◌, map, take, Some, ap}
use Rattle.report_ports.specs.Memory.{SourceData}
use Rattle.gathered_sink.specs.Gathered.{GatheredData}
use Rattle.program_tests.specs.declared.tests.expecting.Expecting.{Expecting}
use Rattle.program_tests.proofs.Expected.{may_ask}
use Rattle.program_tests.proofs.tests.expecting.taken_timely.Goals as goal

pub top-status-requires-clause-allowed : goal.top-status-requires-clause-allowed
top-status-requires-clause-allowed g c κs within =
    let sink = c.in_ok-new.field-0 in
    let made = c.in_ok-new.ensures in
    let timely = c.new-timely.result.gathered in
    may_ask c.prefixes_may_be_asked.ensures (map (λ w. w.now) c.args.words.now) c.args.scene.now c.in_ok-source.source.left c.args.output.now
    timely.below.want.items timely.told c.requires (ap (λ (s : SourceData). s.left) c.in_ok-source.ensures)
    (ap (λ (v : GatheredData Expecting). v.below.want.items) c.new-timely.ensures
    ∙ ap (λ (e : Expecting). e.want.items) c.new-gathered.ensures.below ∙ made.0)
    (ap (λ (v : GatheredData Expecting). v.told) c.new-timely.ensures
    ∙ c.new-gathered.ensures.told ∙ ap (λ n. Some (take n sink.want.items)) made.1)
