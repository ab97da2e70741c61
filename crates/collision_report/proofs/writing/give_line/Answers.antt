-- What a sink that failed took of a line.
use Rattle.std.proofs.Common.{ℕ, List, subst}
use Rattle.report_ports.specs.Ports.{AppendsPrefix}
use Rattle.collision_report.proofs.writing.give_line.Goals as goal

pub returns-in-Failed : goal.returns-in-Failed
returns-in-Failed g c = let K = g.K.Sink in record {
  whole = tt;
  prefix = subst (λ (text : List ℕ). AppendsPrefix (K.taken c.args.sink.now) (K.taken c.give.new.self) text) c.as_bytes.ensures c.in-Failed.ensures.gives;
  knows = c.in-Failed.ensures.knows;
  counts = c.in-Failed.ensures.counts;
  lasts = c.give.ensures.lasts;
}
