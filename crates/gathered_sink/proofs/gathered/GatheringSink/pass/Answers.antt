-- The sink below may take the piece, since nothing is held.
use Rattle.std.proofs.Common.{◌≡◌, ap, sym, subst, ◌∙◌}
use Rattle.report_ports.specs.Ports.{MayTake}
use Rattle.gathered_sink.specs.Gathered.{GatheredData}
use Rattle.gathered_sink.proofs.Held.{passes_on}
use Rattle.gathered_sink.proofs.gathered.GatheringSink.pass.Goals as goal

pub give-answer-requires : goal.give-answer-requires
give-answer-requires g c = let K = g.K.Sink in
    let inside = c.self.inside in
    let is = c.self.view_is in
    let whole : inside.faults ≡ 0 = ap (λ (d : GatheredData g.row.K.Denot). d.faults) is ∙ c.requires.whole in
    record {
      allowed = passes_on (K.allows (K.lasting inside.sink)) (K.taken inside.sink) (K.taken inside.seen.value) c.args.self.now.told inside.held.items
          c.args.piece.now (c.self.invariant.2 whole) (ap (λ (d : GatheredData g.row.K.Denot). d.held) is ∙ c.requires.none)
          (sym (ap (λ (d : GatheredData g.row.K.Denot). d.told) is))
          (subst (λ below. MayTake (K.allows (K.lasting below)) c.args.self.now.told c.args.piece.now)
          (sym (ap (λ (d : GatheredData g.row.K.Denot). d.below) is)) c.requires.allowed);
    }
