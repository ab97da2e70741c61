-- The piece is held after what was held.
use Rattle.std.proofs.Common.{rules, ℕ, List, Option, ap, sym, subst}
use Rattle.report_ports.specs.Ports.{MayTake}
use Rattle.gathered_sink.specs.Gathered.{GatheredData}
use Rattle.gathered_sink.proofs.Held.{holds_more, front_held}
use Rattle.gathered_sink.proofs.gathered.GatheringSinkSink.give.Goals as goal
use Rattle.gathered_sink.proofs.gathered.GatheringSinkSink.give.Goals.{then-self-len+in_default+else-self-piece, else-self-len}

pub invariant_of-self-2 : goal.invariant_of-self-2
invariant_of-self-2 g c = let K = g.K.Sink in
    let inside = c.self-2.inside in
    let kept = c.if-self-len.self in
    let piece = c.args.piece.now in
    let is = c.self-2.view_is in
    let still : MayTake (K.allows (K.lasting kept.below)) kept.told piece = elim c.if-self-len.branch [
      | then-self-len+in_default+else-self-piece w ↦
          subst (λ (d : GatheredData g.row.K.Denot). MayTake (K.allows (K.lasting d.below)) d.told piece) (sym w.self-is)
          (subst (λ (told : Option (List ℕ)). MayTake (K.allows (K.lasting w.flush.new.self.below)) told piece) (sym w.flush.ensures.told)
          (subst (λ lasting. MayTake (K.allows lasting) c.args.self.now.told piece) (sym w.flush.ensures.lasts) c.requires.allowed))
      | else-self-len w ↦
          subst (λ (d : GatheredData g.row.K.Denot). MayTake (K.allows (K.lasting d.below)) d.told piece) (sym w.self-is) c.requires.allowed
    ] in (
      search rules,
      search rules,
      search rules,
      search rules,
      search rules,
      front_held (K.taken inside.sink) (K.taken inside.seen.value) inside.held.items piece c.extend_from_slice.new.self.items c.self-2.invariant.5 c.in-Ok.ensures.items,
      λ whole. holds_more (K.allows (K.lasting inside.sink)) (K.taken inside.sink) (K.taken inside.seen.value) kept.told inside.held.items
          piece c.extend_from_slice.new.self.items (c.self-2.invariant.2 whole)
          (sym (ap (λ (d : GatheredData g.row.K.Denot). d.told) is)) c.in-Ok.ensures.items (c.self-2.invariant.6 whole)
          (subst (λ below. MayTake (K.allows (K.lasting below)) kept.told piece)
          (sym (ap (λ (d : GatheredData g.row.K.Denot). d.below) is)) still),
    )
