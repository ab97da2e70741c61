use Rattle.std.proofs.Common.{inl, inr, sym, ◌∙◌}
use Rattle.event_log.specs.declared.heads.Form.TheVariants.{Crossing, Single, Double}
use Rattle.event_log.proofs.Near.{far_head, first_place, both_places}
use Rattle.std.proofs.lemmas.Bool.{false≢true}
use Rattle.event_log.proofs.nearness.may_be_near.Goals as goal

pub returns-in-Crossing : goal.returns-in-Crossing
returns-in-Crossing c = λ off rows are.
    let grid = c.args.grid.now in
    let sides = c.args.sides.now in
    let narrow = c.args.narrow.now in
    let h = c.args.head.now in
    let away = c.may_be_beside.ensures off in
    let free = c.may_name.ensures c.if-may_name.false in
    elim c.in-Crossing.is [
      | inl e ↦ far_head grid sides rows narrow h Crossing e are free away
      | inr e ↦ far_head grid sides rows narrow h Single e are free away
    ]

pub returns-else-may_be_beside : goal.returns-else-may_be_beside
returns-else-may_be_beside c = λ off rows are.
    far_head c.args.grid.now c.args.sides.now rows c.args.narrow.now c.args.head.now Double c.in-Double.is are
    (c.may_name.ensures c.if-may_name.false)
    (c.may_be_beside-in-Double.ensures c.if-may_be_beside.false, c.may_be_beside-else-may_be_beside.ensures off)

pub returns-then-may_be_beside : goal.returns-then-may_be_beside
returns-then-may_be_beside c = λ off. absurd (false≢true (sym off ∙ c.if-may_be_beside.true))

pub returns-then-may_name : goal.returns-then-may_name
returns-then-may_name c = λ off. absurd (false≢true (sym off))

pub returns-in-Whole : goal.returns-in-Whole
returns-in-Whole c = λ off. absurd (false≢true (sym off))

pub may_be_beside-requires : goal.may_be_beside-requires
may_be_beside-requires c = record {
  within = first_place c.args.narrow.now c.args.head.now c.in-Crossing.is c.requires.narrow;
  bounds = c.requires.bounds;
}

pub may_be_beside-requires-in-Double : goal.may_be_beside-requires-in-Double
may_be_beside-requires-in-Double c = record {
  within = (both_places c.args.narrow.now c.args.head.now c.in-Double.is c.requires.narrow).0;
  bounds = c.requires.bounds;
}

pub may_be_beside-requires-else-may_be_beside : goal.may_be_beside-requires-else-may_be_beside
may_be_beside-requires-else-may_be_beside c = record {
  within = (both_places c.args.narrow.now c.args.head.now c.in-Double.is c.requires.narrow).1;
  bounds = c.requires.bounds;
}
