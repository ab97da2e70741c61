use Rattle.std.proofs.Common.{◌≡◌, Bool, false, inl}
use Rattle.std.specs.Prelude.{IsTrue}
use Rattle.region_core.proofs.Pairs.{unlike, seen_spent, sent_seen}
use Rattle.region_core.proofs.region.Region.sent_by.Goals as goal
use Rattle.region_core.proofs.region.Region.sent_by.Goals.{then-is_none-via-then-is_none, then-is_none-via-else-is_none+then-not-is_like}

differs : (b : Bool) → IsTrue b → b ≡ false → ⊥
differs b h e = cc

pub returns-then-is_none : goal.returns-then-is_none
returns-then-is_none c = elim c.then-is_none.branch [
  | then-is_none-via-then-is_none w ↦ inl (seen_spent _ _ c.self.inside.live _ c.self.view_is w.if-is_none.ensures)
  | then-is_none-via-else-is_none+then-not-is_like w ↦ unlike c.args.self.now c.args.from.now
      (λ alike. differs w.is_like.result (w.is_like.ensures.1 alike) w.if-not-is_like.true)
]

pub returns : goal.returns
returns c = sent_seen (λ t. t.now) c.sent.result _ _ c.self.inside.live c.args.self.now c.args.from.now
    c.self.view_is c.if-is_none.ensures c.self.invariant.place.home (c.is_like.ensures.0 c.if-not-is_like.false)
    c.sent.ensures.value
