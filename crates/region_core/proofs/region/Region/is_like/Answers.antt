use Rattle.std.proofs.Common.{Bool, true, false, ◌≡◌, sym, ◌∙◌}
use Rattle.region_core.proofs.Pairs.{are_alike, unlike_rules, unlike_grids}
use Rattle.region_core.proofs.region.Region.is_like.Goals as goal
use Rattle.region_core.proofs.region.Region.is_like.Goals.{then-eq, else-eq}

no_contradiction : (a b : Bool) → a ≡ true → a ≡ b → b ≡ false → ⊥
no_contradiction a b t e f = cc

pub returns-then-eq-2 : goal.returns-then-eq-2
returns-then-eq-2 c = elim c.if-eq.branch [
  | then-eq w ↦ are_alike _ _ _ _ c.self.inside.live c.other.inside.live _ _ c.eq.result w.eq-then-eq.result
      c.eq-then-eq-2.result c.self.view_is c.other.view_is c.eq.ensures w.if-eq.true
      w.eq-then-eq.ensures (sym w.value-is ∙ c.if-eq-2.true) c.eq-then-eq-2.ensures
  | else-eq w ↦ absurd (no_contradiction c.if-eq.value c.eq.result c.if-eq-2.true w.value-is w.if-eq.false)
]

pub returns-else-eq-2 : goal.returns-else-eq-2
returns-else-eq-2 c = elim c.if-eq.branch [
  | then-eq w ↦ unlike_grids _ _ _ _ c.self.inside.live c.other.inside.live _ _ w.eq-then-eq.result c.if-eq.value
      c.self.view_is c.other.view_is w.eq-then-eq.ensures (sym w.value-is ∙ c.if-eq-2.false) c.if-eq-2.false
  | else-eq w ↦ unlike_rules _ _ _ _ c.self.inside.live c.other.inside.live _ _ c.eq.result c.if-eq.value
      c.self.view_is c.other.view_is c.eq.ensures w.if-eq.false c.if-eq-2.false
]
