-- The lower number is that of the earlier key.
use Rattle.std.proofs.lemmas.Bool.{ltb-true, lt-ltb}
use Rattle.event_tree.proofs.Packing.{is_before_if_below, is_below_if_before}
use Rattle.event_tree.proofs.packed.Packed.is_before.Goals as goal

pub returns : goal.returns
returns c = rw (← c.self.view_is, ← c.other.view_is) (
  (λ below. is_before_if_below c.self.inside.number c.other.inside.number c.self.invariant c.other.invariant
      (ltb-true c.self.inside.number c.other.inside.number below)),
  (λ before. lt-ltb c.self.inside.number c.other.inside.number
      (is_below_if_before c.self.inside.number c.other.inside.number c.self.invariant c.other.invariant before)),
)
