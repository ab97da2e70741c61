-- The lower code is that of the earlier key.
use Rattle.std.proofs.lemmas.Bool.{ltb-true, lt-ltb}
use Rattle.event_tree.proofs.Codes.{before_if_less, less_if_before}
use Rattle.event_tree.proofs.code.Code.is_before.Goals as goal

pub returns : goal.returns
returns c = rw (← c.self.view_is, ← c.other.view_is) (
  (λ less. before_if_less c.self.inside.code c.other.inside.code c.self.invariant c.other.invariant
      (ltb-true c.self.inside.code c.other.inside.code less)),
  (λ before. lt-ltb c.self.inside.code c.other.inside.code
      (less_if_before c.self.inside.code c.other.inside.code c.self.invariant c.other.invariant before)),
)
