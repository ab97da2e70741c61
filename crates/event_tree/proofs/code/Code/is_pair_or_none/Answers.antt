-- A pair's kind and no key have the upper bit of the kind.
use Rattle.std.proofs.lemmas.Bool.{eqb-true, eq-eqb}
use Rattle.event_tree.proofs.Codes.{pair_if_high, high_if_pair}
use Rattle.event_tree.proofs.code.Code.is_pair_or_none.Goals as goal

pub returns : goal.returns
returns c = rw (← c.self.view_is) (
  (λ high. pair_if_high c.self.inside.code c.self.invariant (eqb-true _ _ high)),
  (λ pair. eq-eqb _ _ (high_if_pair c.self.inside.code c.self.invariant pair)),
)
