-- On the first axis or on the second.
use Rattle.std.proofs.Common.{inl, inr}
use Rattle.contact_predictor.proofs.FarApart.{far_apart, far_above}
use Rattle.contact_predictor.proofs.far_pairs_dont_touch.Goals as goal

pub returns : goal.returns
returns c = λ r u distance far. elim far [ inl h ↦ far_apart r u distance h | inr h ↦ far_above r u distance h ]
