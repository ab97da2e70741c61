use Rattle.std.proofs.Common.{[], inl, inr, subst}
use Rattle.region_messages.specs.Trails.{IsAmong}
use Rattle.region_core.proofs.live.Live.post.Goals as goal

pub returns-clause-among : goal.returns-clause-among
returns-clause-among c = λ m h. elim (c.post_to.ensures.among m h) [
  | inl was ↦ inl was
  | inr is ↦ inr (subst (IsAmong m) (c.in-Some.ensures.item.3.1 []) is)
]
