use Rattle.std.proofs.Common.{inl, refl}
use Rattle.region_core.proofs.live.Live.weave_if_aside.Goals as goal

pub hindrance-requires-clause-rows : goal.hindrance-requires-clause-rows
hindrance-requires-clause-rows c = (c.requires.hearable.rows c.args.message (inl refl)).1

pub weave_at-requires-clause-aside : goal.weave_at-requires-clause-aside
weave_at-requires-clause-aside c = c.in-None.ensures.aside refl

pub weave_at-requires-clause-tried : goal.weave_at-requires-clause-tried
weave_at-requires-clause-tried c = c.in-None.ensures.tried refl

pub weave_at-requires-clause-within : goal.weave_at-requires-clause-within
weave_at-requires-clause-within c = c.count_before-kept.ensures.within

pub weave_at-requires-clause-rest : goal.weave_at-requires-clause-rest
weave_at-requires-clause-rest c = c.count_before-kept.ensures.from

pub weave_at-requires-clause-below : goal.weave_at-requires-clause-below
weave_at-requires-clause-below c = c.count_before-kept.ensures.before

pub weave_at-requires-clause-region : goal.weave_at-requires-clause-region
weave_at-requires-clause-region c = c.requires.region

pub weave_at-requires-clause-live : goal.weave_at-requires-clause-live
weave_at-requires-clause-live c = c.requires.live

pub weave_at-requires-clause-hearable : goal.weave_at-requires-clause-hearable
weave_at-requires-clause-hearable c = c.requires.hearable

pub returns-in-Some : goal.returns-in-Some
returns-in-Some c = (c.requires.live, refl)

pub returns-in-None : goal.returns-in-None
returns-in-None c = c.weave_at.ensures

pub count_before-kept-requires : goal.count_before-kept-requires
count_before-kept-requires c = (c.args.place.now.floor, c.requires.live.body.right.rises)
