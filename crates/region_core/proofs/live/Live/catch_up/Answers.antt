use Rattle.std.proofs.Common.{ℕ, ◌<◌, ◌∙◌, sym, subst}
use Rattle.region_core.proofs.live.Live.catch_up.Goals as goal

pub first_news-requires : goal.first_news-requires
first_news-requires c = subst (λ (n : ℕ). c.args.from < n) (sym c.requires.live.body.inbox.regions) c.requires.region

pub weave_news-requires-clause-region : goal.weave_news-requires-clause-region
weave_news-requires-clause-region c = c.requires.region

pub returns-in_default-2-clause-live : goal.returns-in_default-2-clause-live
returns-in_default-2-clause-live c = c.in_ok-at.ensures.live

pub returns-in_default-2-clause-base : goal.returns-in_default-2-clause-base
returns-in_default-2-clause-base c = c.in_ok-at.ensures.base

pub hear_from-requires-clause-live : goal.hear_from-requires-clause-live
hear_from-requires-clause-live c = c.in_ok-at.ensures.live

pub returns-clause-live : goal.returns-clause-live
returns-clause-live c = c.in_ok-hear_from.ensures.live c.requires.hearable

pub returns-clause-base : goal.returns-clause-base
returns-clause-base c = c.in_ok-hear_from.ensures.base ∙ c.in_ok-at.ensures.base

pub hear_from-requires-clause-region : goal.hear_from-requires-clause-region
hear_from-requires-clause-region c = c.requires.region
