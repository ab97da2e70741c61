use Rattle.region_core.proofs.WeavingLive.{hearable_one}
use Rattle.std.proofs.Common.{◌∙◌, ℕ, ◌<◌, sym, subst}
use Rattle.region_core.proofs.live.Live.weave_news.Goals as goal

pub weave_or_rewind-requires-clause-hearable : goal.weave_or_rewind-requires-clause-hearable
weave_or_rewind-requires-clause-hearable c = hearable_one c.args.place.now.home c.args.place.now.floor c.args.from
    c.in-Some.message c.args.sent.now c.requires.hearable c.in-Some.ensures

pub loop-preserved : goal.loop-preserved
loop-preserved c =
    (c.in_ok-weave_or_rewind.ensures.live, c.in_ok-weave_or_rewind.ensures.base ∙ c.loop.invariant.1)

pub returns-then-not-branch-clause-base : goal.returns-then-not-branch-clause-base
returns-then-not-branch-clause-base c =
    c.in_ok-weave_or_rewind.ensures.base ∙ c.loop.invariant.1

pub returns-then-not-branch-clause-live : goal.returns-then-not-branch-clause-live
returns-then-not-branch-clause-live c = c.in_ok-weave_or_rewind.ensures.live

pub returns-in_default-clause-base : goal.returns-in_default-clause-base
returns-in_default-clause-base c = c.loop.invariant.1

pub returns-in_default-clause-live : goal.returns-in_default-clause-live
returns-in_default-clause-live c = c.loop.invariant.0

pub returns-clause-base : goal.returns-clause-base
returns-clause-base c = c.loop.invariant.1

pub returns-clause-live : goal.returns-clause-live
returns-clause-live c = c.loop.invariant.0

pub weave_or_rewind-requires-clause-region : goal.weave_or_rewind-requires-clause-region
weave_or_rewind-requires-clause-region c = c.requires.region

pub weave_or_rewind-requires-clause-live : goal.weave_or_rewind-requires-clause-live
weave_or_rewind-requires-clause-live c = c.loop.invariant.0

pub first_news-requires : goal.first_news-requires
first_news-requires c = subst (λ (n : ℕ). c.args.from < n) (sym c.in_ok-weave_or_rewind.ensures.live.body.inbox.regions)
    c.requires.region

pub returns-in_default-first_news-clause-base : goal.returns-in_default-first_news-clause-base
returns-in_default-first_news-clause-base c = c.in_ok-weave_or_rewind.ensures.base ∙ c.loop.invariant.1

pub returns-in_default-first_news-clause-live : goal.returns-in_default-first_news-clause-live
returns-in_default-first_news-clause-live c = c.in_ok-weave_or_rewind.ensures.live
