use Rattle.std.proofs.Common.{◌≡◌}
use Rattle.region_core.specs.Live.{base_in, IsLive}
use Rattle.region_core.proofs.live.Live.weave_news.Given as goal

abbrev pub invariant-loop : goal.invariant-loop
invariant-loop l = IsLive l.place l.self × (base_in l.self ≡ base_in l.fn.self)
