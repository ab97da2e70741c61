use Rattle.std.proofs.Common.{◌<◌, length, arith, sym, ◌∙◌}
use Rattle.region_core.proofs.Shown.{trail_found}
use Rattle.std.proofs.lemmas.Bool.{false≢true}
use Rattle.region_core.proofs.live.Live.heard_from.Goals as goal

pub returns-then-hears_of : goal.returns-then-hears_of
returns-then-hears_of c =
    let hears = c.hears_of.ensures.0 c.if-hears_of.true in
    let near : c.args.from < c.args.place.now.home.grid.regions = hears.0 in
    let within : c.args.from < length c.args.self.now.inbox.heard = omega (arith, c.requires.body.inbox.regions) in
    trail_found c.heard.result c.args.self.now.inbox.heard c.args.from _ _ c.heard.ensures within hears

pub returns-else-hears_of : goal.returns-else-hears_of
returns-else-hears_of c = λ hears. absurd (false≢true (sym c.if-hears_of.false ∙ c.hears_of.ensures.1 hears))

pub hears_of-requires : goal.hears_of-requires
hears_of-requires c = c.requires.place.home.number
