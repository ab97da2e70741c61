use Rattle.std.proofs.Common.{◌≡◌, ◌<◌, List, MatchOption, length, sym, ap, subst, ◌∙◌, arith}
use Rattle.std.specs.Prelude.{slice_get}
use Rattle.std.proofs.lemmas.Bool.{false≢true}
use Rattle.region_view.specs.declared.rows.Message.{Message}
use Rattle.local_run.specs.LocalRun.{Trails}
use Rattle.local_run.specs.Keeping.{SendsTo}
use Rattle.region_parts.proofs.AtNumber.{got_at}
use Rattle.region_core.proofs.Shown.{trail_found}
use Rattle.region_core.proofs.live.Live.sent_to.Goals as goal

pub returns-then-sends_to : goal.returns-then-sends_to
returns-then-sends_to c =
    let home = c.args.place.now.home in
    let sent = c.args.self.now.sent.items in
    let sends = c.sends_to.ensures.0 c.if-sends_to.true in
    let near : c.args.to < home.grid.regions = sends.0 in
    let within : c.args.to < length sent = omega (arith, c.requires.body.sent.regions) in
    subst (λ (ms : List Message). MatchOption c.get.result (¬ SendsTo home c.args.to)
    (λ t. SendsTo home c.args.to × (t.now ≡ ms))) (c.requires.body.sent.each c.args.to sends.0 sends.1)
    (trail_found c.get.result sent c.args.to _ _
    (got_at c.get.result c.deref.result.now c.args.to
    (c.get.ensures.lookup.0, c.get.ensures.lookup.1)
    ∙ ap (λ (ts : Trails). slice_get ts c.args.to) c.deref.ensures.value) within sends)

pub returns-else-sends_to : goal.returns-else-sends_to
returns-else-sends_to c = λ sends. absurd (false≢true (sym c.if-sends_to.false ∙ c.sends_to.ensures.1 sends))

pub sends_to-requires : goal.sends_to-requires
sends_to-requires c = c.requires.place.home.number
