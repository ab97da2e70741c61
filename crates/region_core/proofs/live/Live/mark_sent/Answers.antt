use Rattle.std.proofs.Common.{◌∙◌, ap, slice_set}
use Rattle.std.proofs.lemmas.List.{set-get_or}
use Rattle.region_core.proofs.live.Live.mark_sent.Goals as goal

pub returns-in-Some-clause-sent : goal.returns-in-Some-clause-sent
returns-in-Some-clause-sent c =
    let sent = c.args.self.now.sent.items in
    ap (slice_set sent c.args.to) (c.mark.ensures ∙ c.in-Some.ensures.value)
    ∙ set-get_or sent c.args.to c.in-Some.trail.now
