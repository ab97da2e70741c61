use Rattle.std.proofs.Common.{◌∙◌, ap}
use Rattle.std.proofs.lemmas.List.{get_or_default}
use Rattle.event_stamps.proofs.Derived.{lt_is}
use Rattle.region_messages.specs.Trails.{is_before}
use Rattle.event_log.proofs.heads.is_earlier.Goals as goal

pub returns : goal.returns
returns c h = c.lt.ensures ∙ lt_is _ c.args.at ∙ ap (λ head. is_before head.stamp c.args.at)
    (get_or_default c.args.heads.now c.args.place _ h c.requires.within)
