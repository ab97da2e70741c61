use Rattle.std.proofs.Common.{◌∙◌}
use Rattle.region_core.specs.Live.{run_in}
use Rattle.region_core.proofs.WovenLive.{woven_base}
use Rattle.region_core.proofs.live.Live.weave_or_rewind.Goals as goal

pub returns-in_default-clause-live : goal.returns-in_default-clause-live
returns-in_default-clause-live c = c.in_ok-at.ensures.live

pub returns-in_default-clause-base : goal.returns-in_default-clause-base
returns-in_default-clause-base c =
    let floor = c.args.place.now.floor in
    woven_base c.args.from c.args.message (run_in floor c.args.self.now) (run_in floor c.weave.new.self)
    c.in_ok-at.field-0 c.in_ok-at.ensures.weaves

pub returns-then-not-is_before-clause-live : goal.returns-then-not-is_before-clause-live
returns-then-not-is_before-clause-live c = c.in_ok-at.ensures.live

pub returns-then-not-is_before-clause-base : goal.returns-then-not-is_before-clause-base
returns-then-not-is_before-clause-base c =
    let floor = c.args.place.now.floor in
    woven_base c.args.from c.args.message (run_in floor c.args.self.now) (run_in floor c.weave.new.self)
    c.in_ok-at.field-0 c.in_ok-at.ensures.weaves

pub rewind-requires : goal.rewind-requires
rewind-requires c = c.in_ok-at.ensures.live

pub returns-clause-live : goal.returns-clause-live
returns-clause-live c = c.in_ok-rewind.ensures.live

pub returns-clause-base : goal.returns-clause-base
returns-clause-base c =
    let floor = c.args.place.now.floor in
    c.in_ok-rewind.ensures.base
    ∙ woven_base c.args.from c.args.message (run_in floor c.args.self.now) (run_in floor c.weave.new.self)
    c.in_ok-at.field-0 c.in_ok-at.ensures.weaves
