use Rattle.std.proofs.Common.{List, ◌++◌, map, Ok, sym, ap, ◌∙◌}
use Rattle.local_run.specs.Opening.{RegionData}
use Rattle.commit_horizon.proofs.Adopting.{one_more_opened, all_opened}
use Rattle.commit_horizon.proofs.regions.all_or_none.Goals as goal

pub loop-region-preserved : goal.loop-region-preserved
loop-region-preserved c =
    let left = c.next.new.self.rest.items in
    ap (λ (v : List RegionData). map Ok v ++ left) c.in_ok-push.ensures.items
    ∙ one_more_opened c.loop-region.regions.items c.in_ok-region.field-0 c.in-Some.region
    c.loop-region.region-iterator.rest.items left c.args.opened.items c.loop-region.invariant
    c.in-Some.ensures.steps.0 c.in_ok-region.was

pub returns : goal.returns
returns c =
    let rest = c.loop-region.region-iterator.rest in
    all_opened c.loop-region.regions.items rest.items c.args.opened.items c.loop-region.invariant
    (sym rest.ok.0 ∙ c.in-None.ensures.steps.0)
