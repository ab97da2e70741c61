use Rattle.std.proofs.Common.{get_or, ap, ◌∙◌, subst, refl, arith}
use Rattle.std.proofs.lemmas.Option.{slice_get-get_or, slice_get_within}
use Rattle.event_stamps.specs.declared.Stamp.{Stamp}
use Rattle.local_run.specs.Hearing.{rewound}
use Rattle.local_run.specs.Keeping.{IsKept}
use Rattle.region_parts.proofs.Lists.{one_more}
use Rattle.commit_horizon.proofs.Raises.{next_is, all_changed}
use Rattle.commit_horizon.proofs.Within.{kept_more}
use Rattle.run_core.specs.Taking.{at_floor}
use Rattle.run_core.proofs.one_event.rewind_all.Goals as goal

pub loop-region-init : goal.loop-region-init
loop-region-init c = record { rewound = refl; kept = λ k region lt at. absurd (omega arith) }

pub loop-region-preserved : goal.loop-region-preserved
loop-region-preserved c =
    let regions = c.args.regions.now in
    let items = c.loop-region.region-items in
    let k = c.loop-region.region-index in
    let d = c.region-item.result in
    let lt = c.loop-region-test.true in
    let so_far = c.loop-region.invariant in record {
      rewound = one_more at_floor regions items k d c.rewind.new.self lt so_far.rewound
          (c.in_ok-rewind.ensures.rewound
          ∙ ap (λ (at : Stamp). rewound at (get_or items k d)) c.floor-floor.ensures.value);
      kept = kept_more regions k (get_or regions k d) (slice_get-get_or regions k d lt) so_far.kept
          (subst IsKept (next_is at_floor regions items k d lt so_far.rewound) c.floor-floor.ensures.kept);
    }

pub returns-clause-rewound : goal.returns-clause-rewound
returns-clause-rewound c = c.loop-region.invariant.rewound
    ∙ all_changed at_floor c.args.regions.now c.loop-region.region-index c.loop-region-test.false

pub returns-clause-kept : goal.returns-clause-kept
returns-clause-kept c = λ k region at. c.loop-region.invariant.kept k region
    (omega (arith, slice_get_within c.args.regions.now k region at)) at
