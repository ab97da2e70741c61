use Rattle.std.proofs.Common.{◌∙◌}
use Rattle.run_core.specs.Passing.{StandOn}
use Rattle.run_core.proofs.Homes.{refreshed}
use Rattle.run_core.proofs.Standing.{all_rewound, all_at_floor}
use Rattle.run_core.proofs.one_event.refresh.Goals as goal

pub pass-requires : goal.pass-requires
pass-requires c =
    let state = c.requires.0 in
    let from = c.requires.1 in
    let regions = c.args.regions.now in (
      state,
      record {
        grid_is = from.grid_is;
        stand = (all_rewound state regions c.rewind_all.new.regions state.floor from.stand
            (c.in_ok-rewind_all.ensures.rewound ∙ all_at_floor state regions from.stand)).0;
      },
    )

pub returns : goal.returns
returns c = λ state from.
    let regions = c.args.regions.now in
    let back = c.rewind_all.new.regions in
    let is = c.in_ok-rewind_all.ensures.rewound ∙ all_at_floor state regions from.stand in
    let on : StandOn c.args.grid.now back state = record {
      grid_is = from.grid_is;
      stand = (all_rewound state regions back state.floor from.stand is).0;
    } in
    refreshed state regions back c.pass.new.regions c.in_ok-pass.field-0 from.stand c.in_ok-rewind_all.ensures.kept is
    (c.in_ok-pass.ensures state on)
