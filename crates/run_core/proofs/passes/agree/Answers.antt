use Rattle.std.proofs.Common.{◌<◌, subst}
use Rattle.cell_grid.specs.Grid.{GridData}
use Rattle.run_core.proofs.Passed.{still_on, last_pass, more_passes, entries_left, entries_fall}
use Rattle.run_core.proofs.passes.agree.Goals as goal

pub passes-init : goal.passes-init
passes-init c = λ state on. record { stand = on.stand; so_far = λ new agrees. agrees }

pub pass-requires : goal.pass-requires
pass-requires c =
    let state = c.requires.0 in
    let on = c.requires.1 in (
      state,
      still_on c.args.grid.now c.args.regions.now c.passes.regions state on
          (c.passes.invariant state on).stand,
    )

pub returns-then-not-more : goal.returns-then-not-more
returns-then-not-more c = λ state on.
    let so_far = c.passes.invariant state on in
    let heard = c.in_ok-more.ensures state
    (still_on c.args.grid.now c.args.regions.now c.passes.regions state on so_far.stand) in
    let last = rw c.if-not-more.true at heard in
    record {
      agree = so_far.so_far c.pass.new.regions
          (last_pass state c.passes.regions c.pass.new.regions last);
      stand = last.stand;
    }

pub passes-smaller : goal.passes-smaller
passes-smaller c =
    let state = c.requires.0 in
    let on = c.requires.1 in
    let heard = c.in_ok-more.ensures state
    (still_on c.args.grid.now c.args.regions.now c.passes.regions state on (c.passes.invariant state on).stand) in
    let some = rw c.if-not-more.false at heard in
    subst (λ (g : GridData). entries_left g c.pass.new.regions < entries_left g c.passes.regions) on.grid_is
    (entries_fall state c.passes.regions c.pass.new.regions some)

pub passes-preserved : goal.passes-preserved
passes-preserved c = λ state on.
    let so_far = c.passes.invariant state on in
    let heard = c.in_ok-more.ensures state
    (still_on c.args.grid.now c.args.regions.now c.passes.regions state on so_far.stand) in
    let some = rw c.if-not-more.false at heard in
    record {
      stand = some.stand;
      so_far = λ new rest. so_far.so_far new
          (more_passes state c.passes.regions c.pass.new.regions new some rest);
    }
