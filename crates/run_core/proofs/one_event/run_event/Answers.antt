use Rattle.std.proofs.Common.{ℕ, ◌<◌, sym, subst}
use Rattle.local_run.specs.declared.answers.Step.{Step}
use Rattle.run_core.specs.Taking.{TakenIfRan}
use Rattle.run_core.proofs.Homes.{still_stand, some_regions, untaken}
use Rattle.run_core.proofs.one_event.run_event.Goals as goal

pub least_due-home-requires : goal.least_due-home-requires
least_due-home-requires c =
    let from = c.requires.1 in
    some_regions c.requires.0 c.refresh.new.regions from.is (c.in_ok-refresh.ensures c.requires.0 from).stand

pub step_at-requires : goal.step_at-requires
step_at-requires c = c.least_due-home.ensures.1.within

pub tell_all-requires-clause-stand : goal.tell_all-requires-clause-stand
tell_all-requires-clause-stand c =
    let state = c.requires.0 in
    let from = c.requires.1 in (
      state,
      record {
        grid_is = from.grid_is;
        stand = still_stand state c.args.regions.now c.refresh.new.regions c.least_due-home.result from.is
            (c.in_ok-refresh.ensures state from) c.least_due-home.ensures c.in_ok-step.step c.step_at.new.regions
            c.in_ok-step.ensures.step;
      },
    )

pub tell_all-requires-clause-teller : goal.tell_all-requires-clause-teller
tell_all-requires-clause-teller c =
    let state = c.requires.0 in
    let from = c.requires.1 in
    let fresh = c.in_ok-refresh.ensures state from in
    let stand = still_stand state c.args.regions.now c.refresh.new.regions c.least_due-home.result from.is
    fresh c.least_due-home.ensures c.in_ok-step.step c.step_at.new.regions c.in_ok-step.ensures.step in
    subst (λ (n : ℕ). c.least_due-home.result < n) (sym stand.count)
    (subst (λ (n : ℕ). c.least_due-home.result < n) fresh.stand.count c.least_due-home.ensures.1.within)

pub returns-in_ok-tell_all-in-Ran : goal.returns-in_ok-tell_all-in-Ran
returns-in_ok-tell_all-in-Ran c = λ state from.
    let fresh = c.in_ok-refresh.ensures state from in
    let home = c.least_due-home.result in
    let stepped = c.step_at.new.regions in
    let left = c.tell_all.new.regions in
    let stand = still_stand state c.args.regions.now c.refresh.new.regions home from.is
    fresh c.least_due-home.ensures c.in_ok-step.step stepped c.in_ok-step.ensures.step in
    let took = c.in_ok-tell_all-in-Ran.ensures state (record { grid_is = from.grid_is; stand = stand }) in
    record {
      fresh = c.refresh.new.regions;
      refreshed = fresh;
      home = home;
      is_home = c.least_due-home.ensures;
      stepped = stepped;
      turns = c.in_ok-step.ensures.step;
      taken = subst (λ (v : Step). TakenIfRan state stepped home v left) (sym c.in-Ran.is) took;
      stand = took.stand;
    }

pub returns-in_default : goal.returns-in_default
returns-in_default c = λ state from.
    let fresh = c.in_ok-refresh.ensures state from in
    let home = c.least_due-home.result in
    let stepped = c.step_at.new.regions in
    record {
      fresh = c.refresh.new.regions;
      refreshed = fresh;
      home = home;
      is_home = c.least_due-home.ensures;
      stepped = stepped;
      turns = c.in_ok-step.ensures.step;
      taken = untaken state stepped home c.in_ok-step.step c.in_default.not-Ran;
      stand = still_stand state c.args.regions.now c.refresh.new.regions home from.is
          fresh c.least_due-home.ensures c.in_ok-step.step stepped c.in_ok-step.ensures.step;
    }
