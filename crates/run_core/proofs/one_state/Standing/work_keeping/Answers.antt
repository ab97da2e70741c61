use Rattle.std.proofs.Common.{subst}
use Rattle.commit_horizon.proofs.Keeping.{run_on_still_stand}
use Rattle.run_core.specs.Standing.{GoesOnTo}
use Rattle.run_core.proofs.OneState.{still_goes}
use Rattle.run_core.proofs.SoFar.{stand_together}
use Rattle.run_core.proofs.one_state.Standing.work_keeping.Goals as goal

pub burst-requires : goal.burst-requires
burst-requires g c =
    let goes = subst (GoesOnTo c.self.inside.earlier c.self.inside.last c.self.inside.floor
    c.self.inside.regions.items) c.self.view_is c.self.invariant in
    record {
      together = stand_together c.args.self c.self.inside.regions.items goes.stand;
      stand = λ opening given. record {
        state = c.args.self;
        at = record { is = goes.is; past = goes.past };
        one = c.requires.of opening given;
        stand = goes.stand;
      };
      fits = c.requires.fits;
    }

pub after-requires : goal.after-requires
after-requires g c =
    let goes = subst (GoesOnTo c.self.inside.earlier c.self.inside.last c.self.inside.floor
    c.self.inside.regions.items) c.self.view_is c.self.invariant in (
      c.args.self,
      still_goes c.self.inside.earlier c.self.inside.last c.self.inside.floor c.self.inside.regions.items
          c.in_ok-worked.worked.items c.args.self goes (run_on_still_stand c.args.self c.self.inside.regions.items
          c.in_ok-worked.worked.items goes.stand c.in_ok-worked.ensures.count
          (c.in_ok-worked.ensures.kept c.requires.keeping)),
    )

pub returns-clause-state : goal.returns-clause-state
returns-clause-state g c =
    let goes = subst (GoesOnTo c.self.inside.earlier c.self.inside.last c.self.inside.floor
    c.self.inside.regions.items) c.self.view_is c.self.invariant in
    c.after.ensures c.args.self (still_goes c.self.inside.earlier c.self.inside.last c.self.inside.floor
    c.self.inside.regions.items c.in_ok-worked.worked.items c.args.self goes
    (run_on_still_stand c.args.self c.self.inside.regions.items c.in_ok-worked.worked.items goes.stand
    c.in_ok-worked.ensures.count (c.in_ok-worked.ensures.kept c.requires.keeping)))
