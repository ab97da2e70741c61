use Rattle.std.proofs.Common.{◌≡◌, ap, sym, ◌∙◌, subst}
use Rattle.std.specs.Prelude.{IfOk}
use Rattle.cell_sequence.specs.State.{CellStateData}
use Rattle.run_floors.specs.Floors.{IsPast}
use Rattle.run_core.proofs.SoFar.{stand_together}
use Rattle.run_core.proofs.one_state.Standing.work_adopting.Goals as goal

pub burst-requires : goal.burst-requires
burst-requires g c =
    let settled = c.in_ok-committed.ensures in record {
      together = stand_together c.args.self c.in_ok-committed.regions.items settled.stand;
      stand = λ opening given. record {
        state = c.args.self;
        at = settled.at;
        one = c.requires.of opening given;
        stand = settled.stand;
      };
      fits = c.requires.fits;
    }

pub adopting-requires : goal.adopting-requires
adopting-requires g c =
    let settled = c.in_ok-committed.ensures in record {
      count = c.in_ok-worked.ensures.count ∙ settled.stand.count
          ∙ ap (λ (v : CellStateData). v.grid.regions) (sym settled.state);
      past = subst (λ (v : CellStateData). IsPast v.last v.floor) (sym settled.state) settled.at.past;
    }

pub returns-clause-state : goal.returns-clause-state
returns-clause-state g c = subst (λ (v : CellStateData). IfOk c.adopting.result (λ worked. worked ≡ v))
    c.in_ok-committed.ensures.state c.adopting.ensures
