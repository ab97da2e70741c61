-- Regions that stand on a state go on from it up to each bound.
use Rattle.event_stamps.specs.declared.Stamp.{Stamp}
use Rattle.cell_sequence.specs.State.{CellStateData}
use Rattle.local_run.proofs.Right.{heard_rise}
use Rattle.local_run.specs.Opening.{home_of}
use Rattle.commit_horizon.specs.Horizon.{LocalRuns, AreStanding, IsBound}
use Rattle.commit_horizon.proofs.GoesOn.{AllGoOn}

pub all_go_on : (state : CellStateData) (runs : LocalRuns) (h : Stamp) → AreStanding state runs →
    IsBound state runs h → AllGoOn state h runs
all_go_on state runs h stand bound = record {
  each = λ k within. let right = (stand k within).right in record {
    base = (stand k within).base;
    moves = right.moves;
    rises = right.rises;
    due = λ s offered. bound.due k s within offered;
    trails = heard_rise (home_of state k) (runs k) right;
    linked = λ q m among. (right.heard q).linked m among;
  };
  agree = bound.agree;
}
