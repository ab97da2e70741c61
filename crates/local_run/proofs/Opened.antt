-- A local run with an empty log, and the point at which it begins.
use Rattle.std.proofs.Common.{◌≡◌, ℕ, zero, suc, [], replicate, refl, sym, subst, arith}
use Rattle.std.specs.Prelude.{slice_get}
use Rattle.event_stamps.specs.declared.Stamp.{Stamp}
use Rattle.event_stamps.specs.Order.{Before, end_stamp}
use Rattle.cell_grid.specs.Grid.{IsRegion}
use Rattle.region_view.specs.Placing.{IsValidPlacing}
use Rattle.region_view.specs.Views.{ViewData, rows_in, IsViewOf}
use Rattle.cell_sequence.specs.State.{CellStateData, IsCellState}
use Rattle.cell_sequence.proofs.Orderly.{cell_states_are_orderly}
use Rattle.local_run.specs.declared.home.Home.{Home}
use Rattle.local_run.specs.LocalRun.{Local, trail_of, IsInPlace, IsRight, IsHearable}
use Rattle.local_run.specs.Opening.{home_of}

pub no_trail : (n q : ℕ) → trail_of (replicate n []) q ≡ []
no_trail zero q = refl
no_trail (suc n) zero = refl
no_trail (suc n) (suc q) = no_trail n q

silent : (home : Home) (floor : Stamp) (q : ℕ) → IsHearable home floor q []
silent home floor q = record {
  rises = tt;
  from_floor = λ m among. absurd among;
  before_end = λ m among. absurd among;
  rows = λ m among. absurd among;
  linked = λ m among. absurd among;
}

unfoldable pub empty_run : ℕ → Stamp → ViewData → Local
empty_run regions floor base = record {
  floor = floor;
  base = base;
  heard = replicate regions [];
  log = [];
}

pub empty_right : (home : Home) (floor : Stamp) (base : ViewData) →
    IsValidPlacing home.rules home.grid (rows_in base) → ¬ Before (end_stamp home.rules.end) floor →
    IsRight home (empty_run home.grid.regions floor base)
unfolding empty_run
empty_right home floor base valid in_time = record {
  base = valid;
  floor = in_time;
  heard = λ q. subst (IsHearable home floor q) (sym (no_trail home.grid.regions q)) (silent home floor q);
  moves = tt;
  rises = tt;
  few = omega arith;
}

-- the view of a valid state is valid
pub view_valid : (state : CellStateData) (number : ℕ) (base : ViewData) → IsCellState state →
    IsViewOf state.grid number (slice_get state.placed) base →
    IsValidPlacing state.rules state.grid (rows_in base)
view_valid state number base is sees =
    let rows = (cell_states_are_orderly state is).rows in record {
      number = λ i p at. rows.number i p ((sees i p).0 at).0;
      disk = λ i p at. rows.disk i p ((sees i p).0 at).0;
      cell = λ i p at. rows.cell i p ((sees i p).0 at).0;
    }

pub state_place : (state : CellStateData) (number : ℕ) → IsCellState state → IsRegion state.grid number →
    IsInPlace (home_of state number)
state_place state number is region = record {
  checked = is.scene.rules;
  grid = is.grid;
  number = region;
}
