-- How a state of the cell run and its regions correspond.
use Rattle.std.proofs.Common.{◌≡◌, ℕ, sym, ◌∙◌, Result}
use Rattle.std.specs.Prelude.{slice_get}
use Rattle.event_stamps.specs.declared.Stamp.{Stamp}
use Rattle.event_rules.specs.declared.change.Limit.{Limit}
use Rattle.cell_grid.specs.Grid.{HasSizes, IsRegion}
use Rattle.cell_grid.proofs.Cells.{grids_have_sizes}
use Rattle.region_view.specs.declared.action.Action.{Action}
use Rattle.region_view.specs.Views.{ViewData}
use Rattle.region_view.specs.Laws.{HasCells}
use Rattle.region_view.proofs.Homes.{each_event_has_one_home, natives_are_home, natives_act_alike}
use Rattle.cell_sequence.specs.State.{CellStateData, IsCellState, IsCandidateOf, ComesToInState}
use Rattle.cell_sequence.specs.Laws.{Sees, IsHomeOf}
use Rattle.cell_sequence.proofs.Exists.{one_action}
use Rattle.cell_sequence.proofs.Orderly.{cell_states_are_orderly}
use Rattle.cell_sequence.proofs.Seen.{next_actions_are_seen}
use Rattle.local_run.specs.LocalRun.{IsOwn}
use Rattle.local_run.specs.LocalRun.{ComesToInView as ComesToIn}
use Rattle.local_run.specs.Opening.{home_of}
use Rattle.commit_horizon.proofs.GoesOn.{CellLaws}

-- ---- by the laws of views
module _ (state : CellStateData) (is : IsCellState state) where
  sizes : HasSizes state.grid
  sizes = grids_have_sizes state.rules state.grid is.scene.rules is.grid

  cells : HasCells state.grid (slice_get state.placed)
  cells = (cell_states_are_orderly state is).rows.cell

  own_is_home : (k : ℕ) (view : ViewData) (s : Stamp) → IsRegion state.grid k → Sees state k view →
      IsOwn (home_of state k) view s → IsCandidateOf state s × IsHomeOf state s k
  unfolding IsOwn
  own_is_home k view s within sees own =
      let home = natives_are_home state.rules state.grid k (slice_get state.placed) view s sizes within cells
      sees in
      let known = home.0 own in
      (known.0, (within, known.1))

  home_is_own : (k : ℕ) (view : ViewData) (s : Stamp) → Sees state k view → IsCandidateOf state s →
      IsHomeOf state s k → IsOwn (home_of state k) view s
  unfolding IsOwn
  home_is_own k view s sees event home =
      (natives_are_home state.rules state.grid k (slice_get state.placed) view s sizes home.0 cells sees).1
      (event, home.1)

  acts_alike : (k : ℕ) (view : ViewData) (s : Stamp) (r : Result Action Limit) → IsRegion state.grid k →
      Sees state k view → IsOwn (home_of state k) view s → ComesToIn (home_of state k) view s r →
      ComesToInState state s r
  acts_alike k view s r within sees own comes =
      let known = own_is_home k view s within sees own in
      (natives_act_alike state.rules state.grid k (slice_get state.placed) view s r sizes within cells sees
      known.0 known.1.1).0 comes

  homed : (s : Stamp) → IsCandidateOf state s → (k : ℕ) × IsHomeOf state s k
  homed s event =
      let home =
      each_event_has_one_home state.rules state.grid (slice_get state.placed) s sizes cells event in
      (home.0, (home.1, home.2))

  one_home : (s : Stamp) (k q : ℕ) → IsCandidateOf state s → IsHomeOf state s k → IsHomeOf state s q → k ≡ q
  one_home s k q event here there =
      let home =
      each_event_has_one_home state.rules state.grid (slice_get state.placed) s sizes cells event in
      home.3 k here.0 here.1 ∙ sym (home.3 q there.0 there.1)

pub cell_laws : (state : CellStateData) → IsCellState state → CellLaws state
cell_laws state is = record {
  native = own_is_home state is;
  candidate = home_is_own state is;
  comes = acts_alike state is;
  homed = homed state is;
  one_home = one_home state is;
  one_action = λ x y here there.
      one_action state.rules state.grid state.placed x y here.0 there.0 here.1 there.1;
  floor = is.none_below;
  view_home = λ k view x next home sees. (next_actions_are_seen state x is next).home k view home sees;
  view_told = λ k q view other x m next home sees others message.
      (next_actions_are_seen state x is next).told k q view other m home sees others message;
  view_kept = λ k q view other x next home sees others apart within none.
      (next_actions_are_seen state x is next).kept k q view other home sees others apart within none;
}
