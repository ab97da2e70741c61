use Rattle.std.proofs.Common.{◌∙◌, sym, subst}
use Rattle.std.proofs.lemmas.Option.{same_Some}
use Rattle.cell_sequence.specs.State.{CellStateData, opening_state}
use Rattle.run_floors.specs.Floors.{AreOfOneRun}
use Rattle.run_floors.proofs.Floors.{same_run}
use Rattle.program_modes.proofs.engines.OverRegions.run_by_call.Goals as goal

-- the burst is of this run
pub simulate_by-requires-clause-of : goal.simulate_by-requires-clause-of
simulate_by-requires-clause-of g c κs within = λ opening given.
    subst (AreOfOneRun opening) (sym (same_Some g.O.Origin.opening opening given) ∙ c.requires.of) (same_run opening)
