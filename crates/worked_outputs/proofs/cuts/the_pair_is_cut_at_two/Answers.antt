-- Before tick 3 nothing happens, so the rest's run is the pair's.
use Rattle.std.proofs.Common.{ℕ, [], ◌∷◌, arith, subst}
use Rattle.event_rules.specs.declared.outcome.Outcome.TheVariants.{Done as DoneOutcome}
use Rattle.event_rules.proofs.OneRun.{one_run}
use Rattle.resume.specs.Shift.{shifted, later_outcome}
use Rattle.program_modes.specs.Laws.{IsRest}
use Rattle.worked_laws.specs.Pair.{pair_rules, pair_disks, pair_scene, the_hit, pair_end}
use Rattle.worked_laws.proofs.PairRun.{pair_run}
use Rattle.worked_outputs.proofs.Left.{states_rest, resumes_rest}
use Rattle.worked_outputs.proofs.cuts.the_pair_is_cut_at_two.Goals as goal

pub returns-clause-states : goal.returns-clause-states
returns-clause-states c cut bytes text cuts said output =
    states_rest 2 text (omega arith)
    (subst (λ (at : ℕ). IsRest pair_scene at text) cuts.1 (c.cuts_resume.ensures cut pair_scene bytes text cuts.0 cuts.2 said output))

pub returns-clause-runs : goal.returns-clause-runs
returns-clause-runs c cut bytes text cuts said output more outcome run =
    let rest = subst (λ (at : ℕ). IsRest pair_scene at text) cuts.1 (c.cuts_resume.ensures cut pair_scene bytes text cuts.0 cuts.2 said output) in
    one_run pair_rules pair_disks (shifted 2 more) (the_hit ∷ []) (later_outcome 2 outcome) (DoneOutcome pair_end)
    (resumes_rest 2 text (omega arith) rest more outcome run) pair_run
