use Rattle.std.proofs.Common.{refl}
use Rattle.std.proofs.lemmas.Option.{slice_get-get_or}
use Rattle.run_core.proofs.Places.{turns, spends}
use Rattle.run_core.proofs.pairs.step_at.Goals as goal

pub returns-clause-step : goal.returns-clause-step
returns-clause-step c = turns c.args.regions.now c.args.k _ c.step.new.self c.step.result
    (slice_get-get_or c.args.regions.now c.args.k c.index-regions-k.result c.requires) c.step.ensures.step

pub returns-clause-spent : goal.returns-clause-spent
returns-clause-spent c = spends c.args.regions.now _ c.args.k _ c.step.new.self c.step.result
    (slice_get-get_or c.args.regions.now c.args.k c.index-regions-k.result c.requires) refl c.step.ensures.spent
