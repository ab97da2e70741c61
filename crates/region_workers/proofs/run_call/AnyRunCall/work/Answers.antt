-- What a call keeps is known of each answer.
use Rattle.std.proofs.lemmas.Result.{IfOk-weaker}
use Rattle.region_workers.proofs.run_call.AnyRunCall.work.Goals as goal

pub returns-clause-count : goal.returns-clause-count
returns-clause-count g c = IfOk-weaker c.self.result _ _ (λ worked found. found.0) (c.requires.keeping.1 _ _ _ _ _ _ c.self.ensures).0

pub returns-clause-kept : goal.returns-clause-kept
returns-clause-kept g c = IfOk-weaker c.self.result _ _ (λ worked found. found.1) (c.requires.keeping.1 _ _ _ _ _ _ c.self.ensures).0
