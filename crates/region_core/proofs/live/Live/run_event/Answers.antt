use Rattle.region_core.proofs.live.Live.run_event.Goals as goal

pub returns-in-Wall-clause-steps : goal.returns-in-Wall-clause-steps
returns-in-Wall-clause-steps c = c.run_any.ensures.steps

pub returns-in-Wall-clause-live : goal.returns-in-Wall-clause-live
returns-in-Wall-clause-live c = c.run_any.ensures.live

pub returns-in-Pair-clause-steps : goal.returns-in-Pair-clause-steps
returns-in-Pair-clause-steps c = c.run_pair.ensures.steps

pub returns-in-Pair-clause-live : goal.returns-in-Pair-clause-live
returns-in-Pair-clause-live c = c.run_pair.ensures.live

pub returns-in-Cross-clause-steps : goal.returns-in-Cross-clause-steps
returns-in-Cross-clause-steps c = c.run_crossing.ensures.steps

pub returns-in-Cross-clause-live : goal.returns-in-Cross-clause-live
returns-in-Cross-clause-live c = c.run_crossing.ensures.live
