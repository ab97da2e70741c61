use Rattle.std.proofs.Common.{take}
use Rattle.run_core.specs.Plays.{Plays}
use Rattle.run_core.proofs.playing.play.Given as goal

abbrev pub invariant-loop-call : goal.invariant-loop-call
invariant-loop-call l = Plays l.fn.regions (take l.call-index l.steps) l.answers.items l.regions
