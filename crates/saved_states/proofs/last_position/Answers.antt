use Rattle.saved_states.proofs.Rising.{last_read, none_read}
use Rattle.saved_states.proofs.last_position.Goals as goal

pub returns-in-Some : goal.returns-in-Some
returns-in-Some c =
    last_read c.args.first c.args.steps.now c.in-Some.step.now c.in-Some.ensures.value

pub returns-in-None : goal.returns-in-None
returns-in-None c = none_read c.args.first c.args.steps.now c.in-None.ensures.value
