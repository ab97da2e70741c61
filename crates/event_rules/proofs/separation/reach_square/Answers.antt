-- The square fits 64 bits.
use Rattle.event_rules.proofs.Reaches.{square_of}
use Rattle.event_rules.proofs.separation.reach_square.Goals as goal

pub overflow_mul-result : goal.overflow_mul-result
overflow_mul-result c = (square_of c.args.rules.now c.args.a.now c.requires.checked c.requires.valid).fits

pub returns : goal.returns
returns c = (square_of c.args.rules.now c.args.a.now c.requires.checked c.requires.valid).value
