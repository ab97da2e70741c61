-- Each step found its value.
use Rattle.scene_reader.proofs.values.three_at.Goals as goal

pub returns : goal.returns
returns c = rw (c.in_ok-first.ensures, c.in_ok-second.ensures, c.in_ok-third.ensures)
