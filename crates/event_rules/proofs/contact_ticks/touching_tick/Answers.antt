-- The disks touch at the only tick at which they can, if they are inside then.
use Rattle.event_rules.proofs.contact_ticks.touching_tick.Goals as goal

pub returns-then-are_inside_at : goal.returns-then-are_inside_at
returns-then-are_inside_at c =
    let chance = c.in_ok-tick.ensures in
    (chance.touch (c.are_inside_at.ensures.0 c.if-are_inside_at.true), chance.end, chance.only)
