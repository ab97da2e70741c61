use Rattle.region_parts.proofs.Hindrances.{within_two}
use Rattle.region_parts.proofs.aside.has_row.Goals as goal

pub bounds-row-0 : goal.bounds-row-0
bounds-row-0 c = c.in-len1.len_at_least

pub bounds-first-0 : goal.bounds-first-0
bounds-first-0 c = within_two _ c.in-len2-up.len_at_least

pub bounds-second-1 : goal.bounds-second-1
bounds-second-1 c = c.in-len2-up.len_at_least
