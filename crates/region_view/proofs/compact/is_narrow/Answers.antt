use Rattle.region_view.proofs.CompactRows.{Decides-sent_below, Decides-sent_above}
use Rattle.std.proofs.Common.{neg_ℤ, pos, ◌^◌, ◌-◌}
use Rattle.std.proofs.lemmas.Bool.{both_ways}
use Rattle.region_view.proofs.compact.is_narrow.Goals as goal

pub returns-then-number : goal.returns-then-number
returns-then-number c =
    let n = c.args.number in
    let above = Decides-sent_above n (neg_ℤ (pos (2 ^ 31))) c.ranges.number in
    let below = Decides-sent_below n (pos (2 ^ 31 - 1)) c.ranges.number in
    (λ few. (above.0 c.if-number.true, below.0 few), λ narrow. below.1 narrow.1)

pub returns-else-number : goal.returns-else-number
returns-else-number c =
    let above = Decides-sent_above c.args.number (neg_ℤ (pos (2 ^ 31))) c.ranges.number in
    (λ yes. absurd (both_ways _ c.if-number.false yes), λ narrow. above.1 narrow.0)
