-- The bits of the mask are the two tests.
use Rattle.std.proofs.Common.{arith, refl}
use Rattle.event_rules.proofs.SideBySide.{held_again, lanes_told}
use Rattle.event_rules.proofs.lanes.are_courses.Goals as goal

pub returns : goal.returns
returns c = λ p q hs hc hg.
    let scale = c.args.scale in
    let few = scale.few_speeds in
    let low = scale.few_places in
    let nearing = c.raised-nearing.ensures p.closing q.closing (held_again c.args.closing p.closing q.closing hc) in
    let square = c.shifted.ensures p.square q.square (held_again c.args.square p.square q.square hs) in
    let gaps = c.shifted-2.ensures p.gap q.gap (held_again c.args.gap p.gap q.gap hg) in
    rw (hc.are, hg.are, nearing.are, square.are, gaps.are)
    (lanes_told scale.speeds scale.places p q (omega arith) (record { are = refl; first = hc.first; second = hc.second })
    (record { are = refl; first = hg.first; second = hg.second }))
