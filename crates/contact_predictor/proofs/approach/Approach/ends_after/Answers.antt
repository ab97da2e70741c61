-- The numbers are small up to an early tick, and so those of the next tick still have 64 bits.
use Rattle.std.proofs.Common.{sym, ◌∙◌}
use Rattle.std.proofs.lemmas.Bool.{both_ways, not-true, false≢true}
use Rattle.contact_predictor.proofs.Quadratic.{IsComing, wrapped_at, ends}
use Rattle.contact_predictor.proofs.approach.Approach.ends_after.Goals as goal

pub returns-then-is_approaching : goal.returns-then-is_approaching
returns-then-is_approaching c = λ yes.
    let q = c.args.self in
    let t = c.args.ticks in
    let then = c.after-then.ensures in
    let next = c.is_approaching-then-is_approaching.result in
    let coming : IsComing c.args.self = record { fits = c.requires.fits; apart = c.requires.apart; course = c.requires.course } in
    ends q c.after-then.result c.after.result t coming c.requires.early
    (wrapped_at q c.after-then.result t coming c.requires.early then.square then.closing then.gap)
    (record { square = c.after.ensures.square; closing = c.after.ensures.closing; gap = c.after.ensures.gap })
    (c.is_approaching.ensures.0 c.if-is_approaching.true)
    (λ again. both_ways next (not-true next yes) (c.is_approaching-then-is_approaching.ensures.1 again))

pub returns-else-is_approaching : goal.returns-else-is_approaching
returns-else-is_approaching c = λ yes. absurd (false≢true (sym c.if-is_approaching.false ∙ yes))
