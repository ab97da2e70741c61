use Rattle.std.proofs.Common.{◌≡◌, ℕ, ◌+◌, sym, subst, arith}
use Rattle.region_parts.specs.Inbox.{inbox_of}
use Rattle.region_parts.proofs.Firsts.{IsLeastBelow, none_below, nearer_is, least_of_all}
use Rattle.region_parts.proofs.inbox.least_head.Goals as goal

pub loop-from-init : goal.loop-from-init
loop-from-init c = none_below (inbox_of c.args.heard.now c.args.taken.now)

pub loop-from-preserved : goal.loop-from-preserved
loop-from-preserved c =
    let inbox = inbox_of c.args.heard.now c.args.taken.now in
    subst (IsLeastBelow inbox (c.loop-from.from + 1)) (sym c.nearer-least.ensures)
    (nearer_is inbox c.loop-from.from c.loop-from.least _ c.loop-from.invariant (sym c.first_of.ensures))

pub returns : goal.returns
returns c =
    let inbox = inbox_of c.args.heard.now c.args.taken.now in
    let last : c.loop-from.from ≡ c.args.regions = omega arith in
    least_of_all inbox c.args.regions c.loop-from.least c.requires.0
    (subst (λ (n : ℕ). IsLeastBelow inbox n c.loop-from.least) last c.loop-from.invariant)
