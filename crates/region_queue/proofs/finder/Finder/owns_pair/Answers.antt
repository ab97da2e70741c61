-- The lower of the two disks is in a cell that the region doesn't own, or the other one isn't there.
use Rattle.std.proofs.Common.{inl, inr, sym}
use Rattle.std.proofs.lemmas.Bool.{both_ways}
use Rattle.region_queue.proofs.Candidates.{pair_without}
use Rattle.region_queue.proofs.Low.{unowned_low}
use Rattle.region_queue.proofs.finder.Finder.owns_pair.Goals as goal

pub owns-requires-clause-strip : goal.owns-requires-clause-strip
owns-requires-clause-strip c = c.requires.strip

pub owns-requires-clause-cell : goal.owns-requires-clause-cell
owns-requires-clause-cell c = c.requires.valid.cell c.args.other c.in-Some.placed (sym c.in-Some.ensures)

pub returns-in-Some : goal.returns-in-Some
returns-in-Some c = λ no p here own.
    (unowned_low c.args.self.now c.args.view.now c.args.disk c.args.other p c.in-Some.placed here (sym c.in-Some.ensures)
    (λ lt owns. both_ways c.owns_lower.result no (c.owns_lower.ensures.1 (inl (lt, own owns))))
    (λ lt owns. both_ways c.owns_lower.result no (c.owns_lower.ensures.1 (inr (lt, c.owns.ensures.1 owns))))).low

pub returns-in-None : goal.returns-in-None
returns-in-None c = λ no p here own. pair_without c.args.self.now c.args.view.now c.args.disk c.args.other (sym c.in-None.ensures)
