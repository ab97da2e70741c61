-- The disk by itself.
use Rattle.region_queue.proofs.Candidates.{best_single}
use Rattle.region_queue.proofs.finder.Finder.codes_near.Goals as goal

pub owns-own-requires-clause-strip : goal.owns-own-requires-clause-strip
owns-own-requires-clause-strip c = c.requires.ready.strip

pub owns-own-requires-clause-cell : goal.owns-own-requires-clause-cell
owns-own-requires-clause-cell c = c.requires.ready.valid.cell c.args.disk c.args.placed.now c.requires.placed

pub returns-clause-single : goal.returns-clause-single
returns-clause-single c =
    best_single c.args.self.now c.args.view.now c.args.disk c.args.placed.now c.in_ok-single.single c.requires.placed c.in_ok-single.ensures

pub code_alone-requires-clause-codes : goal.code_alone-requires-clause-codes
code_alone-requires-clause-codes c = c.requires.codes

pub low_pair-requires : goal.low_pair-requires
low_pair-requires c = record { ready = c.requires.ready; placed = c.requires.placed; own = c.owns-own.ensures }

pub code_alone-requires-clause-subject : goal.code_alone-requires-clause-subject
code_alone-requires-clause-subject c = record { ready = c.requires.ready; placed = c.requires.placed; own = c.owns-own.ensures }
