-- The least candidate by itself, and what is found beyond the old cell.
use Rattle.std.proofs.Common.{sym}
use Rattle.region_queue.proofs.Candidates.{best_single}
use Rattle.region_queue.proofs.finder.Finder.codes_beyond.Goals as goal

pub owns-own-requires-clause-cell : goal.owns-own-requires-clause-cell
owns-own-requires-clause-cell c = c.requires.ready.valid.cell c.args.disk c.in_ok-placed.placed (sym c.in_ok-placed.ensures)

pub returns-clause-single : goal.returns-clause-single
returns-clause-single c =
    best_single c.args.self.now c.args.view.now c.args.disk c.in_ok-placed.placed c.in_ok-single.single (sym c.in_ok-placed.ensures)
    c.in_ok-single.ensures

pub returns-clause-pair : goal.returns-clause-pair
returns-clause-pair c = c.in_ok-pair.ensures

pub code_alone-requires-clause-codes : goal.code_alone-requires-clause-codes
code_alone-requires-clause-codes c = c.has_codes.ensures c.if-not-has_codes.false

pub low_outside-requires-clause-subject : goal.low_outside-requires-clause-subject
low_outside-requires-clause-subject c = record { ready = c.requires.ready; placed = sym c.in_ok-placed.ensures; own = c.owns-own.ensures }

pub code_alone-requires-clause-subject : goal.code_alone-requires-clause-subject
code_alone-requires-clause-subject c = record { ready = c.requires.ready; placed = sym c.in_ok-placed.ensures; own = c.owns-own.ensures }
