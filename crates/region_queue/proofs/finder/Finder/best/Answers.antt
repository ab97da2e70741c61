-- The other disk of a pair is in the block around the cell of this one.
use Rattle.std.proofs.Common.{sym, subst, ◌∙◌}
use Rattle.region_queue.specs.Finding.{IsBestSingle, IsBestPair}
use Rattle.region_queue.proofs.Candidates.{best_single, best_pairs, no_single, no_pairs}
use Rattle.region_queue.proofs.Outside.{block_beside}
use Rattle.region_queue.proofs.finder.Finder.best.Goals as goal

pub returns-in_default-clause-single : goal.returns-in_default-clause-single
returns-in_default-clause-single c =
    subst (IsBestSingle c.args.self.now c.args.view.now c.args.disk) (sym c.none.ensures.single)
    (no_single c.args.self.now c.args.view.now c.args.disk (sym c.get.ensures ∙ c.in_default.is))

pub returns-in_default-clause-pair : goal.returns-in_default-clause-pair
returns-in_default-clause-pair c = λ listed.
    subst (IsBestPair c.args.self.now c.args.view.now c.args.disk) (sym c.none.ensures.pair)
    (no_pairs c.args.self.now c.args.view.now c.args.disk (sym c.get.ensures ∙ c.in_default.is))

pub owns-own-requires-clause-strip : goal.owns-own-requires-clause-strip
owns-own-requires-clause-strip c = c.requires.strip

pub owns-own-requires-clause-cell : goal.owns-own-requires-clause-cell
owns-own-requires-clause-cell c = c.requires.valid.cell c.args.disk c.in-Some.placed (sym c.in-Some.ensures)

pub block_around-block-requires : goal.block_around-block-requires
block_around-block-requires c = c.requires.valid.cell c.args.disk c.in-Some.placed (sym c.in-Some.ensures)

pub best_within-requires-clause-beside : goal.best_within-requires-clause-beside
best_within-requires-clause-beside c =
    let block = c.block_around-block in
    block_beside c.args.self.now.grid c.in-Some.placed.cell block.result block.ensures.block block.ensures.around

pub best_within-requires-clause-subject : goal.best_within-requires-clause-subject
best_within-requires-clause-subject c = record { ready = c.requires; placed = sym c.in-Some.ensures; own = c.owns-own.ensures }

pub best_alone-requires : goal.best_alone-requires
best_alone-requires c = record { ready = c.requires; placed = sym c.in-Some.ensures; own = c.owns-own.ensures }

pub returns-clause-single : goal.returns-clause-single
returns-clause-single c =
    best_single c.args.self.now c.args.view.now c.args.disk c.in-Some.placed c.best_alone.result (sym c.in-Some.ensures)
    c.best_alone.ensures

pub returns-clause-pair : goal.returns-clause-pair
returns-clause-pair c = λ listed.
    best_pairs c.args.self.now c.args.view.now c.args.disk c.in-Some.placed c.block_around-block.result c.best_within.result
    c.requires (sym c.in-Some.ensures) c.block_around-block.ensures.around listed (c.best_within.ensures listed)
