-- The parts have all that are listed beyond.
use Rattle.std.proofs.Common.{sym, subst}
use Rattle.std.specs.Prelude.{Option}
use Rattle.event_stamps.specs.declared.Stamp.{Stamp}
use Rattle.event_stamps.specs.Least.{IsLeastOf}
use Rattle.region_queue.specs.Outside.{IsListedOutside}
use Rattle.region_queue.specs.Finding.{AreListed, IsNativeWith, IsLowBeyond}
use Rattle.region_queue.proofs.Low.{least_with_low, coded}
use Rattle.region_queue.proofs.Outside.{best_of_parts, listed_outside, low_beyond, block_beside, part_beside}
use Rattle.region_queue.proofs.finder.Finder.low_by_parts.Goals as goal

pub best_in_part-requires-clause-beside : goal.best_in_part-requires-clause-beside
best_in_part-requires-clause-beside c =
    let block = c.block_around-block in
    part_beside c.args.self.now.grid c.args.placed.now.cell block.result c.block_around-known.result c.parts_outside-parts.result.left
    (block_beside c.args.self.now.grid c.args.placed.now.cell block.result block.ensures.block block.ensures.around) c.parts_outside-parts.ensures.left

pub best_in_part-requires-2-clause-beside : goal.best_in_part-requires-2-clause-beside
best_in_part-requires-2-clause-beside c =
    let block = c.block_around-block in
    part_beside c.args.self.now.grid c.args.placed.now.cell block.result c.block_around-known.result c.parts_outside-parts.result.right
    (block_beside c.args.self.now.grid c.args.placed.now.cell block.result block.ensures.block block.ensures.around) c.parts_outside-parts.ensures.right

pub best_in_part-requires-3-clause-beside : goal.best_in_part-requires-3-clause-beside
best_in_part-requires-3-clause-beside c =
    let block = c.block_around-block in
    part_beside c.args.self.now.grid c.args.placed.now.cell block.result c.block_around-known.result c.parts_outside-parts.result.low
    (block_beside c.args.self.now.grid c.args.placed.now.cell block.result block.ensures.block block.ensures.around) c.parts_outside-parts.ensures.low

pub best_in_part-requires-4-clause-beside : goal.best_in_part-requires-4-clause-beside
best_in_part-requires-4-clause-beside c =
    let block = c.block_around-block in
    part_beside c.args.self.now.grid c.args.placed.now.cell block.result c.block_around-known.result c.parts_outside-parts.result.high
    (block_beside c.args.self.now.grid c.args.placed.now.cell block.result block.ensures.block block.ensures.around) c.parts_outside-parts.ensures.high

pub block_around-block-requires : goal.block_around-block-requires
block_around-block-requires c = c.requires.subject.ready.valid.cell c.args.disk c.args.placed.now c.requires.subject.placed

pub returns : goal.returns
returns c =
    let finder = c.args.self.now in
    let view = c.args.view.now in
    let disk = c.args.disk in
    let old = c.args.old in
    let p = c.args.placed.now in
    let block = c.block_around-block.result in
    let known = c.block_around-known.result in
    let Outside = IsListedOutside finder.lists block known in
    coded (λ key. AreListed view finder.lists.cells → IsLowBeyond finder view disk old key) c.of.result c.earlier-3.result c.of.ensures
    (λ listed.
    let all = best_of_parts finder view disk block known c.parts_outside-parts.result c.best_in_part.result c.best_in_part-2.result
    c.best_in_part-3.result c.best_in_part-4.result c.parts_outside-parts.ensures (c.best_in_part.ensures listed)
    (c.best_in_part-2.ensures listed) (c.best_in_part-3.ensures listed) (c.best_in_part-4.ensures listed) in
    let least = subst (λ (o : Option Stamp). IsLeastOf (IsNativeWith finder view disk Outside) o)
    (sym (rw c.earlier.ensures at (rw c.earlier-2.ensures at c.earlier-3.ensures))) all in
    low_beyond finder view disk old p Outside c.earlier-3.result c.requires.subject.ready c.requires.subject.placed listed
    (λ i beyond. listed_outside finder p.cell old block known i c.requires.subject.ready.lists c.block_around-block.ensures.around
    c.block_around-known.ensures.around beyond)
    (least_with_low finder view disk Outside c.earlier-3.result least))
