-- Disks that never hit each other have no native event.
use Rattle.std.proofs.Common.{◌≡◌, arith, w64, FitsSigned, to_z, of_z}
use Rattle.std.proofs.lemmas.Int.{ints, to_z-of_z}
use Rattle.std.specs.Prelude.{None, slice_index_or}
use Rattle.event_stamps.specs.Least.{HasNone}
use Rattle.region_queue.specs.Finding.{IsNativePair, IsMissed, IsReachSquare}
use Rattle.region_queue.proofs.Keeping.{kept_as, none_missed}
use Rattle.region_queue.proofs.finder.Finder.keep_candidates.Goals as goal

pub reach_square-requires-clause-valid : goal.reach_square-requires-clause-valid
reach_square-requires-clause-valid c = c.requires.ready.valid.disk c.args.disk c.args.placed.now c.requires.placed

pub returns : goal.returns
returns c =
    let finder = c.args.self.now in
    let view = c.args.view.now in
    let p = c.args.placed.now in
    let rows = c.compact.result.now in
    let square = c.reach_square.result in
    let fits : FitsSigned w64 c.reach_square.result = omega (arith, ints, c.reach_square.type_inv) in
    let same : to_z w64 (of_z w64 square) ≡ square = to_z-of_z w64 square fits in
    kept_as (λ i. IsMissed (IsReachSquare square p.disk) p.disk (slice_index_or rows i None)) (λ i. HasNone (IsNativePair finder view c.args.disk i))
    c.args.near.now c.keep_met.new.near
    (λ i missed. none_missed finder view (IsReachSquare square p.disk) c.args.disk i p (slice_index_or rows i None) c.requires.ready
    c.reach_square.ensures c.requires.placed (c.compact.ensures i) missed)
    (rw same at c.keep_met.ensures)
