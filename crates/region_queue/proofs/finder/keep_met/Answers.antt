-- The next disk is kept or left out.
use Rattle.std.proofs.Common.{◌≡◌, ℕ, ◌+◌, ◌<◌, ◌≤◌, List, length, take, arith, sym, subst, w64, to_z, of_z}
use mir.Val.{bool_byte}
use Rattle.std.proofs.lemmas.Int.{to_z-of_z}
use Rattle.std.specs.Prelude.{ℤ, None, slice_index_or}
use Rattle.region_queue.specs.Finding.{IsMissed, IsReachSquare, AreKept}
use Rattle.region_queue.proofs.Keeping.{IsKeeping, keeping_none, keeping_more, keeping_all, byte_small}
use Rattle.region_queue.proofs.finder.keep_met.Goals as goal

-- the code's square
abbrev code : ℤ → ℤ
code square = to_z w64 (of_z w64 square)

pub loop-place-init : goal.loop-place-init
loop-place-init c = keeping_none
    (λ i. IsMissed (IsReachSquare (code c.args.square) c.args.disk.now) c.args.disk.now (slice_index_or c.args.rows.now i None)) c.args.near.now

pub loop-place-preserved : goal.loop-place-preserved
loop-place-preserved c =
    let IsOut : ℕ → Type 0 =
    λ i. IsMissed (IsReachSquare (code c.args.square) c.args.disk.now) c.args.disk.now (slice_index_or c.args.rows.now i None) in
    let lt : c.loop-place.place < length c.args.near.now = omega (arith, c.len-place-end.ensures) in
    subst (λ (xs : List ℕ). IsKeeping IsOut c.args.near.now xs (c.loop-place.place + 1) (c.loop-place.kept + bool_byte c.may_meet_row-may.result))
    (sym c.put.ensures)
    (keeping_more IsOut c.args.near.now c.loop-place.near c.loop-place.place c.loop-place.kept c.at-other.result c.may_meet_row-may.result
    lt c.loop-place.invariant c.at-other.ensures c.may_meet_row-may.ensures)

pub returns : goal.returns
returns c =
    let IsOut : ℤ → ℕ → Type 0 =
    λ square i. IsMissed (IsReachSquare square c.args.disk.now) c.args.disk.now (slice_index_or c.args.rows.now i None) in
    let same : code c.args.square ≡ c.args.square = to_z-of_z w64 c.args.square c.ranges.square in
    let past : length c.args.near.now ≤ c.loop-place.place = omega (arith, c.len-place-end.ensures) in
    subst (λ (xs : List ℕ). AreKept (IsOut c.args.square) c.args.near.now xs) (sym c.cut.ensures)
    (subst (λ (square : ℤ). AreKept (IsOut square) c.args.near.now (take c.loop-place.kept c.loop-place.near)) same
    (keeping_all (IsOut (code c.args.square)) c.args.near.now c.loop-place.near c.loop-place.place c.loop-place.kept c.loop-place.invariant past))

pub overflow_add-kept : goal.overflow_add-kept
overflow_add-kept c =
    let few = c.loop-place.invariant.few in
    omega (arith, byte_small c.may_meet_row-may.result)
