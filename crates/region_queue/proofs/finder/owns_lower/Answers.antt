-- Either disk may be the lower one.
use Rattle.std.proofs.Common.{◌<◌, ◌≤◌, inl, inr, arith}
use Rattle.std.proofs.lemmas.Bool.{ltb-true}
use Rattle.region_queue.proofs.finder.owns_lower.Goals as goal

pub returns-then-disk-other : goal.returns-then-disk-other
returns-then-disk-other c =
    let lower : c.args.disk < c.args.other = c.if-disk-other.true in (
      λ owned. inl (lower, owned),
      λ either. elim either [ inl low ↦ low.1 | inr high ↦ (let less = high.0 in absurd (omega arith)) ],
    )

pub returns-then-other-disk : goal.returns-then-other-disk
returns-then-other-disk c =
    let lower : c.args.other < c.args.disk = c.if-other-disk.true in (
      λ owned. inr (lower, owned),
      λ either. elim either [ inl low ↦ (let less = low.0 in absurd (omega arith)) | inr high ↦ high.1 ],
    )

pub returns-else-other-disk : goal.returns-else-other-disk
returns-else-other-disk c =
    let low_not : c.args.other ≤ c.args.disk = c.if-disk-other.false in
    let high_not : c.args.disk ≤ c.args.other = c.if-other-disk.false in (
      λ less. (let lower = ltb-true c.args.other c.args.disk less in absurd (omega arith)),
      λ either. elim either [
        | inl low ↦ (let less = low.0 in absurd (omega arith))
        | inr high ↦ (let less = high.0 in absurd (omega arith))
      ],
    )
