-- The least disks of the cells, and then all that are after one of these.
use Rattle.std.proofs.Common.{List, take, drop, sym, subst}
use Rattle.std.specs.Prelude.{ℕ}
use native.Mathlib.Nat.{lt_of_lt_of_le}
use Rattle.std.proofs.lemmas.Bool.{false≢true}
use Rattle.cell_lists.specs.Nearby.{IsWithinBlock}
use Rattle.cell_lists.specs.Gathering.{AreAllListed, AreFollowed, AreGatheredIn}
use Rattle.cell_lists.proofs.Walks.{starts_behind, gathered_in, all_taken}
use Rattle.cell_lists.proofs.chains.Chains.gather.Goals as goal

pub gather_nexts-requires-clause-listed : goal.gather_nexts-requires-clause-listed
gather_nexts-requires-clause-listed c =
    let cells = c.args.self.now.cells in
    let heads = take c.in-Some.heads.count c.gather_heads.new.disks in
    subst (λ (n : ℕ). AreAllListed cells (drop n heads))
    (all_taken c.gathered.inside.count c.gathered.inside.disks c.gathered.invariant c.gathered.told)
    (starts_behind cells (IsWithinBlock c.args.grid.now c.args.block) (take c.gathered.inside.count c.gathered.inside.disks) heads c.in-Some.ensures.added)

pub returns : goal.returns
returns c = λ yes.
    let cells = c.args.self.now.cells in
    let old = take c.gathered.inside.count c.gathered.inside.disks in
    let heads = take c.in-Some.heads.count c.gather_heads.new.disks in
    let new = take c.in-Some-gather_nexts.count c.gather_nexts.new.disks in
    let Such = IsWithinBlock c.args.grid.now c.args.block in
    subst (λ (xs : List ℕ). AreGatheredIn cells Such xs new) c.gathered.view_is
    (gathered_in cells Such old heads new c.in-Some.ensures.added
    (subst (λ (n : ℕ). AreFollowed cells n heads new)
    (sym (all_taken c.gathered.inside.count c.gathered.inside.disks c.gathered.invariant c.gathered.told))
    c.in-Some-gather_nexts.ensures.followed))

pub returns-in_default : goal.returns-in_default
returns-in_default c = λ yes. absurd (false≢true yes)

pub returns-in_default-gather_nexts : goal.returns-in_default-gather_nexts
returns-in_default-gather_nexts c = λ yes. absurd (false≢true yes)

pub returns-then-not-has_buckets : goal.returns-then-not-has_buckets
returns-then-not-has_buckets c = λ yes. absurd (false≢true yes)

pub gather_nexts-requires-clause-own : goal.gather_nexts-requires-clause-own
gather_nexts-requires-clause-own c =
    let enough = rw (c.rows.ensures.value, c.columns.ensures.value) at (c.has_buckets.ensures.0 c.if-not-has_buckets.false) in
    λ disk cell is. lt_of_lt_of_le (c.requires.cells disk cell is) enough

pub gather_heads-requires-clause-own : goal.gather_heads-requires-clause-own
gather_heads-requires-clause-own c =
    let enough = rw (c.rows.ensures.value, c.columns.ensures.value) at (c.has_buckets.ensures.0 c.if-not-has_buckets.false) in
    λ disk cell is. lt_of_lt_of_le (c.requires.cells disk cell is) enough

pub gather_heads-requires-clause-buckets : goal.gather_heads-requires-clause-buckets
gather_heads-requires-clause-buckets c =
    let enough = rw (c.rows.ensures.value, c.columns.ensures.value) at (c.has_buckets.ensures.0 c.if-not-has_buckets.false) in
    enough

pub gather_nexts-requires-clause-pending : goal.gather_nexts-requires-clause-pending
gather_nexts-requires-clause-pending c = c.in-Some.ensures.pending
