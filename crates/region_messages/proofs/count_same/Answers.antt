use Rattle.std.proofs.Common.{ℕ, ◌+◌, ◌≤◌, inl, inr, length, ap, subst, sym}
use Rattle.std.proofs.lemmas.Bool.{both_ways}
use Rattle.region_messages.proofs.Starts.{one_more_alike, next_apart, one_ends}
use Rattle.region_messages.proofs.count_same.Goals as goal

pub returns-in_default : goal.returns-in_default
returns-in_default c =
    one_ends c.loop-m.same c.args.a.now c.args.b.now (inr c.in_default.ensures.lookup.3) c.loop-m.invariant.1

pub returns-then-not-is_same : goal.returns-then-not-is_same
returns-then-not-is_same c =
    let n = c.in-Some.n.now in
    let there = c.in-Some.ensures.lookup.3 in
    let e = c.loop-m.invariant.0 in
    next_apart c.loop-m.same c.loop-m.m-index c.args.a.now c.args.b.now c.m-item.result n e c.loop-m-test.true
    (rw e at there.0) c.m-item.is (rw e at (there.1 n))
    (λ same. both_ways c.is_same.result c.if-not-is_same.true (c.is_same.ensures.1 same)) c.loop-m.invariant.1

pub loop-m-preserved : goal.loop-m-preserved
loop-m-preserved c =
    let m = c.m-item.result in
    let n = c.in-Some.n.now in
    let there = c.in-Some.ensures.lookup.3 in
    let e = c.loop-m.invariant.0 in (
      ap (λ (k : ℕ). k + 1) e,
      one_more_alike c.loop-m.same c.loop-m.m-index c.args.a.now c.args.b.now m n e c.loop-m-test.true (rw e at there.0)
          c.m-item.is (rw e at (there.1 m)) (c.is_same.ensures.0 c.if-not-is_same.false) c.loop-m.invariant.1,
    )

pub returns : goal.returns
returns c =
    one_ends c.loop-m.same c.args.a.now c.args.b.now
    (inl (subst (λ (k : ℕ). length c.args.a.now ≤ k) (sym c.loop-m.invariant.0) c.loop-m-test.false)) c.loop-m.invariant.1
