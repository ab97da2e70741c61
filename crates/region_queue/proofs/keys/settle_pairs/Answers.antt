-- The least key rises, up to one that is a candidate.
use Rattle.std.proofs.Common.{◌≡◌, sym, subst, ◌∙◌}
use Rattle.std.specs.Prelude.{Some}
use Rattle.event_tree.specs.Keys.{Key, IsLeastKey}
use Rattle.region_view.proofs.Naming.{is_pair_or_not}
use Rattle.region_queue.specs.Finding.{IsFound, IsHolder}
use Rattle.region_queue.proofs.Covered.{covers_still}
use Rattle.region_queue.proofs.Settled.{rises, none_left, fresh_settled, below_falls}
use Rattle.region_queue.proofs.keys.settle_pairs.Goals as goal

pub loop-stamp-smaller : goal.loop-stamp-smaller
loop-stamp-smaller c =
    let key : c.loop-stamp.least ≡ Some c.in-Some.stamp = sym c.in-Some.ensures.value in
    rw key (below_falls c.in-Some.stamp c.if_after-least.result c.in-Some.ensures.room c.if_after-least.ensures.room
    (c.if_after-least.ensures.after c.in-Some.stamp key))

pub loop-stamp-preserved : goal.loop-stamp-preserved
loop-stamp-preserved c = λ listed covers.
    let C = IsFound c.args.finder.now c.args.view.now in
    let old = c.loop-stamp.keys in
    let new = c.take_held.new.keys in
    let stamp = c.in-Some.stamp in
    let key : c.loop-stamp.least ≡ Some stamp = sym c.in-Some.ensures.value in
    let was = c.loop-stamp.invariant listed covers in
    let least = subst (λ (k : Key). IsLeastKey old.keys k) key was.1 in
    let again = c.in_ok-take_held.ensures listed in
    let same = c.if_after-least.ensures.same stamp key
    (rises C old new stamp c.top.result was.0 (c.is_fresh.ensures.stale c.if-is_fresh.false) least again c.top.ensures) in (
      covers_still C (IsHolder old stamp) old new was.0 again,
      subst (λ (k : Key). IsLeastKey new.keys k) (sym same) c.top.ensures,
    )

pub returns-then-is_fresh : goal.returns-then-is_fresh
returns-then-is_fresh c = λ listed covers.
    let C = IsFound c.args.finder.now c.args.view.now in
    let stamp = c.in-Some.stamp in
    let key : c.loop-stamp.least ≡ Some stamp = sym c.in-Some.ensures.value in
    let was = c.loop-stamp.invariant listed covers in (
      was.0,
      fresh_settled C c.loop-stamp.keys.keys c.loop-stamp.keys.bounds stamp was.0 (subst (λ (k : Key). IsLeastKey c.loop-stamp.keys.keys k) key was.1)
          (c.is_fresh.ensures.fresh c.if-is_fresh.true) (is_pair_or_not stamp.kind),
    )

pub returns-in_default : goal.returns-in_default
returns-in_default c = λ listed covers.
    let was = c.loop-stamp.invariant listed covers in (
      was.0,
      none_left (IsFound c.args.finder.now c.args.view.now) c.loop-stamp.keys.keys
          (subst (λ (key : Key). IsLeastKey c.loop-stamp.keys.keys key) (sym c.key.ensures.value ∙ c.in_default.is) was.1),
    )
