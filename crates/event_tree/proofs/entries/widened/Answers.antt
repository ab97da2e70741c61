-- The entries are set one by one.
use Rattle.std.proofs.Common.{◌∙◌, sym, arith, inl, inr}
use Rattle.event_tree.specs.Keys.{Key}
use Rattle.event_tree.proofs.Trees.{below_or_not}
use Rattle.event_tree.proofs.Groups.{both_same, entered_more, entered_free}
use Rattle.event_tree.proofs.entries.widened.Goals as goal

pub loop-disk-preserved : goal.loop-disk-preserved
loop-disk-preserved c =
    let disk = c.loop-disk.disk in
    let old = c.args.narrow.now in
    let held = c.loop-disk.invariant in
    let put : Key × Key = (c.packed.result, c.packed-in-loop-disk.result) in
    record {
      copied = entered_more old c.loop-disk.wide c.set.new.self disk put
          (both_same _ _ _ _ (c.packed.ensures ∙ c.key.ensures) (c.packed-in-loop-disk.ensures ∙ c.bound.ensures)) held.copied c.in_ok-set.ensures;
      free = entered_free c.loop-disk.wide c.set.new.self disk put held.free c.in_ok-set.ensures;
    }

pub returns : goal.returns
returns c = λ disk.
    let held = c.loop-disk.invariant in
    elim (below_or_not disk c.loop-disk.disk) [
      | inl lt ↦ held.copied disk lt
      | inr ge ↦ held.free disk ge ∙ sym (c.room-disk-end.ensures.all disk (omega (arith, ge, c.loop-disk-test.false)))
    ]
