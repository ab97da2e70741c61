-- One more key is taken again.
use Rattle.std.proofs.Common.{◌≡◌, ◌<◌, List, ℕ, take, length, get_or, arith, sym, subst}
use Rattle.std.proofs.lemmas.List.{take_more}
use Rattle.event_tree.specs.Entries.{entry_at}
use Rattle.std.specs.Prelude.{OnOk}
use Rattle.region_queue.specs.Covering.{IsLowered}
use Rattle.region_queue.specs.Finding.{AreListed, IsFound, AreRetaken}
use Rattle.region_queue.proofs.Again.{again_none, retaken_more, take_whole, taken_low, two_of}
use Rattle.region_queue.proofs.keys.take_keys.Goals as goal

pub loop-disk-init : goal.loop-disk-init
loop-disk-init c = λ listed. again_none (IsLowered (IsFound c.args.finder.now c.args.view.now)) (entry_at c.args.keys.now)

pub loop-disk-preserved : goal.loop-disk-preserved
loop-disk-preserved c = λ listed.
    let lt : c.loop-disk.disk-index < length c.args.disks.now = omega arith in
    subst (λ (done : List ℕ). AreRetaken c.args.finder.now c.args.view.now done c.args.keys.now c.take_key.new.keys)
    (sym (take_more c.args.disks.now c.loop-disk.disk-index 0 lt))
    (retaken_more c.args.finder.now c.args.view.now (take c.loop-disk.disk-index c.args.disks.now)
    (get_or c.args.disks.now c.loop-disk.disk-index 0) c.args.keys.now c.loop-disk.keys c.take_key.new.keys
    (c.loop-disk.invariant listed)
    (taken_low c.args.finder.now c.args.view.now (get_or c.args.disks.now c.loop-disk.disk-index 0) c.loop-disk.keys c.take_key.new.keys
    (c.in_ok-take_key.ensures listed)))

pub returns : goal.returns
returns c = λ listed.
    subst (λ (done : List ℕ). AreRetaken c.args.finder.now c.args.view.now done c.args.keys.now c.loop-disk.keys)
    (take_whole c.args.disks.now c.loop-disk.disk-index (omega arith)) (c.loop-disk.invariant listed)

pub returns-then-disks-eq2 : goal.returns-then-disks-eq2
returns-then-disks-eq2 c =
    let two : length c.args.disks.now ≡ 2 = omega (arith, c.if-disks-eq2.true) in
    subst (λ (disks : List ℕ). OnOk c.take_both.result (AreListed c.args.view.now c.args.finder.now.lists.cells →
    AreRetaken c.args.finder.now c.args.view.now disks c.args.keys.now c.take_both.new.keys))
    (two_of c.args.disks.now two) c.take_both.ensures
