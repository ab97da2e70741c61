-- The next disk is the first that isn't listed yet.
use Rattle.std.proofs.Common.{◌<◌, ◌≤◌, arith}
use Rattle.region_queue.proofs.Numbered.{numbered_more, numbered_all}
use Rattle.region_queue.proofs.queue.disks_of.Goals as goal

pub loop-disk-preserved : goal.loop-disk-preserved
loop-disk-preserved c =
    let next = c.in-Some.ensures in
    let few : c.in-Some.disk < 65536 = c.requires c.in-Some.disk c.in-Some.field-0-1 next.1 in
    rw c.in_ok-push.ensures.items
    (record {
      most = omega arith;
      listed = numbered_more c.args.view.now c.loop-disk.from c.in-Some.disk c.in-Some.field-0-1 c.loop-disk.disks.items next
          c.loop-disk.invariant.listed;
    })

pub returns : goal.returns
returns c =
    numbered_all c.args.view.now c.loop-disk.from c.loop-disk.disks.items c.in_default.ensures c.loop-disk.invariant.listed

pub overflow_add-from : goal.overflow_add-from
overflow_add-from c =
    let few : c.in-Some.disk < 65536 = c.requires c.in-Some.disk c.in-Some.field-0-1 c.in-Some.ensures.1 in
    omega arith

pub loop-disk-smaller : goal.loop-disk-smaller
loop-disk-smaller c =
    let next = c.in-Some.ensures in
    let few : c.in-Some.disk < 65536 = c.requires c.in-Some.disk c.in-Some.field-0-1 next.1 in
    let from : c.loop-disk.from ≤ c.in-Some.disk = next.0 in
    omega arith
