use Rattle.std.proofs.Common.{[], ◌∷◌, ◌++◌, get_or, sym, ap, subst, ◌∙◌}
use Rattle.std.proofs.lemmas.List.{map_more, take_all}
use Rattle.fixed_motion.specs.declared.disk.Disk.{Disk}
use Rattle.fixed_motion.specs.Motion.{IsInBox, centre_of}
use Rattle.fixed_motion.proofs.Sizes.{in_box_sent}
use Rattle.region_view.proofs.Seen.{no_row}
use Rattle.cell_grid.specs.Grid.{cell_at}
use Rattle.cell_sequence.specs.Run.{placed_at, opened}
use Rattle.cell_sequence.proofs.Followed.{disk_read}
use Rattle.cell_sequence.proofs.state.place.Goals as goal

pub cell_of-requires : goal.cell_of-requires
cell_of-requires c =
    let i = c.loop-disk.disk-index in
    let disk : Disk = get_or c.args.disks.now i no_row.disk in
    let near = c.requires i disk (disk_read c.args.disks.now i c.loop-disk-test.true) in
    subst IsInBox (sym (in_box_sent (centre_of disk) near)) near

pub loop-disk-preserved : goal.loop-disk-preserved
loop-disk-preserved c =
    let i = c.loop-disk.disk-index in
    let disk : Disk = get_or c.args.disks.now i no_row.disk in
    let near = c.requires i disk (disk_read c.args.disks.now i c.loop-disk-test.true) in
    let cell = c.cell_of.ensures.value ∙ ap (cell_at c.args.grid.now) (in_box_sent (centre_of disk) near) in
    c.in_ok-push.ensures.items
    ∙ (λ k. c.loop-disk.invariant k ++ ((record { disk = disk; cell = cell k }) ∷ []))
    ∙ sym (map_more (placed_at c.args.grid.now) c.args.disks.now i no_row.disk c.loop-disk-test.true)

pub returns : goal.returns
returns c =
    c.loop-disk.invariant
    ∙ ap (opened c.args.grid.now) (take_all c.loop-disk.disk-index c.args.disks.now c.loop-disk-test.false)
