-- The opening, the rows and the end, one after another.
use Rattle.std.proofs.Common.{◌++◌, codes}
use Rattle.std.specs.List.{flat_map}
use Rattle.text_lines.specs.Lines.{ended}
use Rattle.scene_maker.specs.Canonical.{row_line}
use Rattle.scene_maker.proofs.Pieces.{then_added}
use Rattle.scene_maker.proofs.text.push_disks.Goals as goal

pub returns : goal.returns
returns c =
    let rows = flat_map (row_line c.args.rules.now) c.args.disks.now in
    let start = c.args.bytes.now.items in
    let opened = c.push_text.new.bytes.items in
    let filled = c.push_rows.new.bytes.items in
    let closed = c.push_text-2.new.bytes.items in
    then_added c.push_text-2.result start opened closed (ended (codes "disks = [")) (rows ++ ended (codes "]"))
    c.in_ok-push_text.ensures
    (then_added c.push_text-2.result opened filled closed rows (ended (codes "]")) c.in_ok-push_rows.ensures
    c.push_text-2.ensures)
