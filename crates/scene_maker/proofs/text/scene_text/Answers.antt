-- The rules, the ticks of the state blocks and the disks, one after another.
use Rattle.std.proofs.Common.{◌∙◌, List, ap}
use Rattle.std.specs.Prelude.{codes, ◌++◌}
use Rattle.std.specs.List.{flat_map}
use Rattle.fixed_motion.specs.declared.disk.Disk.{Disk}
use Rattle.scene_maker.specs.Canonical.{canonical_text, rules_text, every_text, row_line}
use Rattle.text_lines.specs.Lines.{ended}
use Rattle.scene_maker.proofs.Pieces.{joined}
use Rattle.scene_maker.proofs.text.scene_text.Goals as goal

pub returns : goal.returns
returns c =
    let i = c.scene.inside in
    let ruled = c.push_rules.new.bytes.items in
    let asked = c.push_every.new.bytes.items in
    joined c.new-bytes.result.items ruled asked c.push_disks.new.bytes.items (rules_text i.rules) (every_text i.every)
    (ended (codes "disks = [") ++ (flat_map (row_line i.rules) i.disks.items ++ ended (codes "]")))
    c.new-bytes.ensures.items c.in_ok-push_rules.ensures c.in_ok-push_every.ensures
    (c.in_ok-push_disks.ensures
    ∙ ap (λ (v : List Disk). asked ++ (ended (codes "disks = [") ++ (flat_map (row_line i.rules) v ++ ended (codes "]"))))
    c.deref.ensures.value)
    ∙ ap canonical_text c.scene.view_is
