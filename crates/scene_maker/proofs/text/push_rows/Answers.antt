-- One row after another.
use Rattle.std.proofs.Common.{◌≡◌, ℕ, ◌+◌, ◌<◌, pos, List, ◌++◌, ◌∙◌, ap, sym, get_or, take, length}
use Rattle.std.proofs.lemmas.List.{flat_map_more, take_all, take_more}
use Rattle.std.specs.List.{flat_map}
use Rattle.fixed_motion.specs.declared.disk.Disk.{Disk}
use Rattle.scene_maker.specs.Canonical.{row_line}
use Rattle.scene_maker.proofs.text.push_rows.Goals as goal

one_row_more : (row : Disk → List ℕ) (disks : List Disk) (i : ℕ) (d : Disk) (start before after : List ℕ) → i < length disks →
    before ≡ start ++ flat_map row (take i disks) → after ≡ before ++ row (get_or disks i d) →
    after ≡ start ++ flat_map row (take (i + 1) disks)
one_row_more row disks i d start before after within so_far more =
    more ∙ ap (λ (v : List ℕ). v ++ row (get_or disks i d)) so_far
    ∙ flat_map_more row start (take i disks) (get_or disks i d)
    ∙ ap (λ (v : List Disk). start ++ flat_map row v) (sym (take_more disks i d within))

abbrev no_disk : Disk
no_disk = record { x = pos 0; y = pos 0; vx = pos 0; vy = pos 0; size = pos 0; base = 0; mark = 0 }

pub loop-disk-preserved : goal.loop-disk-preserved
loop-disk-preserved c =
    one_row_more (row_line c.args.rules.now) c.args.disks.now c.loop-disk.disk-index no_disk c.args.bytes.now.items
    c.loop-disk.bytes.items c.push_row.new.bytes.items c.loop-disk-test.true c.loop-disk.invariant c.in_ok-push_row.ensures

pub returns : goal.returns
returns c =
    c.loop-disk.invariant
    ∙ ap (λ (v : List Disk). c.args.bytes.now.items ++ flat_map (row_line c.args.rules.now) v)
    (take_all c.loop-disk.disk-index c.args.disks.now c.loop-disk-test.false)
