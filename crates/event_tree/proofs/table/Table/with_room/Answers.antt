-- All entries begin blank, and those of the disks are copied one by one.
use Rattle.std.proofs.Common.{◌<◌, ◌+◌, ◌*◌, ◌/◌, ◌∙◌, sym, length, arith, inl, inr}
use Rattle.event_tree.specs.Keys.{Key}
use Rattle.event_tree.specs.declared.table.Entry.{Entry}
use Rattle.event_tree.proofs.Trees.{below_or_not}
use Rattle.event_tree.proofs.Groups.{blank_led, blank_room, blank_entries, within, entry_of_disk, entered_more, entered_free, same_entry}
use Rattle.event_tree.proofs.table.Table.with_room.Goals as goal

pub invariant_of-wider : goal.invariant_of-wider
invariant_of-wider g c =
    let blank : Entry _ = record { key = c.none.result; bound = c.none-2.result } in
    blank_led g.K.Rank.key c.in_ok-vec.field-0.items c.in_ok-with_room.field-0 ((c.args.room + 3) / 4) blank (omega (arith, c.requires.most))
    (c.in_ok-vec.ensures.items_if_clones_equal
    (λ y same. same_entry g.K.Rank.key blank y (g.met.K.Rank.clones _ y.key same.0) (g.met.K.Rank.clones _ y.bound same.1))) c.none.ensures c.in_ok-with_room.ensures

pub loop-disk-init : goal.loop-disk-init
loop-disk-init g c =
    let blank : Entry _ = record { key = c.none.result; bound = c.none-2.result } in
    let entries = c.in_ok-vec.field-0.items in
    let many = 4 * ((c.args.room + 3) / 4) in
    let is = c.in_ok-vec.ensures.items_if_clones_equal
    (λ y same. same_entry g.K.Rank.key blank y (g.met.K.Rank.clones _ y.key same.0) (g.met.K.Rank.clones _ y.bound same.1)) in
    let room = blank_room g.K.Rank.key entries many blank is in
    record {
      enough = omega (arith, room);
      copied = λ i lt. absurd (omega (arith, lt));
      free = λ i le. blank_entries g.K.Rank.key entries (many + 3) blank is c.none.ensures c.none-2.ensures i;
    }

pub index-requires : goal.index-requires
index-requires g c =
    let inside = within g.K.Rank.key c.self.inside.entries.items c.args.self.now c.loop-disk.disk c.self.view_is
    (omega (arith, c.loop-disk-test.true, c.room-disk-end.ensures.value)) in
    omega (arith, c.self.inside.entries.ok.0, inside)

pub loop-disk-preserved : goal.loop-disk-preserved
loop-disk-preserved g c =
    let disk = c.loop-disk.disk in
    let old = c.args.self.now in
    let entry = c.index.result.now in
    let lt : disk < length old.keys = omega (arith, c.loop-disk-test.true, c.room-disk-end.ensures.value) in
    let held = c.loop-disk.invariant in
    let put : Key × Key = (g.K.Rank.key entry.key, g.K.Rank.key entry.bound) in
    record {
      enough = omega (arith, held.enough, c.put.ensures.room);
      copied = entered_more old c.loop-disk.wider c.put.new.self disk put
          (entry_of_disk g.K.Rank.key c.self.inside.entries.items old disk entry c.self.view_is lt c.index.ensures) held.copied
          c.put.ensures.entered;
      free = entered_free c.loop-disk.wider c.put.new.self disk put held.free c.put.ensures.entered;
    }

pub returns : goal.returns
returns g c =
    let held = c.loop-disk.invariant in
    record {
      enough = held.enough;
      same = λ disk. elim (below_or_not disk c.loop-disk.disk) [
        | inl lt ↦ held.copied disk lt
        | inr ge ↦ held.free disk ge
            ∙ sym (c.room-disk-end.ensures.all disk (omega (arith, ge, c.loop-disk-test.false)))
      ];
    }
