-- The places and the radii of entries go through 64 bits unchanged.
use Rattle.scene_reader.proofs.Placed.{entry_in_box, entries_distance}
use Rattle.scene_reader.proofs.overlaps.entries_overlap.Goals as goal

pub overlap-requires-clause-first : goal.overlap-requires-clause-first
overlap-requires-clause-first c =
    entry_in_box c.args.entry.now.along c.args.entry.now.across c.from-2.result c.from-3.result c.requires.entry.along c.requires.entry.across c.from-2.ensures c.from-3.ensures

pub overlap-requires-clause-second : goal.overlap-requires-clause-second
overlap-requires-clause-second c =
    entry_in_box c.args.other.now.along c.args.other.now.across c.from-4.result c.from-5.result c.requires.other.along c.requires.other.across c.from-4.ensures c.from-5.ensures

pub overlap-requires-clause-least : goal.overlap-requires-clause-least
overlap-requires-clause-least c =
    (entries_distance c.args.rules.now c.args.entry.now c.args.other.now c.from.result c.requires.checked c.requires.entry c.requires.other c.from.ensures).least

pub overlap-requires-clause-most : goal.overlap-requires-clause-most
overlap-requires-clause-most c =
    (entries_distance c.args.rules.now c.args.entry.now c.args.other.now c.from.result c.requires.checked c.requires.entry c.requires.other c.from.ensures).most
