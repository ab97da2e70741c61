-- There is an entry for each disk in the room.
use Rattle.std.proofs.Common.{sym, ap, length, arith}
use Rattle.event_tree.specs.Entries.{EntriesData}
use Rattle.event_tree.proofs.Groups.{room_in, no_entry}
use Rattle.event_tree.proofs.table.Table.room.Goals as goal

pub returns-clause-all : goal.returns-clause-all
returns-clause-all g c = λ disk past.
    let room = room_in g.K.Rank.key c.self.inside.entries.items in
    let same = ap (λ (d : EntriesData). length d.keys) c.self.view_is in
    sym (no_entry g.K.Rank.key c.self.inside.entries.items c.args.self.now disk c.self.view_is
    (omega (arith, past, room, same, c.saturating_sub.ensures, c.len.ensures, c.self.inside.entries.ok.0)))
