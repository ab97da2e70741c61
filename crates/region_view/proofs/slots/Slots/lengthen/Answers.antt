use Rattle.std.proofs.Common.{◌+◌, ◌≤◌, length, ap, ◌∙◌, arith}
use Rattle.region_view.specs.Slots.{SlotList, slot_at}
use Rattle.region_view.proofs.Added.{lengthened}
use Rattle.region_view.proofs.slots.Slots.lengthen.Goals as goal

pub invariant_of-self : goal.invariant_of-self
invariant_of-self c =
    let rows = c.self.inside.rows in
    let past : length rows.items ≤ c.args.number + 1 = rw c.self.view_is (omega arith) in
    let more = lengthened c.resize.result rows.items c.resize.new.self.items c.args.number rows.len c.none.result rows.ok.0
    c.none.ensures c.resize.ensures.items past (omega arith) c.self.invariant in
    more.few

pub returns-clause-same : goal.returns-clause-same
returns-clause-same c = λ i.
    let rows = c.self.inside.rows in
    let past : length rows.items ≤ c.args.number + 1 = rw c.self.view_is (omega arith) in
    let more = lengthened c.resize.result rows.items c.resize.new.self.items c.args.number rows.len c.none.result rows.ok.0
    c.none.ensures c.resize.ensures.items past (omega arith) c.self.invariant in
    more.same i ∙ ap (λ (slots : SlotList). slot_at slots i) c.self.view_is

pub returns-clause-more : goal.returns-clause-more
returns-clause-more c =
    let rows = c.self.inside.rows in
    let past : length rows.items ≤ c.args.number + 1 = rw c.self.view_is (omega arith) in
    let more = lengthened c.resize.result rows.items c.resize.new.self.items c.args.number rows.len c.none.result rows.ok.0
    c.none.ensures c.resize.ensures.items past (omega arith) c.self.invariant in
    rw (← c.self.view_is) more.more

pub returns-clause-room : goal.returns-clause-room
returns-clause-room c =
    let rows = c.self.inside.rows in
    let past : length rows.items ≤ c.args.number + 1 = rw c.self.view_is (omega arith) in
    let more = lengthened c.resize.result rows.items c.resize.new.self.items c.args.number rows.len c.none.result rows.ok.0
    c.none.ensures c.resize.ensures.items past (omega arith) c.self.invariant in
    more.room
