use Rattle.std.proofs.Common.{◌≡◌, ◌≤◌, ap, sym, ◌∙◌, true, Some, length, rules, arith}
use Rattle.event_log.specs.Logged.{sets}
use Rattle.event_log.proofs.Undone.{back_sets, found_at, none_found}
use Rattle.event_log.proofs.processed.EventLog.first_row.Goals as goal

pub row_of-requires : goal.row_of-requires
row_of-requires c =
    let is : sets c.args.disk c.back.result ≡ true = back_sets c.args.disk c.loop-i.i c.args.self.now c.back.result
    (c.sets.ensures ∙ ap Some c.if-sets.true) c.back.ensures in
    search rules

pub returns-then-sets : goal.returns-then-sets
returns-then-sets c =
    c.row_of.ensures
    ∙ sym (found_at c.args.newest.now c.args.disk c.loop-i.i c.args.self.now c.back.result c.loop-i.invariant
    (c.sets.ensures ∙ ap Some c.if-sets.true) c.back.ensures)

pub returns : goal.returns
returns c =
    let end : length c.args.self.now ≤ c.loop-i.i = omega arith in
    c.get.ensures
    ∙ sym (none_found c.args.newest.now c.args.disk c.loop-i.i c.args.self.now end c.loop-i.invariant)
