use Rattle.std.proofs.Common.{◌≡◌, ◌++◌, drop, take}
use Rattle.region_table.proofs.order.turn.Given as goal

abbrev pub invariant-loop : goal.invariant-loop
invariant-loop l = (l.token.table_id ≡ l.fn.token.table_id) × (l.token.id ≡ l.fn.token.id) × (l.token.me ≡ (l.fn.token.me.0, drop l.counter l.fn.token.me.1 ++ take l.counter l.fn.token.me.1))
