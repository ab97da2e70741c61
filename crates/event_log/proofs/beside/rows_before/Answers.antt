use Rattle.std.proofs.Common.{sym, subst}
use Rattle.region_view.specs.Setting.{AreRows}
use Rattle.event_log.proofs.Near.{within_two, ordered_two}
use Rattle.event_log.proofs.beside.rows_before.Goals as goal

pub two-requires : goal.two-requires
two-requires c = record {
  order = ordered_two c.as_slice.result.now _
      (subst AreRows (sym c.as_slice.ensures.value) c.as_slice.ensures.rows) c.in-len2-up.len_at_least;
}

pub bounds-row-0 : goal.bounds-row-0
bounds-row-0 c = c.in-len1.len_at_least

pub bounds-first-0 : goal.bounds-first-0
bounds-first-0 c = within_two _ c.in-len2-up.len_at_least

pub bounds-second-1 : goal.bounds-second-1
bounds-second-1 c = c.in-len2-up.len_at_least
