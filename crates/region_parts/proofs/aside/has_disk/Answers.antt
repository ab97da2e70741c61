use Rattle.std.proofs.Common.{slice_get, ◌∙◌, sym, Option, subst}
use Rattle.event_log.specs.Logged.{entries_in}
use Rattle.region_parts.proofs.Hindrances.{named_at}
use Rattle.std.specs.Prelude.{IfSome}
use Rattle.local_run.specs.declared.entry.Entry.{Entry}
use Rattle.local_run.specs.Weaving.{IsApart}
use Rattle.region_parts.proofs.aside.has_disk.Goals as goal

pub returns-in-Some : goal.returns-in-Some
returns-in-Some c = λ off. named_at c.args.rows.now (slice_get (entries_in c.args.log.now) c.args.i) c.in-Some.stamp
    (sym c.in-Some.is ∙ c.native_stamp.ensures) (c.names_any.ensures off)

pub returns-in-None : goal.returns-in-None
returns-in-None c = λ off. subst (λ (o : Option Entry). IfSome o (IsApart c.args.rows.now)) (sym c.entry.ensures) (c.is_named.ensures off)
