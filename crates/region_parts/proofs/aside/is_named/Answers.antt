use Rattle.std.proofs.Common.{sym, subst}
use Rattle.event_stamps.specs.declared.Stamp.{Stamp}
use Rattle.region_view.specs.Naming.{Names}
use Rattle.local_run.specs.declared.entry.Entry.{Entry}
use Rattle.local_run.specs.Weaving.{HasDisk}
use Rattle.region_parts.proofs.aside.is_named.Goals as goal

pub returns-in-Native : goal.returns-in-Native
returns-in-Native c = λ off i has. c.names_any.ensures off i
    (subst (λ (s : Stamp). Names s i) (sym c.stamp.ensures)
    (subst (λ (e : Entry). HasDisk e i) c.in-Native.is has))

pub returns-in-Heard : goal.returns-in-Heard
returns-in-Heard c = λ off i has. c.have_common.ensures off i
    (subst (λ (e : Entry). HasDisk e i) c.in-Heard.is has)
