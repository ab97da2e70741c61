use Rattle.std.proofs.Common.{sym, ap}
use Rattle.local_run.specs.Entries.{entry_stamp}
use Rattle.local_run.proofs.entry.Entry.stamp.Goals as goal

pub returns-in-Heard : goal.returns-in-Heard
returns-in-Heard c = sym (ap entry_stamp c.in-Heard.is)
