-- The code is that of the packed bound.
use Rattle.std.proofs.Common.{◌≡◌, subst}
use Rattle.std.specs.Prelude.{IfSome}
use Rattle.event_tree.specs.Keys.{Key}
use Rattle.event_tree.proofs.entries.Entries.bound_code.Goals as goal

pub returns-in-Some : goal.returns-in-Some
returns-in-Some c = subst (λ (k : Key). IfSome c.of.result (λ code. code ≡ k)) c.bound.ensures c.of.ensures
