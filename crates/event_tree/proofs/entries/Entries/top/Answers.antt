-- The least key is that of the form that is in use.
use Rattle.std.proofs.Common.{sym, subst}
use Rattle.event_tree.specs.Keys.{Key, IsLeastKey}
use Rattle.event_tree.specs.Entries.{EntriesData}
use Rattle.event_tree.proofs.Forms.{of_wide, of_narrow}
use Rattle.event_tree.proofs.entries.Entries.top.Goals as goal

pub returns-in-Some : goal.returns-in-Some
returns-in-Some c =
    subst (λ (d : EntriesData). IsLeastKey d.keys c.top.result)
    (of_wide c.self.inside.wide c.in-Some.wide c.self.inside.narrow c.args.self.now c.in-Some.is c.self.view_is) c.top.ensures

pub returns-in-None : goal.returns-in-None
returns-in-None c =
    subst (λ (d : EntriesData). IsLeastKey d.keys c.packed.result)
    (of_narrow c.self.inside.wide c.self.inside.narrow c.args.self.now c.in-None.is c.self.view_is)
    (subst (λ (key : Key). IsLeastKey c.self.inside.narrow.keys key) (sym c.packed.ensures) c.top-in-None.ensures)
