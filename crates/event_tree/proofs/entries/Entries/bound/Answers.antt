-- The bound is that of the form that is in use.
use Rattle.std.proofs.Common.{ap, ◌∙◌}
use Rattle.event_tree.specs.Keys.{key_at}
use Rattle.event_tree.specs.Entries.{EntriesData}
use Rattle.event_tree.proofs.Forms.{of_wide, of_narrow}
use Rattle.event_tree.proofs.entries.Entries.bound.Goals as goal

pub returns-in-Some : goal.returns-in-Some
returns-in-Some c =
    c.bound.ensures ∙ ap (λ (d : EntriesData). key_at d.bounds c.args.disk)
    (of_wide c.self.inside.wide c.in-Some.wide c.self.inside.narrow c.args.self.now c.in-Some.is c.self.view_is)

pub returns-in-None : goal.returns-in-None
returns-in-None c =
    c.packed.ensures ∙ c.bound-in-None.ensures ∙ ap (λ (d : EntriesData). key_at d.bounds c.args.disk)
    (of_narrow c.self.inside.wide c.self.inside.narrow c.args.self.now c.in-None.is c.self.view_is)
