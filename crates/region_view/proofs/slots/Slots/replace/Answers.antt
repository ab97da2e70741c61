use Rattle.region_view.proofs.Added.{few_still}
use Rattle.region_view.proofs.slots.Slots.replace.Goals as goal

pub invariant_of-self : goal.invariant_of-self
invariant_of-self c = rw (c.replace.ensures.after, c.new.ensures, c.as_ref.ensures.value)
    (few_still c.self.inside.rows.items c.args.number c.args.row c.self.invariant)
