-- The tests before the call are what it requires.
use Rattle.std.proofs.Common.{◌≤◌, subst}
use Rattle.std.specs.Prelude.{nat_abs}
use Rattle.cell_tests.proofs.tests.contacts.contact_of.Goals as goal

pub contact-requires-clause-rx_size : goal.contact-requires-clause-rx_size
contact-requires-clause-rx_size c = (c.is_near.ensures c.if-not-is_near.false).x

pub contact-requires-clause-ry_size : goal.contact-requires-clause-ry_size
contact-requires-clause-ry_size c = (c.is_near.ensures c.if-not-is_near.false).y

pub contact-requires-clause-ux_size : goal.contact-requires-clause-ux_size
contact-requires-clause-ux_size c = (c.is_near-2.ensures c.if-not-is_near-2.false).x

pub contact-requires-clause-uy_size : goal.contact-requires-clause-uy_size
contact-requires-clause-uy_size c = (c.is_near-2.ensures c.if-not-is_near-2.false).y

pub contact-requires-clause-rx_later : goal.contact-requires-clause-rx_later
contact-requires-clause-rx_later c =
    subst (λ v. nat_abs v.x ≤ 1073741824) c.after-later.ensures (c.is_near-3.ensures c.if-not-is_near-3.false).x

pub contact-requires-clause-ry_later : goal.contact-requires-clause-ry_later
contact-requires-clause-ry_later c =
    subst (λ v. nat_abs v.y ≤ 1073741824) c.after-later.ensures (c.is_near-3.ensures c.if-not-is_near-3.false).y
