-- A bit is set, or none is.
use Rattle.cell_lists.proofs.Bits.{set_place}
use Rattle.cell_lists.proofs.places.Places.with.Goals as goal

pub returns : goal.returns
returns c = λ p. set_place c.args.self.bits c.args.place c.args.is_one p c.requires
