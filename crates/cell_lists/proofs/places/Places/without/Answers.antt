-- A bit is cleared.
use Rattle.std.proofs.Common.{◌^◌, ◌<◌}
use Rattle.cell_lists.proofs.Bits.{clear_place}
use Rattle.cell_lists.proofs.places.Places.without.Goals as goal

pub returns : goal.returns
returns c = let fits : c.args.self.bits < 2 ^ 32 = search in λ p. clear_place c.args.self.bits c.args.place p fits c.requires
