-- The lowest bit of a word that isn't 0 is at the end of its zeros.
use Rattle.std.proofs.Common.{◌<◌, arith}
use Rattle.std.specs.Int.{w32}
use Rattle.std.proofs.lemmas.Nat.Bits.{bit_at-trailing_zeros}
use Rattle.cell_lists.proofs.places.Places.first.Goals as goal

pub returns-else-bits-eq0 : goal.returns-else-bits-eq0
returns-else-bits-eq0 c =
    let some : 0 < c.args.self.bits = grind (arith, c.if-bits-eq0.false) in (bit_at-trailing_zeros w32 c.args.self.bits some (search)).1
