use Rattle.std.proofs.Common.{arith}
use Rattle.std.proofs.lemmas.Fmt.{length-decimal-le}
use Rattle.text_lines.proofs.TextLine.push_number.Goals as goal

pub push_digits-requires : goal.push_digits-requires
push_digits-requires c =
    omega (arith, c.requires, length-decimal-le 20 c.args.n (omega arith) (omega (arith, c.ranges.n.fits)) c.ranges.n.fits)

pub returns-clause-len : goal.returns-clause-len
returns-clause-len c =
    omega (arith, c.push_digits.ensures.len, length-decimal-le 20 c.args.n (omega arith) (omega (arith, c.ranges.n.fits)) c.ranges.n.fits)
