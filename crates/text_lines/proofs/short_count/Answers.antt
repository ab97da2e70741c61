use Rattle.std.proofs.Common.{◌+◌, ◌∙◌, sym, ap, arith, ℕ}
use Rattle.itoa.proofs.Decimal.{length_one, length_two, length_pair}
use Rattle.text_lines.proofs.short_count.Goals as goal

pub returns-then-n-lt10-clause-value : goal.returns-then-n-lt10-clause-value
returns-then-n-lt10-clause-value c = sym (length_one c.args.n c.if-n-lt10.true)

pub returns-then-n-lt100-clause-value : goal.returns-then-n-lt100-clause-value
returns-then-n-lt100-clause-value c = sym (length_two c.args.n c.if-n-lt10.false c.if-n-lt100.true)

pub returns-then-n-lt1000-clause-value : goal.returns-then-n-lt1000-clause-value
returns-then-n-lt1000-clause-value c =
    sym (length_pair c.args.n c.if-n-lt100.false c.ranges.n.fits
    ∙ ap (λ (k : ℕ). k + 2) (length_one _ (omega (arith, c.if-n-lt1000.true))))

pub returns-else-n-lt1000-clause-value : goal.returns-else-n-lt1000-clause-value
returns-else-n-lt1000-clause-value c =
    sym (length_pair c.args.n c.if-n-lt100.false c.ranges.n.fits
    ∙ ap (λ (k : ℕ). k + 2) (length_two _ (omega (arith, c.if-n-lt1000.false)) (omega (arith, c.requires))))
