use Rattle.region_table.proofs.Slots.{held_first, held_second, held_alone, without_first, without_second, without_alone}
use Rattle.region_table.proofs.job.TableJob.hear.Goals as goal

-- ---- the hearer was taken out first
pub hear_out-requires-clause-hearer : goal.hear_out-requires-clause-hearer
hear_out-requires-clause-hearer g c κs within =
    held_second c.args.from c.args.hearer _ c.in-Some.ensures.out.2

pub hear_out-requires-clause-from : goal.hear_out-requires-clause-from
hear_out-requires-clause-from g c κs within =
    held_alone c.args.from _ (without_second c.args.from c.args.hearer _ c.in-Some.ensures.out.2 c.requires.apart)

pub hear_out-requires-clause-both : goal.hear_out-requires-clause-both
hear_out-requires-clause-both g c κs within =
    without_alone c.args.from _ (without_second c.args.from c.args.hearer _ c.in-Some.ensures.out.2 c.requires.apart)

-- ---- the other was
pub hear_out-requires-else-hearer-from-clause-hearer : goal.hear_out-requires-else-hearer-from-clause-hearer
hear_out-requires-else-hearer-from-clause-hearer g c κs within =
    held_first c.args.hearer c.args.from _ c.in-Some-take_both.ensures.out.2

pub hear_out-requires-else-hearer-from-clause-from : goal.hear_out-requires-else-hearer-from-clause-from
hear_out-requires-else-hearer-from-clause-from g c κs within = held_alone c.args.from _
    (without_first c.args.hearer c.args.from _ c.in-Some-take_both.ensures.out.2 c.requires.apart)

pub hear_out-requires-else-hearer-from-clause-both : goal.hear_out-requires-else-hearer-from-clause-both
hear_out-requires-else-hearer-from-clause-both g c κs within = without_alone c.args.from _
    (without_first c.args.hearer c.args.from _ c.in-Some-take_both.ensures.out.2 c.requires.apart)
