use Rattle.std.proofs.Common.{sym, ◌∙◌}
use Rattle.std.proofs.lemmas.Bool.{false≢true}
use Rattle.region_parts.proofs.aside.is_in_way.Goals as goal

pub returns-else-have_common : goal.returns-else-have_common
returns-else-have_common c = λ off. record {
  others = c.have_common.ensures c.if-have_common.false;
  later = c.is_one_touched.ensures off;
}

pub returns-then-have_common : goal.returns-then-have_common
returns-then-have_common c = λ off. absurd (false≢true (sym off ∙ c.if-have_common.true))
