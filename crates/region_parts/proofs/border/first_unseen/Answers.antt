use Rattle.std.proofs.Common.{refl}
use Rattle.region_parts.proofs.border.first_unseen.Goals as goal

pub returns-else-home-eq0-clause-before : goal.returns-else-home-eq0-clause-before
returns-else-home-eq0-clause-before c = λ some. refl
