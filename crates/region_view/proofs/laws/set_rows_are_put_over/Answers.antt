use Rattle.region_view.proofs.Puts.{set_rows_are_put_over}
use Rattle.region_view.proofs.laws.set_rows_are_put_over.Goals as goal

pub returns : goal.returns
returns c = set_rows_are_put_over
