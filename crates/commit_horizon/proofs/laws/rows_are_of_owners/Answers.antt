use Rattle.commit_horizon.proofs.Rows.{rows_are_of_owners}
use Rattle.commit_horizon.proofs.laws.rows_are_of_owners.Goals as goal

pub returns : goal.returns
returns c = rows_are_of_owners
