use Rattle.commit_horizon.proofs.Rows.{one_list_of_rows}
use Rattle.commit_horizon.proofs.laws.one_list_of_rows.Goals as goal

pub returns : goal.returns
returns c = one_list_of_rows
