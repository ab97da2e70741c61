use Rattle.region_view.proofs.Told.{messages_are_faithful}
use Rattle.region_view.proofs.laws.messages_are_faithful.Goals as goal

pub returns : goal.returns
returns c = messages_are_faithful
