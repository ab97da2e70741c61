use Rattle.std.proofs.lemmas.Bool.Decides.{Decides-and}
use Rattle.event_rules.proofs.contact_ticks.are_inside_at.Goals as goal

pub returns : goal.returns
returns c = Decides-and _ _ c.is_inside_at.ensures c.is_inside_at-2.ensures
