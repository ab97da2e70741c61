use Rattle.std.proofs.Common.{ap}
use Rattle.event_stamps.specs.declared.Stamp.{Stamp}
use Rattle.event_stamps.proofs.Stamp.end_of.Goals as goal

pub returns : goal.returns
returns c = ap (λ (s : Stamp). record { tick = c.args.end; round = s.round; kind = s.kind; first = s.first; second = s.second }) c.first_of_all.ensures
