-- A disk with no crossing first hits a side.
use Rattle.std.proofs.Common.{sym, subst}
use Rattle.std.specs.Prelude.{Option}
use Rattle.event_stamps.specs.declared.Stamp.{Stamp}
use Rattle.event_stamps.specs.Least.{IsLeastOf}
use Rattle.region_view.specs.Events.{IsAlone}
use Rattle.region_view.proofs.First.{wall_is_first}
use Rattle.region_queue.proofs.InRange.{alone_in_range}
use Rattle.region_queue.proofs.finder.Finder.first_side.Goals as goal

pub first_wall-requires-clause-checked : goal.first_wall-requires-clause-checked
first_wall-requires-clause-checked c = c.requires.ready.checked

pub first_wall-requires-clause-valid : goal.first_wall-requires-clause-valid
first_wall-requires-clause-valid c = c.requires.ready.valid.disk c.args.disk c.args.placed.now c.requires.placed

pub new-requires : goal.new-requires
new-requires c =
    alone_in_range c.args.self.now.rules c.args.self.now.grid c.args.disk c.args.placed.now c.first_wall.result c.requires.ready.checked
    (c.requires.ready.valid.disk c.args.disk c.args.placed.now c.requires.placed)
    (c.requires.ready.valid.number c.args.disk c.args.placed.now c.requires.placed)
    (wall_is_first c.args.self.now.rules c.args.self.now.grid c.args.disk c.args.placed.now c.first_wall.result
    c.requires.stays c.first_wall.ensures)

pub returns : goal.returns
returns c =
    subst (λ (o : Option Stamp). IsLeastOf (IsAlone c.args.self.now.rules c.args.self.now.grid c.args.disk c.args.placed.now) o)
    (sym c.new.ensures)
    (wall_is_first c.args.self.now.rules c.args.self.now.grid c.args.disk c.args.placed.now c.first_wall.result
    c.requires.stays c.first_wall.ensures)
