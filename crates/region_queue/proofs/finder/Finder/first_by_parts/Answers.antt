use Rattle.std.proofs.Common.{sym, subst}
use Rattle.std.specs.Prelude.{Option}
use Rattle.event_stamps.specs.declared.Stamp.{Stamp}
use Rattle.event_stamps.specs.Least.{IsLeastOf}
use Rattle.region_view.specs.Events.{IsAlone}
use Rattle.region_queue.proofs.InRange.{alone_in_range}
use Rattle.region_queue.proofs.finder.Finder.first_by_parts.Goals as goal

pub first_alone-requires-clause-checked : goal.first_alone-requires-clause-checked
first_alone-requires-clause-checked c = c.requires.ready.checked

pub first_alone-requires-clause-grid : goal.first_alone-requires-clause-grid
first_alone-requires-clause-grid c = c.requires.ready.grid

pub first_alone-requires-clause-valid : goal.first_alone-requires-clause-valid
first_alone-requires-clause-valid c = c.requires.ready.valid.disk c.args.disk c.args.placed.now c.requires.placed

pub first_alone-requires-clause-cell : goal.first_alone-requires-clause-cell
first_alone-requires-clause-cell c = c.requires.ready.valid.cell c.args.disk c.args.placed.now c.requires.placed

pub new-requires : goal.new-requires
new-requires c =
    alone_in_range c.args.self.now.rules c.args.self.now.grid c.args.disk c.args.placed.now c.first_alone.result c.requires.ready.checked
    (c.requires.ready.valid.disk c.args.disk c.args.placed.now c.requires.placed)
    (c.requires.ready.valid.number c.args.disk c.args.placed.now c.requires.placed) c.first_alone.ensures

pub returns : goal.returns
returns c =
    subst (λ (o : Option Stamp). IsLeastOf (IsAlone c.args.self.now.rules c.args.self.now.grid c.args.disk c.args.placed.now) o)
    (sym c.new.ensures) c.first_alone.ensures
