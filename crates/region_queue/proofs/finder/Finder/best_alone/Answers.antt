-- The region owns the cell of the disk.
use Rattle.std.proofs.Common.{sym, subst}
use Rattle.std.specs.Prelude.{Option, Some}
use Rattle.std.proofs.lemmas.Bool.{both_ways}
use Rattle.event_stamps.specs.declared.Stamp.{Stamp}
use Rattle.event_stamps.specs.Least.{IsLeastOf}
use Rattle.cell_grid.specs.Later.{later_crossing}
use Rattle.region_view.proofs.First.{crossing_is_first}
use Rattle.region_queue.specs.Finding.{IsAloneAt}
use Rattle.region_queue.proofs.Candidates.{alone_owned}
use Rattle.region_queue.proofs.InRange.{alone_in_range}
use Rattle.region_queue.proofs.finder.Finder.best_alone.Goals as goal

pub leaving-requires-clause-checked : goal.leaving-requires-clause-checked
leaving-requires-clause-checked c = c.requires.ready.checked

pub leaving-requires-clause-grid : goal.leaving-requires-clause-grid
leaving-requires-clause-grid c = c.requires.ready.grid

pub leaving-requires-clause-valid : goal.leaving-requires-clause-valid
leaving-requires-clause-valid c = c.requires.ready.valid.disk c.args.disk c.args.placed.now c.requires.placed

pub leaving-requires-clause-cell : goal.leaving-requires-clause-cell
leaving-requires-clause-cell c = c.requires.ready.valid.cell c.args.disk c.args.placed.now c.requires.placed

pub new-requires-in-At : goal.new-requires-in-At
new-requires-in-At c =
    let valid = c.requires.ready.valid.disk c.args.disk c.args.placed.now c.requires.placed in
    alone_in_range c.args.self.now.rules c.args.self.now.grid c.args.disk c.args.placed.now (Some (later_crossing c.args.disk c.in-At.tick))
    c.requires.ready.checked valid
    (c.requires.ready.valid.number c.args.disk c.args.placed.now c.requires.placed)
    (crossing_is_first c.args.self.now.rules c.args.self.now.grid c.args.disk c.args.placed.now _ valid (c.in-At.ensures c.args.disk))

pub first_side-requires-clause-stays : goal.first_side-requires-clause-stays
first_side-requires-clause-stays c = c.in-Never.ensures c.args.disk

pub returns-in-At : goal.returns-in-At
returns-in-At c =
    let valid = c.requires.ready.valid.disk c.args.disk c.args.placed.now c.requires.placed in
    subst (λ (o : Option Stamp). IsLeastOf (IsAloneAt c.args.self.now c.args.disk c.args.placed.now) o) (sym c.new-in-At.ensures)
    (alone_owned c.args.self.now c.args.disk c.args.placed.now (Some (later_crossing c.args.disk c.in-At.tick)) (c.requires.own.0 c.if-not-own.false)
    (crossing_is_first c.args.self.now.rules c.args.self.now.grid c.args.disk c.args.placed.now _ valid (c.in-At.ensures c.args.disk)))

pub returns-in-Never : goal.returns-in-Never
returns-in-Never c =
    alone_owned c.args.self.now c.args.disk c.args.placed.now c.first_side.result (c.requires.own.0 c.if-not-own.false) c.first_side.ensures

pub returns-in-Unknown : goal.returns-in-Unknown
returns-in-Unknown c =
    alone_owned c.args.self.now c.args.disk c.args.placed.now c.first_by_parts.result (c.requires.own.0 c.if-not-own.false) c.first_by_parts.ensures

pub returns-then-not-own : goal.returns-then-not-own
returns-then-not-own c =
    subst (λ (o : Option Stamp). IsLeastOf (IsAloneAt c.args.self.now c.args.disk c.args.placed.now) o) (sym c.new.ensures)
    (λ s alone. both_ways c.args.own c.if-not-own.true (c.requires.own.1 alone.1))
