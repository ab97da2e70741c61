-- The region owns the cell of the disk.
use Rattle.std.proofs.Common.{◌≡◌, arith, sym, subst, ◌∙◌}
use Rattle.std.specs.Prelude.{Option, Some}
use Rattle.std.proofs.lemmas.Bool.{both_ways}
use Rattle.event_stamps.specs.declared.Stamp.{Stamp}
use Rattle.event_stamps.specs.Least.{IsLeastOf, HasNone}
use Rattle.cell_grid.specs.Crossing.{IsCrossEvent}
use Rattle.cell_grid.specs.Later.{later_crossing}
use Rattle.region_view.specs.declared.action.Placed.{Placed}
use Rattle.region_view.specs.Events.{IsAlone}
use Rattle.region_view.specs.Views.{rows_in}
use Rattle.region_view.proofs.First.{crossing_is_first}
use Rattle.region_queue.specs.Finding.{IsAloneAt}
use Rattle.region_queue.proofs.Candidates.{alone_owned}
use Rattle.region_queue.proofs.Low.{told}
use Rattle.region_queue.proofs.finder.Finder.code_alone.Goals as goal

pub leaving-requires-clause-checked : goal.leaving-requires-clause-checked
leaving-requires-clause-checked c = c.requires.subject.ready.checked

pub leaving-requires-clause-grid : goal.leaving-requires-clause-grid
leaving-requires-clause-grid c = c.requires.subject.ready.grid

pub leaving-requires-clause-valid : goal.leaving-requires-clause-valid
leaving-requires-clause-valid c = c.requires.subject.ready.valid.disk c.args.disk c.args.placed.now c.requires.subject.placed

pub leaving-requires-clause-cell : goal.leaving-requires-clause-cell
leaving-requires-clause-cell c = c.requires.subject.ready.valid.cell c.args.disk c.args.placed.now c.requires.subject.placed

pub crossing-requires-clause-tick : goal.crossing-requires-clause-tick
crossing-requires-clause-tick c =
    let before = (c.in-At.ensures c.args.disk).0.1 in
    omega (arith, before, c.requires.codes)

pub crossing-requires-clause-disk : goal.crossing-requires-clause-disk
crossing-requires-clause-disk c = c.requires.subject.ready.valid.number c.args.disk c.args.placed.now c.requires.subject.placed

pub code_of_side-requires-clause-stays : goal.code_of_side-requires-clause-stays
code_of_side-requires-clause-stays c = λ p at.
    let same : Some c.args.placed.now ≡ Some p = sym c.requires.subject.placed ∙ at in
    let is : c.args.placed.now ≡ p = (let e = same in cc) in
    subst (λ (q : Placed). HasNone (IsCrossEvent c.args.self.now.rules c.args.self.now.grid c.args.disk q.disk q.cell)) is (c.in-Never.ensures c.args.disk)

pub returns-in-At : goal.returns-in-At
returns-in-At c =
    let valid = c.requires.subject.ready.valid.disk c.args.disk c.args.placed.now c.requires.subject.placed in
    subst (λ (o : Option Stamp). IsLeastOf (IsAloneAt c.args.self.now c.args.disk c.args.placed.now) o) (sym c.crossing.ensures)
    (alone_owned c.args.self.now c.args.disk c.args.placed.now (Some (later_crossing c.args.disk c.in-At.tick)) (c.requires.subject.own.0 c.if-not-own.false)
    (crossing_is_first c.args.self.now.rules c.args.self.now.grid c.args.disk c.args.placed.now _ valid (c.in-At.ensures c.args.disk)))

pub returns-in-Never : goal.returns-in-Never
returns-in-Never c =
    told (λ key. (p : Placed) → rows_in c.args.view.now c.args.disk ≡ Some p → IsLeastOf (IsAlone c.args.self.now.rules c.args.self.now.grid c.args.disk p) key)
    (IsLeastOf (IsAloneAt c.args.self.now c.args.disk c.args.placed.now)) c.code_of_side.result c.code_of_side.ensures
    (λ key least. alone_owned c.args.self.now c.args.disk c.args.placed.now key (c.requires.subject.own.0 c.if-not-own.false)
    (least c.args.placed.now c.requires.subject.placed))

pub returns-in-Unknown : goal.returns-in-Unknown
returns-in-Unknown c =
    told (λ key. (p : Placed) → rows_in c.args.view.now c.args.disk ≡ Some p → IsLeastOf (IsAlone c.args.self.now.rules c.args.self.now.grid c.args.disk p) key)
    (IsLeastOf (IsAloneAt c.args.self.now c.args.disk c.args.placed.now)) c.code_by_parts.result c.code_by_parts.ensures
    (λ key least. alone_owned c.args.self.now c.args.disk c.args.placed.now key (c.requires.subject.own.0 c.if-not-own.false)
    (least c.args.placed.now c.requires.subject.placed))

pub returns-then-not-own : goal.returns-then-not-own
returns-then-not-own c =
    subst (λ (o : Option Stamp). IsLeastOf (IsAloneAt c.args.self.now c.args.disk c.args.placed.now) o) (sym c.none.ensures)
    (λ s alone. both_ways c.args.own c.if-not-own.true (c.requires.subject.own.1 alone.1))
