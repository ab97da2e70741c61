-- The disk is listed again, and its key is taken with what was known of its old cell.
use Rattle.std.proofs.Common.{◌≡◌, [], subst, ap}
use Rattle.std.specs.FinMap as map
use Rattle.std.specs.Prelude.{IfSome, OnOk}
use Rattle.cell_grid.specs.Grid.{GridData, IsCell}
use Rattle.region_view.specs.Views.{ViewData}
use Rattle.region_queue.specs.declared.finder.Finder.{Finder}
use Rattle.region_queue.specs.Finding.{AreListed, IsFound, cell_in}
use Rattle.region_queue.specs.Covering.{Covers}
use Rattle.region_queue.specs.Queue.{QueueData, queue_of, StandsFor}
use Rattle.region_view.specs.Naming.{IsMoved}
use Rattle.region_queue.proofs.Again.{on_ok, again_none, relisted_more}
use Rattle.region_queue.proofs.Standing.{cells_listed, ready_again, sound_again, stands_settled, stands_moved}
use Rattle.region_queue.proofs.queue.Queue.crossed.Goals as goal

pub returns-clause-stands : goal.returns-clause-stands
returns-clause-stands c =
    let finder : Finder = record {
      rules = c.self.inside.finder.rules;
      grid = c.self.inside.finder.grid;
      region = c.self.inside.finder.region;
      strip = c.self.inside.finder.strip;
      lists = c.list_one.new.lists;
    } in
    let was = c.self.inside.finder.lists.cells in
    let old = c.self.inside.keys in
    let mid = c.take_crossed.new.keys in
    let new = c.settle.new.keys in
    let disk = c.args.disk in
    let view = c.args.view.now in
    let queue = queue_of finder.rules finder.grid finder.region was old.keys old.bounds in
    let again = queue_of finder.rules finder.grid finder.region finder.lists.cells new.keys new.bounds in
    subst (λ (q : QueueData). OnOk c.settle.result ((before : ViewData) → StandsFor q before → IsMoved disk before view → StandsFor again view))
    c.self.view_is
    (on_ok c.settle.result
    (AreListed view finder.lists.cells → Covers (IsFound finder view) mid.keys mid.bounds → StandsFor again view)
    ((before : ViewData) → StandsFor queue before → IsMoved disk before view → StandsFor again view)
    (λ once before stands moved.
    let is =
    stands_moved finder before view was disk c.cell_of-cell.result old mid
    (relisted_more view [] disk was was c.list_one.new.lists.cells (again_none (λ i o. o ≡ cell_in view i) (map.get was))
    c.in_ok-list_one.ensures.listed)
    c.cell_of-cell.ensures.value c.in_ok-take_crossed.ensures moved stands in
    once is.0 is.1)
    (stands_settled c.settle.result finder view mid new c.settle.ensures))

pub settle-requires : goal.settle-requires
settle-requires c =
    let finder : Finder = record {
      rules = c.self.inside.finder.rules;
      grid = c.self.inside.finder.grid;
      region = c.self.inside.finder.region;
      strip = c.self.inside.finder.strip;
      lists = c.list_one.new.lists;
    } in
    ready_again finder c.args.view.now c.self.inside.finder.lists.grid c.list_one.ensures.grid c.self.invariant
    (rw (← c.self.view_is) at c.requires.valid)

pub take_crossed-requires-clause-ready : goal.take_crossed-requires-clause-ready
take_crossed-requires-clause-ready c =
    let finder : Finder = record {
      rules = c.self.inside.finder.rules;
      grid = c.self.inside.finder.grid;
      region = c.self.inside.finder.region;
      strip = c.self.inside.finder.strip;
      lists = c.list_one.new.lists;
    } in
    ready_again finder c.args.view.now c.self.inside.finder.lists.grid c.list_one.ensures.grid c.self.invariant
    (rw (← c.self.view_is) at c.requires.valid)

pub invariant_of-self-2 : goal.invariant_of-self-2
invariant_of-self-2 c =
    sound_again c.self.inside.finder.rules c.self.inside.finder.grid c.self.inside.finder.region c.self.inside.finder.strip
    c.self.inside.finder.lists.grid c.list_one.new.lists.grid c.list_one.ensures.grid c.self.invariant

pub invariant_of-self-in_err-take_crossed : goal.invariant_of-self-in_err-take_crossed
invariant_of-self-in_err-take_crossed c =
    sound_again c.self.inside.finder.rules c.self.inside.finder.grid c.self.inside.finder.region c.self.inside.finder.strip
    c.self.inside.finder.lists.grid c.list_one.new.lists.grid c.list_one.ensures.grid c.self.invariant

pub list_one-requires : goal.list_one-requires
list_one-requires c =
    cells_listed c.self.inside.finder.rules c.self.inside.finder.grid c.self.inside.finder.lists.grid c.args.view.now
    c.self.invariant.lists (rw (← c.self.view_is) at c.requires.valid)

pub invariant_of-self : goal.invariant_of-self
invariant_of-self c =
    sound_again c.self.inside.finder.rules c.self.inside.finder.grid c.self.inside.finder.region c.self.inside.finder.strip
    c.self.inside.finder.lists.grid c.list_one.new.lists.grid c.list_one.ensures.grid c.self.invariant

pub take_crossed-requires-clause-cell : goal.take_crossed-requires-clause-cell
take_crossed-requires-clause-cell c =
    subst (λ (grid : GridData). IfSome c.cell_of-cell.result (IsCell grid)) c.self.invariant.lists c.cell_of-cell.ensures.cell

pub returns-clause-same : goal.returns-clause-same
returns-clause-same c = record {
  rules = ap (λ (q : QueueData). q.rules) c.self.view_is;
  grid = ap (λ (q : QueueData). q.grid) c.self.view_is;
  region = ap (λ (q : QueueData). q.region) c.self.view_is;
}

pub returns-in_err-take_crossed-clause-same : goal.returns-in_err-take_crossed-clause-same
returns-in_err-take_crossed-clause-same c = record {
  rules = ap (λ (q : QueueData). q.rules) c.self.view_is;
  grid = ap (λ (q : QueueData). q.grid) c.self.view_is;
  region = ap (λ (q : QueueData). q.region) c.self.view_is;
}
