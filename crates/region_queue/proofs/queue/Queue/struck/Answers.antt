-- Both disks are listed in the cells in which they were, and their keys are taken again.
use Rattle.std.proofs.Common.{[], ◌∷◌, subst, ap, refl}
use Rattle.std.specs.Prelude.{OnOk}
use Rattle.region_view.specs.Views.{ViewData}
use Rattle.region_view.specs.Naming.{IsSameBut}
use Rattle.region_queue.specs.Finding.{KeepCells, AreListed, IsFound}
use Rattle.region_queue.specs.Covering.{Covers}
use Rattle.region_queue.specs.Queue.{QueueData, queue_of, StandsFor}
use Rattle.region_queue.proofs.Again.{on_ok}
use Rattle.region_queue.proofs.Standing.{ready_again, stands_settled, stands_struck}
use Rattle.region_queue.proofs.queue.Queue.struck.Goals as goal

pub returns-clause-stands : goal.returns-clause-stands
returns-clause-stands c =
    let finder = c.self.inside.finder in
    let old = c.self.inside.keys in
    let mid = c.take_both.new.keys in
    let new = c.settle.new.keys in
    let ids = c.args.first ∷ c.args.second ∷ [] in
    let view = c.args.view.now in
    let queue = queue_of finder.rules finder.grid finder.region finder.lists.cells old.keys old.bounds in
    let again = queue_of finder.rules finder.grid finder.region finder.lists.cells new.keys new.bounds in
    subst (λ (q : QueueData). OnOk c.settle.result ((before : ViewData) → StandsFor q before → IsSameBut ids before view →
    KeepCells before view → StandsFor again view))
    c.self.view_is
    (on_ok c.settle.result
    (AreListed view finder.lists.cells → Covers (IsFound finder view) mid.keys mid.bounds → StandsFor again view)
    ((before : ViewData) → StandsFor queue before → IsSameBut ids before view → KeepCells before view → StandsFor again view)
    (λ once before stands same kept.
    let is = stands_struck finder before view ids old mid c.in_ok-take_both.ensures same kept stands in
    once is.0 is.1)
    (stands_settled c.settle.result finder view mid new c.settle.ensures))

pub settle-requires : goal.settle-requires
settle-requires c =
    ready_again c.self.inside.finder c.args.view.now c.self.inside.finder.lists.grid refl c.self.invariant
    (rw (← c.self.view_is) at c.requires.valid)

pub take_both-requires : goal.take_both-requires
take_both-requires c =
    ready_again c.self.inside.finder c.args.view.now c.self.inside.finder.lists.grid refl c.self.invariant
    (rw (← c.self.view_is) at c.requires.valid)

pub returns-clause-same : goal.returns-clause-same
returns-clause-same c = record {
  rules = ap (λ (q : QueueData). q.rules) c.self.view_is;
  grid = ap (λ (q : QueueData). q.grid) c.self.view_is;
  region = ap (λ (q : QueueData). q.region) c.self.view_is;
}
