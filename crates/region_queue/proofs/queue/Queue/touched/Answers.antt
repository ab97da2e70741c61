-- The disks are listed again, and then their keys are taken in the new lists.
use Rattle.std.proofs.Common.{subst, ap}
use Rattle.std.specs.Prelude.{OnOk}
use Rattle.region_view.specs.Views.{ViewData}
use Rattle.region_queue.specs.declared.finder.Finder.{Finder}
use Rattle.region_queue.specs.Finding.{AreListed, IsFound}
use Rattle.region_queue.specs.Covering.{Covers}
use Rattle.region_queue.specs.Queue.{QueueData, queue_of, StandsFor}
use Rattle.region_view.specs.Naming.{IsSameBut}
use Rattle.region_queue.proofs.Again.{on_ok}
use Rattle.region_queue.proofs.Standing.{cells_listed, ready_again, sound_again, stands_settled, stands_again}
use Rattle.region_queue.proofs.queue.Queue.touched.Goals as goal

pub returns-clause-stands : goal.returns-clause-stands
returns-clause-stands c =
    let finder : Finder = record {
      rules = c.self.inside.finder.rules;
      grid = c.self.inside.finder.grid;
      region = c.self.inside.finder.region;
      strip = c.self.inside.finder.strip;
      lists = c.list_again.new.lists;
    } in
    let was = c.self.inside.finder.lists.cells in
    let old = c.self.inside.keys in
    let mid = c.take_keys.new.keys in
    let new = c.settle.new.keys in
    let ids = c.args.ids.now in
    let view = c.args.view.now in
    let queue = queue_of finder.rules finder.grid finder.region was old.keys old.bounds in
    let again = queue_of finder.rules finder.grid finder.region finder.lists.cells new.keys new.bounds in
    subst (λ (q : QueueData). OnOk c.settle.result ((before : ViewData) → StandsFor q before → IsSameBut ids before view → StandsFor again view))
    c.self.view_is
    (on_ok c.settle.result
    (AreListed view finder.lists.cells → Covers (IsFound finder view) mid.keys mid.bounds → StandsFor again view)
    ((before : ViewData) → StandsFor queue before → IsSameBut ids before view → StandsFor again view)
    (λ once before stands same.
    let is = stands_again finder before view was ids old mid c.in_ok-list_again.ensures.listed c.in_ok-take_keys.ensures same stands in
    once is.0 is.1)
    (stands_settled c.settle.result finder view mid new c.settle.ensures))

pub settle-requires : goal.settle-requires
settle-requires c =
    let finder : Finder = record {
      rules = c.self.inside.finder.rules;
      grid = c.self.inside.finder.grid;
      region = c.self.inside.finder.region;
      strip = c.self.inside.finder.strip;
      lists = c.list_again.new.lists;
    } in
    ready_again finder c.args.view.now c.self.inside.finder.lists.grid c.list_again.ensures.grid c.self.invariant
    (rw (← c.self.view_is) at c.requires.valid)

pub take_keys-requires : goal.take_keys-requires
take_keys-requires c =
    let finder : Finder = record {
      rules = c.self.inside.finder.rules;
      grid = c.self.inside.finder.grid;
      region = c.self.inside.finder.region;
      strip = c.self.inside.finder.strip;
      lists = c.list_again.new.lists;
    } in
    ready_again finder c.args.view.now c.self.inside.finder.lists.grid c.list_again.ensures.grid c.self.invariant
    (rw (← c.self.view_is) at c.requires.valid)

pub invariant_of-self-2 : goal.invariant_of-self-2
invariant_of-self-2 c =
    sound_again c.self.inside.finder.rules c.self.inside.finder.grid c.self.inside.finder.region c.self.inside.finder.strip
    c.self.inside.finder.lists.grid c.list_again.new.lists.grid c.list_again.ensures.grid c.self.invariant

pub invariant_of-self-in_err-take_keys : goal.invariant_of-self-in_err-take_keys
invariant_of-self-in_err-take_keys c =
    sound_again c.self.inside.finder.rules c.self.inside.finder.grid c.self.inside.finder.region c.self.inside.finder.strip
    c.self.inside.finder.lists.grid c.list_again.new.lists.grid c.list_again.ensures.grid c.self.invariant

pub list_again-requires : goal.list_again-requires
list_again-requires c =
    cells_listed c.self.inside.finder.rules c.self.inside.finder.grid c.self.inside.finder.lists.grid c.args.view.now
    c.self.invariant.lists (rw (← c.self.view_is) at c.requires.valid)

pub invariant_of-self : goal.invariant_of-self
invariant_of-self c =
    sound_again c.self.inside.finder.rules c.self.inside.finder.grid c.self.inside.finder.region c.self.inside.finder.strip
    c.self.inside.finder.lists.grid c.list_again.new.lists.grid c.list_again.ensures.grid c.self.invariant

pub returns-clause-same : goal.returns-clause-same
returns-clause-same c = record {
  rules = ap (λ (q : QueueData). q.rules) c.self.view_is;
  grid = ap (λ (q : QueueData). q.grid) c.self.view_is;
  region = ap (λ (q : QueueData). q.region) c.self.view_is;
}
