-- The event's disks are listed again, and have it for a key.
use Rattle.std.proofs.Common.{ap, sym, subst, ◌∙◌}
use Rattle.std.specs.Prelude.{OnOk}
use Rattle.fixed_motion.specs.Rules.{IsChecked}
use Rattle.cell_grid.specs.Grid.{GridData}
use Rattle.region_view.specs.Laws.{HasCells}
use Rattle.event_stamps.specs.Least.{IsLeast}
use Rattle.region_view.specs.Placing.{IsNative}
use Rattle.region_view.specs.Views.{ViewData, rows_in}
use Rattle.region_queue.specs.declared.finder.Finder.{Finder}
use Rattle.region_queue.specs.Queue.{QueueData, queue_of, StandsFor}
use Rattle.region_view.specs.Naming.{IsSameButBy}
use Rattle.region_queue.proofs.InRange.{native_in_range}
use Rattle.region_queue.proofs.Standing.{ready_again, sound_again, stands_settled, stands_back}
use Rattle.region_queue.proofs.Again.{on_ok}
use Rattle.region_queue.specs.Finding.{AreListed, IsFound}
use Rattle.region_queue.specs.Covering.{Covers}
use Rattle.region_queue.proofs.queue.Queue.take_back.Goals as goal

pub list_event-requires : goal.list_event-requires
list_event-requires c =
    subst (λ (g : GridData). HasCells g (rows_in c.args.view.now))
    (sym (ap (λ (q : QueueData). q.grid) c.self.view_is) ∙ sym c.self.invariant.lists) c.requires.valid.cell

pub give_key-requires : goal.give_key-requires
give_key-requires c =
    native_in_range c.args.self.now.rules c.args.self.now.grid c.args.self.now.region (rows_in c.args.view.now) c.args.event.now
    (subst (λ (q : QueueData). IsChecked q.rules) c.self.view_is c.self.invariant.checked) c.requires.valid c.requires.least.0

pub returns-clause-stands : goal.returns-clause-stands
returns-clause-stands c =
    let finder : Finder = record {
      rules = c.self.inside.finder.rules;
      grid = c.self.inside.finder.grid;
      region = c.self.inside.finder.region;
      strip = c.self.inside.finder.strip;
      lists = c.list_event.new.lists;
    } in
    let was = c.self.inside.finder.lists.cells in
    let old = c.self.inside.keys in
    let mid = c.give_key.new.keys in
    let new = c.settle.new.keys in
    let s = c.args.event.now in
    let view = c.args.view.now in
    let least = subst (λ (q : QueueData). IsLeast (IsNative q.rules q.grid q.region (rows_in view)) s) (sym c.self.view_is) c.requires.least in
    let queue = queue_of finder.rules finder.grid finder.region was old.keys old.bounds in
    let again = queue_of finder.rules finder.grid finder.region finder.lists.cells new.keys new.bounds in
    subst (λ (q : QueueData). OnOk c.settle.result ((later : ViewData) → StandsFor q later → IsSameButBy s later view → StandsFor again view))
    c.self.view_is
    (on_ok c.settle.result
    (AreListed view finder.lists.cells → Covers (IsFound finder view) mid.keys mid.bounds → StandsFor again view)
    ((later : ViewData) → StandsFor queue later → IsSameButBy s later view → StandsFor again view)
    (λ once later stands same.
    let is = stands_back finder s later view was old mid c.in_ok-list_event.ensures.listed least c.in_ok-give_key.ensures same stands in
    once is.0 is.1)
    (stands_settled c.settle.result finder view mid new c.settle.ensures))

pub settle-requires : goal.settle-requires
settle-requires c =
    let finder : Finder = record {
      rules = c.self.inside.finder.rules;
      grid = c.self.inside.finder.grid;
      region = c.self.inside.finder.region;
      strip = c.self.inside.finder.strip;
      lists = c.list_event.new.lists;
    } in
    ready_again finder c.args.view.now c.self.inside.finder.lists.grid c.list_event.ensures.grid c.self.invariant
    (rw (← c.self.view_is) at c.requires.valid)

pub invariant_of-self-2 : goal.invariant_of-self-2
invariant_of-self-2 c =
    sound_again c.self.inside.finder.rules c.self.inside.finder.grid c.self.inside.finder.region c.self.inside.finder.strip
    c.self.inside.finder.lists.grid c.list_event.new.lists.grid c.list_event.ensures.grid c.self.invariant

pub invariant_of-self-in_err-give_key : goal.invariant_of-self-in_err-give_key
invariant_of-self-in_err-give_key c =
    sound_again c.self.inside.finder.rules c.self.inside.finder.grid c.self.inside.finder.region c.self.inside.finder.strip
    c.self.inside.finder.lists.grid c.list_event.new.lists.grid c.list_event.ensures.grid c.self.invariant

pub invariant_of-self : goal.invariant_of-self
invariant_of-self c =
    sound_again c.self.inside.finder.rules c.self.inside.finder.grid c.self.inside.finder.region c.self.inside.finder.strip
    c.self.inside.finder.lists.grid c.list_event.new.lists.grid c.list_event.ensures.grid c.self.invariant

pub returns-clause-same : goal.returns-clause-same
returns-clause-same c = record {
  rules = ap (λ (q : QueueData). q.rules) c.self.view_is;
  grid = ap (λ (q : QueueData). q.grid) c.self.view_is;
  region = ap (λ (q : QueueData). q.region) c.self.view_is;
}
