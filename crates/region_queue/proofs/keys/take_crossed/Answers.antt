-- What was known of the disk's pairs is kept, or all is taken again.
use Rattle.std.proofs.Common.{◌≡◌, ℕ, sym, subst, ap, ◌∙◌}
use Rattle.std.specs.Prelude.{Option, IfSome}
use Rattle.event_stamps.specs.declared.Kind.TheVariants.{Pair}
use Rattle.event_stamps.specs.Least.{earlier_of}
use Rattle.event_tree.specs.Entries.{IsEntered}
use Rattle.event_tree.specs.Keys.{Key, key_at}
use Rattle.cell_grid.specs.Grid.{IsCell}
use Rattle.region_view.specs.Views.{ViewData}
use Rattle.region_view.specs.Naming.{IsMoved}
use Rattle.region_queue.specs.Finding.{AreListed, IsFound, IsTakenAt, cell_in}
use Rattle.region_queue.specs.Covering.{Covers}
use Rattle.region_queue.proofs.Again.{on_ok}
use Rattle.region_queue.proofs.Moved.{moved_covers, taken_covers}
use Rattle.region_queue.proofs.keys.take_crossed.Goals as goal

pub returns-in_default : goal.returns-in_default
returns-in_default c =
    let finder = c.args.finder.now in
    let view = c.args.view.now in
    let disk = c.args.disk in
    let old = c.args.keys.now in
    let new = c.take_key.new.keys in
    on_ok c.take_key.result (AreListed view finder.lists.cells → IsTakenAt finder view disk old new)
    (AreListed view finder.lists.cells → (before : ViewData) → IsMoved disk before view → c.args.cell ≡ cell_in before disk →
    Covers (IsFound finder before) old.keys old.bounds → Covers (IsFound finder view) new.keys new.bounds)
    (λ taken listed before moved at covers. taken_covers finder before view disk old new moved (taken listed) covers) c.take_key.ensures

pub returns-2 : goal.returns-2
returns-2 c =
    let finder = c.args.finder.now in
    let view = c.args.view.now in
    let disk = c.args.disk in
    let old = c.args.keys.now in
    let new = c.take_key-2.new.keys in
    on_ok c.take_key-2.result (AreListed view finder.lists.cells → IsTakenAt finder view disk old new)
    (AreListed view finder.lists.cells → (before : ViewData) → IsMoved disk before view → c.args.cell ≡ cell_in before disk →
    Covers (IsFound finder before) old.keys old.bounds → Covers (IsFound finder view) new.keys new.bounds)
    (λ taken listed before moved at covers. taken_covers finder before view disk old new moved (taken listed) covers)
    c.take_key-2.ensures

pub returns : goal.returns
returns c =
    let finder = c.args.finder.now in
    let view = c.args.view.now in
    let disk = c.args.disk in
    let cell = c.in-Some.cell in
    let old = c.args.keys.now in
    let new = c.set_codes.new.keys in
    let beyond = c.in-Some-codes_beyond.beyond in
    let pair = c.earlier-pair.result in
    let joined : pair ≡ earlier_of (key_at old.bounds disk) beyond.pair =
    c.earlier-pair.ensures ∙ ap (λ (key : Key). earlier_of key beyond.pair) c.in-Some-bound_code.ensures in
    on_ok c.set_codes.result (IsEntered disk (earlier_of beyond.single pair, pair) old new)
    (AreListed view finder.lists.cells → (before : ViewData) → IsMoved disk before view → c.args.cell ≡ cell_in before disk →
    Covers (IsFound finder before) old.keys old.bounds → Covers (IsFound finder view) new.keys new.bounds)
    (λ entered listed before moved at covers.
    moved_covers finder before view disk cell beyond.single beyond.pair old new moved (sym c.in-Some.is ∙ at)
    (c.is_owner_kept.ensures c.if-is_owner_kept.true)
    (subst (λ (key : Key). IfSome key (λ s. s.kind ≡ Pair)) c.in-Some-bound_code.ensures (c.is_pair_or_none.ensures.0 c.if-is_pair_or_none.true))
    c.in-Some-codes_beyond.ensures.single (c.in-Some-codes_beyond.ensures.pair listed)
    (subst (λ (key : Key). IsEntered disk (earlier_of beyond.single key, key) old new) joined entered) covers)
    c.set_codes.ensures

pub codes_beyond-requires-clause-old : goal.codes_beyond-requires-clause-old
codes_beyond-requires-clause-old c = subst (λ (o : Option ℕ). IfSome o (IsCell c.args.finder.now.grid)) c.in-Some.is c.requires.cell

pub is_owner_kept-requires-clause-cell : goal.is_owner_kept-requires-clause-cell
is_owner_kept-requires-clause-cell c = subst (λ (o : Option ℕ). IfSome o (IsCell c.args.finder.now.grid)) c.in-Some.is c.requires.cell
