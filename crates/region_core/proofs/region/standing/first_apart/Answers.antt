use Rattle.std.proofs.Common.{◌≡◌, ℕ, slice_get, get_or, option_copied, sym, ◌∙◌, subst, arith, below_more, MatchOption, Option}
use Rattle.std.specs.Prelude.{◌↔◌, IsTrue}
use Rattle.region_view.specs.declared.action.Placed.{Placed}
use Rattle.std.proofs.lemmas.Bool.{false≢true}
use Rattle.region_view.proofs.Seen.{no_row, row_at}
use Rattle.region_view.specs.Views.{IsViewOf}
use Rattle.region_core.specs.Live.{base_in}
use Rattle.local_run.specs.Standing.{IsUnseenFirst}
use Rattle.region_core.proofs.Stands.{seen_at, sees_all, unseen_past}
use Rattle.region_core.proofs.region.standing.first_apart.Goals as goal

pub returns-then-not-is_same : goal.returns-then-not-is_same
returns-then-not-is_same c =
    let sees = seen_at c.args.grid.now c.args.number c.args.placed.now (base_in c.args.live.now) c.loop-i.i
    (get_or c.args.placed.now c.loop-i.i no_row) (option_copied c.seen_of.result) c.is_same.result
    (row_at c.args.placed.now c.loop-i.i c.loop-i-test.true)
    (c.seen_of.ensures c.args.number c.strip-strip.ensures.strip)
    (subst (λ (o : Option Placed). IsTrue c.is_same.result ↔ (o ≡ option_copied c.seen_of.result))
    c.first_row.ensures c.is_same.ensures) in
    (λ seen. absurd (false≢true (sym c.if-not-is_same.true ∙ sees.1 seen)), c.loop-i.invariant)

pub loop-i-preserved : goal.loop-i-preserved
loop-i-preserved c =
    let sees = seen_at c.args.grid.now c.args.number c.args.placed.now (base_in c.args.live.now) c.loop-i.i
    (get_or c.args.placed.now c.loop-i.i no_row) (option_copied c.seen_of.result) c.is_same.result
    (row_at c.args.placed.now c.loop-i.i c.loop-i-test.true)
    (c.seen_of.ensures c.args.number c.strip-strip.ensures.strip)
    (subst (λ (o : Option Placed). IsTrue c.is_same.result ↔ (o ≡ option_copied c.seen_of.result))
    c.first_row.ensures c.is_same.ensures) in
    below_more _ _ c.loop-i.invariant (sees.0 c.if-not-is_same.false)

pub returns-in_err-disk : goal.returns-in_err-disk
returns-in_err-disk c =
    subst (λ (o : Option ℕ). MatchOption o
    (IsViewOf c.args.grid.now c.args.number (slice_get c.args.placed.now) (base_in c.args.live.now))
    (IsUnseenFirst c.args.grid.now c.args.number (slice_get c.args.placed.now) (base_in c.args.live.now)))
    (sym c.from_residual.ensures)
    (sees_all c.args.grid.now c.args.number c.args.placed.now (base_in c.args.live.now)
    (λ i lt. c.loop-i.invariant i (omega arith)) c.in_err-disk.ensures)

pub returns : goal.returns
returns c = unseen_past c.args.grid.now c.args.number c.args.placed.now (base_in c.args.live.now)
    c.in_ok-disk.disk c.in_ok-disk.field-0-1 (λ i lt. c.loop-i.invariant i (omega arith))
    c.in_ok-disk.ensures.0 c.in_ok-disk.ensures.1 c.in_ok-disk.ensures.2

pub seen_of-requires-clause-cell : goal.seen_of-requires-clause-cell
seen_of-requires-clause-cell c =
    c.requires.cells c.loop-i.i (get_or c.args.placed.now c.loop-i.i no_row)
    (row_at c.args.placed.now c.loop-i.i c.loop-i-test.true)
