use Rattle.std.proofs.Common.{◌≡◌, ℕ, ◌+◌, ◌<◌, ◌++◌, [], List, Option, length, ap, sym, ◌∙◌, arith}
use Rattle.std.specs.Prelude.{min}
use Rattle.std.proofs.lemmas.Bool.{false≢true}
use Rattle.std.proofs.lemmas.List.{get_or_read}
use Rattle.region_view.specs.Views.{rows_in}
use Rattle.region_view.specs.declared.rows.Message.{Message}
use Rattle.local_run.specs.LocalRun.{trail_of, prepended}
use Rattle.local_run.proofs.Sending.{none_sent_yet, all_below_end, one_skipped, one_sent, comes_after_sent}
use Rattle.region_parts.proofs.sending.send.Goals as goal

pub loop-to-init : goal.loop-to-init
loop-to-init c = none_sent_yet c.args.home.now (rows_in c.args.before.now) c.args.action.now
    c.saturating_sub-first.result c.args.sent.now.items c.regions-regions.ensures.kept c.saturating_sub-first.ensures

pub send_one-requires : goal.send_one-requires
send_one-requires c =
    let old = c.args.sent.now.items in
    let new = c.loop-to.sent.items in
    let to = c.loop-to.to in
    let size : length new ≡ c.args.home.now.grid.regions = c.loop-to.invariant.size ∙ c.requires.size in
    comes_after_sent c.args.home.now (rows_in c.args.before.now) c.args.action.now to old new
    c.index_mut.result.now c.message_for-message.result c.loop-to.invariant
    (get_or_read new to c.index_mut.result.now (omega arith) c.index_mut.ensures.value [])
    c.message_for-message.ensures
    (c.requires.after to (c.sends_to.ensures.0 c.if-not-sends_to.false))

pub loop-to-preserved-then-not-sends_to : goal.loop-to-preserved-then-not-sends_to
loop-to-preserved-then-not-sends_to c = one_skipped c.args.home.now (rows_in c.args.before.now) c.args.action.now
    c.loop-to.to c.args.sent.now.items c.loop-to.sent.items
    (λ sends. false≢true (sym c.if-not-sends_to.true ∙ c.sends_to.ensures.1 sends)) c.loop-to.invariant

pub loop-to-preserved : goal.loop-to-preserved
loop-to-preserved c =
    let old = c.args.sent.now.items in
    let new = c.loop-to.sent.items in
    let to = c.loop-to.to in
    let size : length new ≡ c.args.home.now.grid.regions = c.loop-to.invariant.size ∙ c.requires.size in
    let within : to < length new = omega arith in
    one_sent c.args.home.now (rows_in c.args.before.now) c.args.action.now to old new
    c.send_one.new.trail within
    (c.in_ok-send_one.ensures
    ∙ ap (λ (ms : List Message). ms ++ prepended c.message_for-message.result [])
    (get_or_read new to c.index_mut.result.now within c.index_mut.ensures.value [])
    ∙ ap (λ (o : Option Message). trail_of new to ++ prepended o []) c.message_for-message.ensures)
    c.loop-to.invariant

pub returns : goal.returns
returns c = record {
  size = c.loop-to.invariant.size;
  told = λ to sends.
      let below = all_below_end c.args.home.now to c.min-end.result c.regions-regions.ensures.kept
      (c.min-end.ensures ∙ ap (min (c.args.home.now.number + 2 + 1)) c.regions-regions.ensures.value
      ∙ ap (λ (n : ℕ). min n c.args.home.now.grid.regions) (omega arith)) sends in
      c.loop-to.invariant.below to sends (omega arith);
}

pub message_for-message-requires-clause-cells : goal.message_for-message-requires-clause-cells
message_for-message-requires-clause-cells c = c.requires.cells

pub message_for-message-requires-clause-cell : goal.message_for-message-requires-clause-cell
message_for-message-requires-clause-cell c = c.requires.cell

pub message_for-message-requires-clause-order : goal.message_for-message-requires-clause-order
message_for-message-requires-clause-order c = c.requires.order

pub message_for-message-requires-clause-region : goal.message_for-message-requires-clause-region
message_for-message-requires-clause-region c = (c.sends_to.ensures.0 c.if-not-sends_to.false).0
