use Rattle.std.proofs.Common.{◌==◌, length, ap, ◌∙◌}
use Rattle.std.specs.FinMap as map
use Rattle.region_view.specs.Setting.{RowList}
use Rattle.region_view.proofs.Told.{no_message, some_message}
use Rattle.region_view.proofs.messages.message_for.Goals as goal

pub returns-then-is_empty : goal.returns-then-is_empty
returns-then-is_empty c =
    no_message c.args.grid.now c.args.to (map.get c.args.before.now) c.args.action.now
    c.rows_of.result c.told_rows-rows.result c.rows_of.ensures c.told_rows-rows.ensures
    (c.if-is_empty.ensures ∙ ap (λ (rows : RowList). length rows == 0) c.as_slice.ensures.value)

pub returns : goal.returns
returns c =
    some_message c.args.grid.now c.args.to (map.get c.args.before.now) c.args.action.now c.stamp.result
    c.rows_of.result c.told_rows-rows.result c.stamp.ensures c.rows_of.ensures c.told_rows-rows.ensures
    (c.if-is_empty.ensures ∙ ap (λ (rows : RowList). length rows == 0) c.as_slice.ensures.value)
