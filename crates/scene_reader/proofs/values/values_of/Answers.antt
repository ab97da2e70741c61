-- The first of the steps that refuses is that of the definition.
use Rattle.std.proofs.Common.{ap, ◌∙◌}
use Rattle.std.proofs.lemmas.Result.{err_from_is_err_and}
use Rattle.toml.specs.View.{table_view, view}
use Rattle.toml.specs.Data.{Data, get_member}
use Rattle.scene_reader.specs.declared.key.Key.TheVariants.{SpeedLimit, RoundLimit, End, Every, Disks}
use Rattle.scene_reader.specs.Keys.{key_text, value_at, three_at}
use Rattle.scene_reader.proofs.Threes.{with_disks, with_limits, with_sizes, by_threes}
use Rattle.scene_reader.proofs.values.values_of.Goals as goal

pub returns-in_err-sizes : goal.returns-in_err-sizes
returns-in_err-sizes c =
    let ms = table_view c.args.table.now in let every = get_member (key_text Every) ms in let disks = value_at ms Disks in
    let p = err_from_is_err_and c.from_residual.result c.from_residual.ensures.1 in
    rw (p.1, p.2) (by_threes ms ∙ ap (with_sizes every disks (three_at ms SpeedLimit RoundLimit End)) c.in_err-sizes.ensures)

pub returns-in_err-limits : goal.returns-in_err-limits
returns-in_err-limits c =
    let ms = table_view c.args.table.now in let every = get_member (key_text Every) ms in let disks = value_at ms Disks in
    let sizes = c.in_ok-sizes.sizes in
    let s : Data × Data × Data = (view sizes.0.now, view sizes.1.now, view sizes.2.now) in
    let p = err_from_is_err_and c.from_residual-in_err-limits.result c.from_residual-in_err-limits.ensures.1 in
    rw (p.1, p.2) (by_threes ms ∙ ap (with_sizes every disks (three_at ms SpeedLimit RoundLimit End)) c.in_ok-sizes.ensures
    ∙ ap (with_limits every disks s) c.in_err-limits.ensures)

pub returns-in_err-disks : goal.returns-in_err-disks
returns-in_err-disks c =
    let ms = table_view c.args.table.now in let every = get_member (key_text Every) ms in let disks = value_at ms Disks in
    let sizes = c.in_ok-sizes.sizes in let limits = c.in_ok-limits.limits in
    let s : Data × Data × Data = (view sizes.0.now, view sizes.1.now, view sizes.2.now) in
    let l : Data × Data × Data = (view limits.0.now, view limits.1.now, view limits.2.now) in
    let p = err_from_is_err_and c.from_residual-in_err-disks.result c.from_residual-in_err-disks.ensures.1 in
    rw (p.1, p.2) (by_threes ms ∙ ap (with_sizes every disks (three_at ms SpeedLimit RoundLimit End)) c.in_ok-sizes.ensures
    ∙ ap (with_limits every disks s) c.in_ok-limits.ensures ∙ ap (with_disks every s l) c.in_err-disks.ensures)

pub returns : goal.returns
returns c =
    let ms = table_view c.args.table.now in let every = get_member (key_text Every) ms in let disks = value_at ms Disks in
    let sizes = c.in_ok-sizes.sizes in let limits = c.in_ok-limits.limits in
    let s : Data × Data × Data = (view sizes.0.now, view sizes.1.now, view sizes.2.now) in
    let l : Data × Data × Data = (view limits.0.now, view limits.1.now, view limits.2.now) in
    rw c.get.ensures (by_threes ms ∙ ap (with_sizes every disks (three_at ms SpeedLimit RoundLimit End)) c.in_ok-sizes.ensures
    ∙ ap (with_limits every disks s) c.in_ok-limits.ensures ∙ ap (with_disks every s l) c.in_ok-disks.ensures)
