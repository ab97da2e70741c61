-- The first of the steps that refuses is that of the definition.
use Rattle.std.proofs.Common.{sym, ◌∙◌}
use Rattle.std.proofs.lemmas.Result.{err_from_is_err_and}
use Rattle.scene_reader.specs.Seen.{values_seen}
use Rattle.scene_reader.proofs.Threes.{by_numbers}
use Rattle.scene_reader.proofs.values.types_of.Goals as goal

pub returns-in_err-numbers : goal.returns-in_err-numbers
returns-in_err-numbers c =
    let p = err_from_is_err_and c.from_residual.result c.from_residual.ensures.1 in
    rw (p.1, p.2, by_numbers (values_seen c.args.values.now), c.in_err-numbers.ensures)

pub returns-in_err-every : goal.returns-in_err-every
returns-in_err-every c =
    let p = err_from_is_err_and c.from_residual-in_err-every.result c.from_residual-in_err-every.ensures.1 in
    let every = sym c.every_at.ensures ∙ c.in_err-every.was in
    rw (p.1, p.2, by_numbers (values_seen c.args.values.now), c.in_ok-numbers.ensures, every)

pub returns-in_default : goal.returns-in_default
returns-in_default c =
    let every = sym c.every_at.ensures ∙ c.in_ok-every.was in
    rw (by_numbers (values_seen c.args.values.now), c.in_ok-numbers.ensures, every, sym c.in_default.ensures)

pub returns : goal.returns
returns c =
    let every = sym c.every_at.ensures ∙ c.in_ok-every.was in
    rw (by_numbers (values_seen c.args.values.now), c.in_ok-numbers.ensures, every, sym c.in-Some.ensures, c.as_slice.ensures.value)
