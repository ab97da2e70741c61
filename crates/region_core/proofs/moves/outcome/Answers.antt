use Rattle.std.proofs.Common.{sym, subst, ◌∙◌}
use Rattle.std.proofs.lemmas.Option.{none-some, same_Some}
use Rattle.fixed_motion.specs.Motion.{IsValidDisk}
use Rattle.local_run.proofs.Outcome.{found_row, first_row, second_row, pair_by, alone_by, pair_comes, alone_comes}
use Rattle.region_core.proofs.moves.outcome.Goals as goal

pub unwrap-row-requires : goal.unwrap-row-requires
unwrap-row-requires c =
    let row = first_row c.args.place.now.home c.args.view.now c.args.stamp.now c.requires.own in
    found_row c.get.result row.0 (c.get.ensures ∙ row.1)

pub unwrap-other-requires : goal.unwrap-other-requires
unwrap-other-requires c =
    let row = second_row c.args.place.now.home c.args.view.now c.args.stamp.now c.requires.own c.in-Pair.is in
    found_row c.get-in-Pair.result row.0 (c.get-in-Pair.ensures ∙ row.1)

pub act-requires-clause-first : goal.act-requires-clause-first
act-requires-clause-first c = c.requires.valid.disk c.args.stamp.now.first c.unwrap-row.result
    (sym c.get.ensures ∙ c.unwrap-row.ensures)

pub act-requires-clause-second : goal.act-requires-clause-second
act-requires-clause-second c = λ x e.
    subst (IsValidDisk c.args.place.now.home.rules) (same_Some _ x e)
    (c.requires.valid.disk c.args.stamp.now.second c.unwrap-other.result
    (sym c.get-in-Pair.ensures ∙ c.unwrap-other.ensures))

pub act-requires-clause-event : goal.act-requires-clause-event
act-requires-clause-event c =
    pair_by c.args.place.now.home c.args.view.now c.args.stamp.now c.unwrap-row.result
    c.unwrap-other.result c.requires.own c.in-Pair.is
    (sym c.get.ensures ∙ c.unwrap-row.ensures)
    (sym c.get-in-Pair.ensures ∙ c.unwrap-other.ensures)

pub act-requires-in_default : goal.act-requires-in_default
act-requires-in_default c =
    let at = sym c.get.ensures ∙ c.unwrap-row.ensures in record {
      checked = c.requires.place.home.checked;
      first = c.requires.valid.disk c.args.stamp.now.first c.unwrap-row.result at;
      second = λ x e. absurd (none-some x e);
      event = alone_by c.args.place.now.home c.args.view.now c.args.stamp.now c.unwrap-row.result
          c.requires.own c.in_default.not-Pair at;
    }

pub returns-in-Pair : goal.returns-in-Pair
returns-in-Pair c = pair_comes c.args.place.now.home c.args.view.now c.args.stamp.now c.unwrap-row.result
    c.unwrap-other.result c.act.result c.in-Pair.is
    (sym c.get.ensures ∙ c.unwrap-row.ensures)
    (sym c.get-in-Pair.ensures ∙ c.unwrap-other.ensures) c.act.ensures

pub returns-in_default : goal.returns-in_default
returns-in_default c = alone_comes c.args.place.now.home c.args.view.now c.args.stamp.now
    c.unwrap-row.result c.act-in_default.result c.in_default.not-Pair
    (sym c.get.ensures ∙ c.unwrap-row.ensures) c.act-in_default.ensures
