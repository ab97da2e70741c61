use Rattle.std.proofs.Common.{◌≡◌, ◌≤◌, length, List, sym, ap, ◌∙◌, subst, refl, arith, Some}
use Rattle.std.specs.Option.{IsSome}
use Rattle.std.proofs.lemmas.Option.{slice_get-get_or}
use Rattle.region_view.proofs.Seen.{no_row}
use Rattle.cell_sequence.specs.State.{IsCellState}
use Rattle.cell_sequence.proofs.Followed.{few_rows}
use Rattle.local_run.specs.Opening.{RegionData}
use Rattle.run_core.specs.Standing.{GoesOnTo, row_among}
use Rattle.run_core.proofs.OneState.{row_there}
use Rattle.run_core.proofs.one_state.Standing.row.Goals as goal

pub overflow_cast-disk : goal.overflow_cast-disk
overflow_cast-disk c =
    let goes = subst (GoesOnTo c.self.inside.earlier c.self.inside.last c.self.inside.floor
    c.self.inside.regions.items) c.self.view_is c.self.invariant in
    let few : length c.args.self.now.placed ≤ 65536 = few_rows c.args.self.now goes.is in
    omega (arith, few, c.requires)

pub unwrap-requires : goal.unwrap-requires
unwrap-requires c =
    let goes = subst (GoesOnTo c.self.inside.earlier c.self.inside.last c.self.inside.floor
    c.self.inside.regions.items) c.self.view_is c.self.invariant in
    let placed = c.args.self.now.placed in
    let found = c.row_among.ensures ∙ ap (λ (v : List RegionData). row_among v c.args.disk) c.deref.ensures.value
    ∙ row_there c.self.inside.earlier c.self.inside.last c.self.inside.floor c.self.inside.regions.items
    c.args.self.now goes c.args.disk c.requires ∙ slice_get-get_or placed c.args.disk no_row c.requires in
    subst IsSome (sym found) refl

pub returns-clause-value : goal.returns-clause-value
returns-clause-value c =
    let goes = subst (GoesOnTo c.self.inside.earlier c.self.inside.last c.self.inside.floor
    c.self.inside.regions.items) c.self.view_is c.self.invariant in
    let found = c.row_among.ensures ∙ ap (λ (v : List RegionData). row_among v c.args.disk) c.deref.ensures.value
    ∙ row_there c.self.inside.earlier c.self.inside.last c.self.inside.floor c.self.inside.regions.items
    c.args.self.now goes c.args.disk c.requires in
    let unwrapped : c.row_among.result ≡ Some c.unwrap.result = search (c.unwrap.ensures) in
    sym found ∙ unwrapped

pub returns-clause-kept : goal.returns-clause-kept
returns-clause-kept c = subst IsCellState c.self.view_is c.self.invariant.is
