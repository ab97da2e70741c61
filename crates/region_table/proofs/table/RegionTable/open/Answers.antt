use Rattle.std.proofs.Common.{ap, ◌∙◌, sym, subst}
use Rattle.std.specs.Prelude.{slice_get}
use Rattle.std.specs.Option.{option_copied}
use Rattle.region_table.specs.Tables.{IsKeptTable, IsKeptSeat}
use Rattle.region_table.proofs.Ends.{few_together, keeps_table}
use Rattle.region_table.proofs.Calls.{keeps_none}
use Rattle.region_table.proofs.table.RegionTable.open.Goals as goal

pub lay-requires : goal.lay-requires
lay-requires c =
    let a = c.first.ensures.value in
    let b = c.unwrap-first.ensures in
    let d = c.deref.ensures.value in
    record { few = few_together c.args.regions.items c.requires.together c.unwrap-first.result.now (ap (λ z. slice_get z 0) (sym d) ∙ (sym a ∙ ap option_copied b)) c.rules-rules.ensures.kept }

pub invariant_of-result : goal.invariant_of-result
invariant_of-result c =
    let e = c.in_ok-slots.ensures in
    let a = c.first.ensures.value in
    let b = c.unwrap-first.ensures in
    let d = c.deref.ensures.value in
    subst (λ z. IsKeptTable c.in_ok-slots.slots.shared.table_id z c.rules-rules.result.now c.grid-grid.result.now c.floor-floor.result) (sym e.key)
    (keeps_table c.in_ok-slots.slots.shared.table_id c.args.regions.items c.rules-rules.result.now c.grid-grid.result.now c.floor-floor.result c.requires.together e.counts.0 e.counts.1 c.requires.some
    c.unwrap-first.result.now (ap (λ z. slice_get z 0) (sym d) ∙ (sym a ∙ ap option_copied b)) c.rules-rules.ensures.kept c.rules-rules.ensures.value c.grid-grid.ensures.value c.floor-floor.ensures.value)

pub invariant_of-result-2 : goal.invariant_of-result-2
invariant_of-result-2 c = let e = c.in_ok-slots.ensures.token in
    subst (IsKeptSeat c.in_ok-slots.token.me) (sym c.new.ensures) (keeps_none c.in_ok-slots.token.me (ap (λ m. m.1) e.1) (ap (λ m. m.0.held) e.1))
