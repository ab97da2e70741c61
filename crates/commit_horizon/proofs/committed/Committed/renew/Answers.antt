use Rattle.std.proofs.Common.{◌<◌, sym, subst, refl}
use Rattle.cell_sequence.specs.State.{CellStateData}
use Rattle.local_run.specs.Opening.{IsOpened}
use Rattle.local_run.specs.Standing.{StandsOn, DiffersBy}
use Rattle.commit_horizon.specs.declared.committed.Adopted.TheVariants.{Kept, Made}
use Rattle.commit_horizon.proofs.committed.Committed.renew.Goals as goal

pub returns-in_default : goal.returns-in_default
returns-in_default c =
    let given = c.args.region.now in
    let stands = subst (λ (state : CellStateData). StandsOn state c.args.number given) c.self.view_is
    c.in_default.ensures.value in
    (Kept given, (stands, refl), refl)

pub open-requires : goal.open-requires
open-requires c =
    subst (λ (state : CellStateData). c.args.number < state.grid.regions) (sym c.self.view_is) c.requires

pub returns : goal.returns
returns c =
    let number = c.args.number in
    let made = c.in_ok-made.made in
    let differs = c.in-Err.field-0 in
    let why = subst (λ (state : CellStateData). DiffersBy state number c.args.region.now differs)
    c.self.view_is c.in-Err.ensures.value in
    let opened = subst (λ (state : CellStateData). IsOpened state number made) c.self.view_is
    c.in_ok-made.ensures in
    (Made made differs, (why, opened), c.replace.ensures.after)
