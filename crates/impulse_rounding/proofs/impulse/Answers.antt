-- The numbers are the components of the vectors. That is said here, as the search is long otherwise.
use Rattle.std.proofs.Common.{rules}
use Rattle.std.specs.Prelude.{FitsSigned}
use Rattle.std.proofs.lemmas.Int.{to_z-of_z}
use mir.Syntax.{w64}
use Rattle.impulse_rounding.proofs.impulse.Goals as goal

pub impulse_between-change-requires-clause-approaching : goal.impulse_between-change-requires-clause-approaching
impulse_between-change-requires-clause-approaching c =
    let fx : FitsSigned w64 c.args.rx = c.ranges.rx in
    let fy : FitsSigned w64 c.args.ry = c.ranges.ry in
    let fu : FitsSigned w64 c.args.ux = c.ranges.ux in
    let fv : FitsSigned w64 c.args.uy = c.ranges.uy in
    simp to_z-of_z c.requires.approaching

pub impulse_between-change-requires-clause-r_size : goal.impulse_between-change-requires-clause-r_size
impulse_between-change-requires-clause-r_size c =
    let fx : FitsSigned w64 c.args.rx = c.ranges.rx in
    let fy : FitsSigned w64 c.args.ry = c.ranges.ry in
    simp to_z-of_z (record { x = c.requires.rx_size; y = c.requires.ry_size })

pub impulse_between-change-requires-clause-u_size : goal.impulse_between-change-requires-clause-u_size
impulse_between-change-requires-clause-u_size c =
    let fu : FitsSigned w64 c.args.ux = c.ranges.ux in
    let fv : FitsSigned w64 c.args.uy = c.ranges.uy in
    simp to_z-of_z (record { x = c.requires.ux_size; y = c.requires.uy_size })

pub returns-clause-value : goal.returns-clause-value
returns-clause-value c =
    let fx : FitsSigned w64 c.args.rx = c.ranges.rx in
    let fy : FitsSigned w64 c.args.ry = c.ranges.ry in
    let fu : FitsSigned w64 c.args.ux = c.ranges.ux in
    let fv : FitsSigned w64 c.args.uy = c.ranges.uy in
    let jx : FitsSigned w64 c.impulse_between-change.result.x = search rules in
    let jy : FitsSigned w64 c.impulse_between-change.result.y = search rules in
    simp to_z-of_z (simp to_z-of_z at c.impulse_between-change.ensures.value)

pub returns-clause-recedes : goal.returns-clause-recedes
returns-clause-recedes c = search (rules, c.impulse_between-change.ensures.recedes)

pub returns-clause-x_size : goal.returns-clause-x_size
returns-clause-x_size c = search (rules, c.impulse_between-change.ensures.size.x)

pub returns-clause-y_size : goal.returns-clause-y_size
returns-clause-y_size c = search (rules, c.impulse_between-change.ensures.size.y)

pub returns-clause-energy : goal.returns-clause-energy
returns-clause-energy c = search (rules, c.impulse_between-change.ensures.energy)
