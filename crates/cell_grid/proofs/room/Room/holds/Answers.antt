use Rattle.std.proofs.Common.{◌≡◌, w64, FitsSigned, rules}
use Rattle.plane_vectors.proofs.Sizes.{sent, sent_same}
use Rattle.cell_grid.specs.Leaving.{IsWithinBounds}
use Rattle.std.proofs.lemmas.Bool.{both_ways}
use Rattle.cell_grid.proofs.room.Room.holds.Goals as goal

pub returns-then-holds : goal.returns-then-holds
returns-then-holds c =
    let room = c.args.self in
    let place = c.args.place in
    let fits_x : FitsSigned w64 place.x = search rules in
    let fits_y : FitsSigned w64 place.y = search rules in
    let x : sent place.x ≡ place.x = sent_same place.x fits_x in
    let y : sent place.y ≡ place.y = sent_same place.y fits_y in
    let across : IsWithinBounds room.across place.x = rw x at (c.holds.ensures.0 c.if-holds.true) in
    let upwards = c.holds-then-holds.ensures in
    (λ h. (across, rw y at (upwards.0 h)), λ h. upwards.1 (rw y h.1))

pub returns-else-holds : goal.returns-else-holds
returns-else-holds c =
    let fits_x : FitsSigned w64 c.args.place.x = search rules in
    let x : sent c.args.place.x ≡ c.args.place.x = sent_same c.args.place.x fits_x in
    (λ yes. absurd (both_ways c.holds.result c.if-holds.false yes), λ h. c.holds.ensures.1 (rw x h.0))
