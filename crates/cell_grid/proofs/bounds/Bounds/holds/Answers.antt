use Rattle.std.proofs.Common.{◌≡◌, Bool, true, false, Decides, FitsSigned, rules, refl, subst, sym, w64}
use Rattle.std.specs.Prelude.{ℤ, ◌≤ℤ◌}
use lib.Dec.{T}
use lib.Signed.{le_z}
use Rattle.std.proofs.lemmas.Bool.{both_ways}
use Rattle.std.proofs.lemmas.Bool.Decides.{Decides-at}
use Rattle.plane_vectors.proofs.Sizes.{sent, sent_same}
use Rattle.cell_grid.proofs.bounds.Bounds.holds.Goals as goal

tested : (b : Bool) → T b → b ≡ true
tested true t = refl
tested false t = absurd t

-- two numbers that are compared as they are sent
Decides-sent : (a b : ℤ) → FitsSigned w64 a → FitsSigned w64 b → Decides (le_z (sent a) (sent b)) (a ≤ℤ b)
Decides-sent a b fits_a fits_b =
    Decides-at _ (le_z a b) (λ i. le_z (sent_same a fits_a i) (sent_same b fits_b i))
    (λ e. record { le = subst T (sym e) tt }, λ h. tested (le_z a b) h.le)

pub returns-then-self-coordinate : goal.returns-then-self-coordinate
returns-then-self-coordinate c =
    let n = c.args.coordinate in
    let bounds = c.args.self in
    let fits : FitsSigned w64 c.args.coordinate = search rules in
    let fits_least : FitsSigned w64 c.args.self.least = search rules in
    let fits_greatest : FitsSigned w64 c.args.self.greatest = search rules in
    let above = Decides-sent bounds.least n fits_least fits in
    let below = Decides-sent n bounds.greatest fits fits_greatest in
    (λ yes. (above.0 c.if-self-coordinate.true, below.0 yes), λ within. below.1 within.1)

pub returns-else-self-coordinate : goal.returns-else-self-coordinate
returns-else-self-coordinate c =
    let fits : FitsSigned w64 c.args.coordinate = search rules in
    let fits_least : FitsSigned w64 c.args.self.least = search rules in
    let above = Decides-sent c.args.self.least c.args.coordinate fits_least fits in
    (λ yes. absurd (both_ways _ c.if-self-coordinate.false yes), λ within. above.1 within.0)
