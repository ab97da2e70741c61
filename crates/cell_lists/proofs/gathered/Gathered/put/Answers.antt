-- A disk that is set below the count is among those that are gathered.
use Rattle.std.proofs.Common.{◌≡◌, ℕ, zero, suc, List, [], ◌∷◌, take, set, refl, ap, ◌∙◌}
use Rattle.cell_lists.proofs.gathered.Gathered.put.Goals as goal

take_set : (n : ℕ) (xs : List ℕ) (i x : ℕ) → take n (set xs i x) ≡ set (take n xs) i x
take_set zero xs i x = refl
take_set (suc n) [] i x = refl
take_set (suc n) (y ∷ xs) zero x = refl
take_set (suc n) (y ∷ xs) (suc i) x = ap (λ (ys : List ℕ). y ∷ ys) (take_set n xs i x)

pub returns : goal.returns
returns c =
    take_set c.self.inside.count c.self.inside.disks c.args.place c.args.disk
    ∙ ap (λ (xs : List ℕ). set xs c.args.place c.args.disk) c.self.view_is
