-- Steps and runs that follow each other.
use Rattle.std.proofs.Common.{List, [], ◌∷◌, ap, subst, refl}
use Rattle.region_view.specs.declared.action.Placed.{Placed}
use Rattle.region_view.specs.declared.action.Action.TheVariants.{Cross, Hit}
use Rattle.cell_sequence.specs.Run.{CellSteps, CellRuns, acted}
use Rattle.cell_sequence.specs.Laws.{StepsJoin, RunsJoin, HitsJoin}

pub steps_join : StepsJoin
steps_join rules grid placed mid later [] ys h k =
    subst (λ (v : List Placed). CellSteps rules grid v ys later) h k
steps_join rules grid placed mid later (x ∷ xs) ys h k =
    (h.0, h.1, steps_join rules grid (acted placed x) mid later xs ys h.2 k)

pub runs_join : RunsJoin
runs_join rules grid placed mid [] ys outcome h k =
    subst (λ (v : List Placed). CellRuns rules grid v ys outcome) h k
runs_join rules grid placed mid (x ∷ xs) ys outcome h k =
    (h.0, h.1, runs_join rules grid (acted placed x) mid xs ys outcome h.2 k)

pub hits_join : HitsJoin
hits_join [] ys = refl
hits_join (Cross s cell ∷ xs) ys = hits_join xs ys
hits_join (Hit c ∷ xs) ys = ap (λ zs. c ∷ zs) (hits_join xs ys)
