-- The region in a slot stands on the states on which the region stood that was put there first.
use Rattle.std.proofs.Common.{◌≡◌, ℕ, List, subst, ⊎_elim}
use Rattle.cell_sequence.specs.State.{CellStateData}
use Rattle.local_run.specs.Opening.{RegionData}
use Rattle.local_run.specs.RunOn.{BeginsAs}
use Rattle.local_run.proofs.Stands.{begun_still_stand}
use Rattle.region_table.specs.Bases.{IsSpent, MayLieIn}
use Rattle.region_table.specs.Laws.{HaveStood, StillStands, HomesStillStand, TakenStillStand}

what_lies_stands : (state : CellStateData) (opened : List RegionData) (k : ℕ) (region : RegionData) → HaveStood state opened →
    MayLieIn opened k region → StillStands state k region
what_lies_stands state opened k region stood lies alive = ⊎_elim
    (λ (begins : BeginsAs lies.0 region). begun_still_stand state k lies.0 region (stood k lies.0 lies.1) begins alive)
    (λ (spent : IsSpent lies.0.home.number region). absurd (alive spent.run))
    lies.2

pub homes_still_stand : HomesStillStand
homes_still_stand state opened s stood kept k region lt home at =
    let found = kept.home k lt home in
    let same : found.0 ≡ region = cc (found.1, at) in
    what_lies_stands state opened k region stood (subst (MayLieIn opened k) same found.2.lies)

pub taken_still_stand : TakenStillStand
taken_still_stand state old new k region stood takes =
    what_lies_stands state old.view.opened k region stood takes.answers.3.lies
