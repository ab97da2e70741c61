-- One content more, for one region more.
use Rattle.std.proofs.Common.{◌++◌, ◌∷◌, [], List, ap, ◌∙◌, sym}
use Rattle.std.specs.Prelude.{Option, Some}
use Rattle.std.proofs.lemmas.List.{map-append}
use Rattle.local_run.specs.Opening.{RegionData}
use Rattle.region_table.proofs.table.in_slots.Goals as goal

pub loop-region-preserved : goal.loop-region-preserved
loop-region-preserved c =
    let region : RegionData = c.in-Some.region in
    c.in_ok-push.ensures.items ∙ ap (λ (z : List (Option RegionData)). z ++ Some region ∷ []) c.loop-region.invariant
    ∙ sym (map-append (λ (r : RegionData). Some r) c.loop-region.yielded (region ∷ []))
