-- The grid of the regions that a burst is given.
use Rattle.std.proofs.Common.{◌≡◌, List, length, Some, sym, ap, ◌∙◌}
use Rattle.std.specs.Prelude.{slice_get}
use Rattle.cell_grid.specs.Grid.{GridData}
use Rattle.local_run.specs.declared.home.Home.{Home}
use Rattle.local_run.specs.Opening.{RegionData}
use Rattle.local_run.specs.Bursts.{AreTogether}

-- there are as many regions as the grid of the first has
pub counted_by_first : (regions found : List RegionData) (first : RegionData) (grid : GridData) →
    AreTogether regions → found ≡ regions → Some first ≡ slice_get found 0 → grid ≡ first.home.grid →
    length regions ≡ grid.regions
counted_by_first regions found first grid together same is of_first =
    let at_place = together.each 0 first (ap (λ (xs : List RegionData). slice_get xs 0) (sym same) ∙ sym is) in
    together.count ∙ sym (ap (λ (home : Home). home.grid.regions) at_place.home)
    ∙ sym (ap (λ (g : GridData). g.regions) of_first)
