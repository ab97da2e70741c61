use Rattle.region_core.proofs.region.Region.spent.Goals as goal

pub invariant_of-result : goal.invariant_of-result
invariant_of-result c = record {
  place = record { home = c.requires.place; far = c.new.ensures; floor = c.requires.in_time };
  alive = tt;
}
