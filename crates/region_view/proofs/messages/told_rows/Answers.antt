use Rattle.region_view.proofs.messages.told_rows.Goals as goal

pub told_row-requires-clause-cells : goal.told_row-requires-clause-cells
told_row-requires-clause-cells c = c.requires.cells

pub told_row-requires-clause-region : goal.told_row-requires-clause-region
told_row-requires-clause-region c = c.requires.region

pub told_row-requires-in-len2-up-clause-cells : goal.told_row-requires-in-len2-up-clause-cells
told_row-requires-in-len2-up-clause-cells c = c.requires.cells

pub told_row-requires-in-len2-up-clause-region : goal.told_row-requires-in-len2-up-clause-region
told_row-requires-in-len2-up-clause-region c = c.requires.region

pub told_row-requires-in-len2-up-2-clause-cells : goal.told_row-requires-in-len2-up-2-clause-cells
told_row-requires-in-len2-up-2-clause-cells c = c.requires.cells

pub told_row-requires-in-len2-up-2-clause-region : goal.told_row-requires-in-len2-up-2-clause-region
told_row-requires-in-len2-up-2-clause-region c = c.requires.region
