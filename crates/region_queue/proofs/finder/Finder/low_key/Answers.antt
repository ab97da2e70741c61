-- The stamp is that of the event of the two, if there is one.
use Rattle.std.proofs.Common.{sym, subst}
use Rattle.std.specs.Prelude.{Option}
use Rattle.event_stamps.specs.declared.Stamp.{Stamp}
use Rattle.region_queue.specs.Finding.{IsNativePair, IsLowKey}
use Rattle.region_queue.proofs.Candidates.{pair_without, pair_without_itself}
use Rattle.region_queue.proofs.Low.{chance_low, coded, least_pair_low, low_is_pair}
use Rattle.region_queue.proofs.InRange.{chance_in_range}
use Rattle.region_queue.proofs.finder.Finder.low_key.Goals as goal

pub chance_between-pair-requires-clause-first_valid : goal.chance_between-pair-requires-clause-first_valid
chance_between-pair-requires-clause-first_valid c = c.requires.valid.disk c.args.disk c.in-Some.placed (sym c.in-Some.ensures)

pub chance_between-pair-requires-clause-second_valid : goal.chance_between-pair-requires-clause-second_valid
chance_between-pair-requires-clause-second_valid c = c.requires.valid.disk c.args.other c.in-Some-get.near (sym c.in-Some-get.ensures)

pub code_of_pair-requires-clause-range : goal.code_of_pair-requires-clause-range
code_of_pair-requires-clause-range c =
    let valid = c.requires.valid in
    let placed = c.in-Some.placed in
    let near = c.in-Some-get.near in
    let here = sym c.in-Some.ensures in
    let there = sym c.in-Some-get.ensures in
    chance_in_range c.args.self.now.rules c.args.disk c.args.other placed.disk near.disk c.chance_between-pair.result
    c.requires.checked (valid.disk c.args.disk placed here) (valid.disk c.args.other near there)
    (valid.number c.args.disk placed here) (valid.number c.args.other near there) c.chance_between-pair.ensures

pub code_of_pair-requires-clause-pair : goal.code_of_pair-requires-clause-pair
code_of_pair-requires-clause-pair c =
    low_is_pair _ c.args.disk c.chance_between-pair.result
    (chance_low c.args.self.now c.args.view.now c.args.disk c.args.other c.in-Some.placed c.in-Some-get.near c.chance_between-pair.result
    (sym c.in-Some.ensures) (sym c.in-Some-get.ensures) c.chance_between-pair.ensures)

pub returns : goal.returns
returns c =
    coded (IsLowKey (IsNativePair c.args.self.now c.args.view.now c.args.disk c.args.other) c.args.disk) c.code_of_pair.result
    c.chance_between-pair.result c.code_of_pair.ensures
    (chance_low c.args.self.now c.args.view.now c.args.disk c.args.other c.in-Some.placed c.in-Some-get.near c.chance_between-pair.result
    (sym c.in-Some.ensures) (sym c.in-Some-get.ensures) c.chance_between-pair.ensures)

pub returns-in_default : goal.returns-in_default
returns-in_default c =
    let finder = c.args.self.now in
    let view = c.args.view.now in
    subst (λ (o : Option Stamp). IsLowKey (IsNativePair finder view c.args.disk c.args.other) c.args.disk o) (sym c.none.ensures)
    (least_pair_low finder view c.args.disk c.args.other _ (pair_without_itself finder view c.args.disk c.args.other (sym c.in_default.ensures)))

pub returns-in_default-get : goal.returns-in_default-get
returns-in_default-get c =
    let finder = c.args.self.now in
    let view = c.args.view.now in
    subst (λ (o : Option Stamp). IsLowKey (IsNativePair finder view c.args.disk c.args.other) c.args.disk o) (sym c.none-in_default-get.ensures)
    (least_pair_low finder view c.args.disk c.args.other _ (pair_without finder view c.args.disk c.args.other (sym c.in_default-get.ensures)))
