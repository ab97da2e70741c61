-- Of two disks either may be the lower one.
use Rattle.std.proofs.Common.{◌⊎◌, ◌↔◌, inl, inr, ◌<◌, Bool, sym, subst, ◌∙◌}
use Rattle.std.specs.Prelude.{Option, IsTrue}
use Rattle.std.proofs.lemmas.Bool.{both_ways}
use Rattle.event_stamps.specs.declared.Stamp.{Stamp}
use Rattle.event_stamps.specs.Least.{IsLeastOf}
use Rattle.cell_grid.specs.Grid.{Owns}
use Rattle.region_queue.specs.Finding.{IsNativePair}
use Rattle.region_queue.proofs.Beside.{pair_as_lower, pair_as_higher, pair_unowned, placed_beside}
use Rattle.region_queue.proofs.Candidates.{pair_without}
use Rattle.region_queue.proofs.InRange.{between_in_range}
use Rattle.region_queue.proofs.finder.Finder.key_beside.Goals as goal
use Rattle.region_queue.proofs.finder.Finder.key_beside.Goals.{then-whole, else-whole}

pub event_between-pair-requires-clause-first_valid : goal.event_between-pair-requires-clause-first_valid
event_between-pair-requires-clause-first_valid c = c.requires.ready.valid.disk c.args.disk c.args.placed.now c.requires.placed

pub event_between-pair-requires-clause-second_valid : goal.event_between-pair-requires-clause-second_valid
event_between-pair-requires-clause-second_valid c = c.requires.ready.valid.disk c.args.other c.in-Some.near (sym c.in-Some.ensures)

pub new-requires-2 : goal.new-requires-2
new-requires-2 c =
    let valid = c.requires.ready.valid in
    let near = c.in-Some.near in
    let here = c.requires.placed in
    let there = sym c.in-Some.ensures in
    let order : (c.args.disk < c.args.other) ⊎ (c.args.other < c.args.disk) =
    elim (c.owns_lower.ensures.0 c.if-not-owns_lower.false) [ inl low ↦ inl low.0 | inr high ↦ inr high.0 ] in
    between_in_range c.args.self.now.rules c.args.disk c.args.other c.args.placed.now.disk near.disk c.event_between-pair.result
    c.requires.ready.checked (valid.disk c.args.disk c.args.placed.now here) (valid.disk c.args.other near there)
    (valid.number c.args.disk c.args.placed.now here) (valid.number c.args.other near there) order
    c.event_between-pair.ensures.rising c.event_between-pair.ensures.falling

pub returns : goal.returns
returns c = λ nearby.
    let finder = c.args.self.now in
    let view = c.args.view.now in
    let near = c.in-Some.near in
    let here = c.requires.placed in
    let there = sym c.in-Some.ensures in
    let known : (IsTrue c.args.whole × IsTrue c.if-whole.home) ⊎ (IsTrue c.if-whole.home ↔ Owns finder.grid finder.region near.cell) =
    elim c.if-whole.branch [
      | then-whole w ↦ inl (w.if-whole.true, w.home-is ∙ w.if-whole.true)
      | else-whole w ↦
          inr (subst (λ (b : Bool). IsTrue b ↔ Owns finder.grid finder.region near.cell) (sym w.home-is) w.owns-home.ensures)
    ] in
    let beside = placed_beside finder view c.args.placed.now.cell c.args.other near c.args.whole c.if-whole.home there known nearby in
    subst (λ (o : Option Stamp). IsLeastOf (IsNativePair finder view c.args.disk c.args.other) o) (sym c.new-2.ensures)
    (elim (c.owns_lower.ensures.0 c.if-not-owns_lower.false) [
      | inl low ↦ pair_as_lower finder view c.args.disk c.args.other c.args.placed.now near c.if-whole.home c.event_between-pair.result
          low.0 here there (c.requires.own.0 low.1) beside (c.event_between-pair.ensures.rising low.0)
      | inr high ↦ pair_as_higher finder view c.args.disk c.args.other c.args.placed.now near c.if-whole.home c.event_between-pair.result
          high.0 here there high.1 beside (c.event_between-pair.ensures.falling high.0)
    ])

pub owns-home-requires-clause-cell : goal.owns-home-requires-clause-cell
owns-home-requires-clause-cell c = c.requires.ready.valid.cell c.args.other c.in-Some.near (sym c.in-Some.ensures)

pub returns-then-not-owns_lower : goal.returns-then-not-owns_lower
returns-then-not-owns_lower c = λ nearby.
    let finder = c.args.self.now in
    let view = c.args.view.now in
    let near = c.in-Some.near in
    let there = sym c.in-Some.ensures in
    let known : (IsTrue c.args.whole × IsTrue c.if-whole.home) ⊎ (IsTrue c.if-whole.home ↔ Owns finder.grid finder.region near.cell) =
    elim c.if-whole.branch [
      | then-whole w ↦ inl (w.if-whole.true, w.home-is ∙ w.if-whole.true)
      | else-whole w ↦
          inr (subst (λ (b : Bool). IsTrue b ↔ Owns finder.grid finder.region near.cell) (sym w.home-is) w.owns-home.ensures)
    ] in
    let beside = placed_beside finder view c.args.placed.now.cell c.args.other near c.args.whole c.if-whole.home there known nearby in
    subst (λ (o : Option Stamp). IsLeastOf (IsNativePair finder view c.args.disk c.args.other) o) (sym c.new-then-not-owns_lower.ensures)
    (pair_unowned finder view c.args.disk c.args.other c.args.placed.now near c.args.own c.if-whole.home c.requires.placed there
    c.requires.own beside (λ either. both_ways c.owns_lower.result c.if-not-owns_lower.true (c.owns_lower.ensures.1 either)))

pub returns-in_default : goal.returns-in_default
returns-in_default c = λ nearby.
    subst (λ (o : Option Stamp). IsLeastOf (IsNativePair c.args.self.now c.args.view.now c.args.disk c.args.other) o)
    (sym c.new.ensures) (pair_without c.args.self.now c.args.view.now c.args.disk c.args.other (sym c.in_default.ensures))
