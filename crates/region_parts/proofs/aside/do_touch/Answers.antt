use Rattle.std.proofs.Common.{sym, ◌∙◌, Option, subst}
use Rattle.std.proofs.lemmas.Bool.{false≢true}
use Rattle.region_parts.proofs.Hindrances.{touch_after, none_touched}
use Rattle.region_view.specs.declared.action.Placed.{Placed}
use Rattle.region_view.specs.Setting.{IsValidPlaced}
use Rattle.region_parts.specs.Aside.{TouchAfter}
use Rattle.region_parts.proofs.aside.do_touch.Goals as goal

pub returns-then-touches_by : goal.returns-then-touches_by
returns-then-touches_by c = λ none. absurd (false≢true (sym none ∙ c.if-touches_by.true))

pub returns-else-touches_by : goal.returns-else-touches_by
returns-else-touches_by c = λ none.
    touch_after c.args.home.now c.args.at.now c.args.row c.args.other c.in-Some.p c.in-Some-1₀.q c.in-Some.is
    c.in-Some-1₀.is (c.touches_by.ensures c.if-touches_by.false) (c.touches_by-else-touches_by.ensures none)

pub touches_by-requires-clause-first : goal.touches_by-requires-clause-first
touches_by-requires-clause-first c = subst (IsValidPlaced c.args.home.now.rules c.args.home.now.grid) c.in-Some.is c.requires.row

pub touches_by-requires-clause-second : goal.touches_by-requires-clause-second
touches_by-requires-clause-second c = subst (IsValidPlaced c.args.home.now.rules c.args.home.now.grid) c.in-Some-1₀.is c.requires.other

pub touches_by-requires-else-touches_by-clause-first : goal.touches_by-requires-else-touches_by-clause-first
touches_by-requires-else-touches_by-clause-first c = subst (IsValidPlaced c.args.home.now.rules c.args.home.now.grid) c.in-Some-1₀.is c.requires.other

pub touches_by-requires-else-touches_by-clause-second : goal.touches_by-requires-else-touches_by-clause-second
touches_by-requires-else-touches_by-clause-second c = subst (IsValidPlaced c.args.home.now.rules c.args.home.now.grid) c.in-Some.is c.requires.row

pub touches_by-requires-else-touches_by-clause-place : goal.touches_by-requires-else-touches_by-clause-place
touches_by-requires-else-touches_by-clause-place c = c.requires.place

pub returns-in_default : goal.returns-in_default
returns-in_default c = λ none. subst (λ (o : Option Placed). TouchAfter c.args.home.now c.args.at.now (c.args.row.0, o) c.args.other) (sym c.in_default.is) tt

pub returns-in_default-1₀ : goal.returns-in_default-1₀
returns-in_default-1₀ c = λ none. none_touched c.args.home.now c.args.at.now c.args.row c.args.other c.in_default-1₀.is
