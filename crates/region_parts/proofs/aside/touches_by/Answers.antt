use Rattle.std.proofs.Common.{◌≡◌, ◌<◌, ◌==◌, ℕ, false, sym, subst, arith}
use Rattle.event_stamps.specs.Order.{Before}
use Rattle.region_parts.proofs.aside.touches_by.Goals as goal

differ : (m n : ℕ) → (m == n) ≡ false → n ≡ m → ⊥
differ m n off same = grind arith

pub returns-then-i-j : goal.returns-then-i-j
returns-then-i-j c = λ none s touch.
    let lt : c.args.i < c.args.j = touch.0 in
    absurd (omega arith)

pub returns-then-not-is_before : goal.returns-then-not-is_before
returns-then-not-is_before c = λ none s touch.
    absurd (differ _ _ none (c.owner.ensures.only c.args.home.now.number c.requires.place.number touch.2))

pub returns-else-not-is_before : goal.returns-else-not-is_before
returns-else-not-is_before c = λ none s touch.
    subst (Before c.args.at.now) (sym (c.in-Some.ensures.1 s touch.1)) (c.is_before.ensures.0 c.if-not-is_before.false)

pub returns-in-None : goal.returns-in-None
returns-in-None c = λ none s touch. absurd (c.in-None.ensures s touch.1)

pub owner-requires : goal.owner-requires
owner-requires c = c.requires.first.1
