use Rattle.std.proofs.Common.{◌≡◌, Bool, true, false, not, refl, sym, subst, Option}
use Rattle.std.specs.Prelude.{IsTrue, IfSome}
use Rattle.std.proofs.lemmas.Bool.{false≢true}
use Rattle.event_stamps.specs.declared.Stamp.{Stamp}
use Rattle.region_core.specs.Live.{now_in, HasDueBefore, IsHeldBack}
use Rattle.region_core.proofs.live.Live.is_held_back.Goals as goal

never_both : (b : Bool) → IsTrue (not b) → IsTrue b → ⊥
never_both true turned is = false≢true turned
never_both false turned is = false≢true is

is_so : (b : Bool) → not b ≡ false → IsTrue b
is_so true off = refl
is_so false off = absurd (false≢true (sym off))

pub returns-in-Some-clause-held : goal.returns-in-Some-clause-held
returns-in-Some-clause-held c = λ later.
    let live = c.args.self.now in
    subst (λ (bound : Option Stamp). IsHeldBack c.args.place.now.home bound live) (sym c.in-Some.is) (
      c.or_end.result,
      c.or_end.ensures (now_in live) c.requires,
      λ before. never_both _ later (c.is_before.ensures.1 before),
    )

pub returns-in-Some-clause-free : goal.returns-in-Some-clause-free
returns-in-Some-clause-free c = λ off.
    let live = c.args.self.now in
    subst (λ (bound : Option Stamp). IfSome bound (λ b. HasDueBefore c.args.place.now.home b live)) (sym c.in-Some.is) (
      c.or_end.result,
      c.or_end.ensures (now_in live) c.requires,
      c.is_before.ensures.0 (is_so _ off),
    )

pub returns-in-None-clause-held : goal.returns-in-None-clause-held
returns-in-None-clause-held c = λ never. absurd (false≢true never)

pub returns-in-None-clause-free : goal.returns-in-None-clause-free
returns-in-None-clause-free c = λ off.
    subst (λ (bound : Option Stamp). IfSome bound (λ b. HasDueBefore c.args.place.now.home b c.args.self.now))
    (sym c.in-None.is) tt
