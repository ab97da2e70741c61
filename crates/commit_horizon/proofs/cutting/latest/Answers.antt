use Rattle.std.proofs.Common.{◌≡◌, ◌∙◌, sym, refl, true, false, Some, Option}
use Rattle.event_stamps.specs.declared.Stamp.{Stamp}
use Rattle.region_messages.specs.Trails.{is_before}
use Rattle.commit_horizon.specs.Cutting.{latest_of}
use Rattle.event_stamps.proofs.Derived.{lt_is}
use Rattle.commit_horizon.proofs.cutting.latest.Goals as goal

then_is : (a b : Option Stamp) (s t : Stamp) → a ≡ Some s → b ≡ Some t → is_before s t ≡ true → Some t ≡ latest_of a b
then_is a b s t e f less = rw (e, f, less) refl

else_is : (a b : Option Stamp) (s t : Stamp) → a ≡ Some s → b ≡ Some t → is_before s t ≡ false → Some s ≡ latest_of a b
else_is a b s t e f not = rw (e, f, not) refl

pub returns-then-lt : goal.returns-then-lt
returns-then-lt c =
    let is = sym (lt_is c.in-Some-Some.s c.in-Some-Some.t) ∙ sym c.lt.ensures ∙ c.if-lt.true in
    then_is _ _ _ _ c.in-Some-Some.is-0 c.in-Some-Some.is-1 is

pub returns-else-lt : goal.returns-else-lt
returns-else-lt c =
    let is = sym (lt_is c.in-Some-Some.s c.in-Some-Some.t) ∙ sym c.lt.ensures ∙ c.if-lt.false in
    else_is _ _ _ _ c.in-Some-Some.is-0 c.in-Some-Some.is-1 is
