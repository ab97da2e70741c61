use Rattle.std.proofs.lemmas.Bool.{false≢true}
use Rattle.std.proofs.Common.{◌∙◌, Option, true, refl, sym, subst}
use Rattle.std.specs.Prelude.{IsTrue, ◌↔◌}
use Rattle.event_stamps.specs.declared.Stamp.{Stamp}
use Rattle.local_run.specs.Moves.{ComesAfter}
use Rattle.region_core.proofs.NextMove.{too_early}
use Rattle.region_core.proofs.moves.is_in_turn.Goals as goal

pub returns-then-is_before : goal.returns-then-is_before
returns-then-is_before c = (
  λ t. absurd (false≢true t),
  λ after. absurd (too_early c.args.floor.now c.args.stamp.now c.args.clock
      (c.is_before.ensures.0 c.if-is_before.true) after),
)

pub returns-in-Some : goal.returns-in-Some
returns-in-Some c =
    subst (λ (clock : Option Stamp). IsTrue c.is_before-in-Some.result
    ↔ ComesAfter c.args.floor.now clock c.args.stamp.now) (sym c.in-Some.is) (
      λ t. (λ lt. false≢true (sym c.if-is_before.false ∙ c.is_before.ensures.1 lt), c.is_before-in-Some.ensures.0 t),
      λ after. c.is_before-in-Some.ensures.1 after.1,
    )

pub returns-in-None : goal.returns-in-None
returns-in-None c =
    subst (λ (clock : Option Stamp). IsTrue true
    ↔ ComesAfter c.args.floor.now clock c.args.stamp.now) (sym c.in-None.is)
    (λ t. λ lt. false≢true (sym c.if-is_before.false ∙ c.is_before.ensures.1 lt), λ after. refl)
