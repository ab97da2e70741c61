-- The sum of both ticks is 2.
use Rattle.std.proofs.Common.{ℕ, arith, subst}
use Rattle.command_words.specs.declared.settings.OutputFormat.TheVariants.{Lines}
use Rattle.program_modes.specs.Laws.{IsRest}
use Rattle.worked_laws.specs.Pair.{pair_scene}
use Rattle.worked_outputs.proofs.Left.{states_rest}
use Rattle.worked_outputs.proofs.cuts.two_cuts_are_one.Goals as goal

pub returns-clause-one : goal.returns-clause-one
returns-clause-one c first again once bytes text at_first at_again at_once said twice =
    let written = (c.cuts_add_up.ensures first again once Lines 1 1 bytes text at_first at_again at_once).0 twice in
    states_rest 2 text (omega arith)
    (subst (λ (at : ℕ). IsRest pair_scene at text) at_once.1 (c.cuts_resume.ensures once pair_scene bytes text at_once.0 at_once.2 said written))

pub returns-clause-two : goal.returns-clause-two
returns-clause-two c first again once bytes text at_first at_again at_once said written =
    let twice = (c.cuts_add_up.ensures first again once Lines 1 1 bytes text at_first at_again at_once).1 written in (
      twice.0,
      states_rest 1 twice.0 (omega arith)
          (subst (λ (at : ℕ). IsRest pair_scene at twice.0) at_first.1 (c.cuts_resume.ensures first pair_scene bytes twice.0 at_first.0 at_first.2 said twice.1)),
      twice.2,
    )
