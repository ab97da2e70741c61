use Rattle.std.proofs.Common.{sym, subst}
use Rattle.run_core.specs.Standing.{GoesOnTo}
use Rattle.run_core.proofs.OneState.{seen_is}
use Rattle.run_core.proofs.one_state.Standing.after.Goals as goal

pub invariant_of-result : goal.invariant_of-result
invariant_of-result c = subst
    (GoesOnTo c.args.earlier c.args.last c.args.floor c.args.regions.items)
    (sym (seen_is c.args.earlier c.args.last c.args.floor c.args.regions.items c.requires.0 c.requires.1))
    c.requires.1

pub returns : goal.returns
returns c = λ state goes. seen_is c.args.earlier c.args.last c.args.floor c.args.regions.items state goes
