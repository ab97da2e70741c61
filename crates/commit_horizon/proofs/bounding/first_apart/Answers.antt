use Rattle.std.proofs.Common.{sym, subst}
use Rattle.local_run.specs.Keeping.{IsSent, IsHeard}
use Rattle.commit_horizon.specs.Bounds.{HoldsUpTo, AgreeOn}
use Rattle.commit_horizon.proofs.Within.{none_sent, none_heard, apart_holds}
use Rattle.commit_horizon.proofs.bounding.first_apart.Goals as goal

pub returns-in_err-sent : goal.returns-in_err-sent
returns-in_err-sent c = let sender = c.args.sender.now in let hearer = c.args.hearer.now in
    subst (HoldsUpTo (AgreeOn sender hearer)) (sym c.from_residual.ensures)
    (none_sent sender hearer c.number.result c.number.ensures.value c.in_err-sent.ensures.value)

pub returns-in_err-heard : goal.returns-in_err-heard
returns-in_err-heard c = let sender = c.args.sender.now in let hearer = c.args.hearer.now in
    subst (HoldsUpTo (AgreeOn sender hearer)) (sym c.from_residual-in_err-heard.ensures)
    (none_heard sender hearer c.number-2.result c.number-2.ensures.value c.in_err-heard.ensures.value)

pub returns : goal.returns
returns c = let sender = c.args.sender.now in let hearer = c.args.hearer.now in
    apart_holds sender hearer c.in_ok-sent.sent.now c.in_ok-heard.heard.now c.first_disagreement.result
    (subst (λ n. IsSent sender n c.in_ok-sent.sent.now) c.number.ensures.value c.in_ok-sent.ensures.value)
    (subst (λ n. IsHeard hearer n c.in_ok-heard.heard.now) c.number-2.ensures.value
    c.in_ok-heard.ensures.value) c.first_disagreement.ensures.agree
