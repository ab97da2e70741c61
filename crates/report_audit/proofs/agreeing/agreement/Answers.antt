use Rattle.std.proofs.Common.{ℕ, ◌≤◌, ◌<◌, List, [], ◌∷◌, ◌++◌, length, sym, ◌∙◌, arith}
use Rattle.std.proofs.lemmas.List.{take_more}
use Rattle.report_audit.proofs.Linewise.{parts_at}
use Rattle.report_audit.proofs.agreeing.agreement.Goals as goal

pub returns-after-loop-at-clause-part : goal.returns-after-loop-at-clause-part
returns-after-loop-at-clause-part c = λ lt more.
    let ended : length c.args.first.now ≤ c.loop-at.at = c.loop-at-test.false in
    parts_at c.args.first.now c.args.second.now more c.loop-at.at lt (λ less e. omega arith)

pub loop-at-preserved : goal.loop-at-preserved
loop-at-preserved c =
    let at : ℕ = c.loop-at.at in
    let xs : List ℕ = c.args.first.now in
    let ys : List ℕ = c.args.second.now in
    let first : at < length xs = c.loop-at-test.true in
    let second : at < length ys = c.if-at-second.true in
    record {
      first = omega arith;
      second = omega arith;
      same = take_more xs at 0 first ∙ (λ i. c.loop-at.invariant.same i ++ c.if-first-at.false i ∷ [])
          ∙ sym (take_more ys at 0 second);
    }
