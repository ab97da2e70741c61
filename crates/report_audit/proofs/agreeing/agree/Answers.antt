use Rattle.std.proofs.Common.{◌≢◌, ℕ, ◌+◌, ◌<◌, ◌≤◌, List, length, length-drop, take, drop_of_length-le, sym, ap, ◌∙◌, subst, arith}
use Rattle.std.specs.Io.KnownBytes.{Consumes}
use Rattle.report_ports.specs.Ports.{Rose}
use Rattle.report_audit.specs.Parting.{all_left}
use Rattle.report_audit.proofs.Linewise.{tail_whole}
use Rattle.report_audit.proofs.Agreement.{agrees_further, differs_here, ended_here}
use Rattle.report_audit.proofs.agreeing.agree.Goals as goal

pub loop-at-preserved : goal.loop-at-preserved
loop-at-preserved g c =
    let C = g.C.Source in
    let piece : List ℕ = c.args.piece.now in
    let at : ℕ = c.loop-at.at in
    let n : ℕ = c.agreement-same.result in
    let left = C.left c.has_more.new.claimed in
    let old = all_left c.args.ahead.now (C.left c.args.claimed.now) in
    let more = c.in-Ok.ensures in
    let took = subst (λ l. Consumes old l (take at piece)) (sym more.same) c.loop-at.invariant.took in
    let further = agrees_further piece _ c.as_slice.result.now c.has_more.new.ahead at n old left (tail_whole piece at)
    c.as_slice.ensures c.agreement-same.ensures.same took in
    let tail = ap length (tail_whole piece at) ∙ length-drop at piece in
    let first = c.agreement-same.ensures.first in
    let within : at ≤ length piece = c.loop-at.invariant.within in
    record {
      within = omega arith;
      took = subst (λ (l : List ℕ). Consumes old (all_left l left) (take (at + n) piece)) (sym c.pass.ensures) further;
      counts = more.counts ∙ c.loop-at.invariant.counts;
      lasts = more.lasts ∙ c.loop-at.invariant.lasts;
    }

pub loop-at-smaller : goal.loop-at-smaller
loop-at-smaller g c =
    let piece : List ℕ = c.args.piece.now in
    let at : ℕ = c.loop-at.at in
    let n : ℕ = c.agreement-same.result in
    let some : n ≢ 0 = c.if-same-eq0.false in
    let lt : at < length piece = c.loop-at-test.true in
    omega arith

pub returns-then-not-more-clause-took : goal.returns-then-not-more-clause-took
returns-then-not-more-clause-took g c =
    let C = g.C.Source in
    let old = all_left c.args.ahead.now (C.left c.args.claimed.now) in
    subst (λ l. Consumes old l (take c.loop-at.at c.args.piece.now)) (sym c.in-Ok.ensures.same) c.loop-at.invariant.took

pub returns-then-not-more-clause-course : goal.returns-then-not-more-clause-course
returns-then-not-more-clause-course g c =
    let C = g.C.Source in
    ended_here c.args.piece.now c.loop-at.at (all_left c.has_more.new.ahead (C.left c.has_more.new.claimed))
    c.loop-at-test.true (c.in-Ok.ensures.end c.if-not-more.true)

pub returns-in-Err-clause-took : goal.returns-in-Err-clause-took
returns-in-Err-clause-took g c =
    let C = g.C.Source in
    let old = all_left c.args.ahead.now (C.left c.args.claimed.now) in
    subst (λ l. Consumes old l (take c.loop-at.at c.args.piece.now)) (sym c.in-Err.ensures.same) c.loop-at.invariant.took

pub returns-in-Err-clause-counts : goal.returns-in-Err-clause-counts
returns-in-Err-clause-counts g c =
    let after : ℕ = g.C.Source.faults c.has_more.new.claimed in
    subst (λ (n : ℕ). (n ≤ after) × Rose n after) c.loop-at.invariant.counts c.in-Err.ensures.counts

pub returns-then-same-eq0-clause-took : goal.returns-then-same-eq0-clause-took
returns-then-same-eq0-clause-took g c =
    let C = g.C.Source in
    let old = all_left c.args.ahead.now (C.left c.args.claimed.now) in
    subst (λ l. Consumes old l (take c.loop-at.at c.args.piece.now)) (sym c.in-Ok.ensures.same) c.loop-at.invariant.took

pub returns-then-same-eq0-clause-course : goal.returns-then-same-eq0-clause-course
returns-then-same-eq0-clause-course g c =
    let C = g.C.Source in
    let piece : List ℕ = c.args.piece.now in
    differs_here piece _ c.as_slice.result.now c.has_more.new.ahead c.loop-at.at c.agreement-same.result
    (C.left c.has_more.new.claimed) (tail_whole piece c.loop-at.at) c.as_slice.ensures c.if-same-eq0.true
    c.loop-at-test.true (c.in-Ok.ensures.more c.if-not-more.false) c.agreement-same.ensures.part

pub returns-clause-course : goal.returns-clause-course
returns-clause-course g c = drop_of_length-le c.args.piece.now c.loop-at-test.false
