use Rattle.std.proofs.Common.{ℕ, ◌≤◌, ◌<◌, List, ◌++◌, length, take, ap, ◌∙◌, arith}
use Rattle.report_audit.specs.Place.{place_of}
use Rattle.report_audit.proofs.Lined.{one_more}
use Rattle.report_audit.proofs.Linewise.{take_long}
use Rattle.report_audit.proofs.place.Place.pass.Goals as goal

pub loop-at-preserved : goal.loop-at-preserved
loop-at-preserved c =
    let at : ℕ = c.loop-at.at in
    let bytes : List ℕ = c.args.bytes.now in
    let lt : at < length bytes = c.loop-at-test.true in
    record {
      within = omega arith;
      place = λ before is. c.push.ensures (before ++ take at bytes) (c.loop-at.invariant.place before is)
          ∙ ap place_of (one_more before bytes at lt);
    }

pub returns : goal.returns
returns c = λ before is.
    let at : ℕ = c.loop-at.at in
    let bytes : List ℕ = c.args.bytes.now in
    let le : length bytes ≤ at = c.loop-at-test.false in
    c.loop-at.invariant.place before is ∙ ap (λ (l : List ℕ). place_of (before ++ l)) (take_long at bytes le)
