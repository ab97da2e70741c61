use Rattle.std.proofs.Common.{◌≡◌, ℕ, ◌<◌, ◌≤◌, List, append-nil, length, take, sym, ap, ◌∙◌, subst, refl, arith}
use Rattle.report_audit.specs.Place.{PlaceData}
use Rattle.report_audit.proofs.Linewise.{take_long}
use Rattle.report_audit.proofs.Lined.{still_clear, line_grows, line_ends, in_line_ended, whole_line}
use Rattle.report_audit.proofs.place.Place.end.Goals as goal

pub loop-at-init : goal.loop-at-init
loop-at-init c =
    let inside : List ℕ = c.self.inside.line in
    let same : inside ≡ c.args.self.now.line = ap (λ (p : PlaceData). p.line) c.self.view_is in
    let short : length inside ≤ 128 = subst (λ (l : List ℕ). length l ≤ 128) c.as_slice-line.ensures.bytes c.as_slice-line.ensures.short in
    record {
      within = omega arith;
      clear = refl;
      lines = ap (λ (p : PlaceData). p.lines) c.self.view_is;
      line = sym (take_long 128 inside short) ∙ ap (take 128) (same ∙ sym (append-nil c.args.self.now.line));
    }

pub returns-then-bytes-at-eq-NEWLINE-clause-line : goal.returns-then-bytes-at-eq-NEWLINE-clause-line
returns-then-bytes-at-eq-NEWLINE-clause-line c =
    let at : ℕ = c.loop-at.at in
    let ends = line_ends c.args.bytes.now at c.loop-at-test.true c.loop-at.invariant.clear c.if-bytes-at-eq-NEWLINE.true in
    in_line_ended c.args.self.now (record { lines = c.loop-at.self-inside.lines; line = c.loop-at.self-inside.line })
    c.args.bytes.now at c.loop-at.invariant.lines c.loop-at.invariant.line ends.0

pub returns-then-bytes-at-eq-NEWLINE-clause-ended : goal.returns-then-bytes-at-eq-NEWLINE-clause-ended
returns-then-bytes-at-eq-NEWLINE-clause-ended c = λ e.
    (line_ends c.args.bytes.now c.loop-at.at c.loop-at-test.true c.loop-at.invariant.clear c.if-bytes-at-eq-NEWLINE.true).1

pub loop-at-preserved : goal.loop-at-preserved
loop-at-preserved c =
    let at : ℕ = c.loop-at.at in
    let bytes : List ℕ = c.args.bytes.now in
    let lt : at < length bytes = c.loop-at-test.true in
    record {
      within = omega arith;
      clear = still_clear bytes at lt c.loop-at.invariant.clear c.if-bytes-at-eq-NEWLINE.false;
      lines = c.loop-at.invariant.lines;
      line = line_grows c.args.self.now.line bytes c.loop-at.self-inside.line c.push.new.self at lt
          c.loop-at.invariant.line c.push.ensures;
    }

pub returns-clause-line : goal.returns-clause-line
returns-clause-line c =
    let at : ℕ = c.loop-at.at in
    let whole = whole_line c.args.bytes.now at c.loop-at-test.false c.loop-at.invariant.clear in
    in_line_ended c.args.self.now (record { lines = c.loop-at.self-inside.lines; line = c.loop-at.self-inside.line })
    c.args.bytes.now at c.loop-at.invariant.lines c.loop-at.invariant.line whole.0

pub returns-clause-open : goal.returns-clause-open
returns-clause-open c = λ e. (whole_line c.args.bytes.now c.loop-at.at c.loop-at-test.false c.loop-at.invariant.clear).1
