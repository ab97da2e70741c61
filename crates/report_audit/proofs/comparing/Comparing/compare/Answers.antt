use Rattle.std.proofs.Common.{ℕ, List, drop, sym, ap, ◌∙◌, subst}
use Rattle.std.specs.Io.KnownBytes.{Consumes}
use Rattle.report_audit.specs.Parting.{all_left}
use Rattle.report_audit.specs.Place.{place_in}
use Rattle.report_audit.specs.Comparing.{ComparingData, Differ, IsCourse, GoesOn, CountsCourse}
use Rattle.report_audit.specs.declared.agreeing.Course.{Course}
use Rattle.report_audit.proofs.Course.{consumes_more, counts_on, counts_line, place_further, place_differs, course_further, course_differs}
use Rattle.report_audit.proofs.comparing.Comparing.compare.Goals as goal

pub invariant_of-self : goal.invariant_of-self
invariant_of-self g c =
    let C = g.C.Source in
    let old = c.self.inside in
    let given = old.given.value in
    let known = c.self.invariant in
    let front : List ℕ = c.split_at.result.0.now in
    let back : List ℕ = c.split_at.result.1.now in
    let before = all_left old.ahead (C.left old.claimed) in
    let left = all_left c.agree-count.new.ahead (C.left c.agree-count.new.claimed) in
    let is = ap (λ (d : ComparingData g.row.C.Denot). d.course) c.self.view_is ∙ c.requires in
    let none = subst (λ (k : Course). IsCourse k old.other.bytes before) is c.self.invariant.1 in
    let agrees = c.agree-count.ensures in
    let course = c.in_line-self-inside.result in
    let line = c.in_line-self-inside.ensures in
    let differ = subst (λ (l : List ℕ). Differ l left) (sym c.split_at.ensures.back)
    (subst (λ (k : Course). GoesOn k (drop c.agree-count.result.0 c.args.piece.now) left) c.in-Differs.is agrees.course) in
    let took = subst (λ (l : List ℕ). Consumes before left l) (sym c.split_at.ensures.front) agrees.took in (
      place_differs old.agreed.bytes old.other.bytes front back old.place c.pass.new.self c.in_line-self-inside.new.place none
          c.self.invariant.0 c.pass.ensures line.line
          ∙ (λ i. place_in (sym c.add.ensures i) (sym c.add-in-Differs.ensures i)),
      subst (λ (l : List ℕ). IsCourse course l left) (sym c.add-in-Differs.ensures)
          (course_differs course old.other.bytes back left none line.course differ),
      subst (λ (l : List ℕ). Consumes (C.left given) left l) (sym c.add.ensures)
          (consumes_more (C.left given) before left old.agreed.bytes front known.2 took),
      counts_line (C.faults given) (C.faults c.agree-count.new.claimed) back course line.course
          (subst (λ (k : Course). CountsCourse (C.faults given) (C.faults c.agree-count.new.claimed) k) c.in-Differs.is
          (counts_on (C.faults given) (C.faults old.claimed) (C.faults c.agree-count.new.claimed) c.agree-count.result.1
          (subst (λ (k : Course). CountsCourse (C.faults given) (C.faults old.claimed) k) is known.3) agrees.counts)),
      agrees.lasts ∙ known.4,
    )

pub invariant_of-self-in_default : goal.invariant_of-self-in_default
invariant_of-self-in_default g c =
    let C = g.C.Source in
    let old = c.self.inside in
    let given = old.given.value in
    let known = c.self.invariant in
    let front : List ℕ = c.split_at.result.0.now in
    let before = all_left old.ahead (C.left old.claimed) in
    let left = all_left c.agree-count.new.ahead (C.left c.agree-count.new.claimed) in
    let is = ap (λ (d : ComparingData g.row.C.Denot). d.course) c.self.view_is ∙ c.requires in
    let none = subst (λ (k : Course). IsCourse k old.other.bytes before) is c.self.invariant.1 in
    let agrees = c.agree-count.ensures in
    let took = subst (λ (l : List ℕ). Consumes before left l) (sym c.split_at.ensures.front) agrees.took in (
      place_further old.agreed.bytes old.other.bytes front old.place c.pass.new.self none c.self.invariant.0 c.pass.ensures
          ∙ ap (λ (l : List ℕ). place_in l old.other.bytes) (sym c.add.ensures),
      course_further c.agree-count.result.1 old.other.bytes (drop c.agree-count.result.0 c.args.piece.now) left none
          c.in_default.not-Differs agrees.course,
      subst (λ (l : List ℕ). Consumes (C.left given) left l) (sym c.add.ensures)
          (consumes_more (C.left given) before left old.agreed.bytes front known.2 took),
      counts_on (C.faults given) (C.faults old.claimed) (C.faults c.agree-count.new.claimed) c.agree-count.result.1
          (subst (λ (k : Course). CountsCourse (C.faults given) (C.faults old.claimed) k) is known.3) agrees.counts,
      agrees.lasts ∙ known.4,
    )
