use Rattle.std.proofs.Common.{◌≡◌, ℕ, List, sym, ap, ◌∙◌, subst}
use Rattle.report_audit.specs.Parting.{all_left}
use Rattle.report_audit.specs.Place.{place_in}
use Rattle.report_audit.specs.Comparing.{ComparingData, IsCourse, CountsCourse}
use Rattle.report_audit.specs.declared.agreeing.Course.{Course}
use Rattle.report_audit.proofs.Course.{counts_line, course_line, place_line}
use Rattle.report_audit.proofs.comparing.Comparing.go_on.Goals as goal

pub invariant_of-self : goal.invariant_of-self
invariant_of-self g c =
    let C = g.C.Source in
    let old = c.self.inside in
    let given = old.given.value in
    let known = c.self.invariant in
    let piece : List ℕ = c.args.piece.now in
    let left = all_left old.ahead (C.left old.claimed) in
    let is = ap (λ (d : ComparingData g.row.C.Denot). d.course) c.self.view_is ∙ c.requires in
    let course = c.in_line-self-inside.result in
    let place = c.in_line-self-inside.new.place in
    let line = c.in_line-self-inside.ensures in
    let differs = subst (λ (k : Course). IsCourse k old.other.bytes left) is c.self.invariant.1 in (
      subst (λ (l : List ℕ). place ≡ place_in old.agreed.bytes l) (sym c.add.ensures)
          (place_line old.agreed.bytes old.other.bytes piece old.place place left differs c.self.invariant.0 line.line),
      subst (λ (l : List ℕ). IsCourse course l left) (sym c.add.ensures)
          (course_line course old.other.bytes piece left differs line.course),
      known.2,
      counts_line (C.faults given) (C.faults old.claimed) piece course line.course
          (subst (λ (k : Course). CountsCourse (C.faults given) (C.faults old.claimed) k) is known.3),
      known.4,
    )
