use Rattle.std.proofs.Common.{inl, inr, ap, ◌∙◌, subst}
use Rattle.report_audit.specs.Parting.{all_left}
use Rattle.report_audit.specs.Comparing.{ComparingData, HasNoWrongLine}
use Rattle.report_audit.proofs.Ended.{none_wrong}
use Rattle.report_audit.proofs.comparing.ComparingSink.give.Goals as goal

pub returns-in-Agrees-clause-ends : goal.returns-in-Agrees-clause-ends
returns-in-Agrees-clause-ends g c = λ all claimed known.
    let C = g.C.Source in
    let new = c.self.inside in
    let given = ap (λ (d : ComparingData g.row.C.Denot). d.given) c.self.view_is ∙ c.advance.ensures.rest.0 in
    subst (λ (d : ComparingData g.row.C.Denot). HasNoWrongLine d.taken claimed) c.self.view_is
    (none_wrong new.course new.agreed.bytes new.other.bytes claimed (C.left new.given.value) (all_left new.ahead (C.left new.claimed))
    (inl c.in-Agrees.is) c.self.invariant.1 (ap C.left given ∙ known) c.self.invariant.2)

pub returns-in-Differs-clause-ends : goal.returns-in-Differs-clause-ends
returns-in-Differs-clause-ends g c = λ all claimed known.
    let C = g.C.Source in
    let new = c.self.inside in
    let given = ap (λ (d : ComparingData g.row.C.Denot). d.given) c.self.view_is ∙ c.advance.ensures.rest.0 in
    subst (λ (d : ComparingData g.row.C.Denot). HasNoWrongLine d.taken claimed) c.self.view_is
    (none_wrong new.course new.agreed.bytes new.other.bytes claimed (C.left new.given.value) (all_left new.ahead (C.left new.claimed))
    (inr c.in-Differs.is) c.self.invariant.1 (ap C.left given ∙ known) c.self.invariant.2)
