use Rattle.std.proofs.Common.{inl, inr, sym, subst}
use Rattle.std.specs.Io.KnownBytes.{Consumes}
use Rattle.report_audit.specs.Parting.{all_left}
use Rattle.report_audit.specs.Place.{PlaceData, IsSame, IsLonger, IsWrong}
use Rattle.report_audit.specs.Comparing.{IsCourse}
use Rattle.report_audit.specs.declared.agreeing.Course.{Course}
use Rattle.report_audit.proofs.Judged.{wrong_compares, longer_compares, same_compares}
use Rattle.report_audit.proofs.judging.verdict_at.Goals as goal

pub returns-in_ok-wrong-in-Wrong-clause-judges : goal.returns-in_ok-wrong-in-Wrong-clause-judges
returns-in_ok-wrong-in-Wrong-clause-judges g c = λ start agreed other more is course took end short.
    let left = g.C.Source.left c.args.claimed.now in
    let v = c.in_ok-wrong-in-Wrong.field-0 in
    let at = subst (λ (k : Course). IsCourse k other (all_left c.args.ahead.now left)) c.in-Wrong.is course in
    wrong_compares start c.args.ahead.now left agreed other more v
    (subst (λ (p : PlaceData). IsWrong p v) is c.in_ok-wrong-in-Wrong.ensures) at.0 (inl at.1) took short

pub returns-in_ok-wrong-in-Differs-clause-judges : goal.returns-in_ok-wrong-in-Differs-clause-judges
returns-in_ok-wrong-in-Differs-clause-judges g c = λ start agreed other more is course took end short.
    let left = g.C.Source.left c.args.claimed.now in
    let v = c.in_ok-wrong-in-Differs.field-0 in
    let at = subst (λ (k : Course). IsCourse k other (all_left c.args.ahead.now left)) c.in-Differs.is course in
    wrong_compares start c.args.ahead.now left agreed other more v
    (subst (λ (p : PlaceData). IsWrong p v) is c.in_ok-wrong-in-Differs.ensures) at.0 (inr (end c.if-not-is_whole.false))
    took short

pub returns-in_ok-longer-in-Agrees-clause-judges : goal.returns-in_ok-longer-in-Agrees-clause-judges
returns-in_ok-longer-in-Agrees-clause-judges g c = λ start agreed other more is course took end short.
    let left = g.C.Source.left c.args.claimed.now in
    let v = c.in_ok-longer-in-Agrees.field-0 in
    let none = subst (λ (k : Course). IsCourse k other (all_left c.args.ahead.now left)) c.in-Agrees.is course in
    let has = c.in_ok-has_more-in-Agrees.ensures in
    longer_compares start c.has_more.new.ahead (g.C.Source.left c.has_more.new.claimed) agreed other more v
    (subst (λ (p : PlaceData). IsLonger p v) is c.in_ok-longer-in-Agrees.ensures) none (end c.if-not-is_whole-2.false)
    (has.more c.if-branch.true) (subst (λ l. Consumes start l agreed) (sym has.same) took) short

pub returns-in_ok-same-in-Agrees-clause-judges : goal.returns-in_ok-same-in-Agrees-clause-judges
returns-in_ok-same-in-Agrees-clause-judges g c = λ start agreed other more is course took end short.
    let left = g.C.Source.left c.args.claimed.now in
    let v = c.in_ok-same-in-Agrees.field-0 in
    let none = subst (λ (k : Course). IsCourse k other (all_left c.args.ahead.now left)) c.in-Agrees.is course in
    let has = c.in_ok-has_more-in-Agrees.ensures in
    same_compares start c.has_more.new.ahead (g.C.Source.left c.has_more.new.claimed) agreed other more v
    (subst (λ (p : PlaceData). IsSame p v) is c.in_ok-same-in-Agrees.ensures) none (end c.if-not-is_whole-2.false)
    (has.end c.if-branch.false) (subst (λ l. Consumes start l agreed) (sym has.same) took)
