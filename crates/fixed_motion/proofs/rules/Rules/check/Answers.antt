use Rattle.std.proofs.Common.{◌≡◌, ◌∙◌, sym, w64, FitsSigned, rules}
use Rattle.std.proofs.lemmas.Int.{to_z-of_z}
use Rattle.std.specs.Prelude.{None}
use Rattle.fixed_motion.specs.Rules.{six_numbers, rule_fault, is_in, sides, speed_limits}
use Rattle.fixed_motion.proofs.Ranges.{no_fault_by_tests, in_range, rounds_in, ends_in}
use Rattle.fixed_motion.proofs.rules.Rules.check.Goals as goal

pub returns : goal.returns
returns c =
    let box = c.args.self.now in
    let fw : FitsSigned w64 box.width = search rules in
    let fh : FitsSigned w64 box.height = search rules in
    let fs : FitsSigned w64 box.speed_limit = search rules in
    let width : c.is_in.result ≡ is_in sides box.width = simp to_z-of_z at c.is_in.ensures in
    let height : c.is_in-2.result ≡ is_in sides box.height = simp to_z-of_z at c.is_in-2.ensures in
    let speed : c.is_in-3.result ≡ is_in speed_limits box.speed_limit = simp to_z-of_z at c.is_in-3.ensures in
    let none : rule_fault (six_numbers box) ≡ None = no_fault_by_tests (six_numbers box)
    (sym width ∙ c.if-not-is_in.false) (sym height ∙ c.if-not-is_in-2.false)
    (sym c.has_fitting_diameter.ensures ∙ c.if-not-has_fitting_diameter.false) (sym speed ∙ c.if-not-is_in-3.false)
    (rounds_in box.round_limit c.if-self-lt1.false c.if-self-gt-MAX_ROUNDS.false)
    (ends_in box.end c.if-self-gt-MAX_END.false) in
    (none, in_range (six_numbers box) none)
