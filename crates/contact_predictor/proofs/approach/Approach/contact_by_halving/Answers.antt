-- The contact is the last tick at which disks whose paths cross approach.
use Rattle.std.proofs.Common.{rules, ◌≡◌, ◌+◌, ◌-◌, ◌/◌, ℕ, FitsSigned, w64, arith, ap, ◌∙◌, subst}
use Rattle.std.specs.Prelude.{nat_abs}
use Rattle.std.proofs.lemmas.Bool.{both_ways}
use Rattle.plane_vectors.proofs.Sizes.{sent_same}
use Rattle.contact_predictor.specs.Approach.{IsEarly}
use Rattle.contact_predictor.proofs.Quadratic.{IsComing, Nears, wrapped_at, nears_told, nears_now, past_contact, early_before, last_nears}
use Rattle.contact_predictor.proofs.approach.Approach.contact_by_halving.Goals as goal

pub loop-high-init : goal.loop-high-init
loop-high-init c =
    let q = c.args.self in
    let fc : FitsSigned w64 c.args.self.gap = search rules in
    let fb : FitsSigned w64 c.args.self.closing = search rules in
    let coming : IsComing c.args.self = record { fits = c.requires.fits; apart = c.requires.apart; course = c.requires.course } in
    let past = past_contact q c.unsigned_abs.result c.unsigned_abs-2.result coming
    (c.unsigned_abs.ensures.value ∙ ap nat_abs (sent_same q.gap fc)) (c.unsigned_abs-2.ensures.value ∙ ap nat_abs (sent_same q.closing fb)) in
    record { order = omega arith; early = past.0; approaches = nears_now q coming; ends = past.1 }

pub loop-high-preserved-then-is_approaching : goal.loop-high-preserved-then-is_approaching
loop-high-preserved-then-is_approaching c =
    let q = c.args.self in
    let middle = c.loop-high.low + (c.loop-high.high - c.loop-high.low) / 2 in
    let coming : IsComing c.args.self = record { fits = c.requires.fits; apart = c.requires.apart; course = c.requires.course } in
    let early : IsEarly q middle = early_before q middle (c.loop-high.high - 1) (omega arith) c.loop-high.invariant.early in
    let then = c.after.ensures in
    let told = nears_told q c.after.result middle coming early (wrapped_at q c.after.result middle coming early then.square then.closing then.gap) in
    record {
      order = omega arith;
      early = c.loop-high.invariant.early;
      approaches = told.0 (c.is_approaching.ensures.0 c.if-is_approaching.true);
      ends = c.loop-high.invariant.ends;
    }

pub loop-high-preserved : goal.loop-high-preserved
loop-high-preserved c =
    let q = c.args.self in
    let middle = c.loop-high.low + (c.loop-high.high - c.loop-high.low) / 2 in
    let coming : IsComing c.args.self = record { fits = c.requires.fits; apart = c.requires.apart; course = c.requires.course } in
    let early : IsEarly q middle = early_before q middle (c.loop-high.high - 1) (omega arith) c.loop-high.invariant.early in
    let then = c.after.ensures in
    let told = nears_told q c.after.result middle coming early (wrapped_at q c.after.result middle coming early then.square then.closing then.gap) in
    record {
      order = omega arith;
      early = early_before q (middle - 1) middle (omega arith) early;
      approaches = c.loop-high.invariant.approaches;
      ends = λ nears. both_ways c.is_approaching.result c.if-is_approaching.false (c.is_approaching.ensures.1 (told.1 nears));
    }

pub returns-clause-found : goal.returns-clause-found
returns-clause-found c =
    let next : c.loop-high.high ≡ c.loop-high.low + 1 = omega arith in
    last_nears c.args.self c.loop-high.low c.requires.course c.loop-high.invariant.approaches
    (subst (λ (n : ℕ). ¬ Nears c.args.self n) next c.loop-high.invariant.ends)
