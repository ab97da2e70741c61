-- The product fits 128 bits.
use Rattle.std.proofs.Common.{rules, ◌≡◌, ◌↔◌, ℕ, ◌*◌, ◌≤◌, IsTrue, arith, ap, ◌∙◌, w64, FitsSigned}
use Rattle.std.specs.Prelude.{nat_abs}
use Rattle.std.proofs.lemmas.Bool.{leb-true, le-leb}
use lib.Dec.{leb}
use Rattle.plane_vectors.proofs.Sizes.{sent_same}
use Rattle.contact_predictor.proofs.approach.Approach.is_early.Goals as goal

tested : (ticks size gap t b c : ℕ) → ticks ≡ t → size ≡ b → gap ≡ c → IsTrue (leb (ticks * size) gap) ↔ (b * t ≤ c)
tested ticks size gap t b c is_t is_b is_c = rw (is_t, is_b, is_c) (
  λ yes. let le = leb-true (t * b) c yes in omega arith,
  λ early. le-leb (t * b) c (omega arith),
)

pub returns : goal.returns
returns c =
    let q = c.args.self in
    let fc : FitsSigned w64 c.args.self.gap = search rules in
    let fb : FitsSigned w64 c.args.self.closing = search rules in
    tested c.from.result c.from-2.result c.from-3.result c.args.ticks (nat_abs q.closing) (nat_abs q.gap) c.from.ensures
    (c.from-2.ensures ∙ c.unsigned_abs.ensures.value ∙ ap nat_abs (sent_same q.closing fb))
    (c.from-3.ensures ∙ c.unsigned_abs-2.ensures.value ∙ ap nat_abs (sent_same q.gap fc))
