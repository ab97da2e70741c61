use Rattle.std.proofs.Common.{◌≡◌, ◌+◌, ◌≤◌, ℕ, List, length, arith, ap, decimal}
use Rattle.std.proofs.lemmas.Fmt.{length-decimal-le}
use Rattle.text_lines.proofs.TextLine.push_signed.Goals as goal
use Rattle.text_lines.proofs.TextLine.push_signed.Goals.{then-n-lt0, else-n-lt0}

pub push_digits-requires : goal.push_digits-requires
push_digits-requires c =
    let digits = length-decimal-le 19 c.unsigned_abs.result (omega arith) (omega arith) (omega arith) in
    let sign : length c.if-n-lt0.self ≤ length c.args.self.now + 1 = elim c.if-n-lt0.branch [
      | then-n-lt0 w ↦
          let same : length c.if-n-lt0.self ≡ length w.push_byte.new.self = ap (λ (l : List ℕ). length l) w.self-is in
          omega (arith, w.push_byte.ensures.len, same)
      | else-n-lt0 w ↦
          let same : length c.if-n-lt0.self ≡ length c.args.self.now = ap (λ (l : List ℕ). length l) w.self-is in
          omega (arith, same)
    ] in
    omega (arith, c.requires, sign, digits)

pub returns-clause-len : goal.returns-clause-len
returns-clause-len c =
    let digits = length-decimal-le 19 c.unsigned_abs.result (omega arith) (omega arith) (omega arith) in
    let sign : length c.if-n-lt0.self ≤ length c.args.self.now + 1 = elim c.if-n-lt0.branch [
      | then-n-lt0 w ↦
          let same : length c.if-n-lt0.self ≡ length w.push_byte.new.self = ap (λ (l : List ℕ). length l) w.self-is in
          omega (arith, w.push_byte.ensures.len, same)
      | else-n-lt0 w ↦
          let same : length c.if-n-lt0.self ≡ length c.args.self.now = ap (λ (l : List ℕ). length l) w.self-is in
          omega (arith, same)
    ] in
    omega (arith, c.push_digits.ensures.len, sign, digits)
