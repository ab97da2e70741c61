use Rattle.std.proofs.Common.{◌∙◌, sym, ap, arith, List, ℕ, ◌+◌, ◌++◌, length, length-append}
use Rattle.std.proofs.lemmas.Slice.{take-put_mid}
use Rattle.text_lines.proofs.TextLine.push_bytes.Goals as goal

pub returns-clause-after : goal.returns-clause-after
returns-clause-after c =
    let len = c.self.inside.len in
    let same = c.copy_from_slice.ensures.after in
    let end = ap (λ (l : List ℕ). len + length l) (sym same) in
    take-put_mid len _ c.self.inside.bytes _ _ end (omega (arith, c.self.invariant, c.self.told))
    ∙ (λ i. c.self.view_is i ++ same i)

pub returns-clause-len : goal.returns-clause-len
returns-clause-len c =
    ap (λ (l : List ℕ). length l) (returns-clause-after c) ∙ length-append c.args.self.now c.args.piece.now
