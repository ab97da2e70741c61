-- The pieces, one after another.
use Rattle.std.proofs.Common.{◌++◌, ◌∙◌, List, ℕ, ℤ, ap, codes}
use Rattle.std.specs.Fmt.{signed_decimal}
use Rattle.std.proofs.lemmas.Int.{to_z-of_z}
use mir.Syntax.{w64}
use Rattle.scene_maker.proofs.Pieces.{line_of_pieces}
use Rattle.scene_maker.proofs.text.push_key_line.Goals as goal

pub returns : goal.returns
returns c =
    let value = c.in_ok-push_number.ensures
    ∙ ap (λ (z : ℤ). c.push_text-2.new.bytes.items ++ signed_decimal z) (to_z-of_z w64 c.args.value c.ranges.value) in
    line_of_pieces c.push_text-3.result c.args.bytes.now.items c.push_text.new.bytes.items c.push_text-2.new.bytes.items
    c.push_number.new.bytes.items c.push_text-3.new.bytes.items c.args.key.now (codes " = ") (signed_decimal c.args.value) (codes "\n")
    c.in_ok-push_text.ensures c.in_ok-push_text-2.ensures value c.push_text-3.ensures
