-- The size after a comma, if it isn't the rules' diameter.
use Rattle.std.proofs.Common.{◌≡◌, ◌++◌, ◌∙◌, List, ℕ, ℤ, ap, sym, subst, codes, w64, FitsSigned, rules}
use Rattle.std.specs.Fmt.{signed_decimal}
use Rattle.std.specs.Result.{OnOk}
use Rattle.std.proofs.lemmas.Int.{to_z-of_z}
use Rattle.std.proofs.lemmas.Result.{on_ok_weaker}
use Rattle.scene_maker.specs.Canonical.{size_text}
use Rattle.scene_maker.proofs.Pieces.{then_added}
use Rattle.scene_maker.proofs.text.push_size.Goals as goal

pub returns : goal.returns
returns c =
    let size = c.args.disk.now.size in
    let start = c.args.bytes.now.items in
    let comma = c.push_text.new.bytes.items in
    let after = c.push_number.new.bytes.items in
    let fits : FitsSigned w64 c.args.disk.now.size = search rules in
    let text : size_text c.args.rules.now c.args.disk.now ≡ codes ", " ++ signed_decimal c.args.disk.now.size = search rules in
    subst (λ (v : List ℕ). OnOk c.push_number.result (after ≡ start ++ v)) (sym text)
    (then_added c.push_number.result start comma after (codes ", ") (signed_decimal size) c.in_ok-push_text.ensures
    (on_ok_weaker c.push_number.result
    (λ e. e ∙ ap (λ (z : ℤ). comma ++ signed_decimal z) (to_z-of_z w64 size fits)) c.push_number.ensures))
