-- Pieces put one after another.
use Rattle.std.proofs.Common.{◌≡◌, ℕ, ℤ, pos, ◌<◌, ◌^◌, List, [], ◌++◌, Option, Some, None, Result, ap, ◌∙◌, append_assoc, arith}
use Rattle.std.specs.Result.{OnOk}
use Rattle.std.specs.Prelude.{codes}
use Rattle.std.proofs.lemmas.Int.{to_z-of_z, to_z_pos}
use Rattle.std.proofs.lemmas.Option.{same_Some}
use Rattle.std.proofs.lemmas.Result.{on_ok_weaker}
use Rattle.fixed_motion.specs.Scene.{IsEvery}
use Rattle.scene_maker.specs.Canonical.{key_line, every_text}
use mir.Syntax.{w64}
use mir.Val.{SFits, to_z, of_z}

-- a first piece, and then what a call adds
pub then_added : {T E : Type 0} (r : Result T E) (before between after xs ys : List ℕ) →
    between ≡ before ++ xs → OnOk r (after ≡ between ++ ys) → OnOk r (after ≡ before ++ (xs ++ ys))
then_added r before between after xs ys first =
    on_ok_weaker r (λ second. second ∙ ap (λ (v : List ℕ). v ++ ys) first ∙ append_assoc before xs ys)

-- three pieces, one after another, and the end of their line
pub line_of_pieces : {T E : Type 0} (r : Result T E) (start a b c d x y z w : List ℕ) → a ≡ start ++ x → b ≡ a ++ y → c ≡ b ++ z →
    OnOk r (d ≡ c ++ w) → OnOk r (d ≡ start ++ ((x ++ (y ++ z)) ++ w))
line_of_pieces r start a b c d x y z w first second third =
    let all : c ≡ start ++ (x ++ (y ++ z)) =
    third ∙ ap (λ (v : List ℕ). v ++ z) second ∙ append_assoc a y z ∙ ap (λ (v : List ℕ). v ++ (y ++ z)) first
    ∙ append_assoc start x (y ++ z) in
    on_ok_weaker r (λ last. last ∙ ap (λ (v : List ℕ). v ++ w) all ∙ append_assoc start (x ++ (y ++ z)) w)

-- the line of a number that was passed as its bits
pub signed_line : (before after key : List ℕ) (value : ℤ) → SFits w64 value →
    after ≡ before ++ key_line key (to_z w64 (of_z w64 value)) → after ≡ before ++ key_line key value
signed_line before after key value fits line = line ∙ ap (λ (z : ℤ). before ++ key_line key z) (to_z-of_z w64 value fits)

-- the line of a number that was cast to a signed one
pub cast_line : (before after key : List ℕ) (n : ℕ) → n < 2 ^ 63 →
    after ≡ before ++ key_line key (to_z w64 n) → after ≡ before ++ key_line key (pos n)
cast_line before after key n small line = line ∙ ap (λ (z : ℤ). before ++ key_line key z) (to_z_pos w64 n small)

-- three pieces, one after another, in an empty text
pub joined : (a b c d x y z : List ℕ) → a ≡ [] → b ≡ a ++ x → c ≡ b ++ y → d ≡ c ++ z → d ≡ x ++ (y ++ z)
joined a b c d x y z h k l m =
    m ∙ ap (λ (v : List ℕ). v ++ z) l ∙ append_assoc b y z ∙ ap (λ (v : List ℕ). v ++ (y ++ z)) (k ∙ ap (λ (v : List ℕ). v ++ x) h)

every_fits : (every : Option ℕ) (ticks : ℕ) → IsEvery every → every ≡ Some ticks → ticks < 2 ^ 63
every_fits None ticks h e = absurd (cc)
every_fits (Some n) ticks h e = let same = same_Some n ticks e in let most = h.1 in omega arith

-- the line of the ticks of a state block, which were cast to a signed number
pub every_line : {T E : Type 0} (r : Result T E) (before after : List ℕ) (every : Option ℕ) (ticks : ℕ) → IsEvery every → every ≡ Some ticks →
    OnOk r (after ≡ before ++ key_line (codes "every") (to_z w64 ticks)) → OnOk r (after ≡ before ++ every_text every)
every_line r before after every ticks h e =
    on_ok_weaker r (λ line. rw e (cast_line before after (codes "every") ticks (every_fits every ticks h e) line))
