-- The first item that passes a test, by a walk over the items.
use Rattle.std.proofs.Common.{◌≡◌, ℕ, ◌+◌, ◌<◌, ◌≤◌, Bool, true, false, cond, List, length, drop, get_or, Option, Some, None, ap, sym, ◌∙◌}
use Rattle.std.proofs.lemmas.List.{drop_more, drop_all}
use Rattle.std.proofs.lemmas.Iterator.Adapters.{position_from-zero}
use Rattle.std.specs.List.{position, position_from}

-- the first is that of the items from i on
abbrev pub IsFirstFrom : {X : Type 0} → (X → Bool) → List X → ℕ → Type 0
IsFirstFrom p xs i = position p xs ≡ position_from p i (drop i xs)

pub from_start : {X : Type 0} (p : X → Bool) (xs : List X) → IsFirstFrom p xs 0
from_start p xs = position_from-zero p xs

-- the item at i, and then those after it
at_item : {X : Type 0} (p : X → Bool) (xs : List X) (i : ℕ) (d : X) (b : Bool) → i < length xs → p (get_or xs i d) ≡ b → IsFirstFrom p xs i
    → position p xs ≡ cond b (Some i) (position_from p (i + 1) (drop (i + 1) xs))
at_item p xs i d b lt e h =
    h ∙ ap (position_from p i) (drop_more xs i d lt) ∙ ap (λ (c : Bool). cond c (Some i) (position_from p (i + 1) (drop (i + 1) xs))) e

pub passed_over : {X : Type 0} (p : X → Bool) (xs : List X) (i : ℕ) (d : X) → i < length xs → p (get_or xs i d) ≡ false → IsFirstFrom p xs i → IsFirstFrom p xs (i + 1)
passed_over p xs i d lt e h = at_item p xs i d false lt e h

pub found_here : {X : Type 0} (p : X → Bool) (xs : List X) (i : ℕ) (d : X) → i < length xs → p (get_or xs i d) ≡ true → IsFirstFrom p xs i → Some i ≡ position p xs
found_here p xs i d lt e h = sym (at_item p xs i d true lt e h)

pub found_nowhere : {X : Type 0} (p : X → Bool) (xs : List X) (i : ℕ) → length xs ≤ i → IsFirstFrom p xs i → None ≡ position p xs
found_nowhere p xs i le h = sym (h ∙ ap (position_from p i) (drop_all i xs le))
