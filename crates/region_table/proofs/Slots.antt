-- Slots that are held, one or two.
use Rattle.std.proofs.Common.{◌≡◌, ◌≢◌, ℕ, List, [], ◌∷◌, eqb, not, true, false, true≢false, refl, sym, ap, ◌∙◌}
use Rattle.std.specs.Prelude.{Bool, ◌==◌}
use Rattle.std.specs.List.{filter, list_any}
use Rattle.std.proofs.lemmas.Bool.{eq-eqb, ne_eqb}
use Rattle.region_table.proofs.Held.{or_left, or_right}
use Rattle.region_table.specs.declared.rule.Hold.{Hold}
use Rattle.region_table.specs.Rule.{slots_of, without}

slots_step : (k : ℕ) (h : Hold) (hs : List Hold) → slots_of (without k hs) ≡ filter (λ (s : ℕ). not (k == s)) (slots_of hs) → (b : Bool) → eqb k h.slot ≡ b
    → slots_of (without k (h ∷ hs)) ≡ filter (λ (s : ℕ). not (k == s)) (slots_of (h ∷ hs))
slots_step k h hs rest true e = rw e rest
slots_step k h hs rest false e = rw e (ap (λ (z : List ℕ). h.slot ∷ z) rest)

pub slots_without : (k : ℕ) (held : List Hold) → slots_of (without k held) ≡ filter (λ (s : ℕ). not (k == s)) (slots_of held)
slots_without k [] = refl
slots_without k (h ∷ hs) = slots_step k h hs (slots_without k hs) (eqb k h.slot) refl

abbrev is_empty : List ℕ → Bool
is_empty [] = true
is_empty (x ∷ xs) = false

cons_isnt : (x : ℕ) (xs : List ℕ) → x ∷ xs ≡ [] → ⊥
cons_isnt x xs p = true≢false (sym (ap is_empty p))

pub nothing_held : (held : List Hold) → slots_of held ≡ [] → held ≡ []
nothing_held [] e = refl
nothing_held (h ∷ hs) e = absurd (cons_isnt h.slot (slots_of hs) e)

pub one_left : (k : ℕ) (slots rest : List ℕ) → slots ≡ k ∷ rest → rest ≡ [] → filter (λ (s : ℕ). not (k == s)) slots ≡ []
one_left k slots rest e f = ap (filter (λ (s : ℕ). not (k == s))) (e ∙ ap (λ (z : List ℕ). k ∷ z) f) ∙ rw (eq-eqb k k refl) refl

-- ---- two slots
pub held_first : (x y : ℕ) (slots : List ℕ) → slots ≡ x ∷ y ∷ [] → list_any (λ (s : ℕ). x == s) slots ≡ true
held_first x y slots two = ap (list_any (λ (s : ℕ). x == s)) two ∙ or_left (eqb x x) (list_any (λ (s : ℕ). x == s) (y ∷ [])) (eq-eqb x x refl)

pub held_second : (x y : ℕ) (slots : List ℕ) → slots ≡ x ∷ y ∷ [] → list_any (λ (s : ℕ). y == s) slots ≡ true
held_second x y slots two = ap (list_any (λ (s : ℕ). y == s)) two ∙ or_right (eqb y x) (list_any (λ (s : ℕ). y == s) (y ∷ [])) (or_left (eqb y y) false (eq-eqb y y refl))

pub without_first : (x y : ℕ) (slots : List ℕ) → slots ≡ x ∷ y ∷ [] → x ≢ y → filter (λ (s : ℕ). not (x == s)) slots ≡ y ∷ []
without_first x y slots two apart = ap (filter (λ (s : ℕ). not (x == s))) two ∙ rw (eq-eqb x x refl) (rw (ne_eqb x y apart) refl)

pub without_second : (x y : ℕ) (slots : List ℕ) → slots ≡ x ∷ y ∷ [] → y ≢ x → filter (λ (s : ℕ). not (y == s)) slots ≡ x ∷ []
without_second x y slots two apart = ap (filter (λ (s : ℕ). not (y == s))) two ∙ rw (ne_eqb y x apart) (rw (eq-eqb y y refl) refl)

pub held_alone : (x : ℕ) (slots : List ℕ) → slots ≡ x ∷ [] → list_any (λ (s : ℕ). x == s) slots ≡ true
held_alone x slots one = ap (list_any (λ (s : ℕ). x == s)) one ∙ or_left (eqb x x) false (eq-eqb x x refl)

pub without_alone : (x : ℕ) (slots : List ℕ) → slots ≡ x ∷ [] → filter (λ (s : ℕ). not (x == s)) slots ≡ []
without_alone x slots one = one_left x slots [] one refl
