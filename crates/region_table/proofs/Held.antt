-- The slots that a view names as held.
use Rattle.std.proofs.Common.{◌≡◌, ◌≢◌, ℕ, ◌<◌, List, [], ◌∷◌, set, true, false, true≢false, refl, sym, ap, ◌∙◌, subst, ⊎_elim, eqb, ◌||◌, length-set, get_or-set_other}
use Rattle.std.specs.Prelude.{All, Bool}
use Rattle.std.proofs.lemmas.List.Elements.{All-nil, All-cons, All-head, All-tail}
use Rattle.std.proofs.lemmas.Bool.{or_parts, or_cases, eq-eqb, ne_eqb}
use mathlib.Core.Logic.{dite}
use native.Mathlib.Decide.{ℕ_discrete}
use Rattle.region_table.specs.declared.rule.Hold.{Hold}
use Rattle.region_table.specs.Rule.{is_held, without, IsOut}

pub eqb_same : (a b : ℕ) → eqb a b ≡ true → a ≡ b
eqb_same a b e = dite (ℕ_discrete a b) (λ same. same) (λ other. absurd (true≢false (sym e ∙ ne_eqb a b other)))

pub eqb_other : (a b : ℕ) → eqb a b ≡ false → a ≢ b
eqb_other a b e same = true≢false (sym (eq-eqb a b same) ∙ e)

pub or_left : (a b : Bool) → a ≡ true → (a || b) ≡ true
or_left true b e = refl
or_left false b e = absurd (true≢false (sym e))

pub or_right : (a b : Bool) → b ≡ true → (a || b) ≡ true
or_right true b e = refl
or_right false b e = e

-- one that is held is found, and has what all have
pub held_at : (k : ℕ) (P : Hold → Type 0) (held : List Hold) → is_held k held ≡ true → All P held → (h : Hold) × (h.slot ≡ k) × P h
held_at k P [] e a = absurd (true≢false (sym e))
held_at k P (h ∷ hs) e a = ⊎_elim
    (λ (x : eqb k h.slot ≡ true). (h, sym (eqb_same k h.slot x), All-head P h hs a))
    (λ (x : is_held k hs ≡ true). held_at k P hs x (All-tail P h hs a))
    (or_cases (eqb k h.slot) (is_held k hs) e)

-- a word of a slot that isn't among them may change
pub out_else : (words : List ℕ) (k n : ℕ) (held : List Hold) → All (IsOut words) held → is_held k held ≡ false → All (IsOut (set words k n)) held
out_else words k n [] a e = All-nil (IsOut (set words k n))
out_else words k n (h ∷ hs) a e =
    let p = or_parts (eqb k h.slot) (is_held k hs) e in
    let old : IsOut words h = All-head (IsOut words) h hs a in
    let other : h.slot ≢ k = λ same. eqb_other k h.slot p.0 (sym same) in
    All-cons (IsOut (set words k n)) h hs
    (subst (λ (z : ℕ). h.slot < z) (sym (length-set words k n)) old.0, get_or-set_other words k h.slot n 0 other ∙ old.1)
    (out_else words k n hs (All-tail (IsOut words) h hs a) p.1)

none_step : (k : ℕ) (h : Hold) (hs : List Hold) → is_held k (without k hs) ≡ false → (b : Bool) → eqb k h.slot ≡ b → is_held k (without k (h ∷ hs)) ≡ false
none_step k h hs rest true e = rw e rest
none_step k h hs rest false e = rw e (rw e rest)

pub without_none : (k : ℕ) (held : List Hold) → is_held k (without k held) ≡ false
without_none k [] = refl
without_none k (h ∷ hs) = none_step k h hs (without_none k hs) (eqb k h.slot) refl

held_step : (k j : ℕ) (h : Hold) (hs : List Hold) → (is_held j (without k hs) ≡ true → is_held j hs ≡ true) → (b : Bool) → eqb k h.slot ≡ b → is_held j (without k (h ∷ hs)) ≡ true → is_held j (h ∷ hs) ≡ true
held_step k j h hs rest true t e = or_right (eqb j h.slot) (is_held j hs) (rest (rw t at e))
held_step k j h hs rest false t e = ⊎_elim
    (λ (x : eqb j h.slot ≡ true). or_left (eqb j h.slot) (is_held j hs) x)
    (λ (x : is_held j (without k hs) ≡ true). or_right (eqb j h.slot) (is_held j hs) (rest x))
    (or_cases (eqb j h.slot) (is_held j (without k hs)) (rw t at e))

pub without_held : (k j : ℕ) (held : List Hold) → is_held j (without k held) ≡ true → is_held j held ≡ true
without_held k j [] e = e
without_held k j (h ∷ hs) e = held_step k j h hs (without_held k j hs) (eqb k h.slot) refl e

kept_step : (k j : ℕ) (h : Hold) (hs : List Hold) → j ≢ k → (is_held j hs ≡ true → is_held j (without k hs) ≡ true) → (b : Bool) → eqb k h.slot ≡ b → is_held j (h ∷ hs) ≡ true → is_held j (without k (h ∷ hs)) ≡ true
kept_step k j h hs other rest true t e = rw t (rest (⊎_elim
    (λ (x : eqb j h.slot ≡ true). absurd (other (eqb_same j h.slot x ∙ sym (eqb_same k h.slot t))))
    (λ (x : is_held j hs ≡ true). x)
    (or_cases (eqb j h.slot) (is_held j hs) e)))
kept_step k j h hs other rest false t e = rw t (⊎_elim
    (λ (x : eqb j h.slot ≡ true). or_left (eqb j h.slot) (is_held j (without k hs)) x)
    (λ (x : is_held j hs ≡ true). or_right (eqb j h.slot) (is_held j (without k hs)) (rest x))
    (or_cases (eqb j h.slot) (is_held j hs) e))

-- another slot is held still
pub without_other : (k j : ℕ) (held : List Hold) → j ≢ k → is_held j held ≡ true → is_held j (without k held) ≡ true
without_other k j [] other e = e
without_other k j (h ∷ hs) other e = kept_step k j h hs other (without_other k j hs other) (eqb k h.slot) refl e

-- a filter by what none has keeps all
pub without_free : (k : ℕ) (held : List Hold) → is_held k held ≡ false → without k held ≡ held
without_free k [] e = refl
without_free k (h ∷ hs) e = let p = or_parts (eqb k h.slot) (is_held k hs) e in rw p.0 (ap (λ (z : List Hold). h ∷ z) (without_free k hs p.1))
