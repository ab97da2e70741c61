-- What the rows have in common.
use Rattle.std.proofs.Common.{◌≡◌, inl, inr, ℕ, zero, suc, ◌<◌, [], ◌∷◌, Some, slice_get, sym, subst, arith}
use Rattle.std.specs.Prelude.{ℤ, pos, ◌+ℤ◌, ◌-ℤ◌, ◌*ℤ◌, ◌≤ℤ◌, ◌<ℤ◌}
use Rattle.std.proofs.lemmas.Int.{ints}
use Rattle.std.proofs.lemmas.Option.{none-some, same_Some}
use Rattle.plane_vectors.specs.Vectors.{vector}
use Rattle.fixed_motion.specs.declared.disk.Disk.{Disk}
use Rattle.fixed_motion.specs.Motion.{half_of}
use Rattle.event_stamps.specs.declared.Stamp.{Stamp}
use Rattle.event_rules.specs.Events.{IsPast, IsPairEvent}
use Rattle.event_rules.specs.Run.{IsPairCandidate}
use Rattle.worked_laws.specs.Rows.{box_until, disk_at}

-- a disk that is from x = 2 to 38 is past no side
pub inside : (x v : ℤ) (n side base mark : ℕ) → pos 2 ≤ℤ (x +ℤ (v *ℤ pos n)) → (x +ℤ (v *ℤ pos n)) ≤ℤ pos 38 →
    IsPast (box_until 5) (disk_at x v base mark) side (vector (x +ℤ (v *ℤ pos n)) (pos 10 +ℤ (pos 0 *ℤ pos n))) → ⊥
unfolding half_of
inside x v n side base mark least most (inl h) = let k : (x +ℤ (v *ℤ pos n)) <ℤ pos 2 = h.1 in omega (arith, ints)
inside x v n side base mark least most (inr (inl h)) = let k : (pos 40 -ℤ pos 2) <ℤ (x +ℤ (v *ℤ pos n)) = h.1 in omega (arith, ints)
inside x v n side base mark least most (inr (inr (inl h))) = let k : (pos 10 +ℤ (pos 0 *ℤ pos n)) <ℤ pos 2 = h.1 in omega (arith, ints)
inside x v n side base mark least most (inr (inr (inr h))) = let k : (pos 20 -ℤ pos 2) <ℤ (pos 10 +ℤ (pos 0 *ℤ pos n)) = h.1 in omega (arith, ints)

-- two disks of a state of two, the lower number first
pub both : (a b x y : Disk) (i j : ℕ) → i < j → slice_get (a ∷ b ∷ []) i ≡ Some x → slice_get (a ∷ b ∷ []) j ≡ Some y → (x ≡ a) × (y ≡ b)
both a b x y zero (suc zero) less at other = (sym (same_Some _ _ at), sym (same_Some _ _ other))
both a b x y i zero less at other = absurd (omega arith)
both a b x y zero (suc (suc j)) less at other = absurd (none-some y other)
both a b x y (suc i) (suc zero) less at other = absurd (omega arith)
both a b x y (suc i) (suc (suc j)) less at other = absurd (none-some y other)

-- an event of them is of the numbers 0 and 1
pub of_two : (a b : Disk) (s : Stamp) → IsPairCandidate (box_until 5) (a ∷ b ∷ []) s → IsPairEvent (box_until 5) 0 a 1 b s
of_two a b s h = by_numbers s.first s.second h.0 h.1.1 h.1.2.1 h.1.2.2
  where
    by_numbers : (i j : ℕ) → i < j → slice_get (a ∷ b ∷ []) i ≡ Some h.1.0 → slice_get (a ∷ b ∷ []) j ≡ Some h.1.2.0 →
        IsPairEvent (box_until 5) i h.1.0 j h.1.2.0 s → IsPairEvent (box_until 5) 0 a 1 b s
    by_numbers zero (suc zero) less at other event =
        subst (λ (d : Disk). IsPairEvent (box_until 5) 0 d 1 b s) (sym (same_Some _ _ at))
        (subst (λ (d : Disk). IsPairEvent (box_until 5) 0 h.1.0 1 d s) (sym (same_Some _ _ other)) event)
    by_numbers i zero less at other event = absurd (omega arith)
    by_numbers zero (suc (suc j)) less at other event = absurd (none-some h.1.2.0 other)
    by_numbers (suc i) (suc zero) less at other event = absurd (omega arith)
    by_numbers (suc i) (suc (suc j)) less at other event = absurd (none-some h.1.2.0 other)
