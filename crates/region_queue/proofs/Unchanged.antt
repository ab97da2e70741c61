-- Disks that stay as they were after a crossing and after an event is taken back.
use Rattle.std.proofs.Common.{◌≡◌, inl, inr, ℕ, [], ◌∷◌, sym, subst}
use Rattle.std.specs.List.{Contains}
use Rattle.std.proofs.lemmas.List.Elements.{Contains-push, Contains-push_cases, Contains-append_left}
use Rattle.event_stamps.specs.declared.Stamp.{Stamp}
use Rattle.event_stamps.specs.declared.Kind.TheVariants.{Pair}
use Rattle.region_view.specs.Views.{ViewData}
use Rattle.region_view.specs.Naming.{Names, IsSameBut, IsMoved}
use Rattle.region_view.proofs.Naming.{none_among, by_itself}
use Rattle.region_queue.specs.Finding.{Cells, AreRelisted, AreRelistedOf}

the_one : (disk i : ℕ) → disk ≡ i → Contains (disk ∷ []) i
the_one disk i same = subst (λ (n : ℕ). Contains (disk ∷ []) n) same (Contains-push [] disk)

pub the_only : (disk i : ℕ) → Contains (disk ∷ []) i → i ≡ disk
the_only disk i among = elim (Contains-push_cases [] disk i among) [ inl never ↦ absurd (none_among i never) | inr same ↦ sym same ]

pub all_but_moved : (disk : ℕ) (before after : ViewData) → IsMoved disk before after → IsSameBut (disk ∷ []) before after
all_but_moved disk before after moved i none = moved.0 i (λ same. none (the_one disk i (sym same)))

pub relisted_one : (view : ViewData) (s : Stamp) (old new : Cells) → ¬ (s.kind ≡ Pair) → AreRelisted view (s.first ∷ []) old new →
    AreRelistedOf view (Names s) old new
relisted_one view s old new alone again i = elim (again i) [
  | inl now ↦ inl now
  | inr kept ↦ inr (kept.0, λ names. kept.1 (the_one s.first i (by_itself s i alone names)))
]

pub relisted_two : (view : ViewData) (s : Stamp) (old new : Cells) → AreRelisted view (s.first ∷ s.second ∷ []) old new →
    AreRelistedOf view (Names s) old new
relisted_two view s old new again i = elim (again i) [ inl now ↦ inl now | inr kept ↦ inr (kept.0, λ names. kept.1 (among names)) ]
  where
    among : Names s i → Contains (s.first ∷ s.second ∷ []) i
    among (inl first) = Contains-append_left (s.first ∷ []) (s.second ∷ []) i (the_one s.first i first)
    among (inr pair) = subst (λ (n : ℕ). Contains (s.first ∷ s.second ∷ []) n) pair.1 (Contains-push (s.first ∷ []) s.second)
