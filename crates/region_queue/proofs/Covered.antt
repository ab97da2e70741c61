-- The keys that have to be taken again, and why that is enough.
use Rattle.std.proofs.Common.{◌≡◌, ◌⊎◌, ◌↔◌, inl, inr, ℕ, List, [], refl, sym, subst}
use Rattle.std.specs.Prelude.{Some, None}
use Rattle.std.specs.List.{Contains}
use Rattle.event_stamps.specs.declared.Stamp.{Stamp}
use Rattle.event_stamps.specs.declared.Kind.TheVariants.{Pair}
use Rattle.event_stamps.specs.Least.{IsLeastOf}
use Rattle.event_tree.specs.Entries.{EntriesData, entry_at}
use Rattle.event_tree.specs.Keys.{Key, IsNotAfter, IsLeastKey, key_at}
use Rattle.event_tree.proofs.Trees.{not_after_trans}
use Rattle.region_view.specs.Naming.{Names, NamesAny}
use Rattle.region_view.proofs.Naming.{none_among, by_itself, is_pair_or_not, names_or_not, one_named, names_none}
use Rattle.region_queue.specs.Covering.{IsKey, IsLowered, Covers}

-- a disk's candidates: those by itself, and its pairs
abbrev pub CandidatesOf : (Stamp → Type 0) → ℕ → Stamp → Type 0
CandidatesOf D i s = D s × Names s i

abbrev pub SinglesOf : (Stamp → Type 0) → ℕ → Stamp → Type 0
SinglesOf D i s = D s × (s.first ≡ i) × ¬ (s.kind ≡ Pair)

abbrev pub PairsOf : (Stamp → Type 0) → ℕ → Stamp → Type 0
PairsOf D i s = D s × (s.kind ≡ Pair) × Names s i

-- the least of the candidates and of the pairs
abbrev pub IsTakenOf : (Stamp → Type 0) → ℕ → Key × Key → Type 0
IsTakenOf D i entry = IsLeastOf (CandidatesOf D i) entry.0 × IsLeastOf (PairsOf D i) entry.1

-- the entry is taken again, or it is as it was if the disk isn't such a one
abbrev pub IsRetaken : (Stamp → Type 0) → (ℕ → Type 0) → EntriesData → EntriesData → ℕ → Type 0
IsRetaken D Such old new i = IsTakenOf D i (entry_at new i) ⊎ ((entry_at new i ≡ entry_at old i) × ¬ Such i)

pub least_not_after : (P : Stamp → Type 0) (key : Key) (s : Stamp) → IsLeastOf P key → P s → IsNotAfter key (Some s)
least_not_after P None s least p = least s p
least_not_after P (Some t) s least p = least.1 s p

-- ---- the key of one disk
pub taken_is_key : (D : Stamp → Type 0) (i : ℕ) (key bound : Key) → IsLeastOf (CandidatesOf D i) key → IsLeastOf (PairsOf D i) bound →
    IsKey D i key bound
taken_is_key D i key bound best pairs = record {
  named = λ s e. (subst (IsLeastOf (CandidatesOf D i)) e best).0.1;
  bound_named = λ s e. (subst (IsLeastOf (PairsOf D i)) e pairs).0.2;
  alone = λ s e not. (subst (IsLeastOf (CandidatesOf D i)) e best).0.0;
  single = λ s d not first. least_not_after (CandidatesOf D i) key s best (d, inl first);
  below = below bound pairs;
}
  where
    below : (bound : Key) → IsLeastOf (PairsOf D i) bound → IsNotAfter key bound
    below None none = tt
    below (Some t) least = least_not_after (CandidatesOf D i) key t best (least.0.0, least.0.2)

-- the least ones aren't after what they cover
pub taken_lowered : (D : Stamp → Type 0) (i : ℕ) (entry : Key × Key) → IsTakenOf D i entry → IsLowered D i entry
taken_lowered D i entry taken = record {
  key = taken_is_key D i entry.0 entry.1 taken.0 taken.1;
  pairs = λ s d pair named. least_not_after (PairsOf D i) entry.1 s taken.1 (d, pair, named);
}

-- it stays if the disk's candidates by itself do
pub key_stays : (C D : Stamp → Type 0) (i : ℕ) (key bound : Key) → ((s : Stamp) → ¬ (s.kind ≡ Pair) → s.first ≡ i → (C s ↔ D s)) →
    IsKey C i key bound → IsKey D i key bound
key_stays C D i key bound stay is = record {
  named = is.named;
  bound_named = is.bound_named;
  alone = λ s e not. (stay s not (by_itself s i not (is.named s e))).0 (is.alone s e not);
  single = λ s d not first. is.single s ((stay s not first).1 d) not first;
  below = is.below;
}

-- the entry isn't after what it covers, or it is as it was if the disk isn't such a one
abbrev pub IsLoweredOr : (Stamp → Type 0) → (ℕ → Type 0) → EntriesData → EntriesData → ℕ → Type 0
IsLoweredOr D Such old new i = IsLowered D i (entry_at new i) ⊎ ((entry_at new i ≡ entry_at old i) × ¬ Such i)

-- ---- the theorem: if the keys of all touched disks are taken again, and the others are too or are kept, the keys
-- cover the candidates again
pub covers_again : (C D : Stamp → Type 0) (ids : List ℕ) (old new : EntriesData) → Covers C old.keys old.bounds →
    ((s : Stamp) → ¬ NamesAny s ids → (C s ↔ D s)) → ((i : ℕ) → IsLoweredOr D (λ n. Contains ids n) old new i) →
    Covers D new.keys new.bounds
covers_again C D ids old new covers stay kept = record {
  each = λ i. each i (kept i);
  paired = λ s d pair. paired s d pair (names_or_not s ids);
}
  where
    each : (i : ℕ) → IsLoweredOr D (λ n. Contains ids n) old new i → IsKey D i (key_at new.keys i) (key_at new.bounds i)
    each i (inl lowered) = lowered.key
    each i (inr k) = subst (λ (entry : Key × Key). IsKey D i entry.0 entry.1) (sym k.0)
        (key_stays C D i (key_at old.keys i) (key_at old.bounds i) (λ s not first. stay s (names_none s ids i not (inl first) k.1)) (covers.each i))

    stays : (s : Stamp) (i : ℕ) → PairsOf D i s → IsNotAfter (key_at old.bounds i) (Some s) → IsLoweredOr D (λ n. Contains ids n) old new i →
        IsNotAfter (key_at new.bounds i) (Some s)
    stays s i pair le (inl lowered) = lowered.pairs s pair.0 pair.1 pair.2
    stays s i pair le (inr k) = subst (λ (entry : Key × Key). IsNotAfter entry.1 (Some s)) (sym k.0) le

    touched : (s : Stamp) (i : ℕ) → PairsOf D i s → Contains ids i → IsLoweredOr D (λ n. Contains ids n) old new i →
        IsNotAfter (key_at new.bounds i) (Some s)
    touched s i pair among (inl lowered) = lowered.pairs s pair.0 pair.1 pair.2
    touched s i pair among (inr k) = absurd (k.1 among)

    paired : (s : Stamp) → D s → s.kind ≡ Pair → NamesAny s ids ⊎ ¬ NamesAny s ids →
        (i : ℕ) × Names s i × IsNotAfter (key_at new.bounds i) (Some s)
    paired s d pair (inl any) =
        let one = one_named s ids any in
        (one.0, one.1, touched s one.0 (d, pair, one.1) one.2 (kept one.0))
    paired s d pair (inr none) =
        let was = covers.paired s ((stay s none).1 d) pair in
        (was.0, was.1, stays s was.0 (d, pair, was.1) was.2 (kept was.0))

-- taking any keys again takes nothing away
pub covers_still : (C : Stamp → Type 0) (Such : ℕ → Type 0) (old new : EntriesData) → Covers C old.keys old.bounds →
    ((i : ℕ) → IsRetaken C Such old new i) → Covers C new.keys new.bounds
covers_still C Such old new covers kept = covers_again C C [] old new covers (λ s none. (λ c. c, λ c. c)) again
  where
    again : (i : ℕ) → IsLoweredOr C (λ n. Contains [] n) old new i
    again i = elim (kept i) [ inl taken ↦ inl (taken_lowered C i (entry_at new i) taken) | inr k ↦ inr (k.0, none_among i) ]

-- ---- the least
-- each candidate has a disk whose key isn't after it
covered : (C : Stamp → Type 0) (keys bounds : List Key) (s : Stamp) → Covers C keys bounds → C s → ((s.kind ≡ Pair) ⊎ ¬ (s.kind ≡ Pair)) →
    (i : ℕ) × IsNotAfter (key_at keys i) (Some s)
covered C keys bounds s covers c (inl pair) =
    let i = covers.paired s c pair in
    (i.0, not_after_trans (key_at keys i.0) (key_at bounds i.0) (Some s) (covers.each i.0).below i.2)
covered C keys bounds s covers c (inr alone) = (s.first, (covers.each s.first).single s c alone refl)

pub covered_from : (C : Stamp → Type 0) (keys bounds : List Key) (key : Key) (s : Stamp) → Covers C keys bounds → IsLeastKey keys key → C s →
    IsNotAfter key (Some s)
covered_from C keys bounds key s covers least c =
    let i = covered C keys bounds s covers c (is_pair_or_not s.kind) in
    not_after_trans key (key_at keys i.0) (Some s) (least.least i.0) i.1
