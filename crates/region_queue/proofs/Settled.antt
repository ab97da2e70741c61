-- Keys are taken again until the least is a candidate.
use Rattle.std.proofs.Common.{◌≡◌, ◌⊎◌, inl, inr, ℕ, ◌-◌, ◌<◌, ◌^◌, List, refl, sym, ap, subst, ◌∙◌, arith}
use Rattle.std.specs.Prelude.{Some, None, IfSome}
use Rattle.event_stamps.specs.declared.Stamp.{Stamp}
use Rattle.event_stamps.specs.declared.Kind.TheVariants.{Pair}
use Rattle.event_stamps.specs.Order.{Before, rank}
use Rattle.event_stamps.proofs.Ranks.{rank_less, kind_below}
use Rattle.event_tree.specs.Packing.{HasRoom}
use Rattle.event_stamps.specs.Least.{IsLeastOf}
use Rattle.event_stamps.proofs.StampOrder.{before_decides, same_stamp}
use Rattle.event_tree.specs.Entries.{EntriesData}
use Rattle.event_tree.specs.Keys.{Key, IsNotAfter, IsLeastKey, key_at}
use Rattle.region_queue.specs.Covering.{Covers, IsSettled}
use Rattle.region_queue.specs.Finding.{HasKey, IsHolder}
use Rattle.region_queue.proofs.Covered.{CandidatesOf, IsTakenOf, IsRetaken, covered_from}

-- ---- the least key rises
after_other : (s t : Stamp) → ¬ Before t s → ¬ (s ≡ t) → Before s t
after_other s t not ne = elim (before_decides s t) [ inl before ↦ before | inr back ↦ absurd (ne (same_stamp s t back not)) ]

-- if the disks that had the least key, which isn't a candidate, have their best ones
pub rises : (C : Stamp → Type 0) (old new : EntriesData) (last : Stamp) (key : Key) → Covers C old.keys old.bounds → ¬ C last →
    IsLeastKey old.keys (Some last) → ((i : ℕ) → IsRetaken C (IsHolder old last) old new i) → IsLeastKey new.keys key → IfSome key (Before last)
rises C old new last None covers none least kept is = tt
rises C old new last (Some s) covers none least kept is = from (is.one s refl).0 (is.one s refl).1 (kept (is.one s refl).0)
  where
    from : (i : ℕ) → key_at new.keys i ≡ Some s → IsRetaken C (IsHolder old last) old new i → Before last s
    from i at (inl taken) =
        let c = (subst (IsLeastOf (CandidatesOf C i)) at taken.0).0.0 in
        after_other last s (covered_from C old.keys old.bounds (Some last) s covers least c) (λ same. none (subst C (sym same) c))
    from i at (inr k) =
        let was : key_at old.keys i ≡ Some s = sym (ap (λ (entry : Key × Key). entry.0) k.0) ∙ at in
        after_other last s (subst (IsNotAfter (Some last)) was (least.least i))
        (λ same. let here = subst (λ (t : Stamp). key_at old.keys i ≡ Some t) (sym same) was in k.1 ((covers.each i).named last here, here))

-- ---- and is a candidate in the end
pub none_left : (C : Stamp → Type 0) (keys : List Key) → IsLeastKey keys None → IsSettled C keys
none_left C keys none None is = tt
none_left C keys none (Some s) is =
    let at = is.one s refl in absurd (subst (IsNotAfter None) at.1 (none.least at.0))

least_same : (keys : List Key) (s t : Stamp) → IsLeastKey keys (Some s) → IsLeastKey keys (Some t) → s ≡ t
least_same keys s t first second =
    let a = first.one s refl in
    let b = second.one t refl in
    same_stamp s t (subst (IsNotAfter (Some t)) a.1 (second.least a.0)) (subst (IsNotAfter (Some s)) b.1 (first.least b.0))

pub fresh_settled : (C : Stamp → Type 0) (keys bounds : List Key) (s : Stamp) → Covers C keys bounds → IsLeastKey keys (Some s) →
    (s.kind ≡ Pair → C s) → ((s.kind ≡ Pair) ⊎ ¬ (s.kind ≡ Pair)) → IsSettled C keys
fresh_settled C keys bounds s covers least fresh kind None is = tt
fresh_settled C keys bounds s covers least fresh kind (Some t) is = subst C (least_same keys s t least is) (found kind)
  where
    found : (s.kind ≡ Pair) ⊎ ¬ (s.kind ≡ Pair) → C s
    found (inl pair) = fresh pair
    found (inr alone) = let at = least.one s refl in (covers.each at.0).alone s at.1 alone

-- a least key that is no pair's is that of a candidate
pub settled_alone : (C : Stamp → Type 0) (keys bounds : List Key) (key : Key) → Covers C keys bounds → IsLeastKey keys key →
    ¬ IfSome key (λ s. s.kind ≡ Pair) → IsSettled C keys
settled_alone C keys bounds None covers least alone = absurd (alone tt)
settled_alone C keys bounds (Some s) covers least alone = fresh_settled C keys bounds s covers least (λ pair. absurd (alone pair)) (inr alone)

pub settled_least : (C : Stamp → Type 0) (keys bounds : List Key) (key : Key) → Covers C keys bounds → IsSettled C keys →
    IsLeastKey keys key → IsLeastOf C key
settled_least C keys bounds None covers settled least = λ s c. covered_from C keys bounds None s covers least c
settled_least C keys bounds (Some s) covers settled least =
    (settled (Some s) least, λ t c. covered_from C keys bounds (Some s) t covers least c)

-- ---- in finitely many turns
-- how far a key is below the greatest one of all
abbrev pub below_all : Key → ℕ
below_all None = 0
below_all (Some s) = 2 ^ 128 - rank s

rank_below : (s : Stamp) → HasRoom s → rank s < 2 ^ 128
rank_below s room =
    let range = room.in_range in
    omega (arith, room.tick, range.0, range.1, range.2, kind_below s.kind)

-- a later key is less far below it
pub below_falls : (s : Stamp) (key : Key) → HasRoom s → IfSome key HasRoom → IfSome key (Before s) → below_all key < below_all (Some s)
below_falls s None hs hk before = let most = rank_below s hs in omega arith
below_falls s (Some t) hs hk before =
    let most = rank_below s hs in
    let less = rank_less s t hs.in_range hk.in_range before in
    omega arith

-- ---- disks that have a key
pub held : (C : Stamp → Type 0) (old mid new : EntriesData) (s : Stamp) →
    ((i : ℕ) → IsRetaken C (HasKey old s.first s) old mid i) → ((i : ℕ) → IsRetaken C (HasKey mid s.second s) mid new i) →
    (i : ℕ) → IsRetaken C (IsHolder old s) old new i
held C old mid new s first second i = from (first i) (second i)
  where
    from : IsRetaken C (HasKey old s.first s) old mid i → IsRetaken C (HasKey mid s.second s) mid new i → IsRetaken C (IsHolder old s) old new i
    from a (inl taken) = inl taken
    from (inl taken) (inr k) = inl (subst (IsTakenOf C i) (sym k.0) taken)
    from (inr j) (inr k) = inr (
      k.0 ∙ j.0,
      λ h. elim h.0 [
        | inl is_first ↦ j.1 (sym is_first, h.1)
        | inr is_second ↦ k.1 (sym is_second.1, ap (λ (entry : Key × Key). entry.0) j.0 ∙ h.1)
      ],
    )
