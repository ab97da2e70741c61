-- An event that is taken back is the key of its disks again.
use Rattle.std.proofs.Common.{◌≡◌, ◌⊎◌, ◌↔◌, inl, inr, ℕ, refl, sym, subst, ◌∙◌}
use Rattle.std.specs.Prelude.{Some}
use Rattle.std.proofs.lemmas.Bool.{cases_eq}
use Rattle.event_stamps.specs.declared.Stamp.{Stamp}
use Rattle.event_stamps.specs.declared.Kind.TheVariants.{Pair}
use Rattle.event_stamps.specs.Least.{IsLeast}
use Rattle.event_stamps.proofs.StampOrder.{not_before_itself}
use Rattle.event_tree.specs.Entries.{EntriesData}
use Rattle.event_tree.specs.Keys.{Key, IsNotAfter, key_at}
use Rattle.region_view.specs.Naming.{Names}
use Rattle.region_view.proofs.Naming.{by_itself, is_pair_or_not}
use Rattle.region_queue.specs.Finding.{AreGiven}
use Rattle.region_queue.specs.Covering.{IsKey, Covers}
use Rattle.region_queue.proofs.Covered.{key_stays}

-- the two have no disk in common
abbrev pub AreApart : Stamp → Stamp → Type 0
AreApart t s = (i : ℕ) → Names t i → ¬ Names s i

pub names_decides : (s : Stamp) (i : ℕ) → Names s i ⊎ ¬ Names s i
names_decides s i = elim (cases_eq s.first i) [
  | inl first ↦ inl (inl first)
  | inr not_first ↦ elim (is_pair_or_not s.kind) [
    | inr alone ↦ inr (λ names. not_first (by_itself s i alone names))
    | inl pair ↦ elim (cases_eq s.second i) [
      | inl second ↦ inl (inr (pair, second))
      | inr not_second ↦ inr (λ names. elim names [ inl first ↦ not_first first | inr both ↦ not_second both.1 ])
    ]
  ]
]

shared_or_apart : (t s : Stamp) → ((i : ℕ) × Names t i × Names s i) ⊎ AreApart t s
shared_or_apart t s = elim (names_decides s t.first) [
  | inl first ↦ inl (t.first, inl refl, first)
  | inr not_first ↦ elim (is_pair_or_not t.kind) [
    | inr alone ↦ inr (λ i names shared. not_first (subst (Names s) (sym (by_itself t i alone names)) shared))
    | inl pair ↦ elim (names_decides s t.second) [
      | inl second ↦ inl (t.second, inr (pair, refl), second)
      | inr not_second ↦ inr (λ i names shared. elim names [
        | inl first ↦ not_first (subst (Names s) (sym first) shared)
        | inr both ↦ not_second (subst (Names s) (sym both.1) shared)
      ])
    ]
  ]
]

-- an event that names only one disk, which isn't one of the other event's, has no disk in common with that
apart_alone : (t s : Stamp) (i : ℕ) → ¬ (t.kind ≡ Pair) → Names t i → ¬ Names s i → AreApart t s
apart_alone t s i alone names not j other shared =
    not (subst (Names s) (sym (by_itself t j alone other) ∙ by_itself t i alone names) shared)

given_is_key : (D : Stamp → Type 0) (s : Stamp) (i : ℕ) → IsLeast D s → Names s i → IsKey D i (Some s) (Some s)
given_is_key D s i least names = record {
  named = named;
  bound_named = named;
  alone = λ t e not. subst D (same t e) least.0;
  single = λ t d not first. least.1 t d;
  below = not_before_itself s;
}
  where
    same : (t : Stamp) → Some s ≡ Some t → s ≡ t
    same t e = cc

    named : (t : Stamp) → Some s ≡ Some t → Names t i
    named t e = subst (λ (u : Stamp). Names u i) (same t e) names

-- if an event is the least candidate and the key of its disks, and the candidates without them stay, the keys cover the
-- candidates
pub covers_back : (C D : Stamp → Type 0) (s : Stamp) (old new : EntriesData) → Covers C old.keys old.bounds →
    ((t : Stamp) → AreApart t s → (C t ↔ D t)) → IsLeast D s → AreGiven s old new → Covers D new.keys new.bounds
covers_back C D s old new covers stay least given = record {
  each = λ i. each i (names_decides s i);
  paired = λ t d pair. paired t d pair (shared_or_apart t s);
}
  where
    each : (i : ℕ) → Names s i ⊎ ¬ Names s i → IsKey D i (key_at new.keys i) (key_at new.bounds i)
    each i (inl names) = subst (λ (entry : Key × Key). IsKey D i entry.0 entry.1) (sym (given.given i names)) (given_is_key D s i least names)
    each i (inr not) = subst (λ (entry : Key × Key). IsKey D i entry.0 entry.1) (sym (given.others i not))
        (key_stays C D i (key_at old.keys i) (key_at old.bounds i) (λ t single first. stay t (apart_alone t s i single (inl first) not))
        (covers.each i))

    paired : (t : Stamp) → D t → t.kind ≡ Pair → ((i : ℕ) × Names t i × Names s i) ⊎ AreApart t s →
        (i : ℕ) × Names t i × IsNotAfter (key_at new.bounds i) (Some t)
    paired t d pair (inl shared) = (
      shared.0,
      shared.1,
      subst (λ (entry : Key × Key). IsNotAfter entry.1 (Some t)) (sym (given.given shared.0 shared.2)) (least.1 t d),
    )
    paired t d pair (inr apart) =
        let before = covers.paired t ((stay t apart).1 d) pair in (
          before.0,
          before.1,
          subst (λ (entry : Key × Key). IsNotAfter entry.1 (Some t)) (sym (given.others before.0 (apart before.0 before.1))) before.2,
        )
