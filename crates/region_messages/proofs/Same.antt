-- Two messages are the same or not.
use Rattle.std.proofs.Common.{◌≡◌, ◌==◌, inl, inr, ℕ, Bool, ◌&&◌, Option, Some, None, Decides, sym, ap, ◌∙◌, refl}
use Rattle.std.specs.Prelude.{◌↔◌, IsTrue}
use Rattle.std.specs.Coded.{Coded}
use Rattle.std.specs.Option.{option_eq}
use Rattle.std.specs.Cmp.Lexicographic.{pointwise}
use Rattle.std.proofs.lemmas.Bool.Decides.{Decides-and, Decides-like, Decides-eqb}
use Rattle.std.proofs.lemmas.Slice.Eq.{slice_eq-Decides}
use denote.Enum.Bare.{sameb}
use Rattle.event_stamps.specs.declared.Stamp.{Stamp}
use Rattle.event_stamps.specs.declared.Kind.{Kind}
use Rattle.event_stamps.specs.declared.Kind.TheVariants.{Cross, Wall, Pair}
use Rattle.event_stamps.specs.contracts.Kind.{the_type as the_kind}
use base.Stored.{Gv, gnil, gnum, gcons}
use Rattle.event_stamps.proofs.Decision.{Decision, same_number}
use Rattle.region_view.specs.declared.action.Placed.{Placed}
use Rattle.region_view.specs.declared.rows.Message.{Message}
use Rattle.region_view.specs.Setting.{RowList}
use Rattle.region_view.proofs.SamePlaced.{placed_eq, placed_decides}
use Rattle.region_view.specs.contracts.rows.Message as message

same_code : (a b : Gv) → Decision (a ≡ b)
same_code gnil gnil = inl refl
same_code gnil (gnum n) = inr (λ e. cc)
same_code gnil (gcons c d) = inr (λ e. cc)
same_code (gnum m) gnil = inr (λ e. cc)
same_code (gnum m) (gnum n) = elim (same_number m n) [
  | inl e ↦ inl (ap gnum e)
  | inr other ↦ inr (λ e. let number : m ≡ n = cc in other number)
]
same_code (gnum m) (gcons c d) = inr (λ e. cc)
same_code (gcons a b) gnil = inr (λ e. cc)
same_code (gcons a b) (gnum n) = inr (λ e. cc)
same_code (gcons a b) (gcons c d) = elim (same_code a c) [
  | inl first ↦ elim (same_code b d) [
    | inl second ↦ inl (cc)
    | inr other ↦ inr (λ e. let second : b ≡ d = cc in other second)
  ]
  | inr other ↦ inr (λ e. let first : a ≡ c = cc in other first)
]

-- values that have a code are told apart by it
pub same_by_code : {A : Type 0} (coded : Coded A) (x y : A) → Decision (x ≡ y)
same_by_code coded x y = elim (same_code (coded.code x) (coded.code y)) [
  | inl e ↦ inl (coded.inj x y e)
  | inr other ↦ inr (λ e. other (ap coded.code e))
]

pub same_message : (m n : Message) → Decision (m ≡ n)
same_message m n = same_by_code message.the_row.coded m n

-- ---- what the code's `==` says
kind_decides : (j k : Kind) → Decides (sameb the_kind j k) (j ≡ k)
kind_decides Cross Cross = (λ e. refl, λ e. refl)
kind_decides Cross Wall = (λ e. cc, λ e. cc)
kind_decides Cross Pair = (λ e. cc, λ e. cc)
kind_decides Wall Cross = (λ e. cc, λ e. cc)
kind_decides Wall Wall = (λ e. refl, λ e. refl)
kind_decides Wall Pair = (λ e. cc, λ e. cc)
kind_decides Pair Cross = (λ e. cc, λ e. cc)
kind_decides Pair Wall = (λ e. cc, λ e. cc)
kind_decides Pair Pair = (λ e. refl, λ e. refl)

abbrev pub stamp_eq : Stamp → Stamp → Bool
stamp_eq s t = s.tick == t.tick && (s.round == t.round
    && (sameb the_kind s.kind t.kind && (s.first == t.first && s.second == t.second)))

pub stamp_decides : (s t : Stamp) → Decides (stamp_eq s t) (s ≡ t)
stamp_decides s t = Decides-like (stamp_eq s t)
    (λ h i. record {
      tick = h.0 i;
      round = h.1.0 i;
      kind = h.1.1.0 i;
      first = h.1.1.1.0 i;
      second = h.1.1.1.1 i;
    })
    (λ e. (
      ap (λ (v : Stamp). v.tick) e,
      (
        ap (λ (v : Stamp). v.round) e,
        (ap (λ (v : Stamp). v.kind) e, (ap (λ (v : Stamp). v.first) e, ap (λ (v : Stamp). v.second) e)),
      ),
    ))
    (Decides-and _ _ (Decides-eqb s.tick t.tick) (Decides-and _ _ (Decides-eqb s.round t.round)
    (Decides-and _ _ (kind_decides s.kind t.kind) (Decides-and _ _ (Decides-eqb s.first t.first)
    (Decides-eqb s.second t.second)))))

option_decides : (o p : Option Placed) → Decides (option_eq placed_eq o p) (o ≡ p)
option_decides None None = (λ e. refl, λ e. refl)
option_decides None (Some q) = (λ e. cc, λ e. cc)
option_decides (Some p) None = (λ e. cc, λ e. cc)
option_decides (Some p) (Some q) = Decides-like (placed_eq p q)
    (λ e. ap (λ (v : Placed). Some v) e) (λ e. cc) (placed_decides p q)

abbrev row_eq : ℕ × Option Placed → ℕ × Option Placed → Bool
row_eq r s = r.0 == s.0 && option_eq placed_eq r.1 s.1

row_decides : (r s : ℕ × Option Placed) → Decides (row_eq r s) (r ≡ s)
row_decides r s = Decides-like (row_eq r s) (λ h i. (h.0 i, h.1 i))
    (λ e. (ap (λ (v : ℕ × Option Placed). v.0) e, ap (λ (v : ℕ × Option Placed). v.1) e))
    (Decides-and _ _ (Decides-eqb r.0 s.0) (option_decides r.1 s.1))

-- messages of one stamp, whose rows were compared
pub rows_decide : (m n : Message) (rows others : RowList) (same : Bool) → m.stamp ≡ n.stamp →
    rows ≡ m.rows → others ≡ n.rows → same ≡ pointwise row_eq rows others →
    IsTrue same ↔ (m ≡ n)
rows_decide m n rows others same stamps is others_are e =
    let rows_same : Decides same (rows ≡ others) =
    slice_eq-Decides row_decides rows others same e in (
      λ h. let same_rows = sym is ∙ rows_same.0 h ∙ others_are in
          λ i. record { stamp = stamps i; rows = same_rows i },
      λ h. rows_same.1 (is ∙ ap (λ (v : Message). v.rows) h ∙ sym others_are),
    )
