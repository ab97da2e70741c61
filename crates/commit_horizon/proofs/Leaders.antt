-- The least of some heads, and the second of them.
use Rattle.std.proofs.Common.{◌≡◌, ◌≢◌, ◌⊎◌, inl, inr, ℕ, ◌+◌, ◌<◌, ◌≤◌, length, sym, ap, ◌∙◌, subst, refl, arith}
use Rattle.std.proofs.Common.{Some, None, List, get_or, set, get_or-set_other}
use Rattle.std.specs.Prelude.{option_map, false, IsTrue}
use Rattle.std.proofs.lemmas.List.{get_or-map, map-set}
use Rattle.std.proofs.lemmas.Option.{none-some, same_Some}
use Rattle.event_stamps.specs.declared.Stamp.{Stamp}
use Rattle.event_stamps.specs.Order.{Before}
use Rattle.event_stamps.specs.Least.{earlier_of}
use Rattle.event_stamps.proofs.StampOrder.{before_trans, before_decides, not_before_itself}
use Rattle.event_tree.specs.Keys.{Key, IsNotAfter, IsKeyBefore}
use Rattle.event_tree.proofs.Trees.{lesser, not_after_trans}
use Rattle.region_messages.proofs.Order.{is_before_true, is_before_false}
use Rattle.local_run.proofs.Among.{same_or_other}
use Rattle.commit_horizon.specs.declared.leading.PackedHead.{PackedHead}
use Rattle.commit_horizon.specs.declared.leading.Leader.{Leader}
use Rattle.commit_horizon.specs.Merging.{Head, Heads, head_of, head_in, heads_in, head_at, IsLeadingHead}
use Rattle.commit_horizon.proofs.Merging.{nearer_of}
use Rattle.commit_horizon.specs.Leading.{NoOtherBefore, IsLeader, IsLeaderWith, head_with}
use Rattle.commit_horizon.proofs.Heads.{IsLeastOfFirst, nearer_is, least_of_all, below_or_last, head_within}

-- ---- packed heads
pub packed_at : (packed : List PackedHead) (k : ℕ) (head : PackedHead) → k < length packed →
    head ≡ get_or packed k head → head_at (heads_in packed) k ≡ head_in head
packed_at packed k head lt at = get_or-map head_in packed k head None lt ∙ ap head_in (sym at)

-- ---- the order of keys
key_before_decides : (a b : Key) → IsKeyBefore a b ⊎ ¬ IsKeyBefore a b
key_before_decides None b = inr (λ none. absurd none)
key_before_decides (Some s) None = inl tt
key_before_decides (Some s) (Some t) = before_decides s t

-- ---- the earlier of two keys
not_after_own : (a : Key) (t : Stamp) → IsNotAfter (earlier_of a (Some t)) (Some t)
not_after_own a t = (lesser a (Some t)).second

not_after_earlier : (a b : Key) (t : Stamp) → IsNotAfter a (Some t) → IsNotAfter (earlier_of a b) (Some t)
not_after_earlier a b t = not_after_trans (earlier_of a b) a (Some t) (lesser a b).first

-- ---- as heads are compared
-- the leader of the first heads, up to a number
pub record LeadsOfFirst (heads : Heads) (n : ℕ) (first : Leader) : Type 0 where
  pub least : IsLeastOfFirst heads n (head_with first)
  pub others : (q : ℕ) (other : Head) → q < n → q ≢ first.number → head_at heads q ≡ Some other →
      IsNotAfter first.second (Some other.stamp)

-- the least is not after any of them
not_after_least : (heads : Heads) (n k place : ℕ) (key : Key) (q : ℕ) (other : Head) →
    IsLeastOfFirst heads n (option_map (λ head. (k, head)) (head_of key place)) → q < n → head_at heads q ≡ Some other →
    IsNotAfter key (Some other.stamp)
not_after_least heads n k place None q other least below at = none-some other (sym (least q below) ∙ at)
not_after_least heads n k place (Some s) q other least below at = least.2 q other below at

-- the lesser of two leads
nearer_leads : (k j place at : ℕ) (key own : Key) → IsKeyBefore key own →
    nearer_of (option_map (λ head. (j, head)) (head_of own at)) k (head_of key place) ≡ option_map (λ head. (k, head)) (head_of key place)
nearer_leads k j place at None own before = absurd before
nearer_leads k j place at (Some s) None before = refl
nearer_leads k j place at (Some s) (Some t) before = rw (is_before_true s t before) refl

nearer_follows : (k j place at : ℕ) (key own : Key) → ¬ IsKeyBefore key own →
    nearer_of (option_map (λ head. (j, head)) (head_of own at)) k (head_of key place) ≡ option_map (λ head. (j, head)) (head_of own at)
nearer_follows k j place at None own not = refl
nearer_follows k j place at (Some s) None not = absurd (not tt)
nearer_follows k j place at (Some s) (Some t) not = rw (is_before_false s t not) refl

-- no head is compared yet
pub leads_none : (heads : Heads) (first : Leader) → first.stamp ≡ None → LeadsOfFirst heads 0 first
leads_none heads first none = record {
  least = subst (λ (key : Key). IsLeastOfFirst heads 0 (option_map (λ head. (first.number, head)) (head_of key first.place)))
      (sym none) (λ k below. absurd (omega arith));
  others = λ q other below not at. absurd (omega arith);
}

-- one head more is compared
pub leads_on : (heads : Heads) (n : ℕ) (first : Leader) (head : PackedHead) (new : Leader) → n < length heads →
    head_at heads n ≡ head_in head → LeadsOfFirst heads n first → IsLeaderWith first n head new →
    LeadsOfFirst heads (n + 1) new
leads_on heads n first head new lt at so_far is = elim (key_before_decides head.stamp first.stamp) [
  | inl before ↦ subst (LeadsOfFirst heads (n + 1)) (sym (is.leads before)) (leads before)
  | inr not ↦ subst (LeadsOfFirst heads (n + 1)) (sym (is.follows not)) (follows not)
]
  where
    least : IsLeastOfFirst heads (n + 1) (nearer_of (head_with first) n (head_in head))
    least = nearer_is heads n (head_with first) (head_in head) lt at so_far.least

    leads : IsKeyBefore head.stamp first.stamp →
        LeadsOfFirst heads (n + 1) (record { number = n; stamp = head.stamp; place = head.place; second = first.stamp })
    leads before = record {
      least = subst (IsLeastOfFirst heads (n + 1))
          (nearer_leads n first.number head.place first.place head.stamp first.stamp before) least;
      others = λ q other below not there. elim (below_or_last q n below) [
        | inl less ↦ not_after_least heads n first.number first.place first.stamp q other so_far.least less there
        | inr same ↦ absurd (not same)
      ];
    }

    own : (key : Key) (place q : ℕ) (other : Head) → head_of key place ≡ Some other → key ≡ Some other.stamp
    own None place q other is = absurd (none-some other is)
    own (Some s) place q other is = ap (λ (v : Head). Some v.stamp) (same_Some (record { stamp = s; place = place }) other is)

    follows : ¬ IsKeyBefore head.stamp first.stamp →
        LeadsOfFirst heads (n + 1) (record { number = first.number; stamp = first.stamp; place = first.place; second = earlier_of first.second head.stamp })
    follows not = record {
      least = subst (IsLeastOfFirst heads (n + 1))
          (nearer_follows n first.number head.place first.place head.stamp first.stamp not) least;
      others = λ q other below others there. elim (below_or_last q n below) [
        | inl less ↦ not_after_earlier first.second head.stamp other.stamp (so_far.others q other less others there)
        | inr same ↦
            let is : head.stamp ≡ Some other.stamp =
            own head.stamp head.place q other (sym at ∙ ap (head_at heads) (sym same) ∙ there) in
            subst (λ (key : Key). IsNotAfter (earlier_of first.second key) (Some other.stamp)) (sym is)
            (not_after_own first.second other.stamp)
      ];
    }

-- all were compared
pub leader_of_all : (heads : Heads) (n : ℕ) (first : Leader) → length heads ≤ n → LeadsOfFirst heads n first →
    IsLeader heads first
leader_of_all heads n first le so_far = record {
  least = least_of_all heads n (head_with first) le so_far.least;
  others = λ q other others at. so_far.others q other (omega (arith, head_within heads q other at)) others at;
}

-- ---- what a leader says
-- its head, by its stamp
pub leads_at : (heads : Heads) (first : Leader) (s : Stamp) → IsLeader heads first → Some s ≡ first.stamp →
    IsLeadingHead heads (Some (first.number, record { stamp = s; place = first.place }))
leads_at heads first s leads is = subst (λ (key : Key). IsLeadingHead heads
    (option_map (λ head. (first.number, head)) (head_of key first.place))) (sym is) leads.least

pub none_leads : (heads : Heads) (first : Leader) → IsLeader heads first → None ≡ first.stamp →
    IsLeadingHead heads None
none_leads heads first leads is = subst (λ (key : Key). IsLeadingHead heads
    (option_map (λ head. (first.number, head)) (head_of key first.place))) (sym is) leads.least

-- it has one, unless there is no head
pub stamp_there : (key : Key) → (key ≡ None → IsTrue false) → (s : Stamp) × (Some s ≡ key)
stamp_there None not = let wrong = not refl in cc
stamp_there (Some s) not = (s, refl)

-- ---- a region that runs on
-- its next head leads, if it is before the second
pub leads_still : (heads : Heads) (k : ℕ) (head : PackedHead) (second : Key) → k < length heads →
    NoOtherBefore heads k second → head_at heads k ≡ head_in head → IsKeyBefore head.stamp second →
    IsLeader heads (record { number = k; stamp = head.stamp; place = head.place; second = second })
leads_still heads k head second lt others at before = record {
  least = by_key head.stamp at before;
  others = others;
}
  where
    still : (s t : Stamp) (key : Key) → IsKeyBefore (Some s) key → IsNotAfter key (Some t) → ¬ Before t s
    still s t None before not = absurd not
    still s t (Some r) before not = λ less. not (before_trans t s r less before)

    by_key : (key : Key) → head_at heads k ≡ head_of key head.place → IsKeyBefore key second →
        IsLeadingHead heads (option_map (λ v. (k, v)) (head_of key head.place))
    by_key None at before = absurd before
    by_key (Some s) at before = (
      lt,
      at,
      λ q other there. elim (same_or_other q k) [
        | inl same ↦
            let is : other ≡ record { stamp = s; place = head.place } =
            same_Some other (record { stamp = s; place = head.place }) (sym there ∙ ap (head_at heads) same ∙ at) in
            subst (λ (v : Head). ¬ Before v.stamp s) (sym is) (not_before_itself s)
        | inr not ↦ still s other.stamp second before (others q other not there)
      ],
    )

-- another head in the place of one
pub set_in : (packed : List PackedHead) (k : ℕ) (new : PackedHead) →
    heads_in (set packed k new) ≡ set (heads_in packed) k (head_in new)
set_in packed k new = map-set head_in packed k new

-- the others' heads stay
pub others_stay : (packed : List PackedHead) (k : ℕ) (new : PackedHead) (second : Key) →
    NoOtherBefore (heads_in packed) k second → NoOtherBefore (heads_in (set packed k new)) k second
others_stay packed k new second others q other not at = others q other not
    (sym (get_or-set_other (heads_in packed) k q (head_in new) None not)
    ∙ ap (λ (v : Heads). head_at v q) (sym (set_in packed k new)) ∙ at)
