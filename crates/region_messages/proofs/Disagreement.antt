-- The first disagreement of two trails.
use Rattle.std.proofs.Common.{◌≡◌, ◌⊎◌, inl, inr, ℕ, zero, suc, true, false, Option, Some, None, List, [], ◌∷◌, take, slice_get, sym, ap, ◌∙◌, subst, refl}
use Rattle.std.specs.Prelude.{MatchOption, option_map}
use Rattle.event_stamps.specs.declared.Stamp.{Stamp}
use Rattle.event_stamps.specs.Order.{Before}
use Rattle.event_stamps.specs.Least.{earlier_of}
use Rattle.event_stamps.proofs.StampOrder.{before_decides, before_trans, not_before_itself}
use Rattle.event_stamps.proofs.Rising.{among_from}
use Rattle.event_stamps.proofs.Parts.{below_nil}
use Rattle.region_view.specs.declared.rows.Message.{Message}
use Rattle.region_messages.specs.Trails.{is_before, IsAmong, RisesAfter, Rises, below, AgreeBelow, AgreesUpTo, DisagreeAt, IsFirstDisagreement, StartAlike, message_key}
use Rattle.region_messages.specs.Laws.{AgreeUntilFirst}
use Rattle.region_messages.proofs.Order.{is_before_true, is_before_false, not_after_before}
use Rattle.region_messages.proofs.Among.{rises_tail, among_rises}
use Rattle.region_messages.proofs.Parts.{below_first, below_none, below_among, among_below}
use Rattle.region_messages.proofs.Same.{same_message}

-- ---- what one pass finds
-- that they are the same, or their first disagreement in both forms
abbrev pub IsFound : List Message → List Message → Option Stamp → Type 0
IsFound a b found =
    MatchOption found (a ≡ b) (λ d. AgreesUpTo a b d × IsFirstDisagreement a b d)

disagree_swapped : (a b : List Message) (s : Stamp) → DisagreeAt a b s → DisagreeAt b a s
disagree_swapped a b s (inl h) = inr h
disagree_swapped a b s (inr h) = inl h

found_swapped : (a b : List Message) (o : Option Stamp) → IsFound a b o → IsFound b a o
found_swapped a b None h = sym h
found_swapped a b (Some d) h = (
  record {
    below = λ t not. sym (h.0.below t not);
    beyond = λ t lt agree. h.0.beyond t lt (sym agree);
  },
  (disagree_swapped a b d h.1.0, λ t k. h.1.1 t (disagree_swapped b a t k)),
)

-- a message that comes before all others and that the other trail hasn't
first_is_lacking : (m : Message) (ms b : List Message) → RisesAfter m.stamp ms →
    ((n : Message) → IsAmong n b → ¬ Before n.stamp m.stamp) → ¬ IsAmong m b →
    IsFound (m ∷ ms) b (Some m.stamp)
first_is_lacking m ms b r after lacks = (
  record {
    below = λ t not. below_none t m ms not ∙ sym (none_below t not);
    beyond = λ t lt agree.
        let among : IsAmong m (below t (m ∷ ms)) =
        subst (IsAmong m) (sym (below_first t m ms lt)) (inl refl) in
        lacks (below_among t b m (subst (IsAmong m) agree among));
  },
  (inl (m, refl, inl refl, lacks), least),
)
  where
    none_below : (t : Stamp) → ¬ Before m.stamp t → below t b ≡ []
    none_below t not = below_nil message_key t b
        (λ n among lt. not (not_after_before m.stamp n.stamp t (after n among) lt))

    not_after : (x : Message) → IsAmong x (m ∷ ms) → ¬ Before x.stamp m.stamp
    not_after x = among_from message_key m.stamp (m ∷ ms) x (not_before_itself m.stamp, r)

    least : (t : Stamp) → DisagreeAt (m ∷ ms) b t → ¬ Before t m.stamp
    least t (inl h) lt = not_after h.0 h.2 (subst (λ (v : Stamp). Before v m.stamp) (sym h.1) lt)
    least t (inr h) lt = after h.0 h.2 (subst (λ (v : Stamp). Before v m.stamp) (sym h.1) lt)

-- two trails with different first messages, and the message that isn't after the other
lesser_first : (m n : Message) (ms ns : List Message) → RisesAfter m.stamp ms →
    RisesAfter n.stamp ns → ¬ Before n.stamp m.stamp → ¬ (m ≡ n) →
    IsFound (m ∷ ms) (n ∷ ns) (Some m.stamp)
lesser_first m n ms ns rm rn not other = first_is_lacking m ms (n ∷ ns) rm after lacks
  where
    after : (x : Message) → IsAmong x (n ∷ ns) → ¬ Before x.stamp m.stamp
    after x = among_from message_key m.stamp (n ∷ ns) x (not, rn)

    lacks : ¬ IsAmong m (n ∷ ns)
    lacks (inl e) = other e
    lacks (inr h) = not (among_rises n.stamp ns m rn h)

-- one message that both have, before all others
one_more : (m : Message) (a b : List Message) (o : Option Stamp) → RisesAfter m.stamp a →
    RisesAfter m.stamp b → IsFound a b o → IsFound (m ∷ a) (m ∷ b) o
one_more m a b None ra rb h = ap (λ (v : List Message). m ∷ v) h
one_more m a b (Some d) ra rb h = (
  record {
    below = λ t not. agree_below t (h.0.below t not) (before_decides m.stamp t);
    beyond = λ t lt agree. h.0.beyond t lt
        (agree_beyond t (before_trans m.stamp d t (later h.1.0) lt) agree);
  },
  (more (later h.1.0) h.1.0, λ t k. h.1.1 t (fewer t k)),
)
  where
    later : DisagreeAt a b d → Before m.stamp d
    later (inl k) = subst (Before m.stamp) k.1 (among_rises m.stamp a k.0 ra k.2)
    later (inr k) = subst (Before m.stamp) k.1 (among_rises m.stamp b k.0 rb k.2)

    agree_below : (t : Stamp) → AgreeBelow t a b → Before m.stamp t ⊎ ¬ Before m.stamp t →
        AgreeBelow t (m ∷ a) (m ∷ b)
    agree_below t same (inl lt) = below_first t m a lt
        ∙ ap (λ (v : List Message). m ∷ v) same ∙ sym (below_first t m b lt)
    agree_below t same (inr not) = below_none t m a not ∙ sym (below_none t m b not)

    agree_beyond : (t : Stamp) → Before m.stamp t → AgreeBelow t (m ∷ a) (m ∷ b) →
        AgreeBelow t a b
    agree_beyond t lt same =
        let both : m ∷ below t a ≡ m ∷ below t b =
        sym (below_first t m a lt) ∙ same ∙ below_first t m b lt in
        cc

    other_than : Before m.stamp d → (x : Message) → x.stamp ≡ d → ¬ (x ≡ m)
    other_than lt x e same = not_before_itself m.stamp
        (subst (Before m.stamp) (sym e ∙ ap (λ (v : Message). v.stamp) same) lt)

    more : Before m.stamp d → DisagreeAt a b d → DisagreeAt (m ∷ a) (m ∷ b) d
    more lt (inl k) = inl (
      k.0,
      k.1,
      inr k.2,
      λ q. elim q [
        | inl same ↦ other_than lt k.0 k.1 same
        | inr r ↦ k.3 r
      ],
    )
    more lt (inr k) = inr (
      k.0,
      k.1,
      inr k.2,
      λ q. elim q [
        | inl same ↦ other_than lt k.0 k.1 same
        | inr r ↦ k.3 r
      ],
    )

    in_rest : (x : Message) (xs ys : List Message) → IsAmong x (m ∷ xs) → ¬ IsAmong x (m ∷ ys) →
        IsAmong x xs × ¬ IsAmong x ys
    in_rest x xs ys (inl e) lacks = absurd (lacks (inl e))
    in_rest x xs ys (inr h) lacks = (h, λ q. lacks (inr q))

    fewer : (t : Stamp) → DisagreeAt (m ∷ a) (m ∷ b) t → DisagreeAt a b t
    fewer t (inl k) = let rest = in_rest k.0 a b k.2 k.3 in inl (k.0, k.1, rest.0, rest.1)
    fewer t (inr k) = let rest = in_rest k.0 b a k.2 k.3 in inr (k.0, k.1, rest.0, rest.1)

abbrev pub stamp_in : Option Message → Option Stamp
stamp_in o = option_map (λ m. m.stamp) o

-- the earlier of the two messages that follow what they have in common
pub found : (n : ℕ) (a b : List Message) → Rises a → Rises b → StartAlike n a b →
    IsFound a b (earlier_of (stamp_in (slice_get a n)) (stamp_in (slice_get b n)))
found zero [] [] ra rb h = refl
found zero [] (n ∷ ns) ra rb h =
    found_swapped (n ∷ ns) [] (Some n.stamp) (first_is_lacking n ns [] rb (λ x k. absurd k) (λ k. k))
found zero (m ∷ ms) [] ra rb h = first_is_lacking m ms [] ra (λ x k. absurd k) (λ k. k)
found zero (m ∷ ms) (n ∷ ns) ra rb h = elim (before_decides n.stamp m.stamp) [
  | inl lt ↦
      let earlier : is_before n.stamp m.stamp ≡ true = is_before_true n.stamp m.stamp lt in
      rw earlier (found_swapped (n ∷ ns) (m ∷ ms) (Some n.stamp)
      (lesser_first n m ns ms rb ra (λ gt. not_before_itself m.stamp
      (before_trans m.stamp n.stamp m.stamp gt lt)) (λ e. other (sym e))))
  | inr not ↦
      let earlier : is_before n.stamp m.stamp ≡ false = is_before_false n.stamp m.stamp not in
      rw earlier (lesser_first m n ms ns ra rb not other)
]
  where
    other : ¬ (m ≡ n)
    other e = let none = h.apart (ap (λ (v : Message). Some v) e) in cc
found (suc i) [] [] ra rb h = refl
found (suc i) [] (n ∷ ns) ra rb h = let same = h.same in cc
found (suc i) (m ∷ ms) [] ra rb h = let same = h.same in cc
found (suc i) (m ∷ ms) (n ∷ ns) ra rb h =
    let both = h.same in
    let first : m ≡ n = cc in
    let rest : take i ms ≡ take i ns = cc in
    let found_in_rest = found i ms ns (rises_tail m.stamp ms ra) (rises_tail n.stamp ns rb)
    (record { same = rest; apart = h.apart }) in
    subst (λ (v : Message). IsFound (m ∷ ms) (v ∷ ns)
    (earlier_of (stamp_in (slice_get ms i)) (stamp_in (slice_get ns i)))) first
    (one_more m ms ns (earlier_of (stamp_in (slice_get ms i)) (stamp_in (slice_get ns i))) ra
    (subst (λ (v : Message). RisesAfter v.stamp ns) (sym first) rb) found_in_rest)

pub agree_of_found : (a b : List Message) (o : Option Stamp) → IsFound a b o →
    MatchOption o (a ≡ b) (AgreesUpTo a b)
agree_of_found a b None h = h
agree_of_found a b (Some d) h = h.0

pub first_of_found : (a b : List Message) (o : Option Stamp) → IsFound a b o →
    MatchOption o (a ≡ b) (IsFirstDisagreement a b)
first_of_found a b None h = h
first_of_found a b (Some d) h = h.1

-- ---- what a first disagreement says of each stamp
-- a message before a stamp that both trails have below it
has_both : (a b : List Message) (t : Stamp) (m : Message) → Rises a → AgreeBelow t a b →
    IsAmong m a → Before m.stamp t → IsAmong m b
has_both a b t m r same h lt =
    below_among t b m (subst (IsAmong m) same (among_below t a m r h lt))

-- at no stamp before t they disagree
abbrev NoneBefore : Stamp → List Message → List Message → Type 0
NoneBefore t a b = (s : Stamp) → DisagreeAt a b s → ¬ Before s t

none_swapped : (t : Stamp) (a b : List Message) → NoneBefore t a b → NoneBefore t b a
none_swapped t a b none s k = none s (disagree_swapped b a s k)

-- a message isn't among those of a trail that begins with another message that isn't before it
not_among_after : (m n : Message) (ns : List Message) → RisesAfter n.stamp ns → ¬ (m ≡ n) →
    ¬ Before n.stamp m.stamp → ¬ IsAmong m (n ∷ ns)
not_among_after m n ns r other not (inl e) = other e
not_among_after m n ns r other not (inr h) = not (among_rises n.stamp ns m r h)

-- if the other trail begins with another message that isn't before the first one of this trail, that first one isn't
-- before t
first_not_before : (t : Stamp) (m n : Message) (ms ns : List Message) → RisesAfter n.stamp ns →
    NoneBefore t (m ∷ ms) (n ∷ ns) → ¬ (m ≡ n) → ¬ Before n.stamp m.stamp → ¬ Before m.stamp t
first_not_before t m n ms ns r none other not =
    none m.stamp (inl (m, refl, inl refl, not_among_after m n ns r other not))

none_in_rest : (t : Stamp) (m : Message) (ms ns : List Message) → RisesAfter m.stamp ms →
    RisesAfter m.stamp ns → NoneBefore t (m ∷ ms) (m ∷ ns) → NoneBefore t ms ns
none_in_rest t m ms ns ra rb none s k = none s (with_first k)
  where
    lacks : (x : Message) (xs ys : List Message) → RisesAfter m.stamp xs → IsAmong x xs →
        ¬ IsAmong x ys → ¬ IsAmong x (m ∷ ys)
    lacks x xs ys r h not (inl e) = not_before_itself m.stamp
        (subst (λ (v : Message). Before m.stamp v.stamp) e (among_rises m.stamp xs x r h))
    lacks x xs ys r h not (inr q) = not q

    with_first : DisagreeAt ms ns s → DisagreeAt (m ∷ ms) (m ∷ ns) s
    with_first (inl k) = inl (k.0, k.1, inr k.2, lacks k.0 ms ns ra k.2 k.3)
    with_first (inr k) = inr (k.0, k.1, inr k.2, lacks k.0 ns ms rb k.2 k.3)

-- trails that don't disagree before t have the same messages below it
agree_where_none : (t : Stamp) (a b : List Message) → Rises a → Rises b → NoneBefore t a b →
    AgreeBelow t a b
agree_where_none t [] [] ra rb none = refl
agree_where_none t [] (n ∷ ns) ra rb none =
    sym (below_none t n ns (none n.stamp (inr (n, refl, inl refl, λ k. k))))
agree_where_none t (m ∷ ms) [] ra rb none =
    below_none t m ms (none m.stamp (inl (m, refl, inl refl, λ k. k)))
agree_where_none t (m ∷ ms) (n ∷ ns) ra rb none = elim (same_message m n) [
  | inl e ↦
      let rb' = subst (λ (v : Message). RisesAfter v.stamp ns) (sym e) rb in
      let none' = subst (λ (v : Message). NoneBefore t (m ∷ ms) (v ∷ ns)) (sym e) none in
      let rest = agree_where_none t ms ns (rises_tail m.stamp ms ra) (rises_tail n.stamp ns rb)
      (none_in_rest t m ms ns ra rb' none') in
      subst (λ (v : Message). AgreeBelow t (m ∷ ms) (v ∷ ns)) e
      (agree_below rest (before_decides m.stamp t))
  | inr other ↦ elim (before_decides n.stamp m.stamp) [
    | inl lt ↦
        let not = first_not_before t n m ns ms ra (none_swapped t (m ∷ ms) (n ∷ ns) none)
        (λ e. other (sym e))
        (λ gt. not_before_itself m.stamp (before_trans m.stamp n.stamp m.stamp gt lt)) in
        below_none t m ms (λ early. not (before_trans n.stamp m.stamp t lt early))
        ∙ sym (below_none t n ns not)
    | inr after ↦
        let not = first_not_before t m n ms ns rb none other after in
        below_none t m ms not
        ∙ sym (below_none t n ns (λ early. not (not_after_before m.stamp n.stamp t after early)))
  ]
]
  where
    agree_below : AgreeBelow t ms ns → Before m.stamp t ⊎ ¬ Before m.stamp t →
        AgreeBelow t (m ∷ ms) (m ∷ ns)
    agree_below same (inl lt) = below_first t m ms lt
        ∙ ap (λ (v : List Message). m ∷ v) same ∙ sym (below_first t m ns lt)
    agree_below same (inr not) = below_none t m ms not ∙ sym (below_none t m ns not)

pub ends_there : AgreeUntilFirst
ends_there a b d t ra rb first = (
  λ same lt. apart same lt first.0,
  λ not. agree_where_none t a b ra rb
      (λ s k lt. not (not_after_before d s t (first.1 s k) lt)),
)
  where
    at_there : (m : Message) → m.stamp ≡ d → Before d t → Before m.stamp t
    at_there m e lt = subst (λ (v : Stamp). Before v t) (sym e) lt

    apart : AgreeBelow t a b → Before d t → ¬ DisagreeAt a b d
    apart same lt (inl k) = k.3 (has_both a b t k.0 ra same k.2 (at_there k.0 k.1 lt))
    apart same lt (inr k) = k.3 (has_both b a t k.0 rb (sym same) k.2 (at_there k.0 k.1 lt))
