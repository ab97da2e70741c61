-- Entries that have nothing to do with some disks stay moves if rows of these are set.
use Rattle.std.proofs.Common.{◌≡◌, ◌⊎◌, inl, inr, ℕ, List, [], ◌∷◌, Some, sym, ap, ◌∙◌, subst, refl}
use Rattle.event_stamps.specs.declared.Stamp.{Stamp}
use Rattle.event_stamps.specs.declared.Kind.TheVariants.{Pair}
use Rattle.event_stamps.specs.Order.{Before}
use Rattle.event_stamps.proofs.StampOrder.{before_trans, not_before_itself}
use Rattle.region_view.specs.declared.action.Action.{Action}
use Rattle.region_view.specs.declared.action.Placed.{Placed}
use Rattle.region_view.specs.Views.{ViewData, rows_in}
use Rattle.region_view.specs.Acting.{stamp_of}
use Rattle.region_view.specs.Setting.{RowList, rows_set, set_rows, numbers_of}
use Rattle.region_view.proofs.Puts.{set_rows_are_put_over}
use Rattle.region_messages.specs.Trails.{IsAmong}
use Rattle.region_view.specs.Naming.{Names, NamesAny}
use Rattle.region_view.proofs.Naming.{among_or_not, near_pair, is_pair_or_not, names_or_not, native_stays}
use Rattle.local_run.specs.declared.home.Home.{Home}
use Rattle.local_run.specs.declared.entry.Entry.{Entry}
use Rattle.local_run.specs.declared.entry.Entry.TheVariants.{Native, Heard}
use Rattle.local_run.specs.Entries.{entry_stamp, EntriesRiseAfter, clock_of}
use Rattle.local_run.specs.LocalRun.{At, Trails, trail_of, messages_after_first, without_first, IsWaiting}
use Rattle.local_run.specs.LocalRun.{after_entry, after_log, IsOwn, IsOffered, IsDue, IsMove, Moves, sent_to, prepended}
use Rattle.local_run.specs.Weaving.{IsApart, LeavesNear, AreAside, AreOthers}
use Rattle.local_run.proofs.Among.{same_trail, other_trail, same_or_other, waits_first}
use Rattle.local_run.proofs.Touched.{same_but}
use Rattle.local_run.proofs.Aside.{AreSame, crosswise, over_here, own_on, own_back, set_are_named, same_action, same_rows, same_message}

-- ---- what waits
abbrev pub SameTrails : Trails → Trails → Type 0
SameTrails v w = (q : ℕ) → trail_of w q ≡ trail_of v q

waiting_same : (v w : Trails) (s : Stamp) → SameTrails v w → IsWaiting w s → IsWaiting v s
unfolding IsWaiting
waiting_same v w s same (q, m, among, is) = (q, m, subst (IsAmong m) (same q) among, is)

same_without : (v w : Trails) (q : ℕ) → SameTrails v w → SameTrails (without_first v q) (without_first w q)
same_without v w q same k = elim (same_or_other k q) [
  | inl here ↦ subst (λ (x : ℕ). trail_of (without_first w q) x ≡ trail_of (without_first v q) x) (sym here)
      (same_trail w q ∙ ap messages_after_first (same q) ∙ sym (same_trail v q))
  | inr other ↦ other_trail w q k other ∙ same k ∙ sym (other_trail v q k other)
]

-- ---- one entry
-- the rows that an entry sets
abbrev rows_by : ViewData → Entry → RowList
rows_by view (Native x) = rows_set (rows_in view) x
rows_by view (Heard q m) = m.rows

-- the same with the rows set, and with other trails
abbrev pub beside : RowList → At → Trails → At
beside rows a w = record { view = set_rows a.view rows; waiting = w }

others : (h : Home) (rows : RowList) (a : At) (e : Entry) → IsApart rows e → IsMove h a e →
    AreOthers rows (rows_by a.view e)
others h rows a (Native x) apart move i has set = apart i (set_are_named h a.view x i move.comes set) has
others h rows a (Heard q m) apart move i has set = apart i set has

-- the disks of a native candidate stand in the view
own_there : (h : Home) (view : ViewData) (s : Stamp) → IsOwn h view s → (i : ℕ) → Names s i →
    (p : Placed) × (rows_in view i ≡ Some p)
unfolding IsOwn
own_there h view s own i (inl first) =
    (own.1.0, subst (λ (n : ℕ). rows_in view n ≡ Some own.1.0) first own.1.1)
own_there h view s own i (inr (pair, second)) =
    let near = near_pair h.rules h.grid h.number view s own pair in
    (near.1.2.0, subst (λ (n : ℕ). rows_in view n ≡ Some near.1.2.0) second near.1.2.1)

-- a disk of a native candidate of the rows' disks doesn't change at the entry, or the candidate comes after it
named_stay : (h : Home) (rows : RowList) (t : Stamp) (before after : ViewData) (s : Stamp) →
    LeavesNear h rows t before after → IsOwn h (set_rows before rows) s → NamesAny s (numbers_of rows) →
    (i : ℕ) → Names s i → (rows_in (set_rows after rows) i ≡ rows_in (set_rows before rows) i) ⊎ Before t s
named_stay h rows t before after s leaves own names i named = elim (among_or_not (numbers_of rows) i) [
  | inl has ↦ inl (set_rows_are_put_over after rows i
      ∙ over_here rows i (rows_in after i) (rows_in before i) has
      ∙ sym (set_rows_are_put_over before rows i))
  | inr not ↦
      let there = own_there h (set_rows before rows) s own i named in
      let here : rows_in before i ≡ Some there.0 = sym (same_but before rows i not) ∙ there.1 in
      elim (leaves i there.0 here) [
        | inl kept ↦ inl (same_but after rows i not ∙ kept ∙ sym there.1)
        | inr later ↦ inr (later s own named names)
      ]
]

-- so it is one after the entry, or comes after it
still_own : (h : Home) (rows : RowList) (t : Stamp) (before after : ViewData) (s : Stamp) →
    LeavesNear h rows t before after → NamesAny s (numbers_of rows) →
    IsOwn h (set_rows before rows) s → IsOwn h (set_rows after rows) s ⊎ Before t s
unfolding IsOwn
still_own h rows t before after s leaves names own =
    elim (named_stay h rows t before after s leaves own names s.first (inl refl)) [
      | inr later ↦ inr later
      | inl first ↦ elim (is_pair_or_not s.kind) [
        | inr alone ↦ inl (on (by_first first alone))
        | inl pair ↦ elim (named_stay h rows t before after s leaves own names s.second (inr (pair, refl))) [
          | inr later ↦ inr later
          | inl second ↦ inl (on (by_both first second))
        ]
      ]
    ]
  where
    IsSameAt : ℕ → Type 0
    IsSameAt i = rows_in (set_rows after rows) i ≡ rows_in (set_rows before rows) i

    on : ((i : ℕ) → Names s i → IsSameAt i) → IsOwn h (set_rows after rows) s
    on same = (native_stays h.rules h.grid h.number (set_rows before rows) (set_rows after rows) s same).0 own

    by_first : IsSameAt s.first → ¬ (s.kind ≡ Pair) → (i : ℕ) → Names s i → IsSameAt i
    by_first first alone i (inl is) = subst IsSameAt is first
    by_first first alone i (inr (pair, is)) = absurd (alone pair)

    by_both : IsSameAt s.first → IsSameAt s.second → (i : ℕ) → Names s i → IsSameAt i
    by_both first second i (inl is) = subst IsSameAt is first
    by_both first second i (inr (pair, is)) = subst IsSameAt is second

-- what the rows' disks do in a view with the rows set comes after a stamp
abbrev pub IsLaterThan : Home → RowList → ViewData → Stamp → Type 0
IsLaterThan h rows view c = (s : Stamp) → IsOwn h (set_rows view rows) s → NamesAny s (numbers_of rows) →
    Before c s

-- if it does so at the end, it comes after the first entry: a candidate stays one to the end, or up to an entry that it
-- comes after
pub still_later : (h : Home) (rows : RowList) (a : At) (e : Entry) (es : List Entry) →
    EntriesRiseAfter (entry_stamp e) es → AreAside h rows a (e ∷ es) →
    IsLaterThan h rows (after_log a (e ∷ es)).view (clock_of (entry_stamp e) es) →
    IsLaterThan h rows a.view (entry_stamp e)
still_later h rows a e [] rises aside later s own names =
    elim (still_own h rows (entry_stamp e) a.view (after_entry a e).view s aside.1 names own) [
      | inl still ↦ later s still names
      | inr after ↦ after
    ]
still_later h rows a e (n ∷ es) rises aside later s own names =
    elim (still_own h rows (entry_stamp e) a.view (after_entry a e).view s aside.1 names own) [
      | inl still ↦ before_trans (entry_stamp e) (entry_stamp n) s rises.0
          (still_later h rows (after_entry a e) n es rises.1 aside.2 later s still names)
      | inr after ↦ after
    ]

own_or_later : (h : Home) (rows : RowList) (a : At) (t s : Stamp) → IsLaterThan h rows a.view t →
    IsOwn h (set_rows a.view rows) s → IsOwn h a.view s ⊎ Before t s
own_or_later h rows a t s earlier own = elim (names_or_not s (numbers_of rows)) [
  | inl names ↦ inr (earlier s own names)
  | inr not ↦ inl (own_back h a.view rows s not own)
]

due_beside : (h : Home) (rows : RowList) (a : At) (w : Trails) (t : Stamp) → SameTrails a.waiting w →
    IsLaterThan h rows a.view t → IsOffered h (beside rows a w) t → IsDue h a t → IsDue h (beside rows a w) t
due_beside h rows a w t same earlier here due = (here, not_before)
  where
    not_before : (s : Stamp) → IsOffered h (beside rows a w) s → ¬ Before s t
    not_before s (inl own) less = elim (own_or_later h rows a t s earlier own) [
      | inl was ↦ due.1 s (inl was) less
      | inr later ↦ not_before_itself t (before_trans t s t later less)
    ]
    not_before s (inr waits) less = due.1 s (inr (waiting_same a.waiting w s same waits)) less

same_disks : (rows : RowList) (view : ViewData) (x : Action) → IsApart rows (Native x) →
    AreSame (stamp_of x) view (set_rows view rows)
same_disks rows view x apart i names = same_but view rows i (apart i names)

none_named : (rows : RowList) (x : Action) → IsApart rows (Native x) →
    ¬ NamesAny (stamp_of x) (numbers_of rows)
none_named rows x apart (inl first) = apart (stamp_of x).first (inl refl) first
none_named rows x apart (inr (pair, second)) = apart (stamp_of x).second (inr (pair, refl)) second

stays_move : (h : Home) (rows : RowList) (a : At) (w : Trails) (e : Entry) → SameTrails a.waiting w →
    IsApart rows e → IsLaterThan h rows a.view (entry_stamp e) → IsMove h a e → IsMove h (beside rows a w) e
stays_move h rows a w (Native x) same apart earlier move = record {
  due = due_beside h rows a w (stamp_of x) same earlier (inl native) move.due;
  native = native;
  alone = λ waits. move.alone (waiting_same a.waiting w (stamp_of x) same waits);
  comes = same_action h a.view (set_rows a.view rows) (stamp_of x) x (same_disks rows a.view x apart)
      move.comes;
}
  where
    native : IsOwn h (set_rows a.view rows) (stamp_of x)
    native = own_on h a.view rows (stamp_of x) (none_named rows x apart) move.native
stays_move h rows a w (Heard q m) same apart earlier move = record {
  due = due_beside h rows a w m.stamp same earlier (inr (waits_first w q m move.first.0 first)) move.due;
  first = (move.first.0, first);
  alone = λ own. elim (own_or_later h rows a m.stamp m.stamp earlier own) [
    | inl was ↦ move.alone was
    | inr later ↦ not_before_itself m.stamp later
  ];
  only = λ r n among is. move.only r n (subst (IsAmong n) (same r) among) is;
}
  where
    first : trail_of w q ≡ m ∷ move.first.0
    first = same q ∙ move.first.1

stays_view : (h : Home) (rows : RowList) (a : At) (w : Trails) (e : Entry) → IsApart rows e →
    IsMove h a e → (after_entry (beside rows a w) e).view ≡ set_rows (after_entry a e).view rows
stays_view h rows a w (Native x) apart move =
    ap (set_rows (set_rows a.view rows)) (same_rows h a.view (set_rows a.view rows) x move.comes
    (same_disks rows a.view x apart))
    ∙ crosswise a.view rows (rows_set (rows_in a.view) x) (others h rows a (Native x) apart move)
stays_view h rows a w (Heard q m) apart move =
    crosswise a.view rows m.rows (others h rows a (Heard q m) apart move)

pub stays_waiting : (rows : RowList) (a : At) (w : Trails) (e : Entry) → SameTrails a.waiting w →
    SameTrails (after_entry a e).waiting (after_entry (beside rows a w) e).waiting
stays_waiting rows a w (Native x) same = same
stays_waiting rows a w (Heard q m) same = same_without a.waiting w q same

-- with the rows set, and what waits the same, it reaches the same point with the rows set
pub next_beside : (h : Home) (rows : RowList) (a : At) (w : Trails) (e : Entry) → IsApart rows e →
    IsMove h a e → after_entry (beside rows a w) e
    ≡ beside rows (after_entry a e) (after_entry (beside rows a w) e).waiting
next_beside h rows a w e apart move = λ i. record {
  view = stays_view h rows a w e apart move i;
  waiting = (after_entry (beside rows a w) e).waiting;
}

-- ---- all entries
pub stays : (h : Home) (rows : RowList) (a : At) (w : Trails) (f : Stamp) (es : List Entry) →
    SameTrails a.waiting w → Moves h a es → AreAside h rows a es → EntriesRiseAfter f es →
    IsLaterThan h rows (after_log a es).view (clock_of f es) →
    Moves h (beside rows a w) es
    × ((after_log (beside rows a w) es).view ≡ set_rows (after_log a es).view rows)
stays h rows a w f [] same moves aside rises later = (tt, refl)
stays h rows a w f (e ∷ es) same moves aside rises later =
    let b = (after_entry (beside rows a w) e).waiting in
    let next = next_beside h rows a w e aside.0 moves.0 in
    let rest = stays h rows (after_entry a e) b (entry_stamp e) es (stays_waiting rows a w e same) moves.1 aside.2 rises.1 later in (
      (
        stays_move h rows a w e same aside.0 (still_later h rows a e es rises.1 aside later) moves.0,
        subst (λ (x : At). Moves h x es) (sym next) rest.0,
      ),
      ap (λ (x : At). (after_log x es).view) next ∙ rest.1,
    )

-- and they send the same
pub stays_sent : (h : Home) (rows : RowList) (k : ℕ) (a : At) (es : List Entry) → Moves h a es →
    AreAside h rows a es → sent_to h.grid k (set_rows a.view rows) es ≡ sent_to h.grid k a.view es
stays_sent h rows k a [] moves aside = refl
stays_sent h rows k a (Native x ∷ es) moves aside =
    let same = same_rows h a.view (set_rows a.view rows) x moves.0.comes (same_disks rows a.view x aside.0) in
    let message = same_message h.grid k (rows_in (set_rows a.view rows)) (rows_in a.view) x same
    (λ i has. same_but a.view rows i (aside.0 i (set_are_named h a.view x i moves.0.comes has))) in
    let rest = ap (λ (v : ViewData). sent_to h.grid k v es) (stays_view h rows a a.waiting (Native x) aside.0 moves.0)
    ∙ stays_sent h rows k (after_entry a (Native x)) es moves.1 aside.2 in
    λ i. prepended (message i) (rest i)
stays_sent h rows k a (Heard q m ∷ es) moves aside =
    ap (λ (v : ViewData). sent_to h.grid k v es) (stays_view h rows a a.waiting (Heard q m) aside.0 moves.0)
    ∙ stays_sent h rows k (after_entry a (Heard q m)) es moves.1 aside.2
