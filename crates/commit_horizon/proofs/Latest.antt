-- The last of the stamps of some logs.
use Rattle.std.proofs.Common.{◌≡◌, ◌⊎◌, inl, inr, ℕ, zero, suc, ◌-◌, ◌<◌, ◌≤◌, Bool, true, false, List, [], ◌∷◌, ◌++◌, length}
use Rattle.std.proofs.Common.{Option, Some, None, sym, ap, ◌∙◌, subst, refl, arith}
use Rattle.std.specs.Prelude.{slice_get, option_map, if◌then◌else◌}
use Rattle.std.proofs.lemmas.List.{length-map}
use Rattle.std.proofs.lemmas.Option.{none-some, same_Some, slice_get_past}
use Rattle.event_stamps.specs.declared.Stamp.{Stamp}
use Rattle.event_stamps.specs.Order.{Before}
use Rattle.event_stamps.specs.Ordered.{KeysRise}
use Rattle.event_stamps.proofs.StampOrder.{before_trans, before_decides, not_before_itself, same_stamp}
use Rattle.event_stamps.proofs.Rising.{rises_tail}
use Rattle.region_view.specs.declared.action.Action.{Action}
use Rattle.region_view.specs.Acting.{stamp_of}
use Rattle.region_messages.specs.Trails.{IsAmong, is_before}
use Rattle.region_messages.proofs.Among.{among_left, among_right, among_either}
use Rattle.region_messages.proofs.Order.{before_from_true, not_before_from_false}
use Rattle.cell_sequence.specs.State.{last_stamp}
use Rattle.local_run.specs.declared.entry.Entry.{Entry}
use Rattle.local_run.specs.declared.entry.Entry.TheVariants.{Native, Heard}
use Rattle.local_run.specs.Entries.{entry_stamp, native_in}
use Rattle.local_run.proofs.Among.{same_or_other}
use Rattle.local_run.proofs.Logs.{among_after}
use Rattle.event_log.specs.Logged.{Logged, entries_in, native_at}
use Rattle.commit_horizon.specs.Horizon.{ActionStampsRise}
use Rattle.commit_horizon.specs.Cutting.{HasActionAt, SomeHasStamp, IsLatest, latest_of}

-- ---- any stamps
-- there is one latest
pub one_latest : (P : Stamp → Type 0) (a b : Option Stamp) → IsLatest P a → IsLatest P b → a ≡ b
one_latest P None None p q = refl
one_latest P None (Some t) p q = absurd (p t q.0)
one_latest P (Some s) None p q = absurd (q s p.0)
one_latest P (Some s) (Some t) p q = ap Some (same_stamp s t (p.1 t q.0) (q.1 s p.0))

-- two properties of the same stamps have the same latest stamp
pub latest_same : (P Q : Stamp → Type 0) (a : Option Stamp) → ((s : Stamp) → P s → Q s) →
    ((s : Stamp) → Q s → P s) → IsLatest P a → IsLatest Q a
latest_same P Q None to back p = λ s q. p s (back s q)
latest_same P Q (Some s) to back p = (to s p.0, λ t q. p.1 t (back t q))

-- the latest of both, if R holds exactly for those for which P or Q does
pub latest_joined : (P Q R : Stamp → Type 0) (a b : Option Stamp) → ((s : Stamp) → R s → P s ⊎ Q s) →
    ((s : Stamp) → P s → R s) → ((s : Stamp) → Q s → R s) → IsLatest P a → IsLatest Q b →
    IsLatest R (latest_of a b)
latest_joined P Q R None None parts left right p q = λ s r. elim (parts s r) [
  | inl h ↦ p s h
  | inr h ↦ q s h
]
latest_joined P Q R None (Some t) parts left right p q = (
  right t q.0,
  λ s r. elim (parts s r) [
    | inl h ↦ absurd (p s h)
    | inr h ↦ q.1 s h
  ],
)
latest_joined P Q R (Some s) None parts left right p q = (
  left s p.0,
  λ t r. elim (parts t r) [
    | inl h ↦ p.1 t h
    | inr h ↦ absurd (q t h)
  ],
)
latest_joined P Q R (Some s) (Some t) parts left right p q = by_test (is_before s t) refl
  where
    by_test : (b : Bool) → is_before s t ≡ b → IsLatest R (Some (if b then t else s))
    by_test true e = (
      right t q.0,
      λ u r. elim (parts u r) [
        | inl h ↦ λ less. p.1 u h (before_trans s t u (before_from_true s t e) less)
        | inr h ↦ q.1 u h
      ],
    )
    by_test false e = (
      left s p.0,
      λ u r. elim (parts u r) [
        | inl h ↦ p.1 u h
        | inr h ↦ λ less. elim (before_decides t s) [
          | inl sooner ↦ q.1 u h (before_trans t s u sooner less)
          | inr not ↦ q.1 u h (subst (λ (v : Stamp). Before v u)
              (same_stamp s t (not_before_from_false s t e) not) less)
        ]
      ],
    )

-- ---- actions that rise
-- one of them has the stamp
abbrev pub IsStampAmong : List Action → Stamp → Type 0
IsStampAmong xs s = (x : Action) × IsAmong x xs × (stamp_of x ≡ s)

-- the last one has the latest stamp
pub last_is_latest : (xs : List Action) → ActionStampsRise xs → IsLatest (IsStampAmong xs) (last_stamp xs)
last_is_latest [] rise = λ s (x, none, is). none
last_is_latest (x ∷ []) rise = (
  (x, inl refl, refl),
  λ s (y, among, is) less. elim among [
    | inl same ↦ not_before_itself s (subst (λ (t : Stamp). Before t s) (ap stamp_of (sym same) ∙ is) less)
    | inr none ↦ none
  ],
)
last_is_latest (x ∷ y ∷ xs) rise = by_last (last_stamp (y ∷ xs)) (last_is_latest (y ∷ xs) rise.1)
  where
    by_last : (found : Option Stamp) → IsLatest (IsStampAmong (y ∷ xs)) found →
        IsLatest (IsStampAmong (x ∷ y ∷ xs)) found
    by_last None last = absurd (last (stamp_of y) (y, inl refl, refl))
    by_last (Some s) last = (
      (last.0.0, inr last.0.1, last.0.2),
      λ t (z, among, is) less. elim among [
        | inl same ↦ not_before_itself s (before_trans s t s less
            (subst (λ (v : Stamp). Before v s) (ap stamp_of (sym same) ∙ is)
            (subst (Before (stamp_of x)) last.0.2 (rise.0 last.0.0 last.0.1))))
        | inr later ↦ last.1 t (z, later, is) less
      ],
    )

-- ---- logs
pub none_latest : IsLatest (SomeHasStamp []) None
none_latest s (log, none, has) = none

-- one log more
pub latest_more : (logs : List (List Entry)) (log : List Entry) (a b : Option Stamp) →
    IsLatest (SomeHasStamp logs) a → IsLatest (HasActionAt log) b →
    IsLatest (SomeHasStamp (logs ++ log ∷ [])) (latest_of a b)
latest_more logs log a b so_far here =
    latest_joined (SomeHasStamp logs) (HasActionAt log) (SomeHasStamp (logs ++ log ∷ [])) a b
    (λ s (found, among, has). elim (among_either found logs (log ∷ []) among) [
      | inl sooner ↦ inl (found, sooner, has)
      | inr last ↦ elim last [
        | inl same ↦ inr (subst (λ (v : List Entry). HasActionAt v s) same has)
        | inr none ↦ absurd none
      ]
    ])
    (λ s (found, among, has). (found, among_left found logs (log ∷ []) among, has))
    (λ s has. (log, among_right log logs (log ∷ []) (inl refl), has))
    so_far here

-- no action, if there is none at any place
no_action : (es : List Entry) (y : Action) → ((k : ℕ) → native_in (slice_get es k) ≡ None) →
    ¬ IsAmong (Native y) es
no_action [] y none among = among
no_action (e ∷ es) y none (inl same) =
    none-some y (sym (none 0) ∙ ap (λ (v : Entry). native_in (Some v)) (sym same))
no_action (e ∷ es) y none (inr more) = no_action es y (λ k. none (suc k)) more

pub none_found : (es : List Entry) → ((k : ℕ) → native_in (slice_get es k) ≡ None) → IsLatest (HasActionAt es) None
none_found es none = λ s (y, among, is). no_action es y none among

first_found : (e : Entry) (es : List Entry) (s : Stamp) → option_map stamp_of (native_in (Some e)) ≡ Some s →
    ((y : Action) → ¬ IsAmong (Native y) es) → IsLatest (HasActionAt (e ∷ es)) (Some s)
first_found (Heard q m) es s is none = absurd (none-some s is)
first_found (Native x) es s is none = (
  (x, inl refl, same_Some (stamp_of x) s is),
  λ t (y, among, has) less. elim among [
    | inl same ↦
        let here : y ≡ x = cc in
        not_before_itself t (subst (λ (v : Stamp). Before v t)
        (sym (same_Some (stamp_of x) s is) ∙ ap stamp_of (sym here) ∙ has) less)
    | inr more ↦ none y more
  ],
)

-- the last action has the latest stamp
pub last_found : (es : List Entry) (k : ℕ) (s : Stamp) → KeysRise entry_stamp es →
    option_map stamp_of (native_in (slice_get es k)) ≡ Some s →
    ((j : ℕ) → k < j → native_in (slice_get es j) ≡ None) → IsLatest (HasActionAt es) (Some s)
last_found [] k s rises is none = absurd (none-some s is)
last_found (e ∷ es) zero s rises is none = first_found e es s is
    (λ y. no_action es y (λ k. none (suc k) (omega arith)))
last_found (e ∷ es) (suc k) s rises is none =
    let later = last_found es k s (rises_tail entry_stamp (entry_stamp e) es rises) is
    (λ j lt. none (suc j) (omega arith)) in (
      (later.0.0, inr later.0.1, later.0.2),
      λ t (y, among, has) less. elim among [
        | inl same ↦ not_before_itself s (before_trans s t s less
            (subst (λ (v : Stamp). Before v s) (ap entry_stamp (sym same) ∙ has)
            (subst (Before (entry_stamp e)) later.0.2
            (among_after (entry_stamp e) es (Native later.0.0) rises later.0.1))))
        | inr more ↦ later.1 t (y, more, has) less
      ],
    )

-- ---- from the end of a log
no_stamp : (found : Option Action) → option_map stamp_of found ≡ None → found ≡ None
no_stamp None is = refl
no_stamp (Some x) is = absurd (none-some (stamp_of x) (sym is))

-- there is no action past the last entry
pub nothing_beyond : (log : List Logged) (n : ℕ) → n ≡ length log → (k : ℕ) → n ≤ k → native_at log k ≡ None
nothing_beyond log n is k le =
    let count = length-map log (λ (l : Logged). l.0) in
    ap native_in (slice_get_past (entries_in log) k (omega arith))

-- nor at a place that was looked at
pub nothing_here : (log : List Logged) (n : ℕ) → 0 < n → option_map stamp_of (native_at log (n - 1)) ≡ None →
    ((k : ℕ) → n ≤ k → native_at log k ≡ None) → (k : ℕ) → n - 1 ≤ k → native_at log k ≡ None
nothing_here log n some here beyond k le = elim (same_or_other k (n - 1)) [
  | inl same ↦ ap (native_at log) same ∙ no_stamp (native_at log (n - 1)) here
  | inr other ↦ beyond k (grind (arith, other, le, some))
]
