-- A message waits if and only if it was heard and isn't among the entries.
use Rattle.std.proofs.Common.{◌≡◌, ◌≢◌, ◌↔◌, inl, inr, ℕ, List, [], ◌∷◌, take, drop, sym, ap, subst}
use Rattle.std.proofs.lemmas.List.{take-append-drop}
use Rattle.event_stamps.proofs.StampOrder.{not_before_itself}
use Rattle.region_view.specs.declared.rows.Message.{Message}
use Rattle.region_messages.specs.Trails.{IsAmong, Rises}
use Rattle.region_messages.proofs.Among.{among_rises}
use Rattle.local_run.specs.declared.home.Home.{Home}
use Rattle.local_run.specs.declared.entry.Entry.{Entry}
use Rattle.local_run.specs.declared.entry.Entry.TheVariants.{Native, Heard}
use Rattle.local_run.specs.LocalRun.{At, trail_of, messages_after_first, without_first, start_of, after_entry, after_log}
use Rattle.local_run.specs.LocalRun.{IsHeardMove, Moves}
use Rattle.local_run.specs.Laws.{WaitsIfNotTaken}
use Rattle.local_run.proofs.Among.{AllRise, same_trail, other_trail, same_or_other, rise_without}
use Rattle.local_run.proofs.Logs.{moves_split}
use Rattle.local_run.proofs.Right.{heard_rise}

-- the first message of a trail goes, and no other: its stamp is before theirs
first_goes : (q : ℕ) (n m : Message) (ms rest : List Message) → Rises ms → ms ≡ n ∷ rest →
    IsAmong m (messages_after_first ms) ↔ (IsAmong m ms × (Heard q m ≢ Heard q n))
first_goes q n m [] rest rises is = cc
first_goes q n m (x ∷ xs) rest rises is = (
  λ among. (
    inr among,
    λ e. let same : m ≡ x = cc in
        not_before_itself x.stamp (among_rises x.stamp xs x rises (subst (λ (v : Message). IsAmong v xs) same among)),
  ),
  λ both. elim both.0 [
    | inl first ↦ absurd (both.1 (let same : m ≡ n = cc in ap (Heard q) same))
    | inr more ↦ more
  ],
)

-- after one is taken in, the others that waited wait, and nothing else
one_taken : (h : Home) (a : At) (p q : ℕ) (n m : Message) → AllRise a.waiting → IsHeardMove h a p n →
    IsAmong m (trail_of (without_first a.waiting p) q)
    ↔ (IsAmong m (trail_of a.waiting q) × (Heard q m ≢ Heard p n))
one_taken h a p q n m rise move = elim (same_or_other q p) [
  | inl same ↦ subst (λ (x : ℕ). IsAmong m (trail_of (without_first a.waiting p) x)
      ↔ (IsAmong m (trail_of a.waiting x) × (Heard x m ≢ Heard p n))) (sym same) here
  | inr other ↦ (
    λ among. (subst (IsAmong m) (other_trail a.waiting p q other) among, λ e. other (cc)),
    λ both. subst (IsAmong m) (sym (other_trail a.waiting p q other)) both.0,
  )
]
  where
    here : IsAmong m (trail_of (without_first a.waiting p) p)
        ↔ (IsAmong m (trail_of a.waiting p) × (Heard p m ≢ Heard p n))
    here = subst (λ (ms : List Message). IsAmong m ms
        ↔ (IsAmong m (trail_of a.waiting p) × (Heard p m ≢ Heard p n))) (sym (same_trail a.waiting p))
        (first_goes p n m (trail_of a.waiting p) move.first.0 (rise p) move.first.1)

waits_after : (h : Home) (a : At) (log : List Entry) (q : ℕ) (m : Message) → AllRise a.waiting → Moves h a log →
    IsAmong m (trail_of (after_log a log).waiting q)
    ↔ (IsAmong m (trail_of a.waiting q) × ¬ IsAmong (Heard q m) log)
waits_after h a [] q m rise moves = (λ among. (among, λ none. none), λ both. both.0)
waits_after h a (Native action ∷ es) q m rise moves =
    let rest = waits_after h (after_entry a (Native action)) es q m rise moves.1 in (
      λ among. (
        (rest.0 among).0,
        λ taken. elim taken [
          | inl wrong ↦ cc
          | inr more ↦ (rest.0 among).1 more
        ],
      ),
      λ both. rest.1 (both.0, λ more. both.1 (inr more)),
    )
waits_after h a (Heard p n ∷ es) q m rise moves =
    let rest = waits_after h (after_entry a (Heard p n)) es q m (rise_without a.waiting p rise) moves.1 in
    let one = one_taken h a p q n m rise moves.0 in (
      λ among. (
        (one.0 (rest.0 among).0).0,
        λ taken. elim taken [
          | inl this ↦ (one.0 (rest.0 among).0).1 this
          | inr more ↦ (rest.0 among).1 more
        ],
      ),
      λ both. rest.1 (one.1 (both.0, λ e. both.1 (inl e)), λ more. both.1 (inr more)),
    )

pub waits_if_not_taken : WaitsIfNotTaken
waits_if_not_taken h r i q m right = waits_after h (start_of r) (take i r.log) q m (heard_rise h r right)
    (moves_split h (start_of r) (take i r.log) (drop i r.log)
    (subst (Moves h (start_of r)) (sym (take-append-drop i r.log)) right.moves)).0
