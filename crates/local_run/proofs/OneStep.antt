-- A step can answer in only one way.
use Rattle.std.proofs.Common.{◌≡◌, inl, inr, ℕ, ◌<◌, ◌≤◌, length, sym, ap, ◌∙◌, subst, refl, arith}
use Rattle.std.proofs.Common.{Ok, Err}
use Rattle.std.specs.Prelude.{Result}
use Rattle.event_stamps.specs.declared.Stamp.{Stamp}
use Rattle.event_stamps.specs.Least.{HasNone}
use Rattle.event_stamps.proofs.Least.{one_least}
use Rattle.event_rules.specs.declared.change.Limit.{Limit}
use Rattle.region_view.specs.declared.action.Action.{Action}
use Rattle.region_view.specs.declared.rows.Message.{Message}
use Rattle.region_view.specs.Acting.{stamp_of}
use Rattle.local_run.specs.declared.home.Home.{Home}
use Rattle.local_run.specs.declared.entry.Entry.{Entry}
use Rattle.local_run.specs.declared.entry.Entry.TheVariants.{Native, Heard as Took}
use Rattle.local_run.specs.declared.entry.TheConstants.{MAX_ENTRIES}
use Rattle.local_run.specs.declared.answers.Step.{Step}
use Rattle.local_run.specs.declared.answers.Step.TheVariants.{Ran, Heard, Idle, Past, Tied}
use Rattle.local_run.specs.declared.answers.Step.TheVariants.{Halted, Held, Spent}
use Rattle.local_run.specs.LocalRun.{At, Local, now_of, IsWaiting, IsOwn, IsOffered, IsNativeMove}
use Rattle.local_run.specs.Entries.{entry_stamp, clock_of}
use Rattle.local_run.specs.LocalRun.{IsHeardMove, IsMove, ComesToInView}
use Rattle.local_run.specs.Answers.{IsInTurn, IsShared, HasDue, StepsTo, with_entry}
use Rattle.local_run.proofs.Choices.{not_shared}
use Rattle.local_run.proofs.Determined.{one_result, one_move}

-- what one answer and what it leaves are
abbrev IsOf : Step → Local → Step → Local → Type 0
IsOf answer new given kept = (given ≡ answer) × (kept ≡ new)

same_due : (h : Home) (r : Local) (s t : Stamp) → HasDue h r s → HasDue h r t → s ≡ t
same_due h r s t here there = one_least (IsOffered h (now_of r)) s t here.1 there.1

-- ---- moves share no stamp
native_alone : (h : Home) (a : At) (x : Action) (s : Stamp) → stamp_of x ≡ s → IsNativeMove h a x →
    ¬ IsShared h a s
native_alone h a x s is move = not_shared h a s (subst (λ (v : Stamp). ¬ IsWaiting a.waiting v) is move.alone)

heard_alone : (h : Home) (a : At) (q : ℕ) (m : Message) (s : Stamp) → m.stamp ≡ s →
    IsHeardMove h a q m → ¬ IsShared h a s
heard_alone h a q m s is move (inl both) = move.alone (subst (IsOwn h a.view) (sym is) both.0)
heard_alone h a q m s is move (inr (r, p, n, k, other, first, second, here, there)) =
    other (move.only r n first (here ∙ sym is) ∙ sym (move.only p k second (there ∙ sym is)))

-- ---- by what is known of the step
held_is : (h : Home) (r : Local) (given : Step) (kept : Local) → MAX_ENTRIES ≤ length r.log →
    StepsTo h r given kept → IsOf Held r given kept
held_is h r (Ran s) kept full (due, turn, more) = absurd (omega (arith, due.0))
held_is h r (Heard s) kept full (due, turn, more) = absurd (omega (arith, due.0))
held_is h r Idle kept full (room, none, leaves) = absurd (omega (arith, room))
held_is h r (Past s clock) kept full (due, turn, is, leaves) = absurd (omega (arith, due.0))
held_is h r (Tied s) kept full (due, turn, shared, leaves) = absurd (omega (arith, due.0))
held_is h r (Halted limit) kept full ((s, due, turn, alone, own, comes), leaves) =
    absurd (omega (arith, due.0))
held_is h r Held kept full (also, leaves) = (refl, leaves)
held_is h r Spent kept full none = absurd none

idle_is : (h : Home) (r : Local) (given : Step) (kept : Local) → length r.log < MAX_ENTRIES →
    HasNone (IsOffered h (now_of r)) → StepsTo h r given kept → IsOf Idle r given kept
idle_is h r (Ran s) kept room none (due, turn, more) = absurd (none s due.1.0)
idle_is h r (Heard s) kept room none (due, turn, more) = absurd (none s due.1.0)
idle_is h r Idle kept room none (also, nothing, leaves) = (refl, leaves)
idle_is h r (Past s clock) kept room none (due, turn, is, leaves) = absurd (none s due.1.0)
idle_is h r (Tied s) kept room none (due, turn, shared, leaves) = absurd (none s due.1.0)
idle_is h r (Halted limit) kept room none ((s, due, turn, alone, own, comes), leaves) =
    absurd (none s due.1.0)
idle_is h r Held kept room none (full, leaves) = absurd (omega (arith, room))
idle_is h r Spent kept room none never = absurd never

past_is : (h : Home) (r : Local) (given : Step) (kept : Local) (s : Stamp) → HasDue h r s →
    ¬ IsInTurn r s → StepsTo h r given kept → IsOf (Past s (clock_of r.floor r.log)) r given kept
past_is h r (Ran t) kept s here not (due, turn, more) =
    absurd (not (subst (IsInTurn r) (sym (same_due h r s t here due)) turn))
past_is h r (Heard t) kept s here not (due, turn, more) =
    absurd (not (subst (IsInTurn r) (sym (same_due h r s t here due)) turn))
past_is h r Idle kept s here not (room, none, leaves) = absurd (none s here.1.0)
past_is h r (Past t clock) kept s here not (due, turn, is, leaves) =
    (cc (same_due h r s t here due, is), leaves)
past_is h r (Tied t) kept s here not (due, turn, shared, leaves) =
    absurd (not (subst (IsInTurn r) (sym (same_due h r s t here due)) turn))
past_is h r (Halted limit) kept s here not ((t, due, turn, alone, own, comes), leaves) =
    absurd (not (subst (IsInTurn r) (sym (same_due h r s t here due)) turn))
past_is h r Held kept s here not (full, leaves) = absurd (omega (arith, here.0))
past_is h r Spent kept s here not never = absurd never

tied_is : (h : Home) (r : Local) (given : Step) (kept : Local) (s : Stamp) → HasDue h r s →
    IsInTurn r s → IsShared h (now_of r) s → StepsTo h r given kept → IsOf (Tied s) r given kept
tied_is h r (Ran t) kept s here in_turn shared (due, turn, (x, is, move, leaves)) =
    absurd (native_alone h (now_of r) x s (is ∙ sym (same_due h r s t here due)) move shared)
tied_is h r (Heard t) kept s here in_turn shared (due, turn, (q, m, is, move, leaves)) =
    absurd (heard_alone h (now_of r) q m s (is ∙ sym (same_due h r s t here due)) move shared)
tied_is h r Idle kept s here in_turn shared (room, none, leaves) = absurd (none s here.1.0)
tied_is h r (Past t clock) kept s here in_turn shared (due, not, is, leaves) =
    absurd (not (subst (IsInTurn r) (same_due h r s t here due) in_turn))
tied_is h r (Tied t) kept s here in_turn shared (due, turn, also, leaves) =
    (ap (λ (v : Stamp). Tied v) (sym (same_due h r s t here due)), leaves)
tied_is h r (Halted limit) kept s here in_turn shared ((t, due, turn, alone, own, comes), leaves) =
    absurd (alone (subst (IsShared h (now_of r)) (same_due h r s t here due) shared))
tied_is h r Held kept s here in_turn shared (full, leaves) = absurd (omega (arith, here.0))
tied_is h r Spent kept s here in_turn shared never = absurd never

never_both : (h : Home) (a : At) (s : Stamp) (limit : Limit) (x : Action) → stamp_of x ≡ s →
    ComesToInView h a.view s (Err limit) → IsNativeMove h a x → ⊥
never_both h a s limit x is fails move =
    let result : ◌≡◌ {A = Result Action Limit} (Err limit) (Ok x)
    = one_result h a.view s (Err limit) (Ok x) fails
    (subst (λ (v : Stamp). ComesToInView h a.view v (Ok x)) is move.comes) in cc

halted_is : (h : Home) (r : Local) (given : Step) (kept : Local) (s : Stamp) (limit : Limit) →
    HasDue h r s → IsInTurn r s → ¬ IsShared h (now_of r) s → IsOwn h (now_of r).view s →
    ComesToInView h (now_of r).view s (Err limit) → StepsTo h r given kept → IsOf (Halted limit) r given kept
halted_is h r (Ran t) kept s limit here in_turn apart mine fails (due, turn, (x, is, move, leaves)) =
    absurd (never_both h (now_of r) s limit x (is ∙ sym (same_due h r s t here due)) fails move)
halted_is h r (Heard t) kept s limit here in_turn apart mine fails (due, turn, (q, m, is, move, leaves)) =
    absurd (move.alone (subst (IsOwn h (now_of r).view) (same_due h r s t here due ∙ sym is) mine))
halted_is h r Idle kept s limit here in_turn apart mine fails (room, none, leaves) =
    absurd (none s here.1.0)
halted_is h r (Past t clock) kept s limit here in_turn apart mine fails (due, not, is, leaves) =
    absurd (not (subst (IsInTurn r) (same_due h r s t here due) in_turn))
halted_is h r (Tied t) kept s limit here in_turn apart mine fails (due, turn, shared, leaves) =
    absurd (apart (subst (IsShared h (now_of r)) (sym (same_due h r s t here due)) shared))
halted_is h r (Halted other) kept s limit here in_turn apart mine fails
    ((t, due, turn, alone, own, comes), leaves) =
    let result : ◌≡◌ {A = Result Action Limit} (Err limit) (Err other)
    = one_result h (now_of r).view s (Err limit) (Err other) fails (subst
    (λ (v : Stamp). ComesToInView h (now_of r).view v (Err other)) (sym (same_due h r s t here due)) comes) in
    let same : limit ≡ other = cc in
    (ap (λ (v : Limit). Halted v) (sym same), leaves)
halted_is h r Held kept s limit here in_turn apart mine fails (full, leaves) =
    absurd (omega (arith, here.0))
halted_is h r Spent kept s limit here in_turn apart mine fails never = absurd never

-- ---- a move
abbrev answer_of : Entry → Step
answer_of (Native x) = Ran (stamp_of x)
answer_of (Took q m) = Heard m.stamp

move_alone : (h : Home) (a : At) (e : Entry) (s : Stamp) → entry_stamp e ≡ s → IsMove h a e →
    ¬ IsShared h a s
move_alone h a (Native x) s is move = native_alone h a x s is move
move_alone h a (Took q m) s is move = heard_alone h a q m s is move

move_passes : (h : Home) (a : At) (e : Entry) (s : Stamp) (limit : Limit) → entry_stamp e ≡ s →
    IsMove h a e → IsOwn h a.view s → ComesToInView h a.view s (Err limit) → ⊥
move_passes h a (Native x) s limit is move own fails = never_both h a s limit x is fails move
move_passes h a (Took q m) s limit is move own fails =
    move.alone (subst (IsOwn h a.view) (sym is) own)

moved_is : (h : Home) (r : Local) (given : Step) (kept : Local) (e : Entry) →
    HasDue h r (entry_stamp e) → IsInTurn r (entry_stamp e) → IsMove h (now_of r) e →
    StepsTo h r given kept → IsOf (answer_of e) (with_entry r e) given kept
moved_is h r (Ran t) kept e here in_turn move (due, turn, (x, is, other, leaves)) =
    let same : Native x ≡ e = one_move h (now_of r) (Native x) e other move in
    (ap (λ (v : Stamp). Ran v) (sym is) ∙ ap answer_of same, leaves ∙ ap (with_entry r) same)
moved_is h r (Heard t) kept e here in_turn move (due, turn, (q, m, is, other, leaves)) =
    let same : Took q m ≡ e = one_move h (now_of r) (Took q m) e other move in
    (ap (λ (v : Stamp). Heard v) (sym is) ∙ ap answer_of same, leaves ∙ ap (with_entry r) same)
moved_is h r Idle kept e here in_turn move (room, none, leaves) = absurd (none (entry_stamp e) here.1.0)
moved_is h r (Past t clock) kept e here in_turn move (due, not, is, leaves) =
    absurd (not (subst (IsInTurn r) (same_due h r (entry_stamp e) t here due) in_turn))
moved_is h r (Tied t) kept e here in_turn move (due, turn, shared, leaves) =
    absurd (move_alone h (now_of r) e t (same_due h r (entry_stamp e) t here due) move shared)
moved_is h r (Halted limit) kept e here in_turn move ((t, due, turn, alone, own, comes), leaves) =
    absurd (move_passes h (now_of r) e t limit (same_due h r (entry_stamp e) t here due) move own comes)
moved_is h r Held kept e here in_turn move (full, leaves) = absurd (omega (arith, here.0))
moved_is h r Spent kept e here in_turn move never = absurd never

-- ---- any two
by_entry : (h : Home) (r : Local) (e : Entry) (s : Stamp) (given : Step) (new kept : Local) →
    HasDue h r s → IsInTurn r s → entry_stamp e ≡ s → IsMove h (now_of r) e → new ≡ with_entry r e →
    StepsTo h r given kept → (answer_of e ≡ given) × (new ≡ kept)
by_entry h r e s given new kept due turn is move leaves other =
    let same = moved_is h r given kept e (subst (HasDue h r) (sym is) due)
    (subst (IsInTurn r) (sym is) turn) move other in
    (sym same.0, leaves ∙ sym same.1)

pub one_step : (h : Home) (r new kept : Local) (answer given : Step) → StepsTo h r answer new →
    StepsTo h r given kept → (answer ≡ given) × (new ≡ kept)
one_step h r new kept (Ran s) given (due, turn, (x, is, move, leaves)) other =
    let same = by_entry h r (Native x) s given new kept due turn is move leaves other in
    (ap (λ (v : Stamp). Ran v) (sym is) ∙ same.0, same.1)
one_step h r new kept (Heard s) given (due, turn, (q, m, is, move, leaves)) other =
    let same = by_entry h r (Took q m) s given new kept due turn is move leaves other in
    (ap (λ (v : Stamp). Heard v) (sym is) ∙ same.0, same.1)
one_step h r new kept Idle given (room, none, leaves) other =
    let same = idle_is h r given kept room none other in (sym same.0, leaves ∙ sym same.1)
one_step h r new kept (Past s clock) given (due, not, is, leaves) other =
    let same = past_is h r given kept s due not other in
    (ap (λ (v : Stamp). Past s v) is ∙ sym same.0, leaves ∙ sym same.1)
one_step h r new kept (Tied s) given (due, turn, shared, leaves) other =
    let same = tied_is h r given kept s due turn shared other in (sym same.0, leaves ∙ sym same.1)
one_step h r new kept (Halted limit) given ((s, due, turn, alone, own, comes), leaves) other =
    let same = halted_is h r given kept s limit due turn alone own comes other in
    (sym same.0, leaves ∙ sym same.1)
one_step h r new kept Held given (full, leaves) other =
    let same = held_is h r given kept full other in (sym same.0, leaves ∙ sym same.1)
one_step h r new kept Spent given never other = absurd never
