-- What waits is what was heard, without the messages that the log took in.
use Rattle.std.proofs.Common.{cond, length, Some, None, ◌≡◌, ◌≢◌, inl, inr, ℕ, zero, suc, ◌+◌, ◌≤◌}
use Rattle.std.proofs.Common.{Bool, true, false, List, [], ◌∷◌, ◌++◌, drop, sym, ap, ◌∙◌, subst}
use Rattle.std.proofs.Common.{refl, arith}
use Rattle.std.specs.Prelude.{slice_get}
use Rattle.std.proofs.lemmas.List.Sums.{sum_by-append, sum_by-cons}
use Rattle.event_stamps.specs.declared.Stamp.{Stamp}
use Rattle.region_view.specs.declared.action.Action.{Action}
use Rattle.region_view.specs.declared.rows.Message.{Message}
use Rattle.local_run.specs.declared.home.Home.{Home}
use Rattle.local_run.specs.declared.entry.Entry.{Entry}
use Rattle.local_run.specs.declared.entry.Entry.TheVariants.{Native, Heard}
use Rattle.local_run.specs.LocalRun.{Moves, At, trail_of, messages_after_first, without_first, after_entry}
use Rattle.local_run.specs.Entries.{entries_below, entries_from}
use Rattle.local_run.specs.LocalRun.{after_log}
use Rattle.local_run.specs.Taken.{is_of, taken_of}
use Rattle.local_run.proofs.Among.{same_trail, other_trail, same_or_other}
use Rattle.local_run.proofs.Logs.{below_then_from}

-- ---- counts
pub same_is_of : (q : ℕ) (m : Message) → is_of q (Heard q m) ≡ true
same_is_of q m = grind arith

pub other_is_of : (p q : ℕ) (m : Message) → p ≢ q → is_of q (Heard p m) ≡ false
other_is_of p q m other = grind arith

taken_first : (q : ℕ) (e : Entry) (es : List Entry) (b : Bool) → is_of q e ≡ b →
    taken_of q (e ∷ es) ≡ cond b 1 0 + taken_of q es
taken_first q e es b is =
    sum_by-cons (λ x. cond (is_of q x) 1 0) e es ∙ ap (λ (v : Bool). cond v 1 0 + taken_of q es) is

pub taken_here : (q : ℕ) (m : Message) (es : List Entry) →
    taken_of q (Heard q m ∷ es) ≡ suc (taken_of q es)
taken_here q m es = let first = taken_first q (Heard q m) es true (same_is_of q m) in omega arith

pub taken_other : (q : ℕ) (e : Entry) (es : List Entry) → is_of q e ≡ false →
    taken_of q (e ∷ es) ≡ taken_of q es
taken_other q e es other = let first = taken_first q e es false other in omega arith

pub taken_joined : (q : ℕ) (xs ys : List Entry) → taken_of q (xs ++ ys) ≡ taken_of q xs + taken_of q ys
taken_joined q xs ys = sum_by-append (λ x. cond (is_of q x) 1 0) xs ys

pub taken_native : (q : ℕ) (a : Action) (log : List Entry) →
    taken_of q (log ++ Native a ∷ []) ≡ taken_of q log
taken_native q a log =
    let joined = taken_joined q log (Native a ∷ []) in
    let last = taken_other q (Native a) [] refl in
    omega arith

pub taken_heard : (q : ℕ) (m : Message) (log : List Entry) →
    taken_of q (log ++ Heard q m ∷ []) ≡ taken_of q log + 1
taken_heard q m log =
    let joined = taken_joined q log (Heard q m ∷ []) in
    let last = taken_here q m [] in
    omega arith

pub taken_from_other : (p q : ℕ) (m : Message) (log : List Entry) → p ≢ q →
    taken_of q (log ++ Heard p m ∷ []) ≡ taken_of q log
taken_from_other p q m log other =
    let joined = taken_joined q log (Heard p m ∷ []) in
    let last = taken_other q (Heard p m) [] (other_is_of p q m other) in
    omega arith

-- of the entries from a stamp on, those before it, and all
pub taken_below : (q : ℕ) (s : Stamp) (log : List Entry) →
    taken_of q log ≡ taken_of q (entries_below s log) + taken_of q (entries_from s log)
taken_below q s log = ap (taken_of q) (below_then_from s log)
    ∙ taken_joined q (entries_below s log) (entries_from s log)

-- ---- what waits
drop_rest : (n : ℕ) (ms : List Message) → drop n (messages_after_first ms) ≡ drop (suc n) ms
drop_rest zero [] = refl
drop_rest (suc n) [] = refl
drop_rest n (m ∷ ms) = refl

pub waiting_is_drop : (a : At) (log : List Entry) (q : ℕ) →
    trail_of (after_log a log).waiting q ≡ drop (taken_of q log) (trail_of a.waiting q)
waiting_is_drop a [] q = refl
waiting_is_drop a (Native x ∷ es) q = waiting_is_drop (after_entry a (Native x)) es q
    ∙ sym (ap (λ (n : ℕ). drop n (trail_of a.waiting q)) (taken_other q (Native x) es refl))
waiting_is_drop a (Heard p m ∷ es) q = elim (same_or_other q p) [
  | inl same ↦ waiting_is_drop (after_entry a (Heard p m)) es q
      ∙ subst (λ (x : ℕ). drop (taken_of x es) (trail_of (without_first a.waiting p) x)
      ≡ drop (taken_of x (Heard p m ∷ es)) (trail_of a.waiting x)) (sym same) here
  | inr other ↦ waiting_is_drop (after_entry a (Heard p m)) es q
      ∙ ap (drop (taken_of q es)) (other_trail a.waiting p q other)
      ∙ sym (ap (λ (n : ℕ). drop n (trail_of a.waiting q))
      (taken_other q (Heard p m) es (other_is_of p q m (λ e. other (sym e)))))
]
  where
    here : drop (taken_of p es) (trail_of (without_first a.waiting p) p)
        ≡ drop (taken_of p (Heard p m ∷ es)) (trail_of a.waiting p)
    here = ap (drop (taken_of p es)) (same_trail a.waiting p)
        ∙ drop_rest (taken_of p es) (trail_of a.waiting p)
        ∙ sym (ap (λ (n : ℕ). drop n (trail_of a.waiting p)) (taken_here p m es))

-- a log takes in no more than was heard
pub taken_fits : (h : Home) (a : At) (log : List Entry) (q : ℕ) → Moves h a log →
    taken_of q log ≤ length (trail_of a.waiting q)
taken_fits h a [] q moves = omega arith
taken_fits h a (Native x ∷ es) q moves =
    let none = taken_other q (Native x) es refl in
    let rest = taken_fits h (after_entry a (Native x)) es q moves.1 in
    omega arith
taken_fits h a (Heard p m ∷ es) q moves = elim (same_or_other q p) [
  | inl same ↦ subst (λ (x : ℕ). taken_of x (Heard p m ∷ es) ≤ length (trail_of a.waiting x)) (sym same)
      (here (taken_fits h (after_entry a (Heard p m)) es p moves.1))
  | inr other ↦
      let none = taken_other q (Heard p m) es (other_is_of p q m (λ e. other (sym e))) in
      let kept = ap length (other_trail a.waiting p q other) in
      let rest = taken_fits h (after_entry a (Heard p m)) es q moves.1 in
      omega arith
]
  where
    here : taken_of p es ≤ length (trail_of (without_first a.waiting p) p) →
        taken_of p (Heard p m ∷ es) ≤ length (trail_of a.waiting p)
    here rest =
        let one = taken_here p m es in
        let first = moves.0.first in
        let all = ap length first.1 in
        let kept = ap length (same_trail a.waiting p ∙ ap messages_after_first first.1) in
        omega arith

-- ---- the next message of a region
drop_at_some : (n : ℕ) (ms : List Message) (m : Message) → slice_get ms n ≡ Some m →
    drop n ms ≡ m ∷ drop (suc n) ms
drop_at_some n [] m is = cc
drop_at_some zero (x ∷ ms) m is = cc
drop_at_some (suc n) (x ∷ ms) m is = drop_at_some n ms m is

drop_at_none : (n : ℕ) (ms : List Message) → slice_get ms n ≡ None → drop n ms ≡ []
drop_at_none zero [] is = refl
drop_at_none (suc n) [] is = refl
drop_at_none zero (x ∷ ms) is = cc
drop_at_none (suc n) (x ∷ ms) is = drop_at_none n ms is

-- by the place of the first message that wasn't taken in
pub next_waits : (a : At) (log : List Entry) (q : ℕ) (m : Message) →
    slice_get (trail_of a.waiting q) (taken_of q log) ≡ Some m →
    trail_of (after_log a log).waiting q ≡ m ∷ drop (suc (taken_of q log)) (trail_of a.waiting q)
next_waits a log q m is =
    waiting_is_drop a log q ∙ drop_at_some (taken_of q log) (trail_of a.waiting q) m is

pub none_is_next : (a : At) (log : List Entry) (q : ℕ) →
    slice_get (trail_of a.waiting q) (taken_of q log) ≡ None → trail_of (after_log a log).waiting q ≡ []
none_is_next a log q is =
    waiting_is_drop a log q ∙ drop_at_none (taken_of q log) (trail_of a.waiting q) is
