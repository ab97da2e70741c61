-- What is left of one run, and the entries that are done.
use Rattle.std.proofs.Common.{◌≡◌, ◌⊎◌, inl, inr, true, false, List, [], ◌∷◌, ◌++◌}
use Rattle.std.proofs.Common.{append_assoc, sym, ap, ◌∙◌, subst, refl}
use Rattle.std.specs.Prelude.{⊤}
use Rattle.event_stamps.specs.declared.Stamp.{Stamp}
use Rattle.event_stamps.specs.Order.{Before}
use Rattle.event_stamps.proofs.StampOrder.{before_trans, not_before_itself, same_stamp, before_decides}
use Rattle.region_view.specs.declared.action.Action.{Action}
use Rattle.region_view.specs.Acting.{stamp_of}
use Rattle.region_messages.specs.Trails.{is_before, IsAmong}
use Rattle.region_messages.proofs.Order.{is_before_true, is_before_false}
use Rattle.local_run.specs.declared.entry.Entry.{Entry}
use Rattle.local_run.specs.declared.entry.Entry.TheVariants.{Native}
use Rattle.local_run.specs.Entries.{entry_stamp, RiseFrom, entries_below}
use Rattle.local_run.specs.LocalRun.{At, Local, after_entry, start_of}
use Rattle.local_run.proofs.Logs.{AllBefore, among_after, after_join, below_in, below_out}
use Rattle.commit_horizon.proofs.GoesOn.{HeadNotBefore, after_first, past_by, past, IsRestOf}

-- ---- the first entry
abbrev pub HeadAfter : Stamp → List Entry → Type 0
HeadAfter t [] = ⊤
HeadAfter t (e ∷ es) = Before t (entry_stamp e)

-- if no entry is before one of them, that is the first
pub head_is : (f : Stamp) (b : Action) (log : List Entry) → HeadNotBefore (stamp_of b) log → RiseFrom f log →
    IsAmong (Native b) log → (es : List Entry) × (log ≡ Native b ∷ es)
head_is f b [] late rises among = absurd among
head_is f b (e ∷ es) late rises (inl same) = (es, ap (λ (v : Entry). v ∷ es) (sym same))
head_is f b (e ∷ es) late rises (inr more) =
    absurd (late (among_after (entry_stamp e) es (Native b) rises.1 more))

-- without its first entry a log rises from the same stamp
pub rises_rest : (f : Stamp) (e : Entry) (es : List Entry) → RiseFrom f (e ∷ es) → RiseFrom f es
rises_rest f e [] rises = tt
rises_rest f e (x ∷ es) rises =
    (λ less. rises.0 (before_trans (entry_stamp e) (entry_stamp x) f rises.1.0 less), rises.1.1)

-- ---- what is left
-- the run lost its first entry, which was at the stamp, or is what it was, and all its entries are after it
pub past_cases : (t : Stamp) (run : Local) (log : List Entry) → run.log ≡ log → HeadNotBefore t log →
    ((e : Entry) × (es : List Entry) × (run.log ≡ e ∷ es) × (entry_stamp e ≡ t)
    × (past t run ≡ after_first run e es))
    ⊎ ((past t run ≡ run) × HeadAfter t run.log)
unfolding past
past_cases t run [] is late = inr (ap (past_by t run) is, subst (HeadAfter t) (sym is) tt)
past_cases t run (e ∷ es) is late = elim (before_decides t (entry_stamp e)) [
  | inl before ↦ inr (
    ap (past_by t run) is ∙ stays (is_before_true t (entry_stamp e) before),
    subst (HeadAfter t) (sym is) before,
  )
  | inr not ↦ inl (
    e,
    es,
    is,
    same_stamp (entry_stamp e) t late not,
    ap (past_by t run) is ∙ goes (is_before_false t (entry_stamp e) not),
  )
]
  where
    stays : is_before t (entry_stamp e) ≡ true → past_by t run (e ∷ es) ≡ run
    stays p = rw p refl

    goes : is_before t (entry_stamp e) ≡ false → past_by t run (e ∷ es) ≡ after_first run e es
    goes p = rw p refl

pub past_first : (t : Stamp) (run : Local) (e : Entry) (es : List Entry) → run.log ≡ e ∷ es →
    entry_stamp e ≡ t → past t run ≡ after_first run e es
unfolding past
past_first t run e es is same = ap (past_by t run) is
    ∙ goes (is_before_false t (entry_stamp e) (λ less. not_before_itself t (subst (Before t) same less)))
  where
    goes : is_before t (entry_stamp e) ≡ false → past_by t run (e ∷ es) ≡ after_first run e es
    goes p = rw p refl

-- its entries are those of the run that are after the stamp
pub past_after : (t : Stamp) (run : Local) → HeadNotBefore t run.log → RiseFrom run.floor run.log →
    (x : Entry) → IsAmong x (past t run).log → Before t (entry_stamp x) × IsAmong x run.log
past_after t run late rises x among = elim (past_cases t run run.log refl late) [
  | inl first ↦ by_first first.0 first.1 first.2 first.3
      (subst (λ (v : Local). IsAmong x v.log) first.4 among)
  | inr kept ↦ by_log run.log kept.1 rises (subst (λ (v : Local). IsAmong x v.log) kept.0 among)
]
  where
    by_first : (e : Entry) (es : List Entry) → run.log ≡ e ∷ es → entry_stamp e ≡ t → IsAmong x es →
        Before t (entry_stamp x) × IsAmong x run.log
    by_first e es is same more =
        let after : RiseFrom run.floor (e ∷ es) = subst (RiseFrom run.floor) is rises in (
          subst (λ (v : Stamp). Before v (entry_stamp x)) same
              (among_after (entry_stamp e) es x after.1 more),
          subst (IsAmong x) (sym is) (inr more),
        )

    by_log : (log : List Entry) → HeadAfter t log → RiseFrom run.floor log → IsAmong x log →
        Before t (entry_stamp x) × IsAmong x log
    by_log [] after rise none = absurd none
    by_log (e ∷ es) after rise (inl same) =
        (subst (λ (v : Entry). Before t (entry_stamp v)) (sym same) after, inl same)
    by_log (e ∷ es) after rise (inr more) = (
      before_trans t (entry_stamp e) (entry_stamp x) after (among_after (entry_stamp e) es x rise.1 more),
      inr more,
    )

pub past_keeps : (t : Stamp) (run : Local) → HeadNotBefore t run.log → (x : Entry) → IsAmong x run.log →
    Before t (entry_stamp x) → IsAmong x (past t run).log
past_keeps t run late x among after = elim (past_cases t run run.log refl late) [
  | inl first ↦ subst (λ (v : Local). IsAmong x v.log) (sym first.4)
      (by_first first.0 first.1 first.3 (subst (IsAmong x) first.2 among))
  | inr kept ↦ subst (λ (v : Local). IsAmong x v.log) (sym kept.0) among
]
  where
    by_first : (e : Entry) (es : List Entry) → entry_stamp e ≡ t → IsAmong x (e ∷ es) → IsAmong x es
    by_first e es same (inl is) =
        absurd (not_before_itself t (subst (Before t) (ap entry_stamp is ∙ same) after))
    by_first e es same (inr more) = more

-- ---- what is done
all_before_joined : (h : Stamp) (es : List Entry) (e : Entry) → AllBefore h es → Before (entry_stamp e) h →
    AllBefore h (es ++ e ∷ [])
all_before_joined h [] e all before = (before, tt)
all_before_joined h (x ∷ es) e all before = (all.0, all_before_joined h es e all.1 before)

-- a run is what is left of itself
pub rest_whole : (h : Stamp) (run : Local) → IsRestOf h run run
rest_whole h run = record { done = []; log = refl; at = refl; before = tt }

pub rest_past : (h t : Stamp) (whole run : Local) → IsRestOf h whole run → HeadNotBefore t run.log →
    Before t h → IsRestOf h whole (past t run)
rest_past h t whole run rest late before = elim (past_cases t run run.log refl late) [
  | inl first ↦ subst (IsRestOf h whole) (sym first.4) (by_first first.0 first.1 first.2 first.3)
  | inr kept ↦ subst (IsRestOf h whole) (sym kept.0) rest
]
  where
    by_first : (e : Entry) (es : List Entry) → run.log ≡ e ∷ es → entry_stamp e ≡ t →
        IsRestOf h whole (after_first run e es)
    by_first e es is same = record {
      done = rest.done ++ e ∷ [];
      log = rest.log ∙ ap (λ (v : List Entry). rest.done ++ v) is ∙ sym (append_assoc rest.done (e ∷ []) es);
      at = ap (λ (a : At). after_entry a e) rest.at ∙ sym (after_join (start_of whole) rest.done (e ∷ []));
      before = all_before_joined h rest.done e rest.before
          (subst (λ (v : Stamp). Before v h) (sym same) before);
    }

-- if no entry that is left is before h, those that are done are all that are
pub done_is_below : (h : Stamp) (done rest : List Entry) → AllBefore h done → HeadNotBefore h rest →
    entries_below h (done ++ rest) ≡ done
done_is_below h [] [] all late = refl
done_is_below h [] (e ∷ es) all late = below_out h e es late
done_is_below h (x ∷ done) rest all late =
    below_in h x (done ++ rest) all.0 ∙ ap (λ (v : List Entry). x ∷ v) (done_is_below h done rest all.1 late)
