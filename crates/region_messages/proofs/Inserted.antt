-- A message that is put at its place.
use Rattle.std.proofs.Common.{◌≡◌, ◌≢◌, inl, inr, ℕ, zero, suc, List, [], ◌∷◌, drop, Some, None, Bor, sym, ap, ◌∙◌, subst, refl}
use Rattle.std.specs.Prelude.{◌↔◌, slice_get, option_map, option_copied, Option, Bool, true, false, not, IsTrue, MatchOption, is_some}
use Rattle.event_stamps.specs.declared.Stamp.{Stamp}
use Rattle.event_stamps.specs.Order.{Before}
use Rattle.event_stamps.proofs.StampOrder.{not_before_itself}
use Rattle.event_stamps.proofs.IsBefore.{before_other}
use Rattle.event_stamps.proofs.Rising.{rises_if_from, after_each, rises_joined}
use Rattle.event_stamps.proofs.Parts.{all_below, rises_below, rises_from, below_before, from_after}
use Rattle.region_view.specs.declared.rows.Message.{Message}
use Rattle.region_messages.specs.Trails.{IsAmong, Rises, below, from, with_message, IsFree, message_key}
use Rattle.region_messages.proofs.Among.{among_either, among_rises}
use Rattle.region_messages.proofs.Parts.{split, from_among}

-- if no message from a stamp on has the stamp, those messages come after it
after_free : (s : Stamp) (ms : List Message) (n : Message) → Rises ms → IsFree s ms →
    IsAmong n (from s ms) → Before s n.stamp
after_free s ms n rises free among =
    before_other s n.stamp (from_after message_key s ms n rises among) (free n (from_among s ms n among))

pub rises_with : (m : Message) (ms : List Message) → Rises ms → IsFree m.stamp ms → Rises (with_message m ms)
rises_with m ms rises free =
    let late = rises_if_from message_key m.stamp (from m.stamp ms) (rises_from message_key m.stamp ms rises) in
    let after = after_each message_key m.stamp (from m.stamp ms) late
    (λ n among. after_free m.stamp ms n rises free among) in
    rises_joined message_key m.stamp (below m.stamp ms) (m ∷ from m.stamp ms)
    (rises_below message_key m.stamp ms rises) (all_below message_key m.stamp ms)
    (not_before_itself m.stamp, after)

-- ---- whether a stamp is free, by the first message from it on
drop_at_some : (n : ℕ) (ms : List Message) (m : Message) → slice_get ms n ≡ Some m →
    drop n ms ≡ m ∷ drop (suc n) ms
drop_at_some n [] m is = cc
drop_at_some zero (x ∷ ms) m is = cc
drop_at_some (suc n) (x ∷ ms) m is = drop_at_some n ms m is

drop_at_none : (n : ℕ) (ms : List Message) → slice_get ms n ≡ None → drop n ms ≡ []
drop_at_none zero [] is = refl
drop_at_none (suc n) [] is = refl
drop_at_none zero (x ∷ ms) is = cc
drop_at_none (suc n) (x ∷ ms) is = drop_at_none n ms is

free_by_parts : (s : Stamp) (ms later : List Message) → from s ms ≡ later → IsFree s later → IsFree s ms
free_by_parts s ms later is free n among same =
    elim (among_either n (below s ms) (from s ms) (subst (IsAmong n) (sym (split ms s)) among)) [
      | inl first ↦ not_before_itself s (subst (λ (t : Stamp). Before t s) same (below_before message_key s ms n first))
      | inr second ↦ free n (subst (IsAmong n) is second) same
    ]

pub free_where_none : (s : Stamp) (n : ℕ) (ms : List Message) → drop n ms ≡ from s ms →
    slice_get ms n ≡ None → IsFree s ms
free_where_none s n ms parts none =
    free_by_parts s ms [] (sym parts ∙ drop_at_none n ms none) (λ m among. absurd among)

pub free_where_other : (s : Stamp) (n : ℕ) (ms : List Message) (m : Message) → Rises ms →
    drop n ms ≡ from s ms → slice_get ms n ≡ Some m → m.stamp ≢ s → IsFree s ms
free_where_other s n ms m rises parts here other = free_by_parts s ms (m ∷ rest) is free
  where
    rest : List Message
    rest = drop (suc n) ms

    is : from s ms ≡ m ∷ rest
    is = sym parts ∙ drop_at_some n ms m here

    rising : Rises (m ∷ rest)
    rising = subst Rises is (rises_if_from message_key s (from s ms) (rises_from message_key s ms rises))

    late : ¬ Before m.stamp s
    late = from_after message_key s ms m rises (subst (IsAmong m) (sym is) (inl refl))

    free : IsFree s (m ∷ rest)
    free k (inl same) e = other (ap (λ (v : Message). v.stamp) (sym same) ∙ e)
    free k (inr more) e = late (subst (Before m.stamp) e (among_rises m.stamp rest k rising more))

-- given its stamp, if there is one
pub free_by_stamp : (s : Stamp) (n : ℕ) (ms : List Message) (o : Option Stamp) → Rises ms →
    drop n ms ≡ from s ms → o ≡ option_map (λ m. m.stamp) (slice_get ms n) → o ≢ Some s → IsFree s ms
free_by_stamp s n ms o rises parts is other = by_first (slice_get ms n) refl
  where
    by_first : (first : Option Message) → slice_get ms n ≡ first → IsFree s ms
    by_first None here = free_where_none s n ms parts here
    by_first (Some m) here = free_where_other s n ms m rises parts here
        (λ same. other (is ∙ ap (option_map (λ m. m.stamp)) here ∙ ap (λ (t : Stamp). Some t) same))

-- ---- the message with a stamp
pub slice_among : (n : ℕ) (ms : List Message) (m : Message) → slice_get ms n ≡ Some m → IsAmong m ms
slice_among n [] m is = absurd (let no : None ≡ Some m = is in cc)
slice_among zero (x ∷ ms) m is = inl (let same : Some x ≡ Some m = is in cc)
slice_among (suc n) (x ∷ ms) m is = inr (slice_among n ms m is)

-- what is found at a stamp: nothing if it is free, else a message with it
abbrev pub IsAt : Stamp → List Message → Option Message → Type 0
IsAt s ms o = MatchOption o (IsFree s ms) (λ m. IsAmong m ms × (m.stamp ≡ s))

pub found_at : (s : Stamp) (n : ℕ) (ms : List Message) (o : Option Message) → o ≡ slice_get ms n →
    Some s ≡ option_map (λ m. m.stamp) (slice_get ms n) → IsAt s ms o
found_at s n ms None is same =
    absurd (let no : Some s ≡ None = same ∙ ap (option_map (λ x. x.stamp)) (sym is) in cc)
found_at s n ms (Some m) is same =
    let found : Some s ≡ Some m.stamp = same ∙ ap (option_map (λ x. x.stamp)) (sym is) in
    (slice_among n ms m (sym is), cc)

pub free_where_nothing : (s : Stamp) (ms : List Message) (o : Option (Bor Message)) (none : Bool) →
    IsAt s ms (option_copied o) → is_some o ≡ not none → IsTrue none ↔ IsFree s ms
free_where_nothing s ms None true free is = (λ none. free, λ free. refl)
free_where_nothing s ms None false free is = absurd (let no : false ≡ true = is in cc)
free_where_nothing s ms (Some m) true at is = absurd (let no : true ≡ false = is in cc)
free_where_nothing s ms (Some m) false at is =
    (λ none. absurd (let no : false ≡ true = none in cc), λ free. absurd (free m.now at.0 at.1))
