-- The least of the first messages, which an inbox keeps.
use Rattle.std.proofs.Common.{◌≡◌, inl, inr, ℕ, ◌<◌, List, [], length, replicate, Option, None, sym, ap, subst, ◌∙◌, arith}
use Rattle.std.specs.Prelude.{IsSome, slice_get}
use Rattle.std.proofs.lemmas.Bool.{false≢true}
use Rattle.std.proofs.lemmas.List.{length-replicate, get_or-replicate}
use Rattle.event_stamps.specs.declared.Stamp.{Stamp}
use Rattle.region_view.specs.declared.rows.Message.{Message}
use Rattle.local_run.specs.LocalRun.{Trails, trail_of}
use Rattle.region_parts.specs.Inbox.{InboxData, inbox_of, taken_from, next_from, HasInboxSizes, HasHead, IsLeastHead}
use Rattle.region_parts.proofs.Firsts.{below_or_past, no_trail_past, nothing_heard, none_past, none_in_nothing}

-- it was searched for in what is kept now, with as many regions
pub least_found : (regions : ℕ) (head : Option (ℕ × Stamp)) (old new : InboxData) (heard : Trails) (taken : List ℕ) →
    HasInboxSizes regions old → length new.heard ≡ length old.heard → length new.taken ≡ length old.taken →
    heard ≡ new.heard → taken ≡ new.taken → IsLeastHead (inbox_of heard taken) head → HasHead regions head new
least_found regions head old new heard taken sizes trails counts heard_is taken_is least = record {
  sizes = (trails ∙ sizes.0, counts ∙ sizes.1);
  least = subst (λ (inbox : InboxData). IsLeastHead inbox head)
      (λ i. record { heard = heard_is i; taken = taken_is i }) least;
}

-- there is none if nothing was heard
nothing_there : (n q : ℕ) → trail_of (replicate n []) q ≡ []
nothing_there n q = elim (below_or_past q n) [
  | inl lt ↦ get_or-replicate n q nothing_heard nothing_heard lt
  | inr past ↦ let len = length-replicate n nothing_heard in no_trail_past (replicate n []) q (omega arith)
]

pub empty_head : (regions : ℕ) (inbox : InboxData) → inbox.heard ≡ replicate regions [] →
    length inbox.taken ≡ regions → HasHead regions None inbox
empty_head regions inbox heard counts = record {
  sizes = (ap length heard ∙ length-replicate regions nothing_heard, counts);
  least = λ q. ap (λ (ts : Trails). slice_get (trail_of ts q) (taken_from inbox q)) heard
      ∙ ap (λ (ms : List Message). slice_get ms (taken_from inbox q)) (nothing_there regions q)
      ∙ none_in_nothing (taken_from inbox q);
}

-- ---- the region of a message that waits is one of them
heard_within : (inbox : InboxData) (q : ℕ) → IsSome (next_from inbox q) → q < length inbox.heard
heard_within inbox q waits = elim (below_or_past q (length inbox.heard)) [
  | inl lt ↦ lt
  | inr past ↦ absurd (false≢true (subst IsSome (none_past inbox q past) waits))
]

pub waits_within : (regions : ℕ) (kept inbox : InboxData) (q : ℕ) → kept ≡ inbox → HasInboxSizes regions kept →
    IsSome (next_from inbox q) → q < length inbox.taken
waits_within regions kept inbox q same sizes waits =
    let heard = ap (λ (a : InboxData). length a.heard) (sym same) ∙ sizes.0 in
    let taken = ap (λ (a : InboxData). length a.taken) (sym same) ∙ sizes.1 in
    let within = heard_within inbox q waits in
    omega arith
