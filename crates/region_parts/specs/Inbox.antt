-- What a region heard from the others, and how much of it was taken in.
use Rattle.std.specs.Prelude.{◌≡◌, ◌≢◌, ℕ, ◌+◌, List, [], ◌++◌, Option, Some, None, length, replicate, get_or, slice_get, slice_set, if◌then◌else◌}
use Rattle.event_stamps.specs.declared.Stamp.{Stamp}
use Rattle.event_stamps.specs.Order.{Before}
use Rattle.region_view.specs.declared.rows.Message.{Message}
use Rattle.region_messages.specs.Trails.{is_before, below, from}
use Rattle.local_run.specs.LocalRun.{Trails, trail_of}

-- by the number of the region: the messages heard from it, and how many of them were taken in
pub record InboxData : Type 0 where
  pub heard : Trails
  pub taken : List ℕ

-- what was heard and what was taken in, together
abbrev pub inbox_of : Trails → List ℕ → InboxData
inbox_of heard taken = record { heard = heard; taken = taken }

-- both have this many
abbrev pub HasInboxSizes : ℕ → InboxData → Type 0
HasInboxSizes regions inbox = (length inbox.heard ≡ regions) × (length inbox.taken ≡ regions)

-- the inbox for this many regions, with nothing heard
abbrev pub empty_inbox : ℕ → InboxData
empty_inbox regions = record { heard = replicate regions []; taken = replicate regions 0 }

-- how many messages of a region were taken in
abbrev pub taken_from : InboxData → ℕ → ℕ
taken_from inbox q = get_or inbox.taken q 0

-- the first message of a region that wasn't taken in
abbrev pub next_from : InboxData → ℕ → Option Message
next_from inbox q = slice_get (trail_of inbox.heard q) (taken_from inbox q)

-- the first message of a region has this stamp
abbrev pub IsHeadOf : InboxData → ℕ → Stamp → Type 0
IsHeadOf inbox q s = (m : Message) × (next_from inbox q ≡ Some m) × (m.stamp ≡ s)

-- the lesser of two first messages; if they have one stamp, the one that was there
abbrev pub nearer_of : Option (ℕ × Stamp) → ℕ → Option Message → Option (ℕ × Stamp)
nearer_of least from None = least
nearer_of None from (Some m) = Some (from, m.stamp)
nearer_of (Some head) from (Some m) =
    if is_before m.stamp head.1 then Some (from, m.stamp) else Some head

-- there is a message, and it has this stamp
abbrev pub HasStamp : Option Message → Stamp → Type 0
HasStamp None s = ⊥
HasStamp (Some m) s = m.stamp ≡ s

-- none of the first messages of all regions is before it; or there are none
abbrev pub IsLeastHead : InboxData → Option (ℕ × Stamp) → Type 0
IsLeastHead inbox None = (q : ℕ) → next_from inbox q ≡ None
IsLeastHead inbox (Some head) = IsHeadOf inbox head.0 head.1
    × ((q : ℕ) (m : Message) → next_from inbox q ≡ Some m → ¬ Before m.stamp head.1)

-- an inbox of this many regions, and this is the least of their first messages
pub record HasHead (regions : ℕ) (head : Option (ℕ × Stamp)) (inbox : InboxData) : Type 0 where
  pub sizes : HasInboxSizes regions inbox
  pub least : IsLeastHead inbox head

-- the first message of another region has this stamp
abbrev pub IsSharedHead : InboxData → ℕ → Stamp → Type 0
IsSharedHead inbox from s = (q : ℕ) × (m : Message) × (q ≢ from)
    × (next_from inbox q ≡ Some m) × (m.stamp ≡ s)

-- one more message of a region is taken in
abbrev pub with_taken : InboxData → ℕ → InboxData
with_taken inbox q = record {
  heard = inbox.heard;
  taken = slice_set inbox.taken q (taken_from inbox q + 1);
}

-- the stamp of a first message, if there is one
abbrev pub head_stamp : Option (ℕ × Stamp) → Option Stamp
head_stamp None = None
head_stamp (Some head) = Some head.1

-- the messages of one trail before a stamp, and those of another from it on
abbrev pub mixed : Stamp → List Message → List Message → List Message
mixed at heard sent = below at heard ++ from at sent
