-- The rule of the table, and its steps. Word k is twice the version of slot k, and 1 more while the slot is out;
-- the version counts how often a region was put back there.
use Rattle.std.specs.Prelude.{◌≡◌, ℕ, ◌+◌, ◌-◌, ◌*◌, ◌/◌, ◌%◌, ◌^◌, ◌<◌, ◌≤◌, ◌==◌, List, [], ◌∷◌, ◌++◌, true, not, ◌&&◌, length, map, slice_index, Option, Some, All, Bool}
use Rattle.std.specs.List.{filter, list_any}
use mathlib.Core.Option.{none, some}
use lib.ListN.{get_elem?}
use Rattle.atomic_table.specs.Table.{State, Me, Step, rest}
use Rattle.local_run.specs.Opening.{RegionData}
use Rattle.region_table.specs.declared.rule.Sight.{Sight}
use Rattle.region_table.specs.declared.rule.Hold.{Hold}
use Rattle.region_table.specs.declared.rule.Note.{Note}
use Rattle.region_table.specs.declared.rule.TableView.{TableView}
use Rattle.region_table.specs.Bases.{MayLieIn, count_of, CountsAsOpened}

-- what a slot holds: nothing if a seat has taken the region out of it
abbrev pub Content : Type 0
Content = Option RegionData

-- ---- words
-- by this word, the slot isn't out
abbrev pub IsHomeWord : ℕ → Type 0
IsHomeWord word = word % 2 ≡ 0

-- the version of a slot by its word
abbrev pub version_of : ℕ → ℕ
version_of word = word / 2

-- the version that can't be put back any more
abbrev pub last_version : ℕ
last_version = 2 ^ 63 - 1

-- ---- views
-- the parts of a table, which seats share
abbrev pub all_parts : ℕ
all_parts = 2 ^ 127

-- the seat has all parts of the table
abbrev pub HasAll : TableView → Type 0
HasAll v = v.parts ≡ all_parts

-- the view of the first seat, which has all parts, and has seen, taken and put back nothing
abbrev pub first_view : List RegionData → TableView
first_view opened = record { opened = opened; seen = []; held = []; notes = []; parts = all_parts }

-- what a join leaves of the other
abbrev pub no_view : TableView
no_view = record { opened = []; seen = []; held = []; notes = []; parts = 0 }

-- a seat that is split keeps half of its parts; an odd one is lost, so that nobody has all of them any more
abbrev pub halved : TableView → TableView
halved v = record { opened = v.opened; seen = v.seen; held = v.held; notes = v.notes; parts = v.parts / 2 }

-- the new seat has the other half and knows what was seen, and neither holds a slot nor has put one back
abbrev pub copied : TableView → TableView
copied v = record { opened = v.opened; seen = v.seen; held = []; notes = []; parts = v.parts / 2 }

-- the seat to which another is joined knows what both saw and noted, keeps its own slots, and has the parts of both
abbrev pub joined_views : TableView → TableView → TableView
joined_views v w = record {
  opened = v.opened;
  seen = v.seen ++ w.seen;
  held = v.held;
  notes = v.notes ++ w.notes;
  parts = v.parts + w.parts;
}

-- the numbers of the slots that are held
abbrev pub slots_of : List Hold → List ℕ
slots_of held = map (λ (h : Hold). h.slot) held

-- whether a slot is among those that are held
abbrev pub is_held : ℕ → List Hold → Bool
is_held k held = list_any (λ s. k == s) (slots_of held)

-- the slots that are held, but for slot k
abbrev pub without : ℕ → List Hold → List Hold
without k held = filter (λ (h : Hold). not (k == h.slot)) held

-- the view once the word was found in slot k
abbrev pub seeing : TableView → ℕ → ℕ → TableView
seeing v k word = record {
  opened = v.opened;
  seen = record { slot = k; word = word } ∷ v.seen;
  held = v.held;
  notes = v.notes;
  parts = v.parts;
}

-- the view once slot k was taken out at the word
abbrev pub holding : TableView → ℕ → ℕ → TableView
holding v k word = record {
  opened = v.opened;
  seen = record { slot = k; word = word } ∷ v.seen;
  held = record { slot = k; version = version_of word } ∷ v.held;
  notes = v.notes;
  parts = v.parts;
}

-- the view once slot k was put back, at this version and with this many entries
abbrev pub putting : TableView → ℕ → ℕ → ℕ → TableView
putting v k version count = record {
  opened = v.opened;
  seen = v.seen;
  held = without k v.held;
  notes = record { slot = k; version = version; entries = count } ∷ v.notes;
  parts = v.parts;
}

-- the view once slot k isn't held any more, and nothing is noted
abbrev pub undoing : TableView → ℕ → TableView
undoing v k = record {
  opened = v.opened;
  seen = v.seen;
  held = without k v.held;
  notes = v.notes;
  parts = v.parts;
}

-- whether a put of a slot at a version was noted
abbrev pub is_noted : ℕ → ℕ → List Note → Bool
is_noted k version notes = list_any (λ (n : Note). (k == n.slot) && (version == n.version)) notes

-- the parts of all views together
abbrev pub total : List TableView → ℕ
total [] = 0
total (v ∷ vs) = v.parts + total vs

-- ---- the rule
-- if a note is of this slot and this version, its number of entries is that of the region
abbrev pub Tells : ℕ → ℕ → RegionData → Note → Type 0
Tells k version region note = note.slot ≡ k → note.version ≡ version → note.entries ≡ count_of region

-- the same for each put, at a version that is neither the first nor the last
abbrev pub TellsAll : ℕ → ℕ → RegionData → TableView → Type 0
TellsAll k version region v = 0 < version → version < last_version → All (Tells k version region) v.notes

-- what may be found at home in slot k at a word
pub record IsAtHome (opened : List RegionData) (views : List TableView) (k word : ℕ) (region : RegionData) : Type 0 where
  pub lies : MayLieIn opened k region
  pub at_first : version_of word ≡ 0 → CountsAsOpened opened k region
  pub noted : (i : ℕ) (v : TableView) → get_elem? views i ≡ some v → TellsAll k (version_of word) region v

-- the words say that the slot is out at this version
abbrev pub IsOut : List ℕ → Hold → Type 0
IsOut words h = (h.slot < length words) × (slice_index words h.slot ≡ 2 * h.version + 1)

-- no version that was noted or seen is above that of its word
pub record KnowsNoLater (words : List ℕ) (v : TableView) : Type 0 where
  pub notes : All (λ (n : Note). n.version ≤ version_of (slice_index words n.slot)) v.notes
  pub seen : All (λ (s : Sight). version_of s.word ≤ version_of (slice_index words s.slot)) v.seen

-- one of the views has this
abbrev pub OneHas : List TableView → (TableView → Type 0) → Type 0
OneHas views P = (i : ℕ) × (v : TableView) × (get_elem? views i ≡ some v) × P v

-- what holds of words, homes and views at all times
pub record Kept (opened : List RegionData) (s : State Content TableView) : Type 0 where
  pub words : length s.words ≡ length opened
  pub homes : length s.homes ≡ length opened
  pub home : (k : ℕ) → k < length opened → IsHomeWord (slice_index s.words k)
      → (region : RegionData) × (get_elem? s.homes k ≡ some (some (Some region))) × IsAtHome opened s.views k (slice_index s.words k) region
  pub out : (k : ℕ) → k < length opened → ¬ IsHomeWord (slice_index s.words k) → get_elem? s.homes k ≡ some none
  pub held : (i : ℕ) (v : TableView) → get_elem? s.views i ≡ some v → All (IsOut s.words) v.held
  pub one : (i j : ℕ) (v w : TableView) (k : ℕ) → get_elem? s.views i ≡ some v → get_elem? s.views j ≡ some w
      → is_held k v.held ≡ true → is_held k w.held ≡ true → i ≡ j
  pub past : (i : ℕ) (v : TableView) → get_elem? s.views i ≡ some v → KnowsNoLater s.words v
  -- each slot that is out has a holder, and each last put was noted
  pub owner : (k : ℕ) → k < length opened → ¬ IsHomeWord (slice_index s.words k) → OneHas s.views (λ v. is_held k v.held ≡ true)
  pub writer : (k : ℕ) → k < length opened → 0 < version_of (slice_index s.words k)
      → OneHas s.views (λ v. is_noted k (version_of (slice_index s.words k)) v.notes ≡ true)
  -- if no part is lost, a seat without one was joined to another
  pub whole : total s.views ≤ all_parts
  pub idle : total s.views ≡ all_parts → (i : ℕ) (v : TableView) → get_elem? s.views i ≡ some v → v.parts ≡ 0 → v ≡ no_view

-- ---- what the steps tell
-- what a take finds at home, as far as the seat can know
pub record IsFoundAtHome (v : TableView) (k word : ℕ) (region : RegionData) : Type 0 where
  pub lies : MayLieIn v.opened k region
  pub at_first : version_of word ≡ 0 → CountsAsOpened v.opened k region
  pub noted : TellsAll k (version_of word) region v

-- the version is at least what the seat has seen of the slot, and noted
pub record IsNotBeforeKnown (v : TableView) (k word : ℕ) : Type 0 where
  pub notes : All (λ (n : Note). n.slot ≡ k → n.version ≤ version_of word) v.notes
  pub seen : All (λ (s : Sight). s.slot ≡ k → version_of s.word ≤ version_of word) v.seen

-- at an even word the slot goes out to the seat, and at an odd one nothing moves
pub record Taken (st : Step Content) (m : Me Content TableView) (word : ℕ) (m' : Me Content TableView) : Type 0 where
  pub fits : word < 2 ^ 64
  pub later : IsNotBeforeKnown m.0 st.word word
  pub home : IsHomeWord word → (region : RegionData)
      × (m' ≡ (holding m.0 st.word word, (st.word, Some region) ∷ m.1)) × IsFoundAtHome m.0 st.word word region
  pub away : ¬ IsHomeWord word → m' ≡ (seeing m.0 st.word word, m.1)

-- the seat took the slot at the version of the word
abbrev pub TookAt : TableView → ℕ → ℕ → Type 0
TookAt v k word = All (λ (h : Hold). h.slot ≡ k → word ≡ 2 * h.version + 1) v.held

-- the number of entries of the region that is to come home next
abbrev pub count_next : List (ℕ × Content) → ℕ
count_next ((k, Some region) ∷ carried) = count_of region
count_next _ = 0

-- the slot comes home with the region that was put there
pub record Put (st : Step Content) (m : Me Content TableView) (word : ℕ) (m' : Me Content TableView) : Type 0 where
  pub took : TookAt m.0 st.word word
  pub home : m' ≡ (putting m.0 st.word (version_of word + 1) (count_next m.1), rest m.1)

-- the slot comes home as it was
abbrev pub Undone : Step Content → Me Content TableView → ℕ → Me Content TableView → Type 0
Undone st m word m' = m' ≡ (undoing m.0 st.word, rest m.1)
