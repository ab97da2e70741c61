-- What the sink below has taken of an output that was gathered.
use Rattle.std.proofs.Common.{◌≡◌, ◌≢◌, ◌∙◌, inl, inr, ℕ, ◌≤◌, List, [], ◌++◌, length, take, drop, Option, Some, None, refl, sym, ap, subst, append_assoc, arith}
use Rattle.std.specs.Prelude.{⊤}
use Rattle.std.proofs.lemmas.List.{append-nil}
use Rattle.std.proofs.Math.Seq.{take-nil}
use Rattle.std.proofs.KnownBytes.{starts_with_rest}
use Rattle.std.specs.Io.{StartsWith}
use Rattle.std.specs.Io.KnownBytes.{Keeps}
use Rattle.report_ports.specs.Ports.{AppendsPrefix}
use Rattle.command_words.specs.declared.settings.Settings.{Settings}
use Rattle.gathered_sink.specs.Gathered.{IsFront}
use Rattle.program_modes.specs.declared.status.Status.{Status}
use Rattle.program_modes.specs.declared.status.Status.TheVariants.{Done, BadWords, SceneRefused, SpeedLimit, RoundLimit, ReadFault, WriteFault, NoMemory, Wrong}
use Rattle.program_modes.specs.Answers.{Wrote, WroteWhole, WrotePrefix, Answers, LeavesNothing, CountsReads, CountsWrites}
use Rattle.program_modes.specs.Output.{IsOutput}
use Rattle.hard_disks.specs.Gathers.{IsFresh, Finishes}

-- the front of a prefix is a prefix
front_prefix : (taken told below : Option (List ℕ)) (text : List ℕ) → IsFresh taken → IsFront below told → AppendsPrefix taken told text
    → AppendsPrefix taken below text
front_prefix None told below text fresh front p = ([], text, refl, tt)
front_prefix (Some xs) None below text fresh front p = absurd p.3
front_prefix (Some xs) (Some ys) None text fresh front p = absurd front
front_prefix (Some xs) (Some ys) (Some zs) text fresh front p =
    let given : ys ≡ p.0 = p.3 ∙ ap (λ (l : List ℕ). l ++ p.0) fresh in
    let whole : p.0 ≡ zs ++ drop (length zs) p.0 = starts_with_rest p.0 zs (subst (λ (l : List ℕ). StartsWith l zs) given front) in (
      zs,
      drop (length zs) p.0 ++ p.1,
      p.2 ∙ ap (λ (l : List ℕ). l ++ p.1) whole ∙ append_assoc zs (drop (length zs) p.0) p.1,
      ap (λ (l : List ℕ). l ++ zs) (sym fresh),
    )

whole_prefix : (output : List ℕ → Status → Type 0) (taken told below : Option (List ℕ)) (own : Status) → IsFresh taken → IsFront below told
    → WroteWhole output taken told own → WrotePrefix output taken below
whole_prefix output taken told below own fresh front w =
    (w.0, own, w.1, front_prefix taken told below w.0 fresh front (w.0, [], sym (append-nil w.0), w.2))

prefix_prefix : (output : List ℕ → Status → Type 0) (taken told below : Option (List ℕ)) → IsFresh taken → IsFront below told
    → WrotePrefix output taken told → WrotePrefix output taken below
prefix_prefix output taken told below fresh front w = (w.0, w.1, w.2, front_prefix taken told below w.0 fresh front w.3)

-- a status after which something may have been written
abbrev pub IsWriting : Status → Type 0
IsWriting Done = ⊤
IsWriting BadWords = ⊤
IsWriting SceneRefused = ⊤
IsWriting SpeedLimit = ⊤
IsWriting RoundLimit = ⊤
IsWriting ReadFault = ⊥
IsWriting WriteFault = ⊤
IsWriting NoMemory = ⊤
IsWriting Wrong = ⊤

pub writes : (status : Status) → (status ≡ ReadFault → ⊥) → IsWriting status
writes Done not = tt
writes BadWords not = tt
writes SceneRefused not = tt
writes SpeedLimit not = tt
writes RoundLimit not = tt
writes ReadFault not = absurd (not refl)
writes WriteFault not = tt
writes NoMemory not = tt
writes Wrong not = tt

wrote_front : (output : List ℕ → Status → Type 0) (taken told below : Option (List ℕ)) (status : Status) → IsWriting status → IsFresh taken
    → IsFront below told → Wrote output taken told status → WrotePrefix output taken below
wrote_front output taken told below Done is fresh front w = whole_prefix output taken told below Done fresh front w
wrote_front output taken told below BadWords is fresh front w = whole_prefix output taken told below BadWords fresh front w
wrote_front output taken told below SceneRefused is fresh front w = whole_prefix output taken told below SceneRefused fresh front w
wrote_front output taken told below SpeedLimit is fresh front w = whole_prefix output taken told below SpeedLimit fresh front w
wrote_front output taken told below RoundLimit is fresh front w = whole_prefix output taken told below RoundLimit fresh front w
wrote_front output taken told below ReadFault is fresh front w = absurd is
wrote_front output taken told below WriteFault is fresh front w = prefix_prefix output taken told below fresh front w
wrote_front output taken told below NoMemory is fresh front w = prefix_prefix output taken told below fresh front w
wrote_front output taken told below Wrong is fresh front w = whole_prefix output taken told below Wrong fresh front w

-- the rest can't be given
pub answered_torn : (settings : Option Settings) (left taken told below : Option (List ℕ)) (status : Status) → IsWriting status → IsFresh taken
    → IsFront below told → Answers settings left taken told status → Answers settings left taken below WriteFault
answered_torn settings left taken told below status is fresh front a =
    (a.0, a.1, wrote_front (IsOutput settings a.0) taken told below status is fresh front a.2)

-- nothing was written, so nothing is held
kept_front : (taken told below : Option (List ℕ)) → IsFresh taken → IsFront below told → Keeps taken told → Keeps taken below
kept_front None told below fresh front k = tt
kept_front (Some xs) None below fresh front k = absurd k
kept_front (Some xs) (Some ys) None fresh front k = absurd front
kept_front (Some xs) (Some ys) (Some zs) fresh front k =
    sym front ∙ ap (take (length zs)) (k ∙ fresh) ∙ take-nil (length zs) ∙ sym fresh

pub answered_unread : (settings : Option Settings) (left taken told below : Option (List ℕ)) → IsFresh taken
    → IsFront below told → Answers settings left taken told ReadFault → Answers settings left taken below ReadFault
answered_unread settings left taken told below fresh front a = (a.0, a.1, kept_front taken told below fresh front a.2)

-- all was given
pub answered_whole : (settings : Option Settings) (left taken told below : Option (List ℕ)) (status : Status) → below ≡ told
    → Answers settings left taken told status → Answers settings left taken below status
answered_whole settings left taken told below status same a =
    subst (λ (bytes : Option (List ℕ)). Answers settings left taken bytes status) (sym same) a

-- a sink below that failed as often as the one that gathers: never
pub counted_whole : (above below : ℕ) (status : Status) → above ≡ 0 → below ≡ 0 → CountsWrites 0 above status → CountsWrites 0 below status
counted_whole above below status none unfailed counts =
    subst (λ (n : ℕ). CountsWrites 0 n status) (none ∙ sym unfailed) counts

-- one that failed once at least
pub counted_torn : (below : ℕ) → 1 ≤ below → CountsWrites 0 below WriteFault
counted_torn below some = (omega arith, inl (omega (arith, some)))

-- ---- the status after the rest was given
pub left_nothing : (left left' : Option (List ℕ)) (status last : Status) (below : ℕ) → Finishes status below last
    → LeavesNothing left left' status → LeavesNothing left left' last
left_nothing left left' status last below is h = elim is [
  | inl same ↦ subst (LeavesNothing left left') (sym same) h
  | inr torn ↦ subst (LeavesNothing left left') (sym torn.0) (unsaid left left')
]
  where
    unsaid : (left left' : Option (List ℕ)) → LeavesNothing left left' WriteFault
    unsaid None left' = tt
    unsaid (Some bytes) left' = tt

-- the source didn't fail, so nothing was counted
none_counted : (before after : ℕ) (status : Status) → status ≢ ReadFault → CountsReads before after status → after ≡ before
none_counted before after Done not c = c
none_counted before after BadWords not c = c
none_counted before after SceneRefused not c = c
none_counted before after SpeedLimit not c = c
none_counted before after RoundLimit not c = c
none_counted before after ReadFault not c = absurd (not refl)
none_counted before after WriteFault not c = c
none_counted before after NoMemory not c = c
none_counted before after Wrong not c = c

pub read_below : (before after below : ℕ) (status last : Status) → Finishes status below last → CountsReads before after status
    → CountsReads before after last
read_below before after below status last is c = elim is [
  | inl same ↦ subst (CountsReads before after) (sym same) c
  | inr torn ↦ subst (CountsReads before after) (sym torn.0) (none_counted before after status torn.1 c)
]

-- ---- from a sink that gathers to the one below, which had taken nothing and counted none
pub answered_below : (settings : Option Settings) (left taken told told' below : Option (List ℕ)) (status last : Status) → told ≡ taken
    → (Answers settings left taken told' status → Answers settings left taken below last)
    → Answers settings left told told' status → Answers settings left taken below last
answered_below settings left taken told told' below status last same finishes a =
    finishes (subst (λ (bytes : Option (List ℕ)). Answers settings left bytes told' status) same a)

pub counted_below : (before above above' below : ℕ) (status last : Status) → before ≡ 0 → above ≡ 0
    → (CountsWrites 0 above' status → CountsWrites 0 below last) → CountsWrites above above' status → CountsWrites before below last
counted_below before above above' below status last none first finishes c =
    subst (λ (n : ℕ). CountsWrites n below last) (sym none) (finishes (subst (λ (n : ℕ). CountsWrites n above' status) first c))
