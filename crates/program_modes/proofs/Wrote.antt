-- What was written of an output.
use Rattle.std.proofs.Common.{◌≡◌, inl, inr, ℕ, List, [], Option, Some, None, sym, subst, refl, ◌∙◌}
use Rattle.std.specs.Prelude.{⊤}
use Rattle.std.proofs.lemmas.List.{append-nil}
use Rattle.std.specs.Io.KnownBytes.{Appends, Keeps}
use Rattle.program_modes.specs.declared.status.Status.{Status}
use Rattle.program_modes.specs.declared.status.Status.TheVariants.{Done, BadWords, SceneRefused, SpeedLimit, RoundLimit, ReadFault, WriteFault, NoMemory, Wrong}
use Rattle.program_modes.specs.Answers.{Wrote, WroteWhole, WrotePrefix, CountsWrites}
use Rattle.event_rules.specs.declared.outcome.RunFault.{RunFault}
use Rattle.event_rules.specs.declared.outcome.RunFault.TheVariants.{Listener, NoMemory as RunNoMemory}
use Rattle.program_modes.specs.Shows.{WritesText, status_of_fault}

-- a status that an output has of its own
abbrev pub IsOwn : Status → Type 0
IsOwn Done = ⊤
IsOwn BadWords = ⊤
IsOwn SceneRefused = ⊤
IsOwn SpeedLimit = ⊤
IsOwn RoundLimit = ⊤
IsOwn ReadFault = ⊥
IsOwn WriteFault = ⊥
IsOwn NoMemory = ⊥
IsOwn Wrong = ⊤

pub whole : (output : List ℕ → Status → Type 0) (taken taken' : Option (List ℕ)) (own : Status) → IsOwn own →
    WroteWhole output taken taken' own → Wrote output taken taken' own
whole output taken taken' Done is h = h
whole output taken taken' BadWords is h = h
whole output taken taken' SceneRefused is h = h
whole output taken taken' SpeedLimit is h = h
whole output taken taken' RoundLimit is h = h
whole output taken taken' ReadFault is h = absurd is
whole output taken taken' WriteFault is h = absurd is
whole output taken taken' NoMemory is h = absurd is
whole output taken taken' Wrong is h = h

-- one text was written, or a prefix of it
pub wrote_text : (output : List ℕ → Status → Type 0) (text : List ℕ) (own : Status) (taken taken' : Option (List ℕ)) (status : Status) → IsOwn own →
    output text own → WritesText text own taken taken' status → Wrote output taken taken' status
wrote_text output text own taken taken' status is of h = elim h [
  | inl all ↦ subst (Wrote output taken taken') (sym all.0) (whole output taken taken' own is (text, of, all.1))
  | inr part ↦ subst (Wrote output taken taken') (sym part.0) (text, own, of, part.1)
]

appends_nothing : (taken taken' : Option (List ℕ)) → Keeps taken taken' → Appends taken taken' []
appends_nothing None taken' h = tt
appends_nothing (Some a) None h = absurd h
appends_nothing (Some a) (Some b) h = h ∙ sym (append-nil a)

-- bytes that no call has changed
pub kept : (taken : Option (List ℕ)) → Keeps taken taken
kept None = tt
kept (Some a) = refl

-- nothing was written: a prefix of any output
pub wrote_nothing : (output : List ℕ → Status → Type 0) (text : List ℕ) (own : Status) (taken taken' : Option (List ℕ)) → output text own →
    Keeps taken taken' → WrotePrefix output taken taken'
wrote_nothing output text own taken taken' of h = (text, own, of, ([], text, refl, appends_nothing taken taken' h))

-- a run broke off: a prefix was written
pub broken_wrote : (output : List ℕ → Status → Type 0) (taken taken' : Option (List ℕ)) (fault : RunFault) →
    WrotePrefix output taken taken' → Wrote output taken taken' (status_of_fault fault)
broken_wrote output taken taken' Listener h = h
broken_wrote output taken taken' RunNoMemory h = h

-- after an output of its own the count of faults is what it was
pub own_counts : (before after : ℕ) (own : Status) → IsOwn own → after ≡ before → CountsWrites before after own
own_counts before after Done is e = e
own_counts before after BadWords is e = e
own_counts before after SceneRefused is e = e
own_counts before after SpeedLimit is e = e
own_counts before after RoundLimit is e = e
own_counts before after ReadFault is e = absurd is
own_counts before after WriteFault is e = absurd is
own_counts before after NoMemory is e = absurd is
own_counts before after Wrong is e = e

-- what was written of an output was written of one that has it
pub as_wrote : (output other : List ℕ → Status → Type 0) → ((text : List ℕ) (status : Status) → output text status → other text status) →
    (taken taken' : Option (List ℕ)) (status : Status) → Wrote output taken taken' status → Wrote other taken taken' status
as_wrote output other f taken taken' Done h = (h.0, f h.0 Done h.1, h.2)
as_wrote output other f taken taken' BadWords h = (h.0, f h.0 BadWords h.1, h.2)
as_wrote output other f taken taken' SceneRefused h = (h.0, f h.0 SceneRefused h.1, h.2)
as_wrote output other f taken taken' SpeedLimit h = (h.0, f h.0 SpeedLimit h.1, h.2)
as_wrote output other f taken taken' RoundLimit h = (h.0, f h.0 RoundLimit h.1, h.2)
as_wrote output other f taken taken' ReadFault h = h
as_wrote output other f taken taken' WriteFault h = (h.0, h.1, f h.0 h.1 h.2, h.3)
as_wrote output other f taken taken' Wrong h = (h.0, f h.0 Wrong h.1, h.2)
as_wrote output other f taken taken' NoMemory h = (h.0, h.1, f h.0 h.1 h.2, h.3)
