-- What the sink below may take of what is held.
use Rattle.std.proofs.Common.{◌≡◌, List, [], ◌++◌, ℕ, Option, None, Some, is_some, append-nil, append_assoc, refl, sym, ap, ◌∙◌, subst}
use Rattle.std.proofs.Transfers.{starts_with_of_append, starts_with_trans}
use Rattle.std.specs.Io.KnownBytes.{Appends, append_known}
use Rattle.report_ports.specs.Ports.{MayTake}
use Rattle.gathered_sink.specs.Gathered.{IsFront}
use Rattle.report_ports.proofs.Allowed.{may_join}

-- if nothing is held, what was told is what the sink below has taken
none_held : (seen : Option (List ℕ)) (held : List ℕ) → held ≡ [] → append_known seen held ≡ seen
none_held None held e = refl
none_held (Some a) held e = ap (λ (v : List ℕ). Some (a ++ v)) e ∙ ap Some (append-nil a)

pub passes_on : (allows : List ℕ → Type 0) (below seen told : Option (List ℕ)) (held piece : List ℕ) → seen ≡ below → held ≡ [] →
    told ≡ append_known seen held → MayTake allows told piece → MayTake allows below piece
passes_on allows below seen told held piece same none is may =
    subst (λ (v : Option (List ℕ)). MayTake allows v piece) (is ∙ none_held seen held none ∙ same) may

known_appends : (a : Option (List ℕ)) (held : List ℕ) → Appends a (append_known a held) held
known_appends None held = tt
known_appends (Some a) held = refl

known_alike : (a : Option (List ℕ)) (held : List ℕ) → is_some (append_known a held) ≡ is_some a
known_alike None held = refl
known_alike (Some a) held = refl

-- a piece that is held too may be given with what was held
pub holds_more : (allows : List ℕ → Type 0) (below seen told : Option (List ℕ)) (held piece more : List ℕ) → seen ≡ below →
    told ≡ append_known seen held → more ≡ held ++ piece → MayTake allows below held → MayTake allows told piece → MayTake allows below more
holds_more allows below seen told held piece more same is both may next =
    subst (λ (v : List ℕ). MayTake allows below v) (sym both)
    (may_join allows below (append_known below held) held piece (known_appends below held) (known_alike below held) may
    (subst (λ (v : Option (List ℕ)). MayTake allows v piece) (is ∙ ap (λ (v : Option (List ℕ)). append_known v held) same) next))

-- what the sink below has taken is still a front of it
pub front_held : (below seen : Option (List ℕ)) (held piece more : List ℕ) → IsFront below (append_known seen held) → more ≡ held ++ piece →
    IsFront below (append_known seen more)
front_held None None held piece more h e = tt
front_held None (Some a) held piece more h e = absurd h
front_held (Some b) None held piece more h e = absurd h
front_held (Some b) (Some a) held piece more h e =
    starts_with_trans (a ++ more) (a ++ held) b
    (starts_with_of_append (a ++ more) (a ++ held) piece (ap (λ (v : List ℕ). a ++ v) e ∙ sym (append_assoc a held piece))) h
