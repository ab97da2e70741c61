-- Which texts a sink may take one after another.
use Rattle.std.proofs.Common.{◌≡◌, ◌≢◌, true≢false, List, [], ◌∷◌, ◌++◌, ℕ, Option, None, Some, is_some, append_assoc, append-nil, refl, sym, ap, ◌∙◌, subst}
use Rattle.std.specs.Io.KnownBytes.{Appends}
use Rattle.report_ports.specs.Ports.{MayTake}

-- nothing is always taken
pub may_nothing : (allows : List ℕ → Type 0) (taken : Option (List ℕ)) → MayTake allows taken []
may_nothing allows taken bytes [] rest known is some = absurd (some refl)
may_nothing allows taken bytes (b ∷ front) rest known is some = cc

-- if a text may be taken, its front may
pub may_front : (allows : List ℕ → Type 0) (taken : Option (List ℕ)) (xs ys : List ℕ) → MayTake allows taken (xs ++ ys) → MayTake allows taken xs
may_front allows taken xs ys may bytes front rest known is some =
    may bytes front (rest ++ ys) known (ap (λ (v : List ℕ). v ++ ys) is ∙ append_assoc front rest ys) some

-- some bytes before others are some bytes
some_more : (xs front : List ℕ) → front ≢ [] → xs ++ front ≢ []
some_more [] front some = some
some_more (x ∷ xs) front some = λ e. cc

-- and once the front was taken, what follows it may be
pub may_next : (allows : List ℕ → Type 0) (a b : Option (List ℕ)) (xs ys : List ℕ) → Appends a b xs → is_some b ≡ is_some a →
    MayTake allows a (xs ++ ys) → MayTake allows b ys
may_next allows None None xs ys h k may bytes front rest known is some = cc
may_next allows None (Some b) xs ys h k may bytes front rest known is some = absurd (true≢false k)
may_next allows (Some a) None xs ys h k may bytes front rest known is some = cc
may_next allows (Some a) (Some b) xs ys h k may bytes front rest known is some =
    let same : b ≡ bytes = cc in
    subst allows (sym (append_assoc a xs front) ∙ ap (λ (v : List ℕ). v ++ front) (sym h ∙ same))
    (may a (xs ++ front) rest refl (ap (λ (v : List ℕ). xs ++ v) is ∙ sym (append_assoc xs front rest)) (some_more xs front some))

-- a text, and then another
may_join_known : (allows : List ℕ → Type 0) (a xs ys : List ℕ) → MayTake allows (Some a) xs → MayTake allows (Some (a ++ xs)) ys →
    MayTake allows (Some a) (xs ++ ys)
may_join_known allows a [] ys may more bytes front rest known is some =
    subst (λ (v : List ℕ). MayTake allows (Some v) ys) (append-nil a) more bytes front rest known is some
may_join_known allows a (x ∷ xs) ys may more bytes [] rest known is some = absurd (some refl)
may_join_known allows a (x ∷ xs) ys may more bytes (f ∷ []) rest known is some =
    let first : x ≡ f = cc in
    may bytes (f ∷ []) xs known (ap (λ (v : ℕ). v ∷ xs) first) some
may_join_known allows a (x ∷ xs) ys may more bytes (f ∷ g ∷ front) rest known is some =
    let first : x ≡ f = cc in
    let left : xs ++ ys ≡ (g ∷ front) ++ rest = cc in
    let same : a ≡ bytes = cc in
    let next : MayTake allows (Some (a ++ x ∷ [])) xs = may_next allows (Some a) (Some (a ++ x ∷ [])) (x ∷ []) xs refl refl may in
    let after : MayTake allows (Some ((a ++ x ∷ []) ++ xs)) ys =
    subst (λ (v : List ℕ). MayTake allows (Some v) ys) (sym (append_assoc a (x ∷ []) xs)) more in
    subst allows (append_assoc a (x ∷ []) (g ∷ front) ∙ (λ i. same i ++ first i ∷ g ∷ front))
    (may_join_known allows (a ++ x ∷ []) xs ys next after (a ++ x ∷ []) (g ∷ front) rest refl left (λ e. cc))

pub may_join : (allows : List ℕ → Type 0) (a b : Option (List ℕ)) (xs ys : List ℕ) → Appends a b xs → is_some b ≡ is_some a →
    MayTake allows a xs → MayTake allows b ys → MayTake allows a (xs ++ ys)
may_join allows None b xs ys h k may more bytes front rest known is some = cc
may_join allows (Some a) None xs ys h k may more bytes front rest known is some = absurd h
may_join allows (Some a) (Some b) xs ys h k may more bytes front rest known is some =
    may_join_known allows a xs ys may (subst (λ (v : List ℕ). MayTake allows (Some v) ys) h more) bytes front rest known is some
