-- Telling some of the untold actions, and then some more.
use Rattle.std.proofs.Common.{◌≡◌, ℕ, ◌≤◌, List, ◌++◌, [], ◌∷◌, Option, None, Some, Err, refl, sym, ap, ◌∙◌, arith, subst}
use Rattle.std.proofs.lemmas.Grind.{common_steps}
use Rattle.report_ports.specs.Ports.{Rose}
use Rattle.event_rules.specs.declared.change.Change.{Change}
use Rattle.event_rules.specs.declared.listener.Deaf.{Deaf}
use Rattle.event_rules.specs.Told.{Told, PrefixTold, AwaitsAll, CountsRefusal}
use Rattle.event_rules.proofs.Telling.{told_none, torn_next, prefix_longer, awaits_rest, next_awaited}
use Rattle.region_view.specs.declared.action.Action.{Action}
use Rattle.region_view.specs.declared.action.Action.TheVariants.{Cross, Hit}
use Rattle.cell_sequence.specs.Run.{hits}
use Rattle.cell_sequence.proofs.Joins.{hits_join}
use Rattle.commit_horizon.specs.Telling.{IsHitAwaited, HitRefused}
use Rattle.commit_horizon.specs.TellingOn.{TellsFirst, TellsHits, TellsTorn, TellsOn, AwaitsUntold}
use Rattle.commit_horizon.proofs.Tellings.{told_in_turn}

-- ---- lists
changes_joined : (xs ys rest old mid : List Change) → old ≡ xs ++ mid → mid ≡ ys ++ rest → old ≡ (xs ++ ys) ++ rest
changes_joined xs ys rest old mid a b = grind (arith, common_steps)

changes_appended : (xs ys : List Change) (c : Change) (rest old mid : List Change) → old ≡ xs ++ mid → mid ≡ ys ++ c ∷ rest →
    old ≡ (xs ++ ys) ++ c ∷ rest
changes_appended xs ys c rest old mid a b = grind (arith, common_steps)

all_gone : (old new : List Action) → new ≡ [] → old ≡ old ++ new
all_gone old new none = grind (arith, common_steps)

nothing_more : (xs : List Change) → xs ++ [] ≡ xs
nothing_more xs = grind (arith, common_steps)

-- if a collision is among the actions
split_at : (old : List Action) (before : List Change) (c : Change) (after : List Change) → hits old ≡ before ++ c ∷ after →
    (gone : List Action) × (rest : List Action) × (old ≡ gone ++ Hit c ∷ rest) × (hits gone ≡ before)
split_at [] [] c after is = let same : [] ≡ c ∷ after = is in absurd cc
split_at [] (b ∷ before) c after is = let same : [] ≡ b ∷ (before ++ c ∷ after) = is in absurd cc
split_at (Cross s cell ∷ xs) before c after is =
    let more = split_at xs before c after is in
    (Cross s cell ∷ more.0, more.1, ap (λ (v : List Action). Cross s cell ∷ v) more.2, more.3)
split_at (Hit change ∷ xs) [] c after is =
    let same : change ∷ hits xs ≡ c ∷ after = is in
    let first : change ≡ c = cc in
    ([], xs, ap (λ (v : Change). Hit v ∷ xs) first, refl)
split_at (Hit change ∷ xs) (b ∷ before) c after is =
    let same : change ∷ hits xs ≡ b ∷ (before ++ c ∷ after) = is in
    let first : change ≡ b = cc in
    let others : hits xs ≡ before ++ c ∷ after = cc in
    let more = split_at xs before c after others in (
      Hit change ∷ more.0,
      more.1,
      ap (λ (v : List Action). Hit change ∷ v) more.2,
      ap (λ (v : Change). v ∷ hits more.0) first ∙ ap (λ (v : List Change). b ∷ v) more.3,
    )

module _ {M : Type 0} (after : M → Change → M) where
  -- the first one is awaited
  pub one_awaited : (awaits : M → Change → Type 0) (x : Action) (old new : List Action) (m : Option M) → old ≡ x ∷ new →
      AwaitsAll after awaits m (hits old) → IsHitAwaited awaits m x
  one_awaited awaits x old new m is all = by_action x (subst (λ (v : List Action). AwaitsAll after awaits m (hits v)) is all)
    where
      by_action : (x : Action) → AwaitsAll after awaits m (hits (x ∷ new)) → IsHitAwaited awaits m x
      by_action (Cross s cell) all = tt
      by_action (Hit change) all = next_awaited after awaits m m [] change (hits new) (told_none after m) all

  -- ---- the collisions alone
  pub hits_none : (old : List Action) (m : Option M) (f : ℕ) → TellsHits after old m f old m f
  hits_none old m f = ([], refl, told_none after m, refl)

  pub hits_further : (old mid new : List Action) (m n o : Option M) (f g h : ℕ) →
      TellsHits after old m f mid n g → TellsHits after mid n g new o h → TellsHits after old m f new o h
  hits_further old mid new m n o f g h (xs, s, t, e) (ys, s', t', e') =
      (xs ++ ys, changes_joined xs ys (hits new) (hits old) (hits mid) s s', told_in_turn after m n o xs ys t t', e' ∙ e)

  -- one action was told, and crossings were passed
  pub one_hit_told : (x : Action) (old new : List Action) (m n : Option M) (f g : ℕ) →
      hits old ≡ hits (x ∷ []) ++ hits new → Told after m (hits (x ∷ [])) n → g ≡ f → TellsHits after old m f new n g
  one_hit_told x old new m n f g is t e = (hits (x ∷ []), is, t, e)

  pub hits_awaited : (awaits : M → Change → Type 0) (old new : List Action) (m n : Option M) (f g : ℕ) →
      TellsHits after old m f new n g → AwaitsAll after awaits m (hits old) → AwaitsAll after awaits n (hits new)
  hits_awaited awaits old new m n f g (xs, s, t, e) all = awaits_rest after awaits m n xs (hits new) t
      (subst (λ (v : List Change). AwaitsAll after awaits m v) s all)

  -- if nothing is left, all was told
  pub all_hits_told : (old new : List Action) (m n : Option M) (f g : ℕ) → TellsHits after old m f new n g → new ≡ [] →
      TellsFirst after old m f new n g
  all_hits_told old new m n f g (xs, s, t, e) none = (
    old,
    all_gone old new none,
    subst (λ (v : List Change). Told after m v n) (sym (s ∙ ap (λ (v : List Action). xs ++ hits v) none ∙ nothing_more xs)) t,
    e,
  )

  module _ (torn : M → Change → M → Type 0) where
    -- after some collisions the next one was refused
    pub torn_after : (old mid : List Action) (m n o : Option M) (f g h : ℕ) →
        TellsHits after old m f mid n g → TellsTorn after torn mid n g o h → TellsTorn after torn old m f o h
    torn_after old mid m n o f g h (xs, s, t, e) (ys, change, rest, s', (mid', t', r), le, rose) =
        let split = split_at old (xs ++ hits ys) change (hits rest)
        (changes_appended xs (hits ys) change (hits rest) (hits old) (hits mid) s
        (ap hits s' ∙ hits_join ys (Hit change ∷ rest))) in (
          split.0,
          change,
          split.1,
          split.2,
          (
            mid',
            subst (λ (v : List Change). Told after m v mid') (sym split.3)
                (told_in_turn after m n mid' xs (hits ys) t t'),
            r,
          ),
          subst (λ (v : ℕ). v ≤ h) e le,
          subst (λ (v : ℕ). Rose v h) e rose,
        )

    -- the first one was refused
    pub one_refused : (x : Action) (old new : List Action) (m n : Option M) (f g : ℕ) (deaf : Deaf) → old ≡ x ∷ new →
        HitRefused torn m x n → CountsRefusal f g (Err deaf) → TellsTorn after torn old m f n g
    one_refused (Cross s cell) old new m n f g deaf is refused counts = absurd refused
    one_refused (Hit change) old new m n f g deaf is refused counts =
        ([], change, new, is, (m, told_none after m, refused), counts.0, counts.1)

    -- a prefix of the collisions was told, and perhaps the next one was refused
    pub torn_prefix : (old : List Action) (m n : Option M) (f g : ℕ) → TellsTorn after torn old m f n g →
        PrefixTold after torn m (hits old) n
    torn_prefix old m n f g (xs, change, rest, s, (mid, t, r), le, rose) =
        subst (λ (v : List Change). PrefixTold after torn m v n)
        (sym (ap hits s ∙ ap hits (sym (again xs (Hit change) rest)) ∙ hits_join (xs ++ Hit change ∷ []) rest
        ∙ ap (λ (v : List Change). v ++ hits rest) (hits_join xs (Hit change ∷ []))))
        (prefix_longer after torn m n (hits xs ++ change ∷ []) (hits rest) (torn_next after torn m mid n (hits xs) change t r))
      where
        again : (xs : List Action) (x : Action) (rest : List Action) → (xs ++ x ∷ []) ++ rest ≡ xs ++ x ∷ rest
        again xs x rest = grind (arith, common_steps)

    -- ---- a kept refusal
    pub tells_none : (old : List Action) (fault : Option Deaf) (m : Option M) (f : ℕ) →
        TellsOn after torn old fault m f old fault m f
    tells_none old None m f = hits_none old m f
    tells_none old (Some deaf) m f = (refl, refl)

    pub tells_further : (old mid new : List Action) (a b c : Option Deaf) (m n o : Option M) (f g h : ℕ) →
        TellsOn after torn old a m f mid b n g → TellsOn after torn mid b n g new c o h →
        TellsOn after torn old a m f new c o h
    tells_further old mid new None None None m n o f g h p q = hits_further old mid new m n o f g h p q
    tells_further old mid new None None (Some d) m n o f g h p q = torn_after old mid m n o f g h p q
    tells_further old mid new None (Some d) None m n o f g h p q = absurd q
    tells_further old mid new None (Some d) (Some k) m n o f g h p q =
        subst (λ (v : Option M). TellsTorn after torn old m f v h) (sym q.0)
        (subst (λ (v : ℕ). TellsTorn after torn old m f n v) (sym q.1) p)
    tells_further old mid new (Some d) None c m n o f g h p q = absurd p
    tells_further old mid new (Some d) (Some k) None m n o f g h p q = absurd q
    tells_further old mid new (Some d) (Some k) (Some j) m n o f g h p q = (q.0 ∙ p.0, q.1 ∙ p.1)

    -- what is left is awaited still
    pub still_awaited : (awaits : M → Change → Type 0) (old new : List Action) (a b : Option Deaf) (m n : Option M)
        (f g : ℕ) → AwaitsUntold after awaits old a m → TellsOn after torn old a m f new b n g →
        AwaitsUntold after awaits new b n
    still_awaited awaits old new None None m n f g all p = hits_awaited awaits old new m n f g p all
    still_awaited awaits old new None (Some d) m n f g all p = tt
    still_awaited awaits old new (Some d) None m n f g all p = absurd p
    still_awaited awaits old new (Some d) (Some k) m n f g all p = tt
