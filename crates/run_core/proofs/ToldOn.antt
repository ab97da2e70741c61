-- What was told of the untold actions, beside a burst and after it.
use Rattle.std.proofs.Common.{◌≡◌, Err, ℕ, List, [], ◌++◌, append-nil, take, sym, ap, ◌∙◌, subst}
use Rattle.std.proofs.Common.{Option, Some, None}
use Rattle.event_rules.specs.declared.change.Change.{Change}
use Rattle.event_rules.specs.declared.listener.Deaf.{Deaf}
use Rattle.event_rules.specs.declared.outcome.RunFault.TheVariants.{Listener, NoMemory}
use Rattle.event_rules.specs.Tellings.{CountsRun}
use Rattle.event_rules.specs.Told.{Told, AwaitsAll}
use Rattle.event_rules.proofs.Telling.{all_told, whole_longer}
use Rattle.region_view.specs.declared.action.Action.{Action}
use Rattle.cell_sequence.specs.Run.{hits}
use Rattle.commit_horizon.specs.Telling.{HitsCutShort}
use Rattle.commit_horizon.specs.TellingOn.{TellsHits, TellsTorn, TellsOn, AwaitsUntold}

-- if no refusal is kept, what is untold has to be awaited
pub fits_unheard : {M : Type 0} (after : M → Change → M) (awaits : M → Change → Type 0) (untold : List Action)
    (fault : Option Deaf) (m : Option M) → fault ≡ None → AwaitsAll after awaits m (hits untold) →
    AwaitsUntold after awaits untold fault m
fits_unheard after awaits untold None m heard each = each
fits_unheard after awaits untold (Some deaf) m heard each = tt

module _ {M : Type 0} (after : M → Change → M) (torn : M → Change → M → Type 0) where
  -- ---- the first of some collisions
  -- all, if none is left
  pub hits_all : (old new : List Action) (m n : Option M) (f g : ℕ) → TellsHits after old m f new n g → new ≡ [] →
      Told after m (hits old) n
  hits_all old new m n f g (gone, is, told, count) none =
      subst (λ (v : List Change). Told after m v n)
      (sym (is ∙ ap (λ (v : List Action). gone ++ hits v) none ∙ append-nil gone)) told

  -- or exactly a prefix
  pub hits_cut : (old new : List Action) (m n : Option M) (f g : ℕ) → TellsHits after old m f new n g →
      HitsCutShort after torn old NoMemory m n
  hits_cut old new m n f g (gone, is, told, count) =
      let part = all_told after m n gone told in
      subst (λ (v : List Change). (k : ℕ) × Told after m (take k v) n) (sym is)
      (whole_longer after m n gone (hits new) part.0 part.1)

  -- ---- a refusal
  pub torn_counts : (T : Type 0) (old : List Action) (m n : Option M) (f g : ℕ) →
      TellsTorn after torn old m f n g → CountsRun {T = T} f g (Err Listener)
  torn_counts T old m n f g (gone, change, rest, is, refused, le, rose) = (le, rose)

  -- ---- with a refusal that is kept, or none
  module _ (old new : List Action) (before kept : Option Deaf) (m n : Option M) (f g : ℕ)
      (on : TellsOn after torn old before m f new kept n g) (heard : before ≡ None) where
    unheard : TellsOn after torn old None m f new kept n g
    unheard = subst (λ (v : Option Deaf). TellsOn after torn old v m f new kept n g) heard on

    pub hits_on : kept ≡ None → TellsHits after old m f new n g
    hits_on none = subst (λ (v : Option Deaf). TellsOn after torn old None m f new v n g) none unheard

    pub torn_on : (deaf : Deaf) → kept ≡ Some deaf → TellsTorn after torn old m f n g
    torn_on deaf some = subst (λ (v : Option Deaf). TellsOn after torn old None m f new v n g) some unheard
