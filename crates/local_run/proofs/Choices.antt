-- The move that is due, given the least native candidate and the first messages.
use Rattle.std.proofs.Common.{◌≡◌, ◌≢◌, inl, inr, ℕ, List, ◌∷◌, sym, subst, refl}
use Rattle.event_stamps.specs.declared.Stamp.{Stamp}
use Rattle.region_view.specs.declared.rows.Message.{Message}
use Rattle.region_messages.specs.Trails.{IsAmong}
use Rattle.local_run.specs.declared.home.Home.{Home}
use Rattle.local_run.specs.LocalRun.{At, trail_of, IsWaiting, IsOwn, IsDue}
use Rattle.local_run.specs.LocalRun.{IsHeardMove}
use Rattle.local_run.specs.Answers.{IsShared}
use Rattle.local_run.proofs.Among.{AllRise}
use Rattle.local_run.proofs.Heads.{NoHeadBefore, only_of_heads}

-- ---- what is due
-- ---- the move
-- the first message of a region that has the due stamp, if no other region's has it
pub heard_is_move : (h : Home) (a : At) (q : ℕ) (m : Message) (rest : List Message) →
    AllRise a.waiting → IsDue h a m.stamp → trail_of a.waiting q ≡ m ∷ rest →
    ¬ IsOwn h a.view m.stamp → NoHeadBefore a.waiting m.stamp →
    ((r : ℕ) (n : Message) (more : List Message) → trail_of a.waiting r ≡ n ∷ more →
    n.stamp ≡ m.stamp → r ≡ q) → IsHeardMove h a q m
heard_is_move h a q m rest rise due first alone heads only = record {
  due = due;
  first = (rest, first);
  alone = alone;
  only = only_of_heads a.waiting q m.stamp rise heads only;
}

-- ---- stamps that are shared
pub heads_are_shared : (h : Home) (a : At) (q r : ℕ) (m n : Message) (rest more : List Message) →
    q ≢ r → trail_of a.waiting q ≡ m ∷ rest → trail_of a.waiting r ≡ n ∷ more → m.stamp ≡ n.stamp →
    IsShared h a m.stamp
heads_are_shared h a q r m n rest more other first second same = inr (
  q,
  r,
  m,
  n,
  other,
  subst (IsAmong m) (sym first) (inl refl),
  subst (IsAmong n) (sym second) (inl refl),
  refl,
  sym same,
)

waits_at : (a : At) (q : ℕ) (m : Message) (s : Stamp) → IsAmong m (trail_of a.waiting q) →
    m.stamp ≡ s → IsWaiting a.waiting s
unfolding IsWaiting
waits_at a q m s among is = (q, m, among, is)

-- no stamp at which no message waits is shared
pub not_shared : (h : Home) (a : At) (s : Stamp) → ¬ IsWaiting a.waiting s → ¬ IsShared h a s
not_shared h a s alone (inl both) = alone both.1
not_shared h a s alone (inr (q, r, m, n, other, first, second, is, also)) =
    alone (waits_at a q m s first is)
