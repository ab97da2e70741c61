-- What a watched listener has published that was told a run.
use Rattle.std.proofs.Common.{◌≡◌, inl, inr, true, false, true≢false, ℕ, ◌+◌, ◌≤◌, max, List, [], ◌∷◌, ◌++◌, take, drop, Option, Some, None, Result, Ok, Err, OnOk, sym, ap, subst, refl, ◌∙◌, append_assoc, append-nil, arith}
use Rattle.std.specs.Prelude.{fold, ⊤, is_some}
use Rattle.std.proofs.lemmas.List.{take-append-drop}
use Rattle.std.proofs.lemmas.List.Sums.{fold-append}
use Rattle.fixed_motion.specs.Scene.{SceneData, IsValidScene}
use Rattle.event_stamps.specs.declared.Stamp.{Stamp}
use Rattle.event_stamps.specs.Order.{Before, first_stamp}
use Rattle.event_stamps.proofs.StampOrder.{before_trans, not_before_itself, tick_not_after}
use Rattle.event_rules.specs.declared.change.Change.{Change}
use Rattle.event_rules.specs.declared.outcome.Outcome.{Outcome}
use Rattle.event_rules.specs.declared.listener.Deaf.{Deaf}
use Rattle.event_rules.specs.Laws.{StampsRiseAfter, stamps_of}
use Rattle.event_rules.specs.Run.{IsRun}
use Rattle.event_rules.specs.Told.{told, Told, Torn, PrefixTold, IsAwaited, AreAwaited, AwaitsAll}
use Rattle.event_rules.proofs.Rise.{stamps_rise}
use Rattle.live_progress.specs.declared.board.Progress.{Progress}
use Rattle.live_progress.specs.Lists.{progress, last_of, StartsWith}
use Rattle.live_progress.specs.Watching.{SoFar, counted_event, next_of, published, within, with_published, IsTorn, IsAwaitedWithin, pairs_from, pairs_of}
use Rattle.live_progress.proofs.Moves.{last_from-push}

-- ---- the ticks of a run
tick_le : (s t : Stamp) → Before s t → s.tick ≤ t.tick
tick_le s t h = tick_not_after s t (λ back. not_before_itself s (before_trans s t s h back))

-- from a tick on the ticks of the changes don't fall
abbrev Ascends : ℕ → List Change → Type 0
Ascends from [] = ⊤
Ascends from (c ∷ cs) = (from ≤ c.stamp.tick) × Ascends c.stamp.tick cs

ascends : (s : Stamp) (changes : List Change) (outcome : Outcome) → StampsRiseAfter s (stamps_of changes outcome) → Ascends s.tick changes
ascends s [] outcome h = tt
ascends s (c ∷ cs) outcome h = (tick_le s c.stamp h.0, ascends c.stamp cs outcome h.1)

ascends_so_far : (from : ℕ) (xs ys : List Change) → Ascends from (xs ++ ys) → Ascends from xs
ascends_so_far from [] ys h = tt
ascends_so_far from (x ∷ xs) ys h = (h.0, ascends_so_far x.stamp.tick xs ys h.1)

run_ascends : (scene : SceneData) (changes : List Change) (outcome : Outcome) → IsValidScene scene → IsRun scene changes outcome → Ascends 0 changes
run_ascends scene changes outcome valid run = ascends first_stamp changes outcome (stamps_rise scene changes outcome valid run).0

-- ---- the pairs of changes
counted_next : (n : ℕ) → counted_event (counted_event n + 1) ≡ counted_event (n + 1)
counted_next n = omega arith

later_tick : (a b : ℕ) → a ≤ b → max a b ≡ b
later_tick a b h = omega arith

pairs_published : (n from : ℕ) (list : List Progress) (changes : List Change) → last_of list ≡ progress (counted_event n) from → Ascends from changes →
    fold published list changes ≡ list ++ pairs_from n changes
pairs_published n from list [] last h = sym (append-nil list)
pairs_published n from list (c ∷ cs) last h =
    let p : Progress = progress (counted_event (n + 1)) c.stamp.tick in
    let next : next_of (last_of list) c ≡ p =
    ap (λ (q : Progress). next_of q c) last ∙ (λ i. progress (counted_next n i) (later_tick from c.stamp.tick h.0 i)) in
    let more : published list c ≡ list ++ p ∷ [] = ap (λ (q : Progress). list ++ q ∷ []) next in
    ap (λ (l : List Progress). fold published l cs) more
    ∙ pairs_published (n + 1) c.stamp.tick (list ++ p ∷ []) cs (last_from-push (progress 0 0) list p) h.1
    ∙ append_assoc list (p ∷ []) (pairs_from (n + 1) cs)

pairs_begin : (n : ℕ) (xs ys : List Change) → StartsWith (pairs_from n (xs ++ ys)) (pairs_from n xs)
pairs_begin n [] ys = (pairs_from n ys, refl)
pairs_begin n (x ∷ xs) ys =
    let rest = pairs_begin (n + 1) xs ys in
    (rest.0, ap (λ (l : List Progress). progress (counted_event (n + 1)) x.stamp.tick ∷ l) rest.1)

-- a listener that was told a run has published its pairs
run_published : (scene : SceneData) (changes : List Change) (outcome : Outcome) → IsValidScene scene → IsRun scene changes outcome →
    fold published [] changes ≡ pairs_of changes
run_published scene changes outcome valid run = pairs_published 0 0 [] changes refl (run_ascends scene changes outcome valid run)

-- and one that was told a prefix of it has published a prefix of them
run_so_far : (scene : SceneData) (changes : List Change) (outcome : Outcome) (xs ys : List Change) → IsValidScene scene → IsRun scene changes outcome →
    changes ≡ xs ++ ys → StartsWith (pairs_of changes) (fold published [] xs)
run_so_far scene changes outcome xs ys valid run e =
    let rising = ascends_so_far 0 xs ys (subst (Ascends 0) e (run_ascends scene changes outcome valid run)) in
    let begin = pairs_begin 0 xs ys in (
      begin.0,
      ap pairs_of e ∙ begin.1 ∙ ap (λ (l : List Progress). l ++ begin.0) (sym (pairs_published 0 0 [] xs refl rising)),
    )

-- ---- the listener within
-- it is told what it awaits, if it tells its meaning
told_within : {M : Type 0} (after : M → Change → M) (inner : Option M) (changes : List Change) (new : Option M) →
    new ≡ told (within after) inner changes → Told after inner changes new
told_within after None changes new h = tt
told_within {M} after (Some m) changes new h = subst (Told after (Some m) changes) (sym (h ∙ each m changes)) refl
  where
    each : (m : M) (changes : List Change) → told (within after) (Some m) changes ≡ Some (told after m changes)
    each m [] = refl
    each m (c ∷ cs) = each (after m c) cs

-- if it tells a meaning after a change if and only if it did before, that is the meaning that it is to have
one_within : {M : Type 0} (after : M → Change → M) (old : Option M) (change : Change) (new : Option M) →
    is_some new ≡ is_some old → Told after old (change ∷ []) new → new ≡ within after old change
one_within after None change None alike told = refl
one_within after None change (Some n) alike told = absurd (true≢false alike)
one_within after (Some m) change None alike told = absurd told
one_within after (Some m) change (Some n) alike told = ap Some told

-- so a change that was told was published and told
pub one_told : {M : Type 0} (after : M → Change → M) (m n : SoFar M) (change : Change) (answer : Result (Unit {0}) Deaf) →
    n.loan ≡ m.loan → n.board ≡ m.board → n.list ≡ published m.list change → is_some n.inner ≡ is_some m.inner →
    OnOk answer (Told after m.inner (change ∷ []) n.inner) → OnOk answer (n ≡ with_published after m change)
one_told after m n change (Ok done) loan board list alike told =
    let inner = one_within after m.inner change n.inner alike told in
    λ i. record { loan = loan i; board = board i; list = list i; inner = inner i }
one_told after m n change (Err deaf) loan board list alike told = tt

-- ---- the parts of a telling
parts : {M : Type 0} (after : M → Change → M) (m : SoFar M) (changes : List Change) →
    told (with_published after) m changes ≡ record { loan = m.loan; board = m.board; list = fold published m.list changes; inner = told (within after) m.inner changes }
parts after m [] = refl
parts after m (c ∷ cs) = parts after (with_published after m c) cs

-- a telling that broke off: the loan is kept, some changes were published, and the same is told of the listener within
record BrokeOff {M : Type 0} (after : M → Change → M) (torn : M → Change → M → Type 0) (m : SoFar M) (changes : List Change) (n : SoFar M) : Type 0 where
  pub loan : n.loan ≡ m.loan
  pub board : n.board ≡ m.board
  pub list : (xs : List Change) × (ys : List Change) × (changes ≡ xs ++ ys) × (n.list ≡ fold published m.list xs)
  pub inner : PrefixTold after torn m.inner changes n.inner

broke_off : {M : Type 0} (after : M → Change → M) (torn : M → Change → M → Type 0) (m : SoFar M) (changes : List Change) (n : SoFar M) →
    PrefixTold (with_published after) (IsTorn torn) (Some m) changes (Some n) → BrokeOff after torn m changes n
broke_off {M} after torn m changes n (k, h) = elim h [
  | inl all ↦
      let same = all ∙ parts after m (take k changes) in record {
        loan = ap (λ (v : SoFar M). v.loan) same;
        board = ap (λ (v : SoFar M). v.board) same;
        list = (take k changes, drop k changes, sym (take-append-drop k changes), ap (λ (v : SoFar M). v.list) same);
        inner = (k, inl (told_within after m.inner (take k changes) n.inner (ap (λ (v : SoFar M). v.inner) same)));
      }
  | inr torn ↦ at_torn torn.0 torn.1 torn.2 torn.3 torn.4 torn.5
]
  where
    at_torn : (mid : Option (SoFar M)) (c : Change) (rest : List Change) → drop k changes ≡ c ∷ rest →
        Told (with_published after) (Some m) (take k changes) mid → Torn (IsTorn torn) mid c (Some n) → BrokeOff after torn m changes n
    at_torn None c rest e first last = absurd first
    at_torn (Some mid) c rest e first last =
        let same = first ∙ parts after m (take k changes) in
        let done = take k changes in record {
          loan = last.0 ∙ ap (λ (v : SoFar M). v.loan) same;
          board = last.1 ∙ ap (λ (v : SoFar M). v.board) same;
          list = (
            done ++ c ∷ [],
            rest,
            sym (take-append-drop k changes) ∙ ap (λ (l : List Change). done ++ l) e ∙ sym (append_assoc done (c ∷ []) rest),
            last.2 ∙ ap (λ (v : SoFar M). published v.list c) same ∙ sym (fold-append published m.list done (c ∷ [])),
          );
          inner = (k, inr (mid.inner, c, rest, e, told_within after m.inner done mid.inner (ap (λ (v : SoFar M). v.inner) same), last.3));
        }

-- ---- what was told of a run
-- all of it was told to a listener that had published nothing: its pairs are published, and the loan and the board are kept
pub record RunWatched {M : Type 0} (after : M → Change → M) (m : SoFar M) (changes : List Change) (n : SoFar M) : Type 0 where
  pub loan : n.loan ≡ m.loan
  pub board : n.board ≡ m.board
  pub list : n.list ≡ pairs_of changes
  pub inner : Told after m.inner changes n.inner

pub run_watched : {M : Type 0} (after : M → Change → M) (scene : SceneData) (changes : List Change) (outcome : Outcome) (m n : SoFar M) →
    IsValidScene scene → IsRun scene changes outcome → m.list ≡ [] → n ≡ told (with_published after) m changes → RunWatched after m changes n
run_watched {M} after scene changes outcome m n valid run none h =
    let same = h ∙ parts after m changes in record {
      loan = ap (λ (v : SoFar M). v.loan) same;
      board = ap (λ (v : SoFar M). v.board) same;
      list = ap (λ (v : SoFar M). v.list) same ∙ ap (λ (l : List Progress). fold published l changes) none
          ∙ run_published scene changes outcome valid run;
      inner = told_within after m.inner changes n.inner (ap (λ (v : SoFar M). v.inner) same);
    }

-- the telling broke off: a prefix of its pairs is published
pub record CutWatched {M : Type 0} (after : M → Change → M) (torn : M → Change → M → Type 0) (m : SoFar M) (changes : List Change) (n : SoFar M) : Type 0 where
  pub loan : n.loan ≡ m.loan
  pub board : n.board ≡ m.board
  pub list : StartsWith (pairs_of changes) n.list
  pub inner : PrefixTold after torn m.inner changes n.inner

pub cut_watched : {M : Type 0} (after : M → Change → M) (torn : M → Change → M → Type 0) (scene : SceneData) (changes : List Change) (outcome : Outcome)
    (m n : SoFar M) → IsValidScene scene → IsRun scene changes outcome → m.list ≡ [] →
    PrefixTold (with_published after) (IsTorn torn) (Some m) changes (Some n) → CutWatched after torn m changes n
cut_watched after torn scene changes outcome m n valid run none h =
    let cut = broke_off after torn m changes n h in
    let xs = cut.list.0 in record {
      loan = cut.loan;
      board = cut.board;
      list = subst (StartsWith (pairs_of changes)) (sym (cut.list.3 ∙ ap (λ (l : List Progress). fold published l xs) none))
          (run_so_far scene changes outcome xs cut.list.1 valid run cut.list.2);
      inner = cut.inner;
    }

-- ---- what is awaited
-- by the one within, and so by the one that is watched
pub watched_awaits : {M : Type 0} (after : M → Change → M) (awaits : M → Change → Type 0) (m : SoFar M)
    (changes : List Change) → AwaitsAll after awaits m.inner changes →
    AreAwaited (with_published after) (IsAwaitedWithin awaits) m changes
watched_awaits after awaits m [] each = tt
watched_awaits {M} after awaits m (c ∷ cs) each =
    (first m.inner each, watched_awaits after awaits (with_published after m c) cs (later m.inner each))
  where
    first : (inner : Option M) → AwaitsAll after awaits inner (c ∷ cs) → IsAwaited awaits inner c
    first None each = tt
    first (Some m) each = each.0

    later : (inner : Option M) → AwaitsAll after awaits inner (c ∷ cs) → AwaitsAll after awaits (within after inner c) cs
    later None each = each
    later (Some m) each = each.1
