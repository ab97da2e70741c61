-- Each step keeps the rule.
use Rattle.std.proofs.Common.{◌≡◌, ◌≢◌, ℕ, ◌+◌, ◌-◌, ◌*◌, ◌%◌, ◌^◌, ◌<◌, ◌≤◌, List, ◌∷◌, length, get_or, set, true, false, true≢false, refl, sym, ap, ◌∙◌, subst, inl, inr, ⊎_elim, eqb, ◌&&◌, not, arith, length-set, get_or-set_same}
use Rattle.std.specs.Prelude.{All, Bool, Some, slice_index, bit_or, bit_and, ◌==◌}
use Rattle.std.proofs.lemmas.Nat.{and_mask}
use Rattle.std.specs.Int.Bits.{or_add_and}
use Rattle.std.proofs.lemmas.List.Elements.{All-cons, All-head, All-filter}
use Rattle.std.proofs.lemmas.Bool.{or_cases, eq-eqb}
use mathlib.Core.Option.{Option, none, some}
use mathlib.Core.Logic.{dite}
use native.Mathlib.Decide.{ℕ_discrete}
use lib.ListN.{get_elem?}
use lib.Seq.{set-get_or}
use Rattle.atomic_table.specs.Table.{State, Me, Act, step, keeps, takes, gives, stepped, Valid, Allows, carried_after, rest}
use Rattle.atomic_table.proofs.Lists.{at_set, set_here, set_else}
use Rattle.local_run.specs.Opening.{RegionData}
use Rattle.region_table.specs.declared.rule.Sight.{Sight}
use Rattle.region_table.specs.declared.rule.Hold.{Hold}
use Rattle.region_table.specs.declared.rule.Note.{Note}
use Rattle.region_table.specs.declared.rule.TableView.{TableView}
use Rattle.region_table.specs.Bases.{MayLieIn, count_of, CountsAsOpened}
use Rattle.region_table.specs.Rule.{Content, version_of, last_version, no_view, is_held, is_noted, without, seeing, holding, putting, undoing, Tells, IsOut, KnowsNoLater, Kept, IsNotBeforeKnown, count_next, Taken, Put, Undone}
use Rattle.region_table.proofs.Held.{or_left, or_right, eqb_same, held_at, out_else, without_none, without_held, without_other}
use Rattle.region_table.proofs.Parts.{set_there, moved, both_true}
use Rattle.region_table.proofs.Keeps.{past_up, nobody, step_kept}

or_one_even : (n : ℕ) → n % 2 ≡ 0 → bit_or n 1 ≡ n + 1
or_one_even n even = let a : bit_and n 1 ≡ n % 2 = and_mask n 1 in let b : bit_or n 1 + bit_and n 1 ≡ n + 1 = or_add_and n 1 in omega arith

or_one_odd : (n : ℕ) → n % 2 ≢ 0 → bit_or n 1 ≡ n
or_one_odd n odd = let a : bit_and n 1 ≡ n % 2 = and_mask n 1 in let b : bit_or n 1 + bit_and n 1 ≡ n + 1 = or_add_and n 1 in omega arith

-- what the rule says of a seat's own view, at the word that it finds
not_before : (opened : List RegionData) (s : State Content TableView) (k id : ℕ) (v : TableView) → Kept opened s → get_elem? s.views id ≡ some v → IsNotBeforeKnown v k (slice_index s.words k)
not_before opened s k id v r at = let p = r.past id v at in record {
  notes = λ a d l same. subst (λ (z : ℕ). (get_or v.notes a d).version ≤ version_of (slice_index s.words z)) same (p.notes a d l);
  seen = λ a d l same. subst (λ (z : ℕ). version_of (get_or v.seen a d).word ≤ version_of (slice_index s.words z)) same (p.seen a d l);
}

-- a seat that knows the regions of the table, or holds a slot, wasn't joined to another
live_by_regions : (opened : List RegionData) (v : TableView) (k : ℕ) → v.opened ≡ opened → k < length opened → v ≢ no_view
live_by_regions opened v k mine within e =
    let a : length v.opened ≡ 0 = ap (λ (z : TableView). length z.opened) e in
    let b : length v.opened ≡ length opened = ap length mine in
    absurd (omega (arith, a, b, within))

live_by_held : (v : TableView) (k : ℕ) → is_held k v.held ≡ true → v ≢ no_view
live_by_held v k has e = true≢false (sym has ∙ ap (λ (z : TableView). is_held k z.held) e)

-- one more sight
sees : (words : List ℕ) (k n : ℕ) (v : TableView) → KnowsNoLater words v → version_of n ≤ version_of (slice_index words k) → KnowsNoLater words (seeing v k n)
sees words k n v p le = record { notes = p.notes; seen = All-cons (λ (s : Sight). version_of s.word ≤ version_of (slice_index words s.slot)) (record { slot = k; word = n }) v.seen le p.seen }

pub take_allowed : (opened : List RegionData) (slots id k : ℕ) (me : Me Content TableView) → k < slots → slots ≡ length opened → me.0.opened ≡ opened
    → Allows (Kept opened) slots id me k (λ n. bit_or n 1) (Taken (step slots k 1 0 none) me)
take_allowed opened slots id k me inside count mine s r wide at fits =
    dite (ℕ_discrete (get_or s.words k 0 % 2) 0) taken missed
  where
    n : ℕ
    n = get_or s.words k 0

    Goal : Type 0
    Goal = (w : TableView) × (a : Act Content) × Valid s.homes me.1 a × Kept opened (stepped s k (bit_or n 1) id me.1 w a) × Taken (step slots k 1 0 none) me n (w, carried_after me.1 a)

    within : k < length opened
    within = omega arith

    inside_words : k < length s.words
    inside_words = let a = r.words in omega arith

    below : n < 2 ^ 64
    below = fits

    missed : n % 2 ≢ 0 → Goal
    missed odd =
        let same : set s.words k (bit_or n 1) ≡ s.words = ap (set s.words k) (or_one_odd n odd) ∙ set-get_or s.words k 0 in
        let w : TableView = seeing me.0 k n in (
          w,
          keeps,
          tt,
          step_kept opened s k id (bit_or n 1) me.0 w s.homes r within at
              (omega (arith, or_one_odd n odd))
              refl
              (λ j other. refl)
              (λ even. absurd (odd (ap (λ (z : ℕ). z % 2) (sym (or_one_odd n odd)) ∙ even)))
              (λ _. r.out k within odd)
              (λ j version region other t. t)
              (subst (λ (ws : List ℕ). All (IsOut ws) me.0.held) (sym same) (r.held id me.0 at))
              (λ i u other e. subst (λ (ws : List ℕ). All (IsOut ws) u.held) (sym same) (r.held i u e))
              (λ j h. inl h)
              (subst (λ (ws : List ℕ). KnowsNoLater ws w) (sym same) (sees s.words k n me.0 (r.past id me.0 at) (omega arith)))
              (live_by_regions opened me.0 k mine within, refl)
              (λ j other h. h)
              (λ _.
              let o = r.owner k within odd in
              let m = moved s.views id me.0 w (λ (u : TableView). is_held k u.held ≡ true) at (λ h. h) o.0 o.1 o.2 o.3 in
              (o.0, m.0, m.1, m.2))
              (λ j version t. t)
              (inl (ap version_of (or_one_odd n odd))),
          record {
            fits = below;
            later = not_before opened s k id me.0 r at;
            home = λ even. absurd (odd even);
            away = λ _. refl;
          },
        )

    taken : n % 2 ≡ 0 → Goal
    taken even =
        let y = r.home k within even in
        let w : TableView = holding me.0 k n in
        let n' : ℕ = bit_or n 1 in
        let up : n' ≡ n + 1 = or_one_even n even in
        let free = nobody opened s r k even in
        let now : slice_index (set s.words k n') k ≡ n' = get_or-set_same s.words k n' 0 inside_words in
        let h : Hold = record { slot = k; version = version_of n } in (
          w,
          takes k (Some y.0),
          y.1,
          step_kept opened s k id n' me.0 w (set s.homes k none) r within at
              (omega (arith, up))
              (length-set s.homes k none)
              (λ j other. set_else s.homes k j none other)
              (λ e. let e' : n' % 2 ≡ 0 = e in absurd (omega (arith, up, e')))
              (λ _. set_here s.homes k none (omega arith))
              (λ j version region other t. t)
              (All-cons (IsOut (set s.words k n')) h me.0.held
              (subst (λ (z : ℕ). k < z) (sym (length-set s.words k n')) inside_words, now ∙ omega (arith, up))
              (out_else s.words k n' me.0.held (r.held id me.0 at) (free id me.0 at)))
              (λ i u other e. out_else s.words k n' u.held (r.held i u e) (free i u e))
              (λ j held. ⊎_elim
              (λ (x : eqb j k ≡ true). inr (λ i u e. ap (λ (z : ℕ). is_held z u.held) (eqb_same j k x) ∙ free i u e))
              (λ (x : is_held j me.0.held ≡ true). inl x)
              (or_cases (eqb j k) (is_held j me.0.held) held))
              (record {
                notes = (past_up s.words k n' me.0 inside_words (omega (arith, up)) (r.past id me.0 at)).notes;
                seen = All-cons (λ (z : Sight). version_of z.word ≤ version_of (slice_index (set s.words k n') z.slot)) (record { slot = k; word = n }) me.0.seen
                    (subst (λ (z : ℕ). version_of n ≤ version_of z) (sym now) (omega (arith, up)))
                    (past_up s.words k n' me.0 inside_words (omega (arith, up)) (r.past id me.0 at)).seen;
              })
              (live_by_regions opened me.0 k mine within, refl)
              (λ j other t. or_right (eqb j k) (is_held j me.0.held) t)
              (λ _. (id, w, set_there s.views id me.0 w at, or_left (eqb k k) (is_held k me.0.held) (eq-eqb k k refl)))
              (λ j version t. t)
              (inl (omega (arith, up))),
          record {
            fits = below;
            later = not_before opened s k id me.0 r at;
            home = λ _. (
              y.0,
              refl,
              record {
                lies = subst (λ (o : List RegionData). MayLieIn o k y.0) (sym mine) y.2.lies;
                at_first = λ e. subst (λ (o : List RegionData). CountsAsOpened o k y.0) (sym mine) (y.2.at_first e);
                noted = y.2.noted id me.0 at;
              },
            );
            away = λ odd. absurd (odd even);
          },
        )

-- the word of a slot that the seat holds
held_word : (opened : List RegionData) (s : State Content TableView) (k id : ℕ) (v : TableView) → Kept opened s → get_elem? s.views id ≡ some v → is_held k v.held ≡ true
    → All (λ (h : Hold). h.version < last_version) v.held
    → (version : ℕ) × (slice_index s.words k ≡ 2 * version + 1) × (version < last_version)
held_word opened s k id v r at has few =
    let h = held_at k (λ (z : Hold). IsOut s.words z × (z.version < last_version)) v.held has (λ a d l. (r.held id v at a d l, few a d l)) in
    (h.0.version, ap (λ (z : ℕ). slice_index s.words z) (sym h.1) ∙ h.2.0.1, h.2.1)

-- others don't hold what the seat holds
others_free : (opened : List RegionData) (s : State Content TableView) (k id n : ℕ) (v : TableView) → Kept opened s → get_elem? s.views id ≡ some v → is_held k v.held ≡ true
    → (i : ℕ) (u : TableView) → i ≢ id → get_elem? s.views i ≡ some u → All (IsOut (set s.words k n)) u.held
others_free opened s k id n v r at has i u other e = by_test (is_held k u.held) refl
  where
    by_test : (b : Bool) → is_held k u.held ≡ b → All (IsOut (set s.words k n)) u.held
    by_test false t = out_else s.words k n u.held (r.held i u e) t
    by_test true t = absurd (other (r.one i id u v k e at t has))

pub put_allowed : (opened : List RegionData) (slots id k : ℕ) (me : Me Content TableView) (region : RegionData) → k < slots → slots ≡ length opened
    → is_held k me.0.held ≡ true → All (λ (h : Hold). h.version < last_version) me.0.held
    → MayLieIn opened k region
    → me.1 ≡ (k, Some region) ∷ rest me.1
    → Allows (Kept opened) slots id me k (λ n. (n + 1) % 2 ^ 64) (Put (step slots k 1 0 none) me)
put_allowed opened slots id k me region inside count has few lies front s r wide at fits =
    let within : k < length opened = omega arith in
    let inside_words : k < length s.words = let a = r.words in omega arith in
    let word = held_word opened s k id me.0 r at has few in
    let n : ℕ = slice_index s.words k in
    let version : ℕ = word.0 in
    let n_is : n ≡ 2 * version + 1 = word.1 in
    let small : version < last_version = word.2 in
    let n' : ℕ = (n + 1) % 2 ^ 64 in
    let n'_is : n' ≡ 2 * version + 2 = omega (arith, n_is, small) in
    let more : version_of n ≤ version_of n' = omega (arith, n_is, n'_is) in
    let made : version_of n' ≡ version_of n + 1 = omega (arith, n_is, n'_is) in
    let w : TableView = putting me.0 k (version_of n + 1) (count_of region) in
    let note : Note = record { slot = k; version = version_of n + 1; entries = count_of region } in
    let now : slice_index (set s.words k n') k ≡ n' = get_or-set_same s.words k n' 0 inside_words in
    let back : Rattle.atomic_table.specs.Table.put_back s.homes me.1 ≡ set s.homes k (some (Some region)) = ap (Rattle.atomic_table.specs.Table.put_back s.homes) front in
    -- the seat that noted a put of the slot noted an earlier version
    let earlier : (u : TableView) → KnowsNoLater s.words u → (version' : ℕ) → version' ≡ version_of n' → All (Tells k version' region) u.notes =
    λ u p version' is a d l same note_is.
    let q : (get_or u.notes a d).version ≤ version_of n = subst (λ (z : ℕ). (get_or u.notes a d).version ≤ version_of (slice_index s.words z)) same (p.notes a d l) in
    let e : (get_or u.notes a d).version ≡ version' = note_is in
    absurd (omega (arith, q, e, is, made)) in (
      w,
      gives,
      tt,
      subst (λ (hs : List (Option Content)). Kept opened record { words = set s.words k n'; homes = hs; views = set s.views id w }) (sym back)
          (step_kept opened s k id n' me.0 w (set s.homes k (some (Some region))) r within at more
          (length-set s.homes k (some (Some region)))
          (λ j other. set_else s.homes k j (some (Some region)) other)
          (λ _. (
            region,
            set_here s.homes k (some (Some region)) (omega arith),
            record {
              lies = lies;
              at_first = λ zero_is. let z : version_of n' ≡ 0 = zero_is in absurd (omega (arith, z, made));
              noted = λ i u e _ _. ⊎_elim
                  (λ (x : (i ≡ id) × (w ≡ u)). subst (λ (z : TableView). All (Tells k (version_of n') region) z.notes) x.1
                  (All-cons (Tells k (version_of n') region) note me.0.notes (λ _ _. refl) (earlier me.0 (r.past id me.0 at) (version_of n') refl)))
                  (λ (x : (i ≢ id) × (get_elem? s.views i ≡ some u)). earlier u (r.past i u x.1) (version_of n') refl)
                  (at_set s.views id i w u e);
            },
          ))
          (λ odd. let z : n' % 2 ≡ 0 = omega (arith, n'_is) in absurd (odd z))
          (λ j version' region' other t low high. All-cons (Tells j version' region') note me.0.notes (λ same. absurd (other (sym same))) (t low high))
          (out_else s.words k n' (without k me.0.held) (All-filter (λ (h : Hold). not (k == h.slot)) (IsOut s.words) me.0.held (r.held id me.0 at)) (without_none k me.0.held))
          (others_free opened s k id n' me.0 r at has)
          (λ j h. inl (without_held k j me.0.held h))
          (let p = past_up s.words k n' me.0 inside_words more (r.past id me.0 at) in record {
            notes = All-cons (λ (z : Note). z.version ≤ version_of (slice_index (set s.words k n') z.slot)) note me.0.notes
                (subst (λ (z : ℕ). version_of n + 1 ≤ version_of z) (sym now) (omega (arith, made))) p.notes;
            seen = p.seen;
          })
          (live_by_held me.0 k has, refl)
          (λ j other t. without_other k j me.0.held other t)
          (λ odd. let z : n' % 2 ≡ 0 = omega (arith, n'_is) in absurd (odd z))
          (λ j version' t. or_right (eqb j k && eqb version' (version_of n + 1)) (is_noted j version' me.0.notes) t)
          (inr (or_left (eqb k k && eqb (version_of n') (version_of n + 1)) (is_noted k (version_of n') me.0.notes)
          (both_true (eqb k k) (eqb (version_of n') (version_of n + 1)) (eq-eqb k k refl) (eq-eqb (version_of n') (version_of n + 1) made))))),
      record {
        took = λ a d l same. ap (λ (z : ℕ). slice_index s.words z) (sym same) ∙ (r.held id me.0 at a d l).1;
        home = ap (λ (z : ℕ). (putting me.0 k (version_of n + 1) z, rest me.1)) (sym (ap count_next front));
      },
    )

and_clear : (n : ℕ) → n ≡ 2 ^ 64 - 1 → bit_and n (2 ^ 64 - 2) ≡ 2 ^ 64 - 2
and_clear n e = ap (λ (z : ℕ). bit_and z (2 ^ 64 - 2)) e

pub undo_allowed : (opened : List RegionData) (slots id k : ℕ) (me : Me Content TableView) (region : RegionData) (more : List Hold) → k < slots → slots ≡ length opened
    → me.0.held ≡ record { slot = k; version = last_version } ∷ more
    → MayLieIn opened k region
    → me.1 ≡ (k, Some region) ∷ rest me.1
    → Allows (Kept opened) slots id me k (λ n. bit_and n (2 ^ 64 - 2)) (Undone (step slots k (2 ^ 64 - 2) 0 none) me)
undo_allowed opened slots id k me region others_held inside count holds lies front s r wide at fits =
    let within : k < length opened = omega arith in
    let inside_words : k < length s.words = let a = r.words in omega arith in
    let h : Hold = record { slot = k; version = last_version } in
    let n : ℕ = slice_index s.words k in
    let n_is : n ≡ 2 * last_version + 1 = (All-head (IsOut s.words) h others_held (subst (All (IsOut s.words)) holds (r.held id me.0 at))).1 in
    let n' : ℕ = bit_and n (2 ^ 64 - 2) in
    let n'_is : n' ≡ 2 ^ 64 - 2 = and_clear n n_is in
    let has : is_held k me.0.held ≡ true = subst (λ (z : List Hold). is_held k z ≡ true) (sym holds) (or_left (eqb k k) (is_held k others_held) (eq-eqb k k refl)) in
    let more : version_of n ≤ version_of n' = omega (arith, n_is, n'_is) in
    let last : version_of n' ≡ last_version = omega (arith, n'_is) in
    let w : TableView = undoing me.0 k in
    let back : Rattle.atomic_table.specs.Table.put_back s.homes me.1 ≡ set s.homes k (some (Some region)) = ap (Rattle.atomic_table.specs.Table.put_back s.homes) front in (
      w,
      gives,
      tt,
      subst (λ (hs : List (Option Content)). Kept opened record { words = set s.words k n'; homes = hs; views = set s.views id w }) (sym back)
          (step_kept opened s k id n' me.0 w (set s.homes k (some (Some region))) r within at more
          (length-set s.homes k (some (Some region)))
          (λ j other. set_else s.homes k j (some (Some region)) other)
          (λ _. (
            region,
            set_here s.homes k (some (Some region)) (omega arith),
            record {
              lies = lies;
              at_first = λ zero_is. let z : version_of n' ≡ 0 = zero_is in absurd (omega (arith, z, last));
              noted = λ i u e _ high. let z : version_of n' < last_version = high in absurd (omega (arith, z, last));
            },
          ))
          (λ odd. let z : n' % 2 ≡ 0 = omega (arith, n'_is) in absurd (odd z))
          (λ j version' region' other t. t)
          (out_else s.words k n' (without k me.0.held) (All-filter (λ (h : Hold). not (k == h.slot)) (IsOut s.words) me.0.held (r.held id me.0 at)) (without_none k me.0.held))
          (others_free opened s k id n' me.0 r at has)
          (λ j h. inl (without_held k j me.0.held h))
          (let p = past_up s.words k n' me.0 inside_words more (r.past id me.0 at) in record { notes = p.notes; seen = p.seen })
          (live_by_held me.0 k has, refl)
          (λ j other t. without_other k j me.0.held other t)
          (λ odd. let z : n' % 2 ≡ 0 = omega (arith, n'_is) in absurd (odd z))
          (λ j version t. t)
          (inl (omega (arith, n_is, n'_is)))),
      refl,
    )
