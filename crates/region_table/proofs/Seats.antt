-- The table begins in the rule, and seats that are split and joined keep it.
use Rattle.std.proofs.Common.{◌≡◌, ◌≢◌, ℕ, zero, suc, ◌+◌, ◌%◌, ◌/◌, ◌<◌, ◌≤◌, eqb, List, [], ◌∷◌, ◌++◌, map, length, set, true, true≢false, refl, sym, ap, ◌∙◌, subst, inl, ⊎_elim, arith, replicate}
use Rattle.std.specs.Prelude.{All, Bool, ◌&&◌, Some, None, slice_index, slice_get}
use Rattle.std.proofs.lemmas.List.{get_or-replicate, length-replicate, length-map}
use Rattle.std.proofs.lemmas.List.Elements.{All-nil, All-append}
use mathlib.Core.Option.{some, some-injective, some-ne-none}
use mathlib.Core.Logic.{dite}
use native.Mathlib.Decide.{ℕ_discrete}
use lib.ListN.{get_elem?}
use Rattle.atomic_table.specs.Table.{State, Splits, Joins, opening}
use Rattle.atomic_table.proofs.Lists.{at_set, at_snoc, at_longer, set_else}
use Rattle.local_run.specs.Opening.{RegionData}
use Rattle.region_table.specs.declared.rule.Sight.{Sight}
use Rattle.region_table.specs.declared.rule.Hold.{Hold}
use Rattle.region_table.specs.declared.rule.Note.{Note}
use Rattle.region_table.specs.declared.rule.TableView.{TableView}
use Rattle.region_table.specs.Bases.{count_of}
use Rattle.region_table.specs.Rule.{Content, version_of, all_parts, first_view, no_view, halved, copied, joined_views, is_held, is_noted, total, Tells, IsOut, KnowsNoLater, Kept}
use Rattle.region_table.proofs.Parts.{set_there, moved, total_set, total_snoc, any_left, any_right}
use Rattle.region_table.proofs.Keeps.{Comes, stays, views_kept}

-- a view that holds nothing and has noted nothing
knows : (s : State Content TableView) (i : ℕ) (v : TableView) → KnowsNoLater s.words v → Comes s i (copied v)
knows s i v p = record {
  tells = λ k version region all low high. All-nil (Tells k version region);
  held = All-nil (IsOut s.words);
  own = λ k h. absurd (true≢false (sym h));
  past = record { notes = All-nil (λ (n : Note). n.version ≤ version_of (slice_index s.words n.slot)); seen = p.seen };
}

nothing : (s : State Content TableView) (i : ℕ) → Comes s i no_view
nothing s i = record {
  tells = λ k version region all low high. All-nil (Tells k version region);
  held = All-nil (IsOut s.words);
  own = λ k h. absurd (true≢false (sym h));
  past = record {
    notes = All-nil (λ (n : Note). n.version ≤ version_of (slice_index s.words n.slot));
    seen = All-nil (λ (z : Sight). version_of z.word ≤ version_of (slice_index s.words z.slot));
  };
}

-- a seat that is split knows and holds what it did
as_before : (opened : List RegionData) (s : State Content TableView) → Kept opened s → (i : ℕ) (v : TableView) → get_elem? s.views i ≡ some v → Comes s i (halved v)
as_before opened s r i v e = let p = r.past i v e in record {
  tells = λ k version region all. all i v e;
  held = r.held i v e;
  own = λ k h. (v, e, h);
  past = record { notes = p.notes; seen = p.seen };
}

pub splits : (opened : List RegionData) (id : ℕ) (v : TableView) → v ≢ no_view → Splits (Kept opened) id v (halved v) (copied v)
splits opened id v live s r at = views_kept opened s (set s.views id (halved v) ++ copied v ∷ []) r
    (λ i u e. ⊎_elim
    (λ (x : get_elem? (set s.views id (halved v)) i ≡ some u). ⊎_elim
    (λ (y : (i ≡ id) × (halved v ≡ u)). subst (λ (z : ℕ). Comes s z u) (sym y.0) (subst (Comes s id) y.1 (as_before opened s r id v at)))
    (λ (y : (i ≢ id) × (get_elem? s.views i ≡ some u)). stays opened s r i u y.1)
    (at_set s.views id i (halved v) u x))
    (λ (x : copied v ≡ u). subst (Comes s i) x (knows s i v (r.past id v at)))
    (at_snoc (set s.views id (halved v)) (copied v) u i e))
    (λ k i u e h. let m = moved s.views id v (halved v) (λ (z : TableView). is_held k z.held ≡ true) at (λ t. t) i u e h in
    (i, m.0, at_longer (set s.views id (halved v)) (copied v ∷ []) i m.0 m.1, m.2))
    (λ k version i u e h. let m = moved s.views id v (halved v) (λ (z : TableView). is_noted k version z.notes ≡ true) at (λ t. t) i u e h in
    (i, m.0, at_longer (set s.views id (halved v)) (copied v ∷ []) i m.0 m.1, m.2))
    (let a = sum in let b = r.whole in omega (arith, a, b))
    (λ all i u e none_left. ⊎_elim
    (λ (x : get_elem? (set s.views id (halved v)) i ≡ some u). ⊎_elim
    (λ (y : (i ≡ id) × (halved v ≡ u)). absurd (half all (ap (λ (z : TableView). z.parts) y.1 ∙ none_left)))
    (λ (y : (i ≢ id) × (get_elem? s.views i ≡ some u)). r.idle (all_before all) i u y.1 none_left)
    (at_set s.views id i (halved v) u x))
    (λ (x : copied v ≡ u). absurd (half all (ap (λ (z : TableView). z.parts) x ∙ none_left)))
    (at_snoc (set s.views id (halved v)) (copied v) u i e))
  where
    after : List TableView
    after = set s.views id (halved v) ++ copied v ∷ []

    sum : total after + v.parts ≡ total s.views + v.parts / 2 + v.parts / 2
    sum = let a = total_set s.views id v (halved v) at in let b = total_snoc (set s.views id (halved v)) (copied v) in omega (arith, a, b)

    all_before : total after ≡ all_parts → total s.views ≡ all_parts
    all_before all = let a = sum in let b = r.whole in omega (arith, a, b, all)

    half : total after ≡ all_parts → v.parts / 2 ≢ 0
    half all none_left =
        let a = sum in
        let b = r.whole in
        let some_parts : v.parts ≢ 0 = λ none_there. live (r.idle (all_before all) id v at none_there) in
        some_parts (omega (arith, a, b, all, none_left))

-- both views in one
both : (opened : List RegionData) (s : State Content TableView) (id other : ℕ) (v w : TableView) → Kept opened s → get_elem? s.views id ≡ some v → get_elem? s.views other ≡ some w → Comes s id (joined_views v w)
both opened s id other v w r at at' = let p = r.past id v at in let q = r.past other w at' in record {
  tells = λ k version region all low high. All-append (Tells k version region) v.notes w.notes (all id v at low high) (all other w at' low high);
  held = r.held id v at;
  own = λ k h. (v, at, h);
  past = record {
    notes = All-append (λ (n : Note). n.version ≤ version_of (slice_index s.words n.slot)) v.notes w.notes p.notes q.notes;
    seen = All-append (λ (z : Sight). version_of z.word ≤ version_of (slice_index s.words z.slot)) v.seen w.seen p.seen q.seen;
  };
}

abbrev noted_at : ℕ → ℕ → Note → Bool
noted_at k version n = eqb k n.slot && eqb version n.version

pub joins : (opened : List RegionData) (id : ℕ) (v : TableView) (other : ℕ) (w : TableView) → v ≢ no_view → w.held ≡ [] → Joins (Kept opened) id v other w (joined_views v w) no_view
joins opened id v other w live idle s r at apart at'' =
    views_kept opened s (set (set s.views id (joined_views v w)) other no_view) r
    (λ i u e. ⊎_elim
    (λ (x : (i ≡ other) × (no_view ≡ u)). subst (Comes s i) x.1 (nothing s i))
    (λ (x : (i ≢ other) × (get_elem? (set s.views id (joined_views v w)) i ≡ some u)). ⊎_elim
    (λ (y : (i ≡ id) × (joined_views v w ≡ u)). subst (λ (z : ℕ). Comes s z u) (sym y.0) (subst (Comes s id) y.1 (both opened s id other v w r at at')))
    (λ (y : (i ≢ id) × (get_elem? s.views i ≡ some u)). stays opened s r i u y.1)
    (at_set s.views id i (joined_views v w) u x.1))
    (at_set (set s.views id (joined_views v w)) other i no_view u e))
    (λ k i u e h. dite (ℕ_discrete i other)
    (λ same. absurd (true≢false (sym h ∙ ap (λ (z : List Hold). is_held k z) (held_of u (subst (λ (z : ℕ). get_elem? s.views z ≡ some u) same e)))))
    (λ here.
    let m = moved s.views id v (joined_views v w) (λ (z : TableView). is_held k z.held ≡ true) at (λ t. t) i u e h in
    (i, m.0, set_else (set s.views id (joined_views v w)) other i no_view here ∙ m.1, m.2)))
    (λ k version i u e h. dite (ℕ_discrete i other)
    (λ same. (
      id,
      joined_views v w,
      set_else (set s.views id (joined_views v w)) other id no_view (λ z. apart (sym z)) ∙ set_there s.views id v (joined_views v w) at,
      any_right (noted_at k version) v.notes w.notes
          (ap (λ (z : TableView). is_noted k version z.notes) (sym (same_view other u w (subst (λ (z : ℕ). get_elem? s.views z ≡ some u) same e) at')) ∙ h),
    ))
    (λ here.
    let m = moved s.views id v (joined_views v w) (λ (z : TableView). is_noted k version z.notes ≡ true) at (any_left (noted_at k version) v.notes w.notes) i u e h in
    (i, m.0, set_else (set s.views id (joined_views v w)) other i no_view here ∙ m.1, m.2)))
    (let a = sum in let b = r.whole in omega (arith, a, b))
    (λ all i u e none_left. ⊎_elim
    (λ (x : (i ≡ other) × (no_view ≡ u)). sym x.1)
    (λ (x : (i ≢ other) × (get_elem? (set s.views id (joined_views v w)) i ≡ some u)). ⊎_elim
    (λ (y : (i ≡ id) × (joined_views v w ≡ u)).
    let none_there : v.parts + w.parts ≡ 0 = ap (λ (z : TableView). z.parts) y.1 ∙ none_left in
    absurd (live (r.idle (sym sum ∙ all) id v at (omega (arith, none_there)))))
    (λ (y : (i ≢ id) × (get_elem? s.views i ≡ some u)). r.idle (sym sum ∙ all) i u y.1 none_left)
    (at_set s.views id i (joined_views v w) u x.1))
    (at_set (set s.views id (joined_views v w)) other i no_view u e))
  where
    sum : total (set (set s.views id (joined_views v w)) other no_view) ≡ total s.views
    sum =
        let a = total_set s.views id v (joined_views v w) at in
        let b = total_set (set s.views id (joined_views v w)) other w no_view at'' in
        omega (arith, a, b)

    at' : get_elem? s.views other ≡ some w
    at' = ⊎_elim
        (λ (x : (other ≡ id) × (joined_views v w ≡ w)). absurd (apart x.0))
        (λ (x : (other ≢ id) × (get_elem? s.views other ≡ some w)). x.1)
        (at_set s.views id other (joined_views v w) w at'')

    same_view : (i : ℕ) (u z : TableView) → get_elem? s.views i ≡ some u → get_elem? s.views i ≡ some z → u ≡ z
    same_view i u z e f = some-injective _ _ (sym e ∙ f)

    held_of : (u : TableView) → get_elem? s.views other ≡ some u → u.held ≡ []
    held_of u e = ap (λ (z : TableView). z.held) (same_view other u w e at') ∙ idle

one_view : (v : TableView) (i : ℕ) (u : TableView) → get_elem? (v ∷ []) i ≡ some u → (i ≡ 0) × (v ≡ u)
one_view v zero u e = (refl, some-injective v u e)
one_view v (suc i) u e = absurd (some-ne-none u (sym e))

there : (xs : List RegionData) (k : ℕ) → k < length xs → (x : RegionData) × (slice_get xs k ≡ Some x) × (get_elem? (map some (map Some xs)) k ≡ some (some (Some x)))
there [] k lt = absurd (omega arith)
there (x ∷ xs) zero lt = (x, refl, refl)
there (x ∷ xs) (suc k) lt = there xs k (omega arith)

abbrev count_in_slot : Rattle.std.specs.Prelude.Option RegionData → ℕ
count_in_slot None = 0
count_in_slot (Some region) = count_of region

pub opens : (opened : List RegionData) (words : List ℕ) (slots : List Content) → words ≡ replicate (length opened) 0 → slots ≡ map Some opened → Kept opened (opening words slots (first_view opened))
opens opened words slots zeros full = record {
  words = ap length zeros ∙ length-replicate (length opened) 0;
  homes = length-map slots some ∙ (ap length full ∙ length-map opened Some);
  home = λ k lt even.
      let x = there opened k lt in
      let word : slice_index words k ≡ 0 = ap (λ (z : List ℕ). slice_index z k) zeros ∙ get_or-replicate (length opened) k 0 0 lt in (
        x.0,
        ap (λ (z : List Content). get_elem? (map some z) k) full ∙ x.2,
        record {
          lies = (x.0, x.1, inl record { home = refl; floor = refl; base = refl });
          at_first = λ _ first is. ap count_in_slot (sym x.1 ∙ is);
          noted = λ i u e low high. let z : version_of (slice_index words k) ≡ 0 = ap version_of word in absurd (omega (arith, low, z));
        },
      );
  out = λ k lt odd. absurd (odd (ap (λ (z : ℕ). z % 2) (ap (λ (z : List ℕ). slice_index z k) zeros ∙ get_or-replicate (length opened) k 0 0 lt)));
  held = λ i u e. subst (λ (z : TableView). All (IsOut words) z.held) (one_view (first_view opened) i u e).1 (All-nil (IsOut words));
  one = λ i j u w k e f h g. (one_view (first_view opened) i u e).0 ∙ sym (one_view (first_view opened) j w f).0;
  past = λ i u e. subst (KnowsNoLater words) (one_view (first_view opened) i u e).1 record {
    notes = All-nil (λ (n : Note). n.version ≤ version_of (slice_index words n.slot));
    seen = All-nil (λ (z : Sight). version_of z.word ≤ version_of (slice_index words z.slot));
  };
  owner = λ k lt odd. absurd (odd (ap (λ (z : ℕ). z % 2) (ap (λ (z : List ℕ). slice_index z k) zeros ∙ get_or-replicate (length opened) k 0 0 lt)));
  writer = λ k lt some_puts.
      let z : version_of (slice_index words k) ≡ 0 = ap version_of (ap (λ (z : List ℕ). slice_index z k) zeros ∙ get_or-replicate (length opened) k 0 0 lt) in
      absurd (omega (arith, some_puts, z));
  whole = omega arith;
  idle = λ all i u e none_left.
      let z : all_parts ≡ 0 = ap (λ (z : TableView). z.parts) (one_view (first_view opened) i u e).1 ∙ none_left in
      absurd (omega (arith, z));
}

-- a seat of the table wasn't joined to another
pub is_live : (opened : List RegionData) (v : TableView) → v.opened ≡ opened → 0 < length opened → v ≢ no_view
is_live opened v mine some_there e =
    let a : length v.opened ≡ 0 = ap (λ (z : TableView). length z.opened) e in
    let b : length v.opened ≡ length opened = ap length mine in
    absurd (omega (arith, a, b, some_there))
