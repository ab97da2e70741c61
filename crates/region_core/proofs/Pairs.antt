-- Two regions, one of which hears the other or is apart from it.
use Rattle.std.proofs.Common.{◌≡◌, ◌≢◌, ◌⊎◌, inl, inr, ℕ, ◌^◌, Bool, true, false, ◌==◌, ◌&&◌, List, Option, Some, None, MatchOption, Decides, sym, ap, subst, ◌∙◌, refl}
use Rattle.std.specs.Prelude.{◌↔◌, IsTrue, option_map, IfSome}
use Rattle.std.proofs.lemmas.Bool.{false≢true}
use Rattle.std.specs.Ordering.{int_eq}
use Rattle.std.specs.Option.{is_some}
use Rattle.std.proofs.lemmas.Bool.Decides.{Decides-and, Decides-like, Decides-eqb, Decides-int_eq}
use Rattle.std.proofs.lemmas.Option.{none-some, same_Some}
use Rattle.fixed_motion.specs.declared.rules.Rules.{Rules}
use Rattle.fixed_motion.specs.contracts.rules.Rules as rules_type
use Rattle.event_stamps.specs.declared.Stamp.{Stamp}
use Rattle.event_stamps.specs.contracts.Stamp as stamp_type
use Rattle.event_stamps.proofs.Decision.{Decision}
use Rattle.cell_grid.specs.contracts.grid.Grid as grid_type
use Rattle.cell_grid.specs.Grid.{GridData, IsRegion, AreLinked, reciprocal_of}
use Rattle.region_view.specs.declared.rows.Message.{Message}
use Rattle.region_messages.proofs.Same.{same_by_code, stamp_eq, stamp_decides}
use Rattle.local_run.specs.declared.home.Home.{Home}
use Rattle.region_parts.specs.declared.place.Place.{Place}
use Rattle.region_core.specs.declared.live.Live.{Live}
use Rattle.local_run.specs.declared.answers.Hearing.{Hearing}
use Rattle.local_run.specs.declared.answers.Hearing.TheVariants.{Same, Rewound, Later, Apart}
use Rattle.local_run.specs.LocalRun.{Local, IsInPlace, IsHearable, IsRight, sent_to}
use Rattle.local_run.specs.Answers.{HearsFrom}
use Rattle.local_run.specs.Opening.{RegionData, AreApart}
use Rattle.local_run.specs.Keeping.{SendsTo, IsSent}
use Rattle.region_core.specs.Live.{run_in, IsLive, IsSound}
use Rattle.local_run.specs.Hearing.{AreAlike, HearsRegion}
use Rattle.region_core.proofs.Shown.{seen_as}
use Rattle.local_run.proofs.Valid.{heard_from}

-- ---- whether they are alike
same_rules : (a b : Rules) → Decision (a ≡ b)
same_rules a b = same_by_code rules_type.the_row.coded a b

same_grid : (a b : GridData) → Decision (a ≡ b)
same_grid a b = same_by_code grid_type.the_row.coded a b

same_floor : (a b : Stamp) → Decision (a ≡ b)
same_floor a b = same_by_code stamp_type.the_row.coded a b

pub unlike : (a b : RegionData) → ¬ AreAlike a b → AreApart a b
unlike a b not = elim (same_rules a.home.rules b.home.rules) [
  | inl rules ↦ elim (same_grid a.home.grid b.home.grid) [
    | inl grid ↦ inr (inr (inr (inr (inl (λ floor. not (rules, grid, floor))))))
    | inr other ↦ inr (inr (inr (inl other)))
  ]
  | inr other ↦ inr (inr (inl other))
]

alike_of : (a b : RegionData) → ¬ AreApart a b → AreAlike a b
alike_of a b not = (
  elim (same_rules a.home.rules b.home.rules) [
    | inl same ↦ same
    | inr other ↦ absurd (not (inr (inr (inl other))))
  ],
  elim (same_grid a.home.grid b.home.grid) [
    | inl same ↦ same
    | inr other ↦ absurd (not (inr (inr (inr (inl other)))))
  ],
  elim (same_floor a.floor b.floor) [
    | inl same ↦ same
    | inr other ↦ absurd (not (inr (inr (inr (inr (inl other))))))
  ],
)

-- ---- what the code's `==` says
abbrev pub rules_eq : Rules → Rules → Bool
rules_eq a b = int_eq a.width b.width && (int_eq a.height b.height
    && (int_eq a.diameter b.diameter && (int_eq a.speed_limit b.speed_limit
    && (a.round_limit == b.round_limit && a.end == b.end))))

pub rules_decide : (a b : Rules) → Decides (rules_eq a b) (a ≡ b)
rules_decide a b = Decides-like (rules_eq a b)
    (λ h i. record {
      width = h.0 i;
      height = h.1.0 i;
      diameter = h.1.1.0 i;
      speed_limit = h.1.1.1.0 i;
      round_limit = h.1.1.1.1.0 i;
      end = h.1.1.1.1.1 i;
    })
    (λ e. (
      ap (λ (v : Rules). v.width) e,
      (
        ap (λ (v : Rules). v.height) e,
        (
          ap (λ (v : Rules). v.diameter) e,
          (
            ap (λ (v : Rules). v.speed_limit) e,
            (ap (λ (v : Rules). v.round_limit) e, ap (λ (v : Rules). v.end) e),
          ),
        ),
      ),
    ))
    (Decides-and _ _ (Decides-int_eq a.width b.width) (Decides-and _ _ (Decides-int_eq a.height b.height)
    (Decides-and _ _ (Decides-int_eq a.diameter b.diameter)
    (Decides-and _ _ (Decides-int_eq a.speed_limit b.speed_limit)
    (Decides-and _ _ (Decides-eqb a.round_limit b.round_limit) (Decides-eqb a.end b.end))))))

-- all that the code keeps of a grid is the same
abbrev pub grid_eq : GridData → GridData → Bool
grid_eq a b = a.columns == b.columns && (a.rows == b.rows
    && (a.side_x == b.side_x && (a.side_y == b.side_y && (a.regions == b.regions
    && (reciprocal_of (2 ^ 32) a.columns == reciprocal_of (2 ^ 32) b.columns
    && (reciprocal_of (2 ^ 62) a.side_x == reciprocal_of (2 ^ 62) b.side_x
    && reciprocal_of (2 ^ 62) a.side_y == reciprocal_of (2 ^ 62) b.side_y))))))

pub grid_decides : (a b : GridData) → Decides (grid_eq a b) (a ≡ b)
grid_decides a b = Decides-like (grid_eq a b)
    (λ h i. record {
      columns = h.0 i;
      rows = h.1.0 i;
      side_x = h.1.1.0 i;
      side_y = h.1.1.1.0 i;
      regions = h.1.1.1.1.0 i;
    })
    (λ e. (
      ap (λ (v : GridData). v.columns) e,
      (
        ap (λ (v : GridData). v.rows) e,
        (
          ap (λ (v : GridData). v.side_x) e,
          (
            ap (λ (v : GridData). v.side_y) e,
            (
              ap (λ (v : GridData). v.regions) e,
              (
                ap (λ (v : GridData). reciprocal_of (2 ^ 32) v.columns) e,
                (ap (λ (v : GridData). reciprocal_of (2 ^ 62) v.side_x) e, ap (λ (v : GridData). reciprocal_of (2 ^ 62) v.side_y) e),
              ),
            ),
          ),
        ),
      ),
    ))
    (Decides-and _ _ (Decides-eqb a.columns b.columns) (Decides-and _ _ (Decides-eqb a.rows b.rows)
    (Decides-and _ _ (Decides-eqb a.side_x b.side_x)
    (Decides-and _ _ (Decides-eqb a.side_y b.side_y)
    (Decides-and _ _ (Decides-eqb a.regions b.regions)
    (Decides-and _ _ (Decides-eqb (reciprocal_of (2 ^ 32) a.columns) (reciprocal_of (2 ^ 32) b.columns))
    (Decides-and _ _ (Decides-eqb (reciprocal_of (2 ^ 62) a.side_x) (reciprocal_of (2 ^ 62) b.side_x))
    (Decides-eqb (reciprocal_of (2 ^ 62) a.side_y) (reciprocal_of (2 ^ 62) b.side_y)))))))))

-- if rules and grids were found to be the same, the floors decide
pub are_alike : (x y : Home) (f g : Stamp) (o p : Option Live) (a b : RegionData) (r t u : Bool) →
    seen_as x f o ≡ a → seen_as y g p ≡ b → r ≡ rules_eq x.rules y.rules → r ≡ true →
    t ≡ grid_eq x.grid y.grid → t ≡ true → u ≡ stamp_eq f g → IsTrue u ↔ AreAlike a b
are_alike x y f g o p a b r t u here there r_is r_true t_is t_true u_is =
    subst (λ (v : RegionData). IsTrue u ↔ AreAlike v b) here
    (subst (λ (v : RegionData). IsTrue u ↔ AreAlike (seen_as x f o) v) there (
      λ h. (
        (rules_decide x.rules y.rules).0 (sym r_is ∙ r_true),
        (grid_decides x.grid y.grid).0 (sym t_is ∙ t_true),
        (stamp_decides f g).0 (sym u_is ∙ h),
      ),
      λ alike. u_is ∙ (stamp_decides f g).1 alike.2,
    ))

-- if the rules or the grids were found to differ, they aren't
pub unlike_rules : (x y : Home) (f g : Stamp) (o p : Option Live) (a b : RegionData) (r t : Bool) →
    seen_as x f o ≡ a → seen_as y g p ≡ b → r ≡ rules_eq x.rules y.rules → r ≡ false → t ≡ false →
    IsTrue t ↔ AreAlike a b
unlike_rules x y f g o p a b r t here there is differ not = (
  λ h. absurd (false≢true (sym not ∙ h)),
  λ alike. absurd (false≢true (sym differ ∙ is ∙ (rules_decide x.rules y.rules).1
      (ap (λ (v : RegionData). v.home.rules) here ∙ alike.0 ∙ ap (λ (v : RegionData). v.home.rules) (sym there)))),
)

pub unlike_grids : (x y : Home) (f g : Stamp) (o p : Option Live) (a b : RegionData) (r t : Bool) →
    seen_as x f o ≡ a → seen_as y g p ≡ b → r ≡ grid_eq x.grid y.grid → r ≡ false → t ≡ false →
    IsTrue t ↔ AreAlike a b
unlike_grids x y f g o p a b r t here there is differ not = (
  λ h. absurd (false≢true (sym not ∙ h)),
  λ alike. absurd (false≢true (sym differ ∙ is ∙ (grid_decides x.grid y.grid).1
      (ap (λ (v : RegionData). v.home.grid) here ∙ alike.1 ∙ ap (λ (v : RegionData). v.home.grid) (sym there)))),
)

-- ---- what the one sends to the other
not_sent : (a b : RegionData) → IsRegion a.home.grid a.home.number → AreAlike a b →
    (b.run ≡ None) ⊎ ¬ SendsTo b.home a.home.number → AreApart a b
not_sent a b region alike (inl none) = inr (inl none)
not_sent a b region alike (inr not) = inr (inr (inr (inr (inr (λ linked. not (
  subst (λ (g : GridData). IsRegion g a.home.number) alike.1 region,
  subst (λ (g : GridData). AreLinked g b.home.number a.home.number) alike.1 linked,
))))))

not_apart : (a b : RegionData) (ms : List Message) → a.run ≢ None → AreAlike a b →
    IsSent b a.home.number ms → ¬ AreApart a b
not_apart a b ms alive alike sent (inl none) = alive none
not_apart a b ms alive alike sent (inr (inl none)) = absurd (none-some sent.0 (sym none ∙ sent.1))
not_apart a b ms alive alike sent (inr (inr (inl other))) = other alike.0
not_apart a b ms alive alike sent (inr (inr (inr (inl other)))) = other alike.1
not_apart a b ms alive alike sent (inr (inr (inr (inr (inl other))))) = other alike.2
not_apart a b ms alive alike sent (inr (inr (inr (inr (inr other))))) =
    other (subst (λ (g : GridData). AreLinked g b.home.number a.home.number) (sym alike.1) sent.2.1)

sent_or_apart : {R : Type 0} (now : R → List Message) (result : Option R) (a b : RegionData) →
    a.run ≢ None → IsRegion a.home.grid a.home.number → AreAlike a b →
    MatchOption result ((b.run ≡ None) ⊎ ¬ SendsTo b.home a.home.number)
    (λ t. IsSent b a.home.number (now t)) →
    MatchOption result (AreApart a b) (λ t. (¬ AreApart a b) × IsSent b a.home.number (now t))
sent_or_apart now None a b alive region alike h = not_sent a b region alike h
sent_or_apart now (Some t) a b alive region alike h = (not_apart a b (now t) alive alike h, h)

-- ---- hearing
hears_region : (a b new : RegionData) (answer : Hearing) (before after sender : Local) →
    new.home ≡ a.home → new.floor ≡ a.floor → a.run ≡ Some before → new.run ≡ Some after →
    b.run ≡ Some sender →
    HearsFrom b.home.number (sent_to a.home.grid a.home.number sender.base sender.log) before answer after →
    HearsRegion a b answer new
hears_region a b new Apart before after sender home floor was is sends hears = absurd hears
hears_region a b new Same before after sender home floor was is sends hears = record {
  home = home;
  floor = floor;
  before = before;
  after = after;
  sender = sender;
  was_run = was;
  is_run = is;
  sends = sends;
  hears = hears;
}
hears_region a b new (Later at) before after sender home floor was is sends hears = record {
  home = home;
  floor = floor;
  before = before;
  after = after;
  sender = sender;
  was_run = was;
  is_run = is;
  sends = sends;
  hears = hears;
}
hears_region a b new (Rewound at) before after sender home floor was is sends hears = record {
  home = home;
  floor = floor;
  before = before;
  after = after;
  sender = sender;
  was_run = was;
  is_run = is;
  sends = sends;
  hears = hears;
}

pub heard_region : (x y : Home) (f g : Stamp) (live new : Live) (p : Option Live) (a b : RegionData)
    (ms : List Message) (answer : Hearing) → seen_as x f (Some live) ≡ a → seen_as y g p ≡ b →
    ¬ AreApart a b → IsSent b a.home.number ms →
    HearsFrom y.number ms (run_in f live) answer (run_in f new) →
    HearsRegion a b answer (seen_as x f (Some new))
heard_region x y f g live new p a b ms answer here there =
    subst (λ (v : RegionData). ¬ AreApart v b → IsSent b v.home.number ms →
    HearsFrom y.number ms (run_in f live) answer (run_in f new) →
    HearsRegion v b answer (seen_as x f (Some new))) here
    (subst (λ (w : RegionData). ¬ AreApart (seen_as x f (Some live)) w → IsSent w x.number ms →
    HearsFrom y.number ms (run_in f live) answer (run_in f new) →
    HearsRegion (seen_as x f (Some live)) w answer (seen_as x f (Some new))) there
    (λ not sent hears.
    let alike = alike_of (seen_as x f (Some live)) (seen_as y g p) not in
    hears_region (seen_as x f (Some live)) (seen_as y g p) (seen_as x f (Some new)) answer
    (run_in f live) (run_in f new) sent.0 refl refl refl refl sent.1
    (subst (λ (m : List Message). HearsFrom y.number m (run_in f live) answer (run_in f new))
    (sent.3 ∙ ap (λ (grid : GridData). sent_to grid x.number sent.0.base sent.0.log) (sym alike.1)) hears)))

-- the local run of a region
run_of : (y : Place) (p : Option Live) (r : Local) → IfSome p (IsLive y) → option_map (run_in y.floor) p ≡ Some r →
    IsRight y.home r × (y.floor ≡ r.floor)
run_of y None r alive is = absurd (none-some r is)
run_of y (Some live) r alive is =
    let same : run_in y.floor live ≡ r = same_Some (run_in y.floor live) r is in
    (subst (IsRight y.home) same alive.body.right, ap (λ (v : Local). v.floor) same)

pub heard_hearable : (x y : Place) (o p : Option Live) (a b : RegionData) (ms : List Message) →
    seen_as x.home x.floor o ≡ a → seen_as y.home y.floor p ≡ b → IsSound y p → ¬ AreApart a b →
    IsSent b a.home.number ms → IsHearable x.home x.floor y.home.number ms
heard_hearable x y o p a b ms here there sound =
    subst (λ (v : RegionData). ¬ AreApart v b → IsSent b v.home.number ms →
    IsHearable x.home x.floor y.home.number ms) here
    (subst (λ (w : RegionData). ¬ AreApart (seen_as x.home x.floor o) w → IsSent w x.home.number ms →
    IsHearable x.home x.floor y.home.number ms) there
    (λ not sent.
    let alike = alike_of (seen_as x.home x.floor o) (seen_as y.home y.floor p) not in
    let run = run_of y p sent.0 sound.alive sent.1 in
    subst (IsHearable x.home x.floor y.home.number)
    (ap (λ (grid : GridData). sent_to grid x.home.number sent.0.base sent.0.log) alike.1 ∙ sym sent.3)
    (heard_from x.home y.home sent.0 x.floor alike.0 alike.1 (alike.2 ∙ run.1) sound.place.home run.0
    (subst (λ (grid : GridData). AreLinked grid y.home.number x.home.number) (sym alike.1) sent.2.1))))

pub no_apart : (k : ℕ) (ms : List Message) (r new : Local) (answer : Hearing) →
    HearsFrom k ms r answer new → ¬ (answer ≡ Apart)
no_apart k ms r new answer hears is = subst (λ (v : Hearing). HearsFrom k ms r v new) is hears

pub region_of : (x y : Home) (f g : Stamp) (o p : Option Live) (a b : RegionData) → seen_as x f o ≡ a →
    seen_as y g p ≡ b → ¬ AreApart a b → IsInPlace y → IsRegion x.grid y.number
region_of x y f g o p a b here there not place =
    let alike = alike_of a b not in
    let grids : y.grid ≡ x.grid =
    ap (λ (v : RegionData). v.home.grid) there ∙ sym alike.1
    ∙ sym (ap (λ (v : RegionData). v.home.grid) here) in
    subst (λ (grid : GridData). IsRegion grid y.number) grids place.number

-- ---- what is seen of a body that there is, or isn't
pub seen_spent : (x : Home) (f : Stamp) (o : Option Live) (a : RegionData) → seen_as x f o ≡ a →
    is_some o ≡ false → a.run ≡ None
seen_spent x f None a here none = ap (λ (v : RegionData). v.run) (sym here)
seen_spent x f (Some live) a here none = cc

seen_alive : (x : Home) (f : Stamp) (o : Option Live) → is_some o ≡ true → (seen_as x f o).run ≢ None
seen_alive x f None some = λ e. cc
seen_alive x f (Some live) some = λ none. none-some (run_in f live) (sym none)

pub sent_seen : {R : Type 0} (now : R → List Message) (result : Option R) (x : Home) (f : Stamp)
    (o : Option Live) (a b : RegionData) → seen_as x f o ≡ a → is_some o ≡ true → IsInPlace x →
    AreAlike a b →
    MatchOption result ((b.run ≡ None) ⊎ ¬ SendsTo b.home x.number) (λ t. IsSent b x.number (now t)) →
    MatchOption result (AreApart a b) (λ t. (¬ AreApart a b) × IsSent b a.home.number (now t))
sent_seen now result x f o a b here some place =
    subst (λ (v : RegionData). AreAlike v b →
    MatchOption result ((b.run ≡ None) ⊎ ¬ SendsTo b.home x.number) (λ t. IsSent b x.number (now t)) →
    MatchOption result (AreApart v b) (λ t. (¬ AreApart v b) × IsSent b v.home.number (now t))) here
    (λ alike sent. sent_or_apart now result (seen_as x f o) b (seen_alive x f o some) place.number alike sent)
