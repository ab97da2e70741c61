-- Each move is the only one at its place, so a log can go on in only one way.
use Rattle.std.proofs.Common.{◌≡◌, inl, ℕ, ◌≤◌, List, [], ◌∷◌, ◌++◌, ◌+◌, length, sym, ap, ◌∙◌}
use Rattle.std.proofs.Common.{subst, refl, arith, Ok}
use Rattle.std.specs.Prelude.{Result}
use Rattle.std.proofs.lemmas.Option.{same_Some}
use Rattle.event_stamps.specs.declared.Stamp.{Stamp}
use Rattle.event_stamps.proofs.StampOrder.{same_stamp, not_before_itself, before_tick}
use Rattle.event_stamps.proofs.Least.{one_least}
use Rattle.event_rules.specs.declared.change.Limit.{Limit}
use Rattle.region_view.specs.declared.action.Placed.{Placed}
use Rattle.region_view.specs.declared.action.Action.{Action}
use Rattle.region_view.specs.declared.rows.Message.{Message}
use Rattle.region_view.specs.Views.{ViewData, rows_in}
use Rattle.region_view.specs.Acting.{stamp_of, action_of, partner_in}
use Rattle.region_messages.specs.Trails.{below, AgreesUpTo, IsAmong}
use Rattle.local_run.specs.declared.home.Home.{Home}
use Rattle.local_run.specs.declared.entry.Entry.{Entry}
use Rattle.local_run.specs.declared.entry.Entry.TheVariants.{Native, Heard}
use Rattle.local_run.specs.declared.answers.Hearing.{Hearing}
use Rattle.local_run.specs.declared.answers.Hearing.TheVariants.{Same, Rewound, Later, Apart}
use Rattle.local_run.specs.Answers.{HearsFrom}
use Rattle.local_run.specs.Laws.{LogsGoOneWay, EntriesWereDue}
use Rattle.local_run.specs.Entries.{entries_below, entry_stamp}
use Rattle.local_run.specs.LocalRun.{Local, start_of, after_log, At, trail_of}
use Rattle.local_run.specs.LocalRun.{after_entry, ComesToInView, IsOffered, IsDue, IsMove}
use Rattle.local_run.specs.LocalRun.{IsOwn, Moves}
use Rattle.local_run.proofs.Logs.{moves_split}

pub one_result : (h : Home) (view : ViewData) (s : Stamp) (x y : Result Action Limit) →
    ComesToInView h view s x → ComesToInView h view s y → x ≡ y
one_result h view s x y (p, there, is) (q, also, too) =
    let same : p ≡ q = same_Some p q (sym there ∙ also) in
    is ∙ ap (λ (v : Placed). action_of h.rules h.grid s v.disk
    (partner_in s.kind (rows_in view) s.second) s.kind) same ∙ sym too

pub move_due : (h : Home) (a : At) (e : Entry) → IsMove h a e → IsDue h a (entry_stamp e)
move_due h a (Native x) move = move.due
move_due h a (Heard q m) move = move.due

first_is : (m n : Message) (rest more ms : List Message) → ms ≡ m ∷ rest → ms ≡ n ∷ more → m ≡ n
first_is m n rest more ms is too = cc

pub one_move : (h : Home) (a : At) (e f : Entry) → IsMove h a e → IsMove h a f → e ≡ f
one_move h a e f move other =
    by_kind e f move other (one_least (IsOffered h a) (entry_stamp e) (entry_stamp f)
    (move_due h a e move) (move_due h a f other))
  where
    by_kind : (e f : Entry) → IsMove h a e → IsMove h a f → entry_stamp e ≡ entry_stamp f → e ≡ f
    by_kind (Native x) (Native y) move other same =
        let result : ◌≡◌ {A = Result Action Limit} (Ok x) (Ok y)
        = one_result h a.view (stamp_of x) (Ok x) (Ok y) move.comes
        (subst (λ (s : Stamp). ComesToInView h a.view s (Ok y)) (sym same) other.comes) in cc
    by_kind (Native x) (Heard q m) move other same =
        absurd (other.alone (subst (IsOwn h a.view) same move.native))
    by_kind (Heard q m) (Native y) move other same =
        absurd (move.alone (subst (IsOwn h a.view) (sym same) other.native))
    by_kind (Heard q m) (Heard r n) move other same =
        let region : q ≡ r = other.only q m
        (subst (IsAmong m) (sym move.first.1) (inl refl)) same in
        let message : m ≡ n = first_is m n move.first.0 other.first.0 (trail_of a.waiting q) move.first.1
        (ap (trail_of a.waiting) region ∙ other.first.1) in
        cc

-- of two logs of moves the longer goes on from the other
pub one_log : (h : Home) (a : At) (xs ys : List Entry) → Moves h a xs → Moves h a ys →
    length xs ≤ length ys → (rest : List Entry) × (ys ≡ xs ++ rest)
one_log h a [] ys moves others le = (ys, refl)
one_log h a (x ∷ xs) [] moves others le = absurd (omega arith)
one_log h a (x ∷ xs) (y ∷ ys) moves others le =
    let same : y ≡ x = one_move h a y x others.0 moves.0 in
    let rest = one_log h (after_entry a x) xs ys moves.1
    (subst (λ (v : Entry). Moves h (after_entry a v) ys) same others.1) (omega arith) in
    (rest.0, cc (same, rest.1))

pub logs_go_one_way : LogsGoOneWay
logs_go_one_way h r log right other le =
    one_log h (start_of r) r.log log right.moves other.moves le

pub entries_were_due : EntriesWereDue
entries_were_due h r before after e right parts =
    let moves = moves_split h (start_of r) before (e ∷ after)
    (subst (Moves h (start_of r)) parts right.moves) in
    move_due h (after_log (start_of r) before) e moves.1.0

-- ---- hearing
later : Stamp → Stamp
later s = record s { tick = s.tick + 1 }

one_disagreement : (a b : List Message) (d e : Stamp) → AgreesUpTo a b d → AgreesUpTo a b e → d ≡ e
one_disagreement a b d e first second = same_stamp d e
    (λ less. first.beyond e less (second.below e (not_before_itself e)))
    (λ less. second.beyond d less (first.below d (not_before_itself d)))

none_of_the_same : (a b : List Message) (d : Stamp) → a ≡ b → ¬ AgreesUpTo a b d
unfolding later
none_of_the_same a b d same agree =
    agree.beyond (later d) (before_tick d (later d) (omega arith)) (ap (below (later d)) same)

pub one_hearing : (k : ℕ) (sent : List Message) (r new kept : Local) (answer given : Hearing) →
    HearsFrom k sent r answer new → HearsFrom k sent r given kept → answer ≡ given
one_hearing k sent r new kept Same Same (same, leaves) other = refl
one_hearing k sent r new kept Same (Later e) (same, leaves) (agree, keeps, has) =
    absurd (none_of_the_same (trail_of r.heard k) sent e same agree)
one_hearing k sent r new kept Same (Rewound e) (same, leaves) (agree, drops, has) =
    absurd (none_of_the_same (trail_of r.heard k) sent e same agree)
one_hearing k sent r new kept (Later d) Same (agree, keeps, has) (same, leaves) =
    absurd (none_of_the_same (trail_of r.heard k) sent d same agree)
one_hearing k sent r new kept (Later d) (Later e) (agree, keeps, has) (also, too, had) =
    ap (λ (s : Stamp). Later s) (one_disagreement (trail_of r.heard k) sent d e agree also)
one_hearing k sent r new kept (Later d) (Rewound e) (agree, keeps, has) (also, drops, had) =
    absurd (drops (subst (λ (s : Stamp). entries_below s r.log ≡ r.log)
    (one_disagreement (trail_of r.heard k) sent d e agree also) keeps))
one_hearing k sent r new kept (Rewound d) Same (agree, drops, has) (same, leaves) =
    absurd (none_of_the_same (trail_of r.heard k) sent d same agree)
one_hearing k sent r new kept (Rewound d) (Later e) (agree, drops, has) (also, keeps, had) =
    absurd (drops (subst (λ (s : Stamp). entries_below s r.log ≡ r.log)
    (sym (one_disagreement (trail_of r.heard k) sent d e agree also)) keeps))
one_hearing k sent r new kept (Rewound d) (Rewound e) (agree, drops, has) (also, too, had) =
    ap (λ (s : Stamp). Rewound s) (one_disagreement (trail_of r.heard k) sent d e agree also)
one_hearing k sent r new kept Apart given none other = absurd none
one_hearing k sent r new kept Same Apart (same, leaves) none = absurd none
one_hearing k sent r new kept (Later d) Apart (agree, keeps, has) none = absurd none
one_hearing k sent r new kept (Rewound d) Apart (agree, drops, has) none = absurd none
