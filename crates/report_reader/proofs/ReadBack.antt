-- A report says its run.
use Rattle.std.proofs.Common.{◌≡◌, ℕ, ◌^◌, ◌<◌, ◌≤◌, true, List, [], ◌∷◌, ◌++◌, map, length, append_assoc, append-nil, Option, Some, None, arith, sym, ap, ◌∙◌, subst, refl}
use Rattle.std.specs.Prelude.{codes, decimal, flat_map, fold, count_by}
use Rattle.std.specs.List.{filter_map, cons_option}
use Rattle.std.proofs.lemmas.Grind.{flat_map-append}
use Rattle.std.proofs.lemmas.List.Elements.{filter_map-append}
use Rattle.std.proofs.lemmas.List.Sums.{count_by-le-length}
use Rattle.std.proofs.lemmas.Option.{same_Some}
use Rattle.fixed_motion.specs.declared.disk.Disk.{Disk}
use Rattle.fixed_motion.specs.Motion.{velocity_of}
use Rattle.fixed_motion.specs.Scene.{SceneData, IsValidScene}
use Rattle.text_lines.specs.Lines.{line_of}
use Rattle.event_stamps.specs.declared.Stamp.{Stamp}
use Rattle.event_stamps.specs.declared.Kind.{Kind}
use Rattle.event_stamps.specs.declared.Kind.TheVariants.{Cross, Wall, Pair}
use Rattle.event_rules.specs.declared.change.Change.{Change}
use Rattle.event_rules.specs.declared.change.Limit.{Limit}
use Rattle.event_rules.specs.declared.change.Limit.TheVariants.{Rounds, Speed}
use Rattle.event_rules.specs.declared.outcome.Spot.{Spot}
use Rattle.event_rules.specs.declared.outcome.Outcome.{Outcome}
use Rattle.event_rules.specs.declared.outcome.Outcome.TheVariants.{Done, Limit as Passes}
use Rattle.event_rules.specs.Run.{IsRun, IsValidState, effect, spots_of}
use Rattle.event_rules.specs.Laws.{last_tick}
use Rattle.event_rules.proofs.Ranges.{ticks, few_events, starts_valid}
use Rattle.collision_report.specs.declared.format.Format.TheVariants.{Lines}
use Rattle.collision_report.specs.Lines.{number_line, momentum_line, energy_line}
use Rattle.collision_report.specs.Blocks.{disk_lines}
use Rattle.collision_report.specs.Report.{is_wall, is_pair, latest, changes_text, last_blocks, spot_velocity, momentum_of, energy_of, counts_text, kind_name, limit_text, limit_line, end_block}
use Rattle.collision_report.proofs.Widths.{IsOfRun, stamp_of}
use Rattle.report_reader.specs.Reader.{Said, said_of, event_in, stamp_in, kind_in, limit_in, limit_named, is_done, spot_in, outcome_said, outcome_in, SaidRun, said_by, fields_by_line, read_report, ReportsReadBack, ReportsSayRuns}
use Rattle.report_reader.proofs.Rows.{IsPlain, AreRows, both_rows, is_plain, word_plain, decimal_plain, decimal_back, number_no_word, last_row, rows_back}
use Rattle.collision_report.proofs.ShortRuns.{last_valid, last_spots, last_limit, count_spots, momentum_within, energy_fits, slow_disks, slow_spots}
use Rattle.report_reader.proofs.Bodies.{go_on, IsBody, both, none_of, disks_body, counts_body, momentum_body, energy_body, blocks_quiet, Says, both_say, changes_body}

-- ---- the end
-- the rows of a text say no events, and an end
record IsEnd (text : List ℕ) (outcome : Outcome) : Type 0 where
  rows : List (List (List ℕ))
  whole : text ≡ flat_map line_of rows
  plain : AreRows rows
  events : filter_map event_in rows ≡ []
  ending : outcome_in (rows ++ last_row) ≡ Some outcome

kind_plain : (kind : Kind) → IsPlain (kind_name kind)
kind_plain Cross = word_plain (codes "cross") refl
kind_plain Wall = word_plain (codes "wall") refl
kind_plain Pair = word_plain (codes "pair") refl

kind_back : (kind : Kind) → kind_in (kind_name kind) ≡ kind
kind_back Cross = refl
kind_back Wall = refl
kind_back Pair = refl

abbrev limit_row : List ℕ → Stamp → List (List ℕ)
limit_row name s = codes "limit" ∷ name ∷ decimal s.tick ∷ decimal s.round ∷ kind_name s.kind ∷ decimal s.first ∷ decimal s.second ∷ []

named_end : (name : List ℕ) (s : Stamp) (limit : Limit) (walls pairs : ℕ) → is_plain name ≡ true → limit_named name s ≡ limit →
    IsOfRun s → walls < 2 ^ 90 → pairs < 2 ^ 90 → IsEnd (limit_text name s ++ counts_text walls pairs) (Passes limit)
named_end name s limit walls pairs plain named h few_walls few_pairs =
    let tick : s.tick < 10 ^ 64 = let t = h.tick in omega arith in
    let round : s.round < 10 ^ 64 = let r = h.range.0 in omega arith in
    let first : s.first < 10 ^ 64 = let r = h.range.1 in omega arith in
    let second : s.second < 10 ^ 64 = let r = h.range.2 in omega arith in
    let counts = counts_body walls pairs few_walls few_pairs in
    let row : List (List ℕ) = limit_row name s in
    let stamp : stamp_in (kind_in (kind_name s.kind)) (decimal s.tick) (decimal s.round) (decimal s.first) (decimal s.second) ≡ s =
    (λ i. record {
      tick = decimal_back s.tick tick i;
      round = decimal_back s.round round i;
      kind = kind_back s.kind i;
      first = decimal_back s.first first i;
      second = decimal_back s.second second i;
    }) in
    let says : limit_in row ≡ Some limit = ap (λ (v : Stamp). Some (limit_named name v)) stamp ∙ ap Some named in
    let silent : event_in row ≡ None = none_of _ _ (number_no_word s.tick 119 (97 ∷ 108 ∷ 108 ∷ []) tick (omega arith)) in
    record {
      rows = row ∷ counts.rows;
      whole = ap (λ (l : List ℕ). line_of row ++ l) counts.whole;
      plain = (
        (
          word_plain (codes "limit") refl,
          (
            word_plain name plain,
            (
              decimal_plain s.tick tick,
              (decimal_plain s.round round, (kind_plain s.kind, (decimal_plain s.first first, (decimal_plain s.second second, tt)))),
            ),
          ),
        ),
        counts.plain,
      );
      events = (λ i. cons_option (silent i) (filter_map event_in counts.rows)) ∙ counts.told;
      ending = ap (λ (o : Option Limit). outcome_said o (is_done row) (filter_map spot_in (counts.rows ++ last_row))
          (outcome_in (counts.rows ++ last_row))) says;
    }

limit_end : (limit : Limit) (walls pairs : ℕ) → IsOfRun (stamp_of limit) → walls < 2 ^ 90 → pairs < 2 ^ 90 →
    IsEnd (limit_line limit ++ counts_text walls pairs) (Passes limit)
limit_end (Rounds s) walls pairs h few_walls few_pairs =
    named_end (codes "rounds") s (Rounds s) walls pairs refl refl h few_walls few_pairs
limit_end (Speed s) walls pairs h few_walls few_pairs =
    named_end (codes "speed") s (Speed s) walls pairs refl refl h few_walls few_pairs

-- the line of the end, and rows that say places
after_done : (tick : ℕ) (text : List ℕ) (spots : List Spot) → tick < 10 ^ 64 → IsBody text [] spots →
    IsEnd (number_line (codes "done") tick ++ text) (Done spots)
after_done tick text spots h body = record {
  rows = (codes "done" ∷ decimal tick ∷ []) ∷ body.rows;
  whole = ap (λ (l : List ℕ). number_line (codes "done") tick ++ l) body.whole;
  plain = ((word_plain (codes "done") refl, (decimal_plain tick h, tt)), body.plain);
  events = body.told;
  ending = ap (λ (l : List Spot). Some (Done l)) (filter_map-append spot_in body.rows last_row ∙ append-nil _ ∙ body.places);
}

done_end : (scene : SceneData) (disks : List Disk) (walls pairs : ℕ) → IsValidScene scene → IsValidState scene.rules disks →
    walls < 2 ^ 90 → pairs < 2 ^ 90 →
    IsEnd (end_block Lines scene (Done (spots_of scene.rules.end disks)) walls pairs) (Done (spots_of scene.rules.end disks))
done_end scene disks walls pairs valid last h k =
    let spots : List Spot = spots_of scene.rules.end disks in
    let momentum = momentum_line (momentum_of spots) in
    let energy = energy_line (energy_of velocity_of scene.disks) (energy_of spot_velocity spots) in
    let lines = disk_lines 0 spots in
    let end = ticks scene.rules valid.rules in
    let few : length disks ≤ 65536 = last.count in
    let same = count_spots scene.rules.end disks in
    after_done scene.rules.end (counts_text walls pairs ++ (momentum ++ (energy ++ lines))) spots (omega arith)
    (both (counts_text walls pairs) (momentum ++ (energy ++ lines)) [] [] [] spots (counts_body walls pairs h k)
    (both momentum (energy ++ lines) [] [] [] spots
    (momentum_body (momentum_of spots) (momentum_within scene.rules disks valid.rules last))
    (both energy lines [] [] [] spots
    (energy_body (energy_of velocity_of scene.disks) (energy_of spot_velocity spots)
    (energy_fits velocity_of scene.disks valid.count
    (slow_disks scene.rules scene.disks valid.rules (starts_valid scene valid).valid))
    (energy_fits spot_velocity spots (omega (arith, same))
    (slow_spots scene.rules scene.rules.end disks valid.rules last.valid)))
    (disks_body scene.rules scene.rules.end 0 disks valid.rules end (omega arith) last.valid))))

run_end : (scene : SceneData) (changes : List Change) (outcome : Outcome) (walls pairs : ℕ) → IsValidScene scene →
    IsRun scene changes outcome → walls < 2 ^ 90 → pairs < 2 ^ 90 → IsEnd (end_block Lines scene outcome walls pairs) outcome
run_end scene changes (Passes limit) walls pairs valid run h k =
    limit_end limit walls pairs
    (last_limit scene.rules scene.disks changes limit valid.rules (starts_valid scene valid) run) h k
run_end scene changes (Done spots) walls pairs valid run h k =
    subst (λ (v : List Spot). IsEnd (end_block Lines scene (Done v) walls pairs) (Done v))
    (sym (last_spots scene.rules scene.disks changes spots run))
    (done_end scene (fold effect scene.disks changes) walls pairs valid
    (last_valid scene.rules scene.disks changes (Done spots) (starts_valid scene valid) run) h k)

-- ---- the report
read_both : (a b : List ℕ) (events : List Said) (spots : List Spot) (outcome : Outcome) → IsBody a events spots → IsEnd b outcome →
    read_report (a ++ b) ≡ record { events = events; outcome = Some outcome }
read_both a b events spots outcome h k =
    let rows : List (List (List ℕ)) = h.rows ++ k.rows in
    let text : a ++ b ≡ flat_map line_of rows =
    (λ i. h.whole i ++ k.whole i) ∙ sym (flat_map-append line_of h.rows k.rows) in
    let read : fields_by_line (a ++ b) ≡ h.rows ++ (k.rows ++ last_row) =
    ap fields_by_line text ∙ rows_back rows (both_rows h.rows k.rows h.plain k.plain) ∙ append_assoc h.rows k.rows last_row in
    let later : filter_map event_in (k.rows ++ last_row) ≡ [] =
    filter_map-append event_in k.rows last_row ∙ append-nil _ ∙ k.events in
    let all : filter_map event_in (h.rows ++ (k.rows ++ last_row)) ≡ events =
    filter_map-append event_in h.rows (k.rows ++ last_row) ∙ (λ i. h.told i ++ later i) ∙ append-nil events in
    let ending : outcome_in (h.rows ++ (k.rows ++ last_row)) ≡ Some outcome =
    go_on h.rows (k.rows ++ last_row) h.go_on ∙ k.ending in
    ap said_by read ∙ (λ i. record { events = all i; outcome = ending i })

pub reports_read_back : ReportsReadBack
reports_read_back scene changes outcome valid run =
    let starts = starts_valid scene valid in
    let few = few_events scene changes outcome valid run in
    let walls = count_by-le-length is_wall changes in
    let pairs = count_by-le-length is_pair changes in
    let first = changes_text scene scene.disks 0 changes in
    let later = last_blocks scene changes outcome in
    let body : Says (first ++ later) (map said_of changes ++ []) =
    both_say first later (map said_of changes) []
    (changes_body scene scene.disks 0 changes outcome valid.rules starts run)
    (blocks_quiet scene.rules scene.every (fold effect scene.disks changes) (fold latest 0 changes)
    (last_tick scene outcome) valid.rules (last_valid scene.rules scene.disks changes outcome starts run)) in
    read_both (first ++ later) (end_block Lines scene outcome (count_by is_wall changes) (count_by is_pair changes))
    (map said_of changes ++ []) body.0 outcome body.1
    (run_end scene changes outcome (count_by is_wall changes) (count_by is_pair changes) valid run (omega arith) (omega arith))
    ∙ ap (λ (l : List Said). record { events = l; outcome = Some outcome }) (append-nil (map said_of changes))

pub reports_say_runs : ReportsSayRuns
reports_say_runs scene other changes others outcome end valid own run runs e =
    let same : ◌≡◌ {A = SaidRun} (record { events = map said_of changes; outcome = Some outcome })
    (record { events = map said_of others; outcome = Some end }) =
    sym (reports_read_back scene changes outcome valid run) ∙ ap read_report e
    ∙ reports_read_back other others end own runs in
    (ap (λ (r : SaidRun). r.events) same, same_Some outcome end (ap (λ (r : SaidRun). r.outcome) same))
