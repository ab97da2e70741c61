-- A canonical text is read as the document of its scene.
use Rattle.std.proofs.Common.{◌≡◌, ℕ, suc, ◌-◌, ◌<◌, ℤ, pos, Bool, true, false, ◌==◌, max, List, [], ◌∷◌, ◌++◌, length, codes, Option, Some, None, option_and_then, refl, sym, ap, ◌∙◌, arith, append_assoc, length-append}
use Rattle.std.specs.Prelude.{flat_map, FitsSigned, if◌then◌else◌, ⊤}
use Rattle.std.specs.Int.{w64}
use Rattle.std.specs.Fmt.{signed_decimal}
use Rattle.std.specs.Ordering.{int_eq}
use Rattle.std.proofs.lemmas.Bool.Decides.{nat_tests}
use Rattle.toml_parser.specs.Lexical.{first, skip_blank, skip_ws}
use Rattle.toml_parser.proofs.LexicalLemmas.{skip_ws_none, skip_from-nil}
use Rattle.toml_writer.specs.Text.{key_text}
use Rattle.toml_writer.proofs.Strings.{is_key_start-key_text}
use Rattle.toml.specs.Data.{Data, integer, array, Items, no_items, item, push_item, items_depth, items_have_valid_dates}
use Rattle.toml.specs.Tables.{no_nodes, close, Document, Expression, define, key_value}
use Rattle.toml.specs.Parse.{val, items, after_element, expression, ends_line, line, lines, skip_bom}
use Rattle.toml.specs.Text.{IsValueText, IsItemsText, before_item, breaks_lines}
use Rattle.toml.proofs.OnLiterals.{toml_on_literals}
use Rattle.toml.proofs.Turns.{val_open_array, items_end, items_more, keyval_ok, lines_end, lines_more, lines_refused, document_some}
use Rattle.toml.proofs.Blanks.{starts_value, skip_start, skip_none, skip_space, skip_newline, skip_within}
use Rattle.toml.proofs.ReadValues.{EndsValue, value_start, read_value, key_equals-pair, item_join, item_join-none, item_join-push}
use Rattle.toml.proofs.ReadLines.{run}
use Rattle.text_lines.specs.Lines.{ended}
use Rattle.fixed_motion.specs.declared.rules.Rules.{Rules}
use Rattle.fixed_motion.specs.declared.disk.Disk.{Disk}
use Rattle.fixed_motion.specs.Scene.{SceneData}
use Rattle.scene_maker.specs.Canonical.{canonical_text, every_text, row_line, key_line}
use Rattle.canonical_scenes.specs.Parsed.{row_numbers, cells, rows, AllFit, RowsFit, every_numbers, FitsNumbers, members_of, CanonicalTextsParse}

-- ---- a row
-- the numbers with what stands between them, and the bracket after them
abbrev cells_text : Bool → List ℤ → List ℕ
cells_text is_first [] = codes "]"
cells_text is_first (n ∷ ns) = before_item false is_first ++ (signed_decimal n ++ cells_text false ns)

cells_are : (is_first : Bool) (ns : List ℤ) → AllFit ns → IsItemsText false false is_first (cells ns) (cells_text is_first ns)
cells_are is_first [] h = refl
cells_are is_first (n ∷ ns) h =
    (signed_decimal n, cells_text false ns, refl, (refl, h.0), cells_are false ns h.1)

never_breaks : (ds : Items) → breaks_lines false ds ≡ false
never_breaks no_items = refl
never_breaks (item d no_items) = refl
never_breaks (item d (item e ds)) = refl

array_text : List ℤ → List ℕ
array_text ns = codes "[" ++ cells_text true ns

array_is : (ns : List ℤ) → AllFit ns → IsValueText false (array (cells ns)) (array_text ns)
unfolding array_text
array_is ns h = (cells_text true ns, refl, rw (never_breaks (cells ns)) (cells_are true ns h))

flat_cells : (ns : List ℤ) → items_depth (cells ns) ≡ 0
flat_cells [] = refl
flat_cells (n ∷ ns) = ap (max 0) (flat_cells ns)

undated_cells : (ns : List ℤ) → items_have_valid_dates (cells ns) ≡ true
undated_cells [] = refl
undated_cells (n ∷ ns) = undated_cells ns

array_read : (ns : List ℤ) (n : ℕ) (rest : List ℕ) → AllFit ns → 0 < n → EndsValue rest →
    val n (array_text ns ++ rest) ≡ Some (array (cells ns), rest)
array_read ns n rest h some ends =
    let flat = flat_cells ns in
    read_value false (array (cells ns)) n (array_text ns) rest (array_is ns h) (omega arith) (undated_cells ns) ends

-- a row's line is two spaces, the array of its numbers, a comma and a newline
row_is : (rules : Rules) (disk : Disk) (rest : List ℕ) →
    row_line rules disk ++ rest ≡ 32 ∷ 32 ∷ (array_text (row_numbers rules disk) ++ 44 ∷ 10 ∷ rest)
unfolding array_text
row_is rules disk rest = by_size (int_eq disk.size rules.diameter)
  where
    by_size : (t : Bool) →
        ended (codes "  [" ++ (signed_decimal disk.x ++ (codes ", " ++ (signed_decimal disk.y ++ (codes ", "
        ++ (signed_decimal disk.vx ++ (codes ", " ++ (signed_decimal disk.vy
        ++ ((if t then [] else codes ", " ++ signed_decimal disk.size) ++ codes "],"))))))))) ++ rest
        ≡ 32 ∷ 32 ∷ ((codes "[" ++ cells_text true (disk.x ∷ disk.y ∷ disk.vx ∷ disk.vy ∷ (if t then [] else disk.size ∷ []))) ++ 44 ∷ 10 ∷ rest)
    by_size true = simp append_assoc
    by_size false = simp append_assoc

-- ---- the rows
after_comma : (closing : ℕ) (t : List ℕ) → after_element closing (44 ∷ t) ≡ Some t
unfolding after_element
after_comma closing t = rw (skip_none (44 ∷ t) 44 refl refl)

first_bracket : (ns : List ℤ) (rest : List ℕ) → first (array_text ns ++ rest) ≡ 91
unfolding array_text
first_bracket ns rest = refl

rows_read : (rules : Rules) (disks : List Disk) (n m : ℕ) (tail x : List ℕ) (found : Items) → RowsFit rules disks → 0 < n →
    skip_blank x ≡ skip_blank (flat_map (row_line rules) disks ++ 93 ∷ tail) → length x < m →
    items (val n) m found x ≡ Some (item_join found (rows rules disks), tail)
rows_read rules [] n m tail x found h some skip room =
    let closing : skip_blank x ≡ 93 ∷ tail = skip ∙ skip_none (93 ∷ tail) 93 refl refl in
    items_end (val n) m found x (omega arith) (rw closing refl) ∙ rw (closing, item_join-none found)
rows_read rules (disk ∷ disks) n m tail x found h some skip room =
    let ns : List ℤ = row_numbers rules disk in
    let later : List ℕ = flat_map (row_line rules) disks ++ 93 ∷ tail in
    let s : List ℕ = array_text ns ++ 44 ∷ 10 ∷ later in
    let same : flat_map (row_line rules) (disk ∷ disks) ++ 93 ∷ tail ≡ 32 ∷ 32 ∷ s =
    append_assoc (row_line rules disk) (flat_map (row_line rules) disks) (93 ∷ tail) ∙ row_is rules disk later in
    let bracket : first s ≡ 91 = first_bracket ns (44 ∷ 10 ∷ later) in
    let at_start : skip_blank x ≡ s =
    skip ∙ ap skip_blank same ∙ skip_space (32 ∷ s) ∙ skip_space s ∙ skip_none s 91 bracket refl in
    let read : val n s ≡ Some (array (cells ns), 44 ∷ 10 ∷ later) =
    array_read ns n (44 ∷ 10 ∷ later) h.0 some ((refl, refl), (refl, refl)) in
    let other : (first (skip_blank x) == 93) ≡ false = ap (λ (l : List ℕ). first l == 93) at_start ∙ ap (λ (b : ℕ). b == 93) bracket in
    let within = skip_within x in
    let shorter : length (skip_blank x) ≡ length s = ap length at_start in
    let sizes = length-append (array_text ns) (44 ∷ 10 ∷ later) in
    items_more (val n) m found x (array (cells ns)) (44 ∷ 10 ∷ later) (10 ∷ later) (omega arith) other
    (ap (val n) at_start ∙ read) (after_comma 93 (10 ∷ later))
    ∙ rows_read rules disks n (m - 1) tail (10 ∷ later) (push_item found (array (cells ns))) h.1 some
    (skip_newline later) (omega arith)
    ∙ ap (λ (t : Items). Some (t, tail)) (item_join-push found (array (cells ns)) (rows rules disks))

disks_read : (rules : Rules) (disks : List Disk) (tail : List ℕ) → RowsFit rules disks →
    val 80 (91 ∷ 10 ∷ (flat_map (row_line rules) disks ++ 93 ∷ tail)) ≡ Some (array (rows rules disks), tail)
disks_read rules disks tail h =
    let x : List ℕ = 10 ∷ (flat_map (row_line rules) disks ++ 93 ∷ tail) in
    val_open_array 80 (91 ∷ x) (omega arith) refl
    ∙ rw (rows_read rules disks 79 (length (91 ∷ x)) tail x no_items h (omega arith) (skip_newline _) (omega arith))

-- ---- lines
-- a key, and the value that a text is read as
record Entry : Type 0 where
  key : List ℕ
  value : Data
  text : List ℕ

IsRead : Entry → Type 0
IsRead e = ((rest : List ℕ) → starts_value (first (e.text ++ 10 ∷ rest)) ≡ true)
    × ((rest : List ℕ) → val 80 (e.text ++ 10 ∷ rest) ≡ Some (e.value, 10 ∷ rest))

abbrev AllRead : List Entry → Type 0
AllRead [] = ⊤
AllRead (e ∷ es) = IsRead e × AllRead es

abbrev entry_text : Entry → List ℕ → List ℕ
entry_text e rest = key_text e.key ++ (codes " = " ++ (e.text ++ 10 ∷ rest))

abbrev entries_text : List Entry → List ℕ
entries_text [] = []
entries_text (e ∷ es) = entry_text e (entries_text es)

abbrev expressions_of : List Entry → List Expression
expressions_of [] = []
expressions_of (e ∷ es) = (([], e.key), key_value e.value) ∷ expressions_of es

ends_at_newline : (rest : List ℕ) → ends_line (skip_ws (10 ∷ rest)) ≡ true
ends_at_newline rest = rw (skip_ws_none (10 ∷ rest) refl) (grind (arith, nat_tests))

entry_line : (e : Entry) (rest : List ℕ) → IsRead e → line (entry_text e rest) ≡ Some ((([], e.key), key_value e.value), 10 ∷ rest)
unfolding line expression IsRead
entry_line e rest h =
    let value_at = e.text ++ 10 ∷ rest in
    let s = entry_text e rest in
    let pair = keyval_ok (val 80) s value_at (10 ∷ rest) ([], e.key) e.value (key_equals-pair e.key value_at (h.0 rest)) (h.1 rest) in
    let key_first = is_key_start-key_text e.key (codes " = " ++ value_at) in
    let other : (first s == 91) ≡ false = grind (arith, nat_tests) in
    rw (other, pair, ends_at_newline rest)

read_step : (m : ℕ) (doc : Document) (x : List ℕ) (e : Expression) (after : List ℕ) (es : List Expression) (defined : Option Document) →
    defined ≡ define doc e → 0 < m → (length (skip_blank x) == 0) ≡ false → line (skip_blank x) ≡ Some (e, after) →
    ((next : Document) → lines (m - 1) next after ≡ option_and_then (λ n. run n es) (Some next)) →
    lines m doc x ≡ option_and_then (λ n. run n es) defined
read_step m doc x e after es None same some other read more = lines_refused m doc x e after some other read (sym same)
read_step m doc x e after es (Some next) same some other read more =
    lines_more m doc next x e after some other read (sym same) ∙ more next

entries_read : (es : List Entry) (x : List ℕ) (doc : Document) (m : ℕ) → AllRead es → skip_blank x ≡ skip_blank (entries_text es) →
    length x < m → lines m doc x ≡ run doc (expressions_of es)
entries_read [] x doc m h skip room =
    lines_end m doc x (omega arith) (rw (skip, skip_from-nil true false) refl)
entries_read (e ∷ es) x doc m h skip room =
    let rest = entries_text es in
    let s = entry_text e rest in
    let key_first = is_key_start-key_text e.key (codes " = " ++ (e.text ++ 10 ∷ rest)) in
    let start : starts_value (first s) ≡ true = grind (arith, nat_tests) in
    let same : skip_blank x ≡ s = skip ∙ skip_start s start in
    let key_size = length-append (key_text e.key) (codes " = " ++ (e.text ++ 10 ∷ rest)) in
    let value_size = length-append e.text (10 ∷ rest) in
    let some : 0 < length s = omega arith in
    let other : (length (skip_blank x) == 0) ≡ false = rw same (grind (arith, nat_tests)) in
    let within = skip_within x in
    read_step m doc x (([], e.key), key_value e.value) (10 ∷ rest) (expressions_of es) (define doc (([], e.key), key_value e.value)) refl
    (omega arith) other (ap line same ∙ entry_line e rest h.0)
    (λ next. entries_read es (10 ∷ rest) next (m - 1) h.1 (skip_newline rest) (omega (arith, ap length same)))

-- ---- entries
abbrev number : List ℕ → ℤ → Entry
number key n = record { key = key; value = integer n; text = signed_decimal n }

number_reads : (key : List ℕ) (n : ℤ) → FitsSigned w64 n → IsRead (number key n)
unfolding IsRead
number_reads key n h = (
  λ rest. (value_start false (integer n) (signed_decimal n) (10 ∷ rest) (refl, h) refl).1,
  λ rest. read_value false (integer n) 80 (signed_decimal n) (10 ∷ rest) (refl, h) (omega arith) refl ((refl, refl), (refl, refl)),
)

abbrev disks_entry : SceneData → Entry
disks_entry scene = record {
  key = codes "disks";
  value = array (rows scene.rules scene.disks);
  text = 91 ∷ 10 ∷ (flat_map (row_line scene.rules) scene.disks ++ 93 ∷ []);
}

disks_entry_reads : (scene : SceneData) → RowsFit scene.rules scene.disks → IsRead (disks_entry scene)
unfolding IsRead
disks_entry_reads scene h = (
  λ rest. refl,
  λ rest. ap (λ (l : List ℕ). val 80 (91 ∷ 10 ∷ l)) (append_assoc (flat_map (row_line scene.rules) scene.disks) (93 ∷ []) (10 ∷ rest))
      ∙ disks_read scene.rules scene.disks (10 ∷ rest) h,
)

abbrev every_entries : Option ℕ → List Entry → List Entry
every_entries None es = es
every_entries (Some ticks) es = number (codes "every") (pos ticks) ∷ es

abbrev entries : SceneData → List Entry
entries scene =
    number (codes "width") scene.rules.width ∷ number (codes "height") scene.rules.height
    ∷ number (codes "diameter") scene.rules.diameter ∷ number (codes "speed_limit") scene.rules.speed_limit
    ∷ number (codes "round_limit") (pos scene.rules.round_limit) ∷ number (codes "end") (pos scene.rules.end)
    ∷ every_entries scene.every (disks_entry scene ∷ [])

every_read : (every : Option ℕ) (es : List Entry) → AllFit (every_numbers every) → AllRead es → AllRead (every_entries every es)
every_read None es h k = k
every_read (Some ticks) es h k = (number_reads (codes "every") (pos ticks) h.0, k)

all_read : (scene : SceneData) → FitsNumbers scene → AllRead (entries scene)
all_read scene h = (
  number_reads (codes "width") scene.rules.width h.rules.0,
  (
    number_reads (codes "height") scene.rules.height h.rules.1.0,
    (
      number_reads (codes "diameter") scene.rules.diameter h.rules.1.1.0,
      (
        number_reads (codes "speed_limit") scene.rules.speed_limit h.rules.1.1.1.0,
        (
          number_reads (codes "round_limit") (pos scene.rules.round_limit) h.rules.1.1.1.1.0,
          (
            number_reads (codes "end") (pos scene.rules.end) h.rules.1.1.1.1.1.0,
            every_read scene.every (disks_entry scene ∷ []) h.every (disks_entry_reads scene h.rows, tt),
          ),
        ),
      ),
    ),
  ),
)

-- ---- the text
flat_line : (k c v rest : List ℕ) → ((k ++ (c ++ v)) ++ 10 ∷ []) ++ rest ≡ k ++ (c ++ (v ++ 10 ∷ rest))
flat_line k c v rest = simp append_assoc

flat_six : (a b c d e f rest : List ℕ) →
    (a ++ (b ++ (c ++ (d ++ (e ++ f))))) ++ rest ≡ a ++ (b ++ (c ++ (d ++ (e ++ (f ++ rest)))))
flat_six a b c d e f rest = simp append_assoc

-- the text is that of the entries
record IsTextOf (text : List ℕ) (es : List Entry) : Type 0 where
  same : text ≡ entries_text es

key_then : (key : List ℕ) (n : ℤ) (text : List ℕ) (es : List Entry) → key_text key ≡ key → IsTextOf text es →
    IsTextOf (key_line key n ++ text) (number key n ∷ es)
key_then key n text es bare h = record {
  same = flat_line key (codes " = ") (signed_decimal n) text
      ∙ (λ i. sym bare i ++ (codes " = " ++ (signed_decimal n ++ 10 ∷ h.same i)));
}

disks_are : (scene : SceneData) →
    IsTextOf (ended (codes "disks = [") ++ (flat_map (row_line scene.rules) scene.disks ++ ended (codes "]"))) (disks_entry scene ∷ [])
unfolding key_text
disks_are scene = record {
  same = ap (λ (l : List ℕ). codes "disks = [" ++ 10 ∷ l)
      (sym (append_assoc (flat_map (row_line scene.rules) scene.disks) (93 ∷ []) (10 ∷ [])));
}

every_is : (every : Option ℕ) (text : List ℕ) (es : List Entry) → IsTextOf text es →
    IsTextOf (every_text every ++ text) (every_entries every es)
unfolding key_text
every_is None text es h = h
every_is (Some ticks) text es h = key_then (codes "every") (pos ticks) text es refl h

text_is : (scene : SceneData) → canonical_text scene ≡ entries_text (entries scene)
unfolding key_text
text_is scene =
    let r : Rules = scene.rules in
    let disks = disks_are scene in
    let seventh = every_is scene.every _ _ disks in
    let sixth = key_then (codes "end") (pos r.end) _ _ refl seventh in
    let fifth = key_then (codes "round_limit") (pos r.round_limit) _ _ refl sixth in
    let fourth = key_then (codes "speed_limit") r.speed_limit _ _ refl fifth in
    let third = key_then (codes "diameter") r.diameter _ _ refl fourth in
    let second = key_then (codes "height") r.height _ _ refl third in
    let whole = key_then (codes "width") r.width _ _ refl second in
    flat_six (key_line (codes "width") r.width) (key_line (codes "height") r.height)
    (key_line (codes "diameter") r.diameter) (key_line (codes "speed_limit") r.speed_limit)
    (key_line (codes "round_limit") (pos r.round_limit)) (key_line (codes "end") (pos r.end))
    (every_text scene.every ++ (ended (codes "disks = [") ++ (flat_map (row_line r) scene.disks ++ ended (codes "]"))))
    ∙ whole.same

-- ---- the document
-- the nodes of the entries, in the order of their keys
runs : (scene : SceneData) → (doc : Document) × (run (no_nodes, []) (expressions_of (entries scene)) ≡ Some doc)
    × (close doc.0 ≡ members_of scene)
unfolding toml_on_literals
runs scene = by_every scene.every
  where
    by_every : (every : Option ℕ) → (doc : Document)
        × (run (no_nodes, []) (expressions_of (entries (record scene { every = every }))) ≡ Some doc)
        × (close doc.0 ≡ members_of (record scene { every = every }))
    by_every None = (_, refl, refl)
    by_every (Some ticks) = (_, refl, refl)

no_mark : (text : List ℕ) → (first text == 239) ≡ false → skip_bom text ≡ text
unfolding skip_bom
no_mark text h = rw h

pub canonical_texts_parse : CanonicalTextsParse
canonical_texts_parse scene h =
    let text = canonical_text scene in
    let ran = runs scene in
    let read = entries_read (entries scene) text (no_nodes, []) (suc (length text)) (all_read scene h)
    (ap skip_blank (text_is scene)) (omega arith) in
    document_some text ran.0 (ap (lines (suc (length text)) (no_nodes, [])) (no_mark text refl) ∙ read ∙ ran.1) ∙ ap Some ran.2
