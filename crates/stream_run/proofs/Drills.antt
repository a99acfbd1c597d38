-- The values after the lines of a drill, from one line to the next.
use Rattle.std.proofs.Common.{if◌then◌else◌, ◌≡◌, ℕ, zero, suc, ◌+◌, ◌<◌, Bool, true, false, cond}
use Rattle.std.proofs.Common.{IsTrue, List, [], ◌∷◌, ◌++◌, length, count_by, is_some, map, Option}
use Rattle.std.proofs.Common.{Some, Result, Ok, refl, sym, ap, subst, ◌∙◌, append_assoc, append-nil}
use Rattle.std.proofs.Common.{length-append, arith}
use Rattle.std.proofs.lemmas.List.{map-append}
use Rattle.std.proofs.lemmas.Grind.{common_steps}
use Rattle.io_edge.specs.Lines.{Shown, ended_by_lf, lines, text}
use Rattle.value_ops.specs.declared.field.Field.{Field}
use Rattle.value_ops.specs.declared.value.Value.{Value}
use Rattle.item_schema.specs.Layout.{Layout}
use Rattle.line_reader.specs.Reading.{item_of}
use Rattle.item_schema.specs.declared.column.Column.{Column}
use Rattle.line_reader.specs.declared.stop.Skip.{Skip}
use Rattle.item_drill.specs.Lines.{are_read, drill_bytes, header_of, item_from, line_from}
use Rattle.item_drill.specs.Lines.{lines_from, names_of, row_of}
use Rattle.item_drill.proofs.DrilledBytes.{bytes_have_lines}
use Rattle.item_drill.proofs.Readings.{line_has_item, not_empty}
use Rattle.report_writer.specs.Texts.{drill_text}
use Rattle.stream_run.specs.Drilled.{drilled, last_of, summary, value_at, value_for, values_after}
use Rattle.stream_run.specs.Drilled.{values_of}
use Rattle.stream_run.specs.Drilling.{drilled_lines}
use Rattle.item_drill.specs.Drillable.{IsDrillable}
use Rattle.stream_run.specs.Meanings.{Meaning}
use Rattle.stream_run.specs.Output.{is_header, read_of, value_after}

-- the values after lines and one line more
values_after-push : (meaning : Meaning) (before shown : List Shown) (line : Shown)
    → values_after meaning before (shown ++ line ∷ [])
    ≡ values_after meaning before shown ++ value_at meaning (before ++ shown) line
values_after-push meaning before [] line =
    append-nil (value_at meaning before line)
    ∙ ap (λ (b : List Shown). value_at meaning b line) (sym (append-nil before))
values_after-push meaning before (first ∷ shown) line =
    let here = value_at meaning before first in
    let after = before ++ first ∷ [] in
    ap (λ (l : List (Option Value)). here ++ l) (values_after-push meaning after shown line)
    ∙ sym (append_assoc here (values_after meaning after shown)
    (value_at meaning (after ++ shown) line))
    ∙ ap (λ (b : List Shown). (here ++ values_after meaning after shown) ++ value_at meaning b line)
    (append_assoc before (first ∷ []) shown)

-- a line of an item, which is not empty, gives the item
read_of-item : (columns : List Column) (line : List ℕ) (item : List Field) → 0 < length line
    → item_of columns line ≡ Ok item → read_of columns (text line) ≡ Some (Ok item)
read_of-item columns [] item some is = absurd (omega arith)
read_of-item columns (byte ∷ line) item some is = ap Some is

-- no line after the first ones is a header
no_header : (layout : Layout) (front lines : List Shown) (has_header : Bool)
    → layout.has_header ≡ has_header → (has_header ≡ true → 0 < length front)
    → is_header layout (front ++ lines) ≡ false
no_header layout (line ∷ front) lines has_header is some = refl
no_header layout [] (line ∷ lines) has_header is some = refl
no_header layout [] [] true is some = absurd (omega (arith, some refl))
no_header layout [] [] false is some = is

-- a header is one line
some_header : (layout : Layout) → layout.has_header ≡ true
    → 0 < length (map ended_by_lf (header_of layout))
some_header layout is = rw is (omega arith)

module _ (layout : Layout) (count state seed : ℕ)
    (continues : (n : ℕ) → lines_from layout.columns (count + n) seed
    ≡ lines_from layout.columns count seed ++ lines_from layout.columns n state) where
  -- one drilled line more
  pub drilled_lines-next : drilled_lines layout (count + 1) seed
      ≡ drilled_lines layout count seed ++ text (line_from layout.columns state) ∷ []
  drilled_lines-next =
      let front = map ended_by_lf (header_of layout) in
      let shown = map text (lines_from layout.columns count seed) in
      ap (λ (l : List (List ℕ)). front ++ map text l) (continues 1)
      ∙ ap (λ (l : List Shown). front ++ l)
      (map-append text (lines_from layout.columns count seed) (line_from layout.columns state ∷ []))
      ∙ sym (append_assoc front shown (text (line_from layout.columns state) ∷ []))

-- so the drill continues after one line more
pub continues-next : (columns : List Column) (count state state' seed : ℕ)
    → ((n : ℕ) → lines_from columns (count + n) seed
    ≡ lines_from columns count seed ++ lines_from columns n state)
    → ((n : ℕ)
    → lines_from columns (suc n) state ≡ line_from columns state ∷ lines_from columns n state')
    → (n : ℕ) → lines_from columns (count + 1 + n) seed
    ≡ lines_from columns (count + 1) seed ++ lines_from columns n state'
continues-next columns count state state' seed continues next n =
    let here = lines_from columns count seed in
    let line = line_from columns state in
    let at : count + 1 + n ≡ count + suc n = omega arith in
    ap (λ (m : ℕ). lines_from columns m seed) at ∙ continues (suc n)
    ∙ ap (λ (l : List (List ℕ)). here ++ l) (next n)
    ∙ sym (append_assoc here (line ∷ []) (lines_from columns n state'))
    ∙ ap (λ (l : List (List ℕ)). l ++ lines_from columns n state')
    (sym (continues 1 ∙ ap (λ (l : List (List ℕ)). here ++ l) (next 0)))

-- the last of values and one more
last_of-push : (values : List (Option Value)) (value : Option Value)
    → last_of (values ++ value ∷ []) ≡ value
last_of-push [] value = refl
last_of-push (first ∷ []) value = refl
last_of-push (first ∷ second ∷ values) value = last_of-push (second ∷ values) value

-- how many of values and one more are some
count_by-push : (values : List (Option Value)) (value : Option Value)
    → count_by is_some (values ++ value ∷ []) ≡ count_by is_some values + cond (is_some value) 1 0
count_by-push [] value = grind (arith, common_steps)
count_by-push (first ∷ values) value = grind (arith, common_steps, count_by-push values value)

-- this many values, this many of them some, and the last one
pub record IsTally (count defined : ℕ) (values : List (Option Value))
    (value : Option Value) : Type 0 where
  pub many : length values ≡ count
  pub some : count_by is_some values ≡ defined
  pub last : 0 < count → last_of values ≡ value

-- of no values
pub tally_none : (value : Option Value) → IsTally 0 0 [] value
tally_none value = record { many = refl; some = refl; last = λ some. absurd (omega (arith, some)) }

-- and of one more
pub tally_more : (count defined : ℕ) (values : List (Option Value)) (before value : Option Value)
    → IsTally count defined values before
    → IsTally (count + 1) (defined + cond (is_some value) 1 0) (values ++ value ∷ []) value
tally_more count defined values before value tally = record {
  many = length-append values (value ∷ []) ∙ ap (λ (n : ℕ). n + 1) tally.many;
  some = count_by-push values value ∙ ap (λ (n : ℕ). n + cond (is_some value) 1 0) tally.some;
  last = λ some. last_of-push values value;
}

module _ (meaning : Meaning) (seed : ℕ) (some : 0 < length meaning.layout.columns)
    (read : IsTrue (are_read meaning.layout.columns)) where
  -- the values after one drilled line more
  pub values_of-next : (count state : ℕ) → drilled_lines meaning.layout (count + 1) seed
      ≡ drilled_lines meaning.layout count seed
      ++ text (line_from meaning.layout.columns state) ∷ []
      → values_of meaning (drilled_lines meaning.layout (count + 1) seed)
      ≡ values_of meaning (drilled_lines meaning.layout count seed)
      ++ value_after meaning (drilled_lines meaning.layout (count + 1) seed) ∷ []
  values_of-next count state next =
      let layout = meaning.layout in
      let front = map ended_by_lf (header_of layout) in
      let shown = drilled_lines layout count seed in
      let line = text (line_from layout.columns state) in
      let header = no_header layout front (map text (lines_from layout.columns count seed))
      layout.has_header refl (some_header layout) in
      let item = read_of-item layout.columns (line_from layout.columns state)
      (item_from layout.columns state) (not_empty layout.columns state some read)
      (line_has_item layout.columns state some read)
      in
      let value = value_after meaning (shown ++ line ∷ []) in
      let gives : value_at meaning shown line ≡ value ∷ [] =
      ap (λ (b : Bool). cond b [] (value_for (read_of layout.columns line) value)) header
      ∙ ap (λ (r : Option (Result (List Field) Skip)). value_for r value) item
      in
      ap (λ (l : List Shown). values_of meaning l) next ∙ values_after-push meaning [] shown line
      ∙ ap (λ (l : List (Option Value)). values_of meaning shown ++ l) gives
      ∙ ap (λ (l : List Shown). values_of meaning shown ++ value_after meaning l ∷ []) (sym next)

-- before the first line there are no values
pub values_of-none : (meaning : Meaning) (seed : ℕ)
    → values_of meaning (drilled_lines meaning.layout 0 seed) ≡ []
values_of-none meaning seed = at meaning.layout.has_header refl
  where
    front : Bool → List Shown
    front has_header =
        map ended_by_lf (if has_header then row_of (names_of meaning.layout.columns) ∷ [] else [])
        ++ []

    at : (has_header : Bool) → meaning.layout.has_header ≡ has_header
        → values_of meaning (front meaning.layout.has_header) ≡ []
    at true is =
        ap (λ (h : Bool). values_of meaning (front h)) is
        ∙ ap (λ (h : Bool). cond h [] (value_for (read_of meaning.layout.columns
        (ended_by_lf (row_of (names_of meaning.layout.columns))))
        (value_after meaning (ended_by_lf (row_of (names_of meaning.layout.columns)) ∷ [])))
        ++ []) is
    at false is = ap (λ (h : Bool). values_of meaning (front h)) is

-- one drilled line more is one value more
abbrev pub TallyNext : Meaning → Layout → Type 0
TallyNext meaning layout = 0 < length layout.columns → IsTrue (are_read layout.columns)
    → (seed count defined state : ℕ) (answer : Option Value)
    → drilled_lines layout (count + 1) seed
    ≡ drilled_lines layout count seed ++ text (line_from layout.columns state) ∷ []
    → answer ≡ value_after meaning (drilled_lines layout (count + 1) seed)
    → IsTally count defined (values_of meaning (drilled_lines layout count seed))
    (value_after meaning (drilled_lines layout count seed))
    → IsTally (count + 1) (defined + cond (is_some answer) 1 0)
    (values_of meaning (drilled_lines layout (count + 1) seed))
    (value_after meaning (drilled_lines layout (count + 1) seed))

own_next : (meaning : Meaning) → TallyNext meaning meaning.layout
own_next meaning some read seed count defined state answer next is tally =
    let old = values_of meaning (drilled_lines meaning.layout count seed) in
    let value = value_after meaning (drilled_lines meaning.layout (count + 1) seed) in
    let more = tally_more count defined old
    (value_after meaning (drilled_lines meaning.layout count seed)) answer tally in
    let defined' = defined + cond (is_some answer) 1 0 in
    subst (λ (values : List (Option Value)). IsTally (count + 1) defined' values value)
    (sym (values_of-next meaning seed some read count state next))
    (subst (λ (v : Option Value). IsTally (count + 1) defined' (old ++ v ∷ []) v) is more)

pub tally_next : (meaning : Meaning) (layout : Layout) → meaning.layout ≡ layout
    → TallyNext meaning layout
tally_next meaning layout is = subst (λ (l : Layout). TallyNext meaning l) is (own_next meaning)

-- before the first line there is no value
pub tally_begins : (meaning : Meaning) (layout : Layout) (seed : ℕ) → meaning.layout ≡ layout
    → IsTally 0 0 (values_of meaning (drilled_lines layout 0 seed))
    (value_after meaning (drilled_lines layout 0 seed))
tally_begins meaning layout seed is =
    subst (λ (l : Layout). IsTally 0 0 (values_of meaning (drilled_lines l 0 seed))
    (value_after meaning (drilled_lines l 0 seed))) is
    (subst (λ (values : List (Option Value)). IsTally 0 0 values
    (value_after meaning (drilled_lines meaning.layout 0 seed)))
    (sym (values_of-none meaning seed))
    (tally_none (value_after meaning (drilled_lines meaning.layout 0 seed))))

-- what is said of a tally is said of its values
pub tally_text : (count defined : ℕ) (values : List (Option Value)) (value : Option Value)
    → IsTally count defined values value → drill_text count defined value ≡ summary values
tally_text count defined values value tally =
    rw (tally.many, tally.some) (same count defined (last_of values) value tally.last)
  where
    same : (count defined : ℕ) (one other : Option Value) → (0 < count → one ≡ other)
        → drill_text count defined other ≡ drill_text count defined one
    same zero defined one other is = refl
    same (suc count) defined one other is =
        ap (drill_text (suc count) defined) (sym (is (omega arith)))

-- what was reported of the lines of a drill holds of its bytes
pub reported_of_bytes : (meaning : Meaning) (layout : Layout) (count seed defined : ℕ)
    (answer : Option Value) → meaning.layout ≡ layout → IsDrillable layout
    → IsTally count defined (values_of meaning (drilled_lines layout count seed))
    (value_after meaning (drilled_lines layout count seed))
    → answer ≡ value_after meaning (drilled_lines layout count seed)
    → (line : List ℕ) → line ≡ drill_text count defined answer → line ≡ drilled meaning count seed
reported_of_bytes meaning layout count seed defined answer is can tally same line reported =
    reported ∙ ap (drill_text count defined) same
    ∙ tally_text count defined (values_of meaning (drilled_lines layout count seed))
    (value_after meaning (drilled_lines layout count seed)) tally
    ∙ ap (λ (shown : List Shown). summary (values_of meaning shown))
    (sym (bytes_have_lines layout count seed can.few can.read can.names))
    ∙ ap (λ (l : Layout). summary (values_of meaning (lines (drill_bytes l count seed) true)))
    (sym is)
