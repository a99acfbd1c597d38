-- Rows and their texts, from one line to the next.
use Rattle.std.proofs.Common.{◌≡◌, ◌||◌, ℕ, Bool, true, false, List, [], ◌∷◌, ◌++◌, refl, sym, ap}
use Rattle.std.proofs.Common.{◌∙◌, append_assoc, append-nil}
use Rattle.io_edge.specs.Lines.{Shown}
use Rattle.item_schema.specs.declared.column.Column.{Column}
use Rattle.stream_run.specs.Meanings.{Meaning}
use Rattle.stream_run.specs.SessionLaws.{or-false}
use Rattle.stream_run.specs.Sessions.{is_begun}
use Rattle.view_lines.specs.RowTexts.{Style, row_text, rows_text, widths_after, widths_of}
use Rattle.view_lines.specs.Rows.{Row, names_at, rows_after, rows_of}

module _ (style : Style) (columns : List Column) where
  -- the widths after rows and more
  pub widths_of-append : (widths : List ℕ) (rows more : List Row)
      → widths_of style columns widths (rows ++ more)
      ≡ widths_of style columns (widths_of style columns widths rows) more
  widths_of-append widths [] more = refl
  widths_of-append widths (row ∷ rows) more =
      widths_of-append (widths_after style.form style.digits columns widths row) rows more

  -- the text of rows and of more
  pub rows_text-append : (widths : List ℕ) (rows more : List Row)
      → rows_text style columns widths (rows ++ more)
      ≡ rows_text style columns widths rows
      ++ rows_text style columns (widths_of style columns widths rows) more
  rows_text-append widths [] more = refl
  rows_text-append widths (row ∷ rows) more =
      let after = widths_after style.form style.digits columns widths row in
      let first = row_text style.form style.digits columns after row in
      ap (λ (l : List ℕ). first ++ l) (rows_text-append after rows more)
      ∙ sym (append_assoc first (rows_text style columns after rows) _)

module _ (began : Bool) (meaning : Meaning) where
  rows_after-append : (before lines more : List Shown)
      → rows_after began meaning before (lines ++ more)
      ≡ rows_after began meaning before lines
      ++ rows_after began meaning (before ++ lines) more
  rows_after-append before [] more =
      ap (λ (b : List Shown). rows_after began meaning b more) (sym (append-nil before))
  rows_after-append before (line ∷ lines) more =
      let here = rows_of began meaning before line in
      let after = rows_after began meaning (before ++ line ∷ []) lines in
      ap (λ (l : List Row). here ++ l) (rows_after-append (before ++ line ∷ []) lines more)
      ∙ sym (append_assoc here after _)
      ∙ ap (λ (b : List Shown). (here ++ after) ++ rows_after began meaning b more)
      (append_assoc before (line ∷ []) lines)

  -- the rows of one line more
  pub rows_after-push : (lines : List Shown) (line : Shown)
      → rows_after began meaning [] (lines ++ line ∷ [])
      ≡ rows_after began meaning [] lines ++ rows_of began meaning lines line
  rows_after-push lines line =
      rows_after-append [] lines (line ∷ [])
      ∙ ap (λ (l : List Row). rows_after began meaning [] lines ++ l)
      (append-nil (rows_of began meaning lines line))

-- the names come where no line has come
pub names_next : (began : Bool) (before : List Shown)
    → names_at (began || is_begun before) [] ≡ names_at began before
names_next began [] = ap (λ (b : Bool). names_at b []) (or-false began)
names_next true (line ∷ before) = refl
names_next false (line ∷ before) = refl
