-- What a view writes of a line replies to it.
use Rattle.std.proofs.Common.{◌≡◌, ℕ, Bool, List, [], ◌∷◌, ◌++◌, Option, sym, ap, ◌∙◌}
use Rattle.std.proofs.Common.{append_assoc}
use Rattle.io_edge.specs.Lines.{Shown}
use Rattle.value_ops.specs.declared.value.Value.{Value}
use Rattle.item_schema.specs.Layout.{Layout}
use Rattle.item_schema.specs.declared.column.Column.{Column}
use Rattle.rate_expr.specs.Words.{Word}
use Rattle.query_model.specs.Checked.{CheckedQuery}
use Rattle.query_model.specs.Monitors.{monitor_of}
use Rattle.stream_run.specs.Meanings.{IsMeaning, Meaning}
use Rattle.stream_run.specs.Replying.{Replies}
use Rattle.stream_run.specs.Resumed.{meaning_after}
use Rattle.stream_run.specs.Sessions.{FollowsFrom, IsAfter, Origin, Takes, origin_of}
use Rattle.stream_run.specs.declared.session.Reply.{Reply}
use Rattle.view_lines.specs.Replies.{row_replied}
use Rattle.view_lines.specs.RowTexts.{Style, rows_text, widths_of}
use Rattle.view_lines.specs.Rows.{Row, names_at, row_of, rows_after, rows_of}
use Rattle.view_lines.specs.Sheets.{Writes, style_of}
use Rattle.view_lines.specs.Standing.{IsViewAfter}
use Rattle.view_lines.specs.Views.{AreViewed, origin_of_view, views_on}
use Rattle.view_lines.specs.declared.sheet.Sheet.{Sheet}
use Rattle.view_lines.specs.declared.view.View.{View}
use Rattle.view_lines.proofs.Rows.{names_next, rows_after-push, rows_text-append, widths_of-append}

-- rows behind a text, and more behind these
pub both_written : (columns : List Column) (rows more : List Row) (old now new : Sheet)
    (before between after said : List ℕ) → Writes columns rows old now before between
    → Writes columns more now new between after → said ≡ after
    → Writes columns (rows ++ more) old new before said
both_written columns rows more old now new before between after said first second is = record {
  style = second.style ∙ first.style;
  widths = second.widths
      ∙ ap (λ (s : Style). widths_of s columns now.ruler.widths.items more) first.style
      ∙ ap (λ (w : List ℕ). widths_of (style_of old) columns w more) first.widths
      ∙ sym (widths_of-append (style_of old) columns old.ruler.widths.items rows more);
  text = is ∙ second.text
      ∙ ap (λ (t : List ℕ). t ++ rows_text (style_of now) columns now.ruler.widths.items more)
      first.text
      ∙ ap (λ (s : Style). (before ++ own) ++ rows_text s columns now.ruler.widths.items more)
      first.style
      ∙ ap (λ (w : List ℕ). (before ++ own) ++ rows_text (style_of old) columns w more) first.widths
      ∙ append_assoc before own _
      ∙ ap (λ (t : List ℕ). before ++ t)
      (sym (rows_text-append (style_of old) columns old.ruler.widths.items rows more));
}
  where
    own : List ℕ
    own = rows_text (style_of old) columns old.ruler.widths.items rows

-- the row of a line by every function that gives the values of the query
abbrev pub IsRowOf : {F : Type 0} → (F → Word → Type 0) → Shown → Reply → Option Value
    → Origin F → List Shown → Type 0
IsRowOf follows line reply answer origin before = (word : Word) (meaning : Meaning)
    → FollowsFrom follows origin word → IsMeaning (monitor_of origin.on) meaning
    → row_replied origin.on.layout.columns line reply answer
    ≡ row_of (meaning_after meaning word origin.began) before line

module _ {F : Type 0} (follows : F → Word → Type 0) (line : Shown) (reply : Reply)
    (answer : Option Value) (old new : View F)
    (schema : old.schema.now ≡ old.session.checked.now.layout)
    (written : List ℕ)
    (writes : Writes old.schema.now.columns (names_at old.session.began []
    ++ row_replied old.schema.now.columns line reply answer ∷ []) old.sheet new.sheet [] written)
    (takes : Takes follows line old.session new.session)
    (is_row : (origin : Origin F) (before : List Shown) → IsAfter follows origin before old.session
    → IsRowOf follows line reply answer origin before)
  where
    module _ (first : View F) (before : List Shown) (stood : IsViewAfter follows first before old)
        (word : Word) (meaning : Meaning)
        (followed : FollowsFrom follows (origin_of first.session) word)
        (means : IsMeaning (monitor_of first.session.checked.now) meaning) where
      abbrev began : Bool
      began = first.session.began

      abbrev after : Meaning
      after = meaning_after meaning word began

      columns_are : old.schema.now.columns ≡ meaning.layout.columns
      columns_are =
          ap (λ (l : Layout). l.columns) schema
          ∙ ap (λ (o : CheckedQuery). o.layout.columns) stood.session.same
          ∙ sym (ap (λ (l : Layout). l.columns) means.layout)

      -- the rows are those of the line
      rows_are : names_at old.session.began []
          ++ row_replied old.schema.now.columns line reply answer ∷ []
          ≡ rows_of began after before line
      rows_are =
          ap (λ (b : Bool). names_at b []
          ++ row_replied old.schema.now.columns line reply answer ∷ []) stood.session.began_is
          ∙ ap (λ (n : List Row). n ++ row_replied old.schema.now.columns line reply answer ∷ [])
          (names_next began before)
          ∙ ap (λ (c : List Column). names_at began before ++ row_replied c line reply answer ∷ [])
          (columns_are ∙ ap (λ (l : Layout). l.columns) means.layout)
          ∙ ap (λ (r : Row). names_at began before ++ r ∷ [])
          (is_row (origin_of first.session) before stood.session word meaning followed means)

      abbrev widths_before : List ℕ
      widths_before = widths_of (style_of first.sheet) meaning.layout.columns
          first.sheet.ruler.widths.items (rows_after began after [] before)

      -- a part of what is written, by what it was written with
      by_meaning : {A : Type 0} (part : Style → List Column → List ℕ → List Row → A)
          → part (style_of old.sheet) old.schema.now.columns old.sheet.ruler.widths.items
          (names_at old.session.began []
          ++ row_replied old.schema.now.columns line reply answer ∷ [])
          ≡ part (style_of first.sheet) meaning.layout.columns widths_before
          (rows_of began after before line)
      by_meaning part =
          ap (λ (s : Style). part s old.schema.now.columns old.sheet.ruler.widths.items rows)
          stood.style
          ∙ ap (λ (c : List Column). part style c old.sheet.ruler.widths.items rows) columns_are
          ∙ ap (λ (w : List ℕ). part style meaning.layout.columns w rows)
          (stood.widths word meaning followed means)
          ∙ ap (λ (r : List Row). part style meaning.layout.columns widths_before r) rows_are
        where
          style : Style
          style = style_of first.sheet

          rows : List Row
          rows = names_at old.session.began []
              ++ row_replied old.schema.now.columns line reply answer ∷ []

      widths_more : new.sheet.ruler.widths.items ≡ widths_of (style_of first.sheet)
          meaning.layout.columns first.sheet.ruler.widths.items
          (rows_after began after [] (before ++ line ∷ []))
      widths_more =
          writes.widths ∙ by_meaning widths_of
          ∙ sym (widths_of-append (style_of first.sheet) meaning.layout.columns
          first.sheet.ruler.widths.items (rows_after began after [] before)
          (rows_of began after before line))
          ∙ ap (λ (r : List Row). widths_of (style_of first.sheet) meaning.layout.columns
          first.sheet.ruler.widths.items r) (sym (rows_after-push began after before line))

      text_more : (so_far : List ℕ) → so_far ≡ views_on (style_of first.sheet)
          first.sheet.ruler.widths.items began after before
          → so_far ++ written ≡ views_on (style_of first.sheet) first.sheet.ruler.widths.items began
          after (before ++ line ∷ [])
      text_more so_far said =
          ap (λ (t : List ℕ). t ++ written) said
          ∙ ap (λ (t : List ℕ). views_on (style_of first.sheet) first.sheet.ruler.widths.items began
          after before ++ t) (writes.text ∙ by_meaning rows_text)
          ∙ sym (rows_text-append (style_of first.sheet) meaning.layout.columns
          first.sheet.ruler.widths.items (rows_after began after [] before)
          (rows_of began after before line))
          ∙ ap (λ (r : List Row). rows_text (style_of first.sheet) meaning.layout.columns
          first.sheet.ruler.widths.items r) (sym (rows_after-push began after before line))

    pub replies_view : Replies (IsViewAfter follows)
        (λ first lines said. AreViewed follows (origin_of_view first) lines said)
        line written old new
    replies_view = record {
      stands = λ first before stood. record {
        session = takes (origin_of first.session) before stood.session;
        style = writes.style ∙ stood.style;
        widths = λ word meaning followed means.
            widths_more first before stood word meaning followed means;
      };
      says = λ first before so_far stood said word meaning followed means.
          text_more first before stood word meaning followed means so_far
          (said word meaning followed means);
    }
