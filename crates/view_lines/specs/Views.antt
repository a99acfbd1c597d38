-- Statement. What is written of the lines of a stream by a view.
use Rattle.std.specs.Prelude.{◌≡◌, ℕ, Bool, false, List, []}
use Rattle.io_edge.specs.Lines.{Shown}
use Rattle.rate_expr.specs.Words.{Word}
use Rattle.query_model.specs.Checked.{CheckedQuery}
use Rattle.query_model.specs.Monitors.{monitor_of}
use Rattle.stream_run.specs.Meanings.{IsMeaning, Meaning}
use Rattle.stream_run.specs.Resumed.{meaning_after}
use Rattle.stream_run.specs.Sessions.{FollowsFrom, Origin, first_origin, origin_of}
use Rattle.view_lines.specs.RowTexts.{Style, rows_text}
use Rattle.view_lines.specs.Rows.{rows_after}
use Rattle.view_lines.specs.Sheets.{style_of}
use Rattle.view_lines.specs.declared.form.Form.{Form}
use Rattle.view_lines.specs.declared.view.View.{View}

-- what is written of these lines, where columns have these widths before them, and a line has come
-- before them if `began`
abbrev pub views_on : Style → List ℕ → Bool → Meaning → List Shown → List ℕ
views_on style widths began meaning lines =
    rows_text style meaning.layout.columns widths (rows_after began meaning [] lines)

-- what is written of all lines of an input
abbrev pub views : Style → Meaning → List Shown → List ℕ
views style meaning lines = views_on style [] false meaning lines

-- where a view begins: where its run does, how it writes, and which widths its columns have
pub record ViewOrigin (F : Type 0) : Type 0 where
  pub from : Origin F
  pub style : Style
  pub widths : List ℕ

-- a view may begin where another stands
abbrev pub origin_of_view : {F : Type 0} → View F → ViewOrigin F
origin_of_view view = record {
  from = origin_of view.session;
  style = style_of view.sheet;
  widths = view.sheet.ruler.widths.items;
}

-- or before the first line of a stream
abbrev pub first_view : {F : Type 0} → CheckedQuery → F → Form → ℕ → ViewOrigin F
first_view on follower form digits = record {
  from = first_origin on follower;
  style = record { form = form; digits = digits };
  widths = [];
}

-- the text is what is written of the lines of a run, after whichever word it began, by every
-- function that gives the values of the query
abbrev pub AreViewed : {F : Type 0} → (F → Word → Type 0) → ViewOrigin F → List Shown → List ℕ
    → Type 0
AreViewed follows origin lines written = (word : Word) (meaning : Meaning)
    → FollowsFrom follows origin.from word → IsMeaning (monitor_of origin.from.on) meaning
    → written ≡ views_on origin.style origin.widths origin.from.began
    (meaning_after meaning word origin.from.began) lines
