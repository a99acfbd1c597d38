-- Statement. Where a view stands after lines, and when it can take one.
use Rattle.std.specs.Prelude.{◌≡◌, Bool, List, []}
use Rattle.io_edge.specs.Lines.{Shown}
use Rattle.item_schema.specs.declared.column.Column.{Column}
use Rattle.rate_expr.specs.Words.{Word}
use Rattle.query_model.specs.Monitors.{monitor_of}
use Rattle.query_model.specs.Queries.{Qre}
use Rattle.stream_run.specs.Meanings.{IsMeaning, Meaning}
use Rattle.stream_run.specs.Resumed.{meaning_after}
use Rattle.stream_run.specs.Sessions.{FollowsFrom, IsAfter, IsReady, origin_of}
use Rattle.view_lines.specs.RowTexts.{widths_of}
use Rattle.view_lines.specs.Rows.{rows_after}
use Rattle.view_lines.specs.Sheets.{style_of}
use Rattle.view_lines.specs.declared.view.View.{View}

-- its session can take a line, and it reads lines by the columns of its session
pub record IsReadyToView {F : Type 0} (query : F → Qre) (columns : F → List Column)
    (lost : F → Bool) (sound : F → Type 0) (view : View F) : Type 0 where
  pub session : IsReady query columns lost sound view.session
  pub schema : view.schema.now ≡ view.session.checked.now.layout

-- its session stands after these lines, it writes as at first, and its columns are as wide as the
-- rows of the lines made them
pub record IsViewAfter {F : Type 0} (follows : F → Word → Type 0) (first : View F)
    (lines : List Shown) (now : View F) : Type 0 where
  pub session : IsAfter follows (origin_of first.session) lines now.session
  pub style : style_of now.sheet ≡ style_of first.sheet
  pub widths : (word : Word) (meaning : Meaning)
      → FollowsFrom follows (origin_of first.session) word
      → IsMeaning (monitor_of first.session.checked.now) meaning
      → now.sheet.ruler.widths.items ≡ widths_of (style_of first.sheet) meaning.layout.columns
      first.sheet.ruler.widths.items (rows_after first.session.began
      (meaning_after meaning word first.session.began) [] lines)
