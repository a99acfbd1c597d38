-- For the prover. A view before its first line.
use Rattle.std.specs.Prelude.{[]}
use Rattle.std.proofs.Common.{refl}
use Rattle.rate_expr.specs.Words.{Word}
use Rattle.stream_run.specs.SessionLaws.{after_none}
use Rattle.view_lines.specs.Standing.{IsViewAfter}
use Rattle.view_lines.specs.Views.{AreViewed, origin_of_view}
use Rattle.view_lines.specs.declared.view.View.{View}

-- a view stands where it is after no lines
pub view_stands : {F : Type 0} (follows : F → Word → Type 0) (first : View F)
    → IsViewAfter follows first [] first
view_stands follows first = record {
  session = after_none follows first.session;
  style = refl;
  widths = λ word meaning followed means. refl;
}

-- and of these nothing is written
pub view_none : {F : Type 0} (follows : F → Word → Type 0) (first : View F)
    → AreViewed follows (origin_of_view first) [] []
view_none follows first word meaning followed means = refl
