-- What the text of a view is to the lines.
use Rattle.std.proofs.Common.{◌≡◌, ℕ, [], List, subst}
use Rattle.io_edge.specs.Lines.{Shown}
use Rattle.rate_expr.specs.Words.{Word}
use Rattle.query_model.specs.Checked.{CheckedQuery}
use Rattle.query_model.specs.Monitors.{monitor_of}
use Rattle.view_lines.specs.Views.{AreViewed, ViewOrigin, first_view}
use Rattle.view_lines.specs.declared.form.Form.{Form}
use Rattle.view_run.specs.Outputs.{AreViews, style_with}

-- from the empty word on, a text shows the lines with their answers, whatever the query means
pub views_so : {F : Type 0} (follows : F → Word → Type 0) (on : CheckedQuery) (first : F)
    (form : Form) (digits : ℕ) → follows first [] → (origin : ViewOrigin F)
    → origin ≡ first_view on first form digits → (shown : List Shown) (text : List ℕ)
    → AreViewed follows origin shown text
    → AreViews (style_with form digits) (monitor_of on) shown text
views_so follows on first form digits none origin is shown text said meaning means =
    (subst (λ (o : ViewOrigin _). AreViewed follows o shown text) is said) [] meaning (tt, none)
    means
