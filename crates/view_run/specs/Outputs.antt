-- Statement. What the commands write, by the status.
use Rattle.std.specs.Prelude.{◌≡◌, ℕ, List, Result, IfOk}
use Rattle.std.specs.declared.alloc.AllocError.{AllocError}
use Rattle.io_edge.specs.Lines.{Shown}
use Rattle.query_model.specs.Monitors.{Monitor}
use Rattle.stream_run.specs.Endings.{EndedBy}
use Rattle.stream_run.specs.Meanings.{IsMeaning, Meaning}
use Rattle.stream_run.specs.Outside.{Outside}
use Rattle.stream_run.specs.Written.{Reported}
use Rattle.stream_run.specs.declared.status.Status.{Status}
use Rattle.view_lines.specs.RowTexts.{Style}
use Rattle.view_lines.specs.Views.{views}
use Rattle.view_lines.specs.declared.form.Form.{Form}
use Rattle.view_run.specs.Units.{digits_for, units_of, units_text}
use Rattle.view_run.specs.declared.command.Command.{Command}
use Rattle.view_run.specs.declared.command.Command.TheVariants.{View, Units}

-- a form with a number of digits
abbrev pub style_with : Form → ℕ → Style
style_with form digits = record { form = form; digits = digits }

-- the text shows these lines with their answers, whatever function gives the values of the
-- monitor's query
abbrev pub AreViews : Style → Monitor → List Shown → List ℕ → Type 0
AreViews style monitor shown text =
    (meaning : Meaning) → IsMeaning monitor meaning → text ≡ views style meaning shown

-- the line that says the units was written whole, in part, or not at all, and no item was read
abbrev pub WritesUnits : Monitor → Status → Outside → Outside → Type 0
WritesUnits monitor status old new = (new ≡ record old { taken = new.taken })
    × (line : Result (List ℕ) AllocError)
    × IfOk line (λ text. text ≡ units_text (units_of monitor))
    × Reported status line old.taken new.taken

-- what a command does for a query on the items
abbrev pub Carries : Command → Monitor → Status → Outside → Outside → Type 0
Carries (View form digits) monitor status old new =
    EndedBy (AreViews (style_with form (digits_for digits monitor)) monitor) status old new
Carries Units monitor status old new = WritesUnits monitor status old new
