-- Statement. The words of the command line, and what they ask for.
use Rattle.std.specs.Prelude.{ℕ, ◌-◌, Bool, nat_eq, if◌then◌else◌, List, [], ◌∷◌, codes, Option}
use Rattle.std.specs.Prelude.{Some, None}
use Rattle.std.specs.Char.{is_ascii_digit}
use Rattle.std.specs.Cmp.Lexicographic.{pointwise}
use Rattle.view_lines.specs.declared.form.Form.{Form}
use Rattle.view_lines.specs.declared.form.Form.TheVariants.{Json, Csv, Tsv, Columns, Dimmed}
use Rattle.view_run.specs.declared.command.Command.{Command}
use Rattle.view_run.specs.declared.command.Command.TheVariants.{View, Units}

-- the word is this text
abbrev pub says : List ℕ → List ℕ → Bool
says word text = pointwise nat_eq word text

-- `units`
abbrev pub units_in : List ℕ → Option Command
units_in word = if says word (codes "units") then Some Units else None

-- the name of a form
abbrev pub form_named : List ℕ → Option Form
form_named word =
    if says word (codes "json") then Some Json
    else if says word (codes "csv") then Some Csv
    else if says word (codes "tsv") then Some Tsv
    else if says word (codes "columns") then Some Columns
    else if says word (codes "dimmed") then Some Dimmed else None

-- a number of digits, from 0 to 9
abbrev pub digits_in : List ℕ → Option ℕ
digits_in (digit ∷ []) = if is_ascii_digit digit then Some (digit - 48) else None
digits_in word = None

-- a view in this form, if there is one
abbrev pub view_as : Option Form → Option ℕ → Option Command
view_as (Some form) digits = Some (View form digits)
view_as None digits = None

-- `view`, in the form of this name
abbrev pub view_in : List ℕ → List ℕ → Option ℕ → Option Command
view_in word form digits =
    if says word (codes "view") then view_as (form_named form) digits else None

-- the same with a number of digits
abbrev pub view_with : List ℕ → List ℕ → Option ℕ → Option Command
view_with word form (Some digits) = view_in word form (Some digits)
view_with word form None = None

-- what the words ask for, if they have one of the forms: `view QUERY ITEMS FORM`,
-- `view QUERY ITEMS FORM DIGITS` or `units QUERY`
abbrev pub command_of : List (List ℕ) → Option Command
command_of (word ∷ query ∷ []) = units_in word
command_of (word ∷ query ∷ items ∷ form ∷ []) = view_in word form None
command_of (word ∷ query ∷ items ∷ form ∷ digits ∷ []) = view_with word form (digits_in digits)
command_of words = None
