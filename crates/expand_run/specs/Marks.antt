-- Statement. A place of a text as it is shown to a person.
use Rattle.std.specs.Prelude.{ℕ, List, ◌++◌, codes, decimal}
use Rattle.language_base.specs.declared.span.Span.{Span}
use Rattle.place_in_text.specs.Places.{column_of, line_of}
use Rattle.place_in_text.specs.Windows.{marked_line}

-- a line and a column
abbrev pub position_line : ℕ → ℕ → List ℕ
position_line line column = decimal line ++ codes ":" ++ decimal column ++ codes "\n"

-- those of the place, its line and the marks under it
abbrev pub mark_text : List ℕ → Span → List ℕ
mark_text text place =
    position_line (line_of text place.from) (column_of text place.from)
    ++ marked_line text place.from place.to
