-- Statement. The line and the column of a place in a text. A place past the end counts as the end
-- of the text.
use Rattle.std.specs.Prelude.{ℕ, ◌+◌, Bool, ◌==◌, List, length, take, drop}
use Rattle.std.specs.Io.BufRead.{strip_last}
use Rattle.std.specs.List.{after_last, before_first, count_by}

-- the byte ends a line
abbrev pub is_lf : ℕ → Bool
is_lf byte = byte == 10

-- the part of the line before the place
abbrev pub before_place : List ℕ → ℕ → List ℕ
before_place text place = after_last is_lf (take place text)

-- the part of the line from the place on, without a CR at its end; if the place is that of the LF,
-- such a CR is in the part before it
abbrev pub from_place : List ℕ → ℕ → List ℕ
from_place text place = strip_last 13 (before_first is_lf (drop place text))

-- the line, counted from 1
abbrev pub line_of : List ℕ → ℕ → ℕ
line_of text place = count_by is_lf (take place text) + 1

-- the byte of the line, counted from 1
abbrev pub column_of : List ℕ → ℕ → ℕ
column_of text place = length (before_place text place) + 1
