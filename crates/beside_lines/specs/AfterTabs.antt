-- Statement. What stands in a column of each line of a text, where each column begins with a tab.
use Rattle.std.specs.Prelude.{ℕ, zero, suc, ◌==◌, Bool, true, false, List, [], ◌∷◌, ◌++◌, drop}
use Rattle.std.specs.Prelude.{Option, Some, None, if◌then◌else◌}
use Rattle.std.specs.List.{flat_map}

-- the lines that an LF ends, without it, where the first one begins with `start`
abbrev pub rows_from : List ℕ → List ℕ → List (List ℕ)
rows_from start [] = []
rows_from start (byte ∷ bytes) =
    if byte == 10 then start ∷ rows_from [] bytes else rows_from (start ++ byte ∷ []) bytes

-- the lines that an LF ends
abbrev pub rows : List ℕ → List (List ℕ)
rows bytes = rows_from [] bytes

-- the lines without the first, if that is a header
abbrev pub rows_after_header : Bool → List ℕ → List (List ℕ)
rows_after_header true bytes = drop 1 (rows bytes)
rows_after_header false bytes = rows bytes

-- a byte before these bytes, where the last tab among them parts them so, if there is one: what
-- stands before the last tab, and what stands after it
abbrev pub part : ℕ → List ℕ → Option (List ℕ × List ℕ) → Option (List ℕ × List ℕ)
part byte bytes (Some parts) = Some (byte ∷ parts.0, parts.1)
part byte bytes None = if byte == 9 then Some ([], bytes) else None

-- a line before and after its last tab, if it has one
abbrev pub at_last_tab : List ℕ → Option (List ℕ × List ℕ)
at_last_tab [] = None
at_last_tab (byte ∷ bytes) = part byte bytes (at_last_tab bytes)

-- what stands before it
abbrev pub front : Option (List ℕ × List ℕ) → Option (List ℕ)
front (Some parts) = Some parts.0
front None = None

-- what stands after it, with the end of its line
abbrev pub ended : Option (List ℕ × List ℕ) → List ℕ
ended (Some parts) = parts.1 ++ 10 ∷ []
ended None = []

-- the same of a line that may not be there
abbrev pub parted : Option (List ℕ) → Option (List ℕ × List ℕ)
parted (Some line) = at_last_tab line
parted None = None

-- a line without so many of its last columns, if it has them
abbrev pub without : ℕ → List ℕ → Option (List ℕ)
without zero line = Some line
without (suc count) line = front (parted (without count line))

-- what stands in its column before so many last ones, with the end of its line; nothing if there
-- is no such column
abbrev pub in_column : ℕ → List ℕ → List ℕ
in_column count line = ended (parted (without count line))

-- what stands there in lines
abbrev pub column_of : ℕ → List (List ℕ) → List ℕ
column_of count lines = flat_map (in_column count) lines
