-- Statement. What is shown of the line of a place, and the marks under it.
use Rattle.std.specs.Prelude.{ℕ, ◌-◌, ◌/◌, min, max, List, ◌++◌, length, take, drop, map, replicate}
use Rattle.std.specs.Prelude.{codes}
use Rattle.place_in_text.specs.Places.{before_place, from_place}
use Rattle.place_in_text.specs.Shown.{shown_byte}

-- the most bytes of a line that are shown
abbrev pub max_shown : ℕ
max_shown = 100

-- how many bytes are shown before the place, if the line has `before` bytes before it and `from`
-- from it on: half of the most, or more if the bytes from the place on leave room
abbrev pub count_before : ℕ → ℕ → ℕ
count_before before from = min before (max (max_shown / 2) (max_shown - from))

-- how many bytes are shown from the place on: as many as there is room for
abbrev pub count_from : ℕ → ℕ → ℕ
count_from before from = min from (max_shown - count_before before from)

-- the last `count` bytes
abbrev last_of : ℕ → List ℕ → List ℕ
last_of count bytes = drop (length bytes - count) bytes

-- the bytes that are shown before the place
abbrev pub shown_before : List ℕ → ℕ → List ℕ
shown_before text place =
    last_of (count_before (length (before_place text place)) (length (from_place text place)))
    (before_place text place)

-- the bytes that are shown from the place on
abbrev pub shown_from : List ℕ → ℕ → List ℕ
shown_from text place =
    take (count_from (length (before_place text place)) (length (from_place text place)))
    (from_place text place)

-- the bytes as they are shown, on a line of their own
unfoldable pub shown_line : List ℕ → List ℕ → List ℕ
shown_line before from = codes "    " ++ map shown_byte before ++ map shown_byte from ++ codes "\n"

-- `before` blanks, and then `count` marks
unfoldable pub marks_line : ℕ → ℕ → List ℕ
marks_line before count = codes "    " ++ replicate before 32 ++ replicate count 94 ++ codes "\n"

-- how many of the `width` bytes from the place on are marked: those that are shown, and at least
-- one
abbrev pub count_marked : ℕ → List ℕ → ℕ
count_marked width from = max (min width (length from)) 1

-- the bytes that are shown before the place and from it on, and the marks under them
unfoldable pub window_lines : List ℕ → List ℕ → ℕ → List ℕ
window_lines before from width =
    shown_line before from ++ marks_line (length before) (count_marked width from)

-- the line of a place as it is shown, and the marks under the bytes up to another place
unfoldable pub marked_line : List ℕ → ℕ → ℕ → List ℕ
marked_line text from to = window_lines (shown_before text from) (shown_from text from) (to - from)
