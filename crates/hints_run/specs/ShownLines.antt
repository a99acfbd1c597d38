-- Statement. A line of a stream as it is shown.
use Rattle.std.specs.Prelude.{ℕ, List, ◌++◌, codes}

-- four blanks and the line
abbrev pub shown_line : List ℕ → List ℕ
shown_line line = codes "    " ++ line ++ codes "\n"
