-- Statement. The line that says after which line no further items lead to a value.
use Rattle.std.specs.Prelude.{ℕ, List, ◌++◌, codes, decimal, Option, Some, None}
use Rattle.dead_lines.specs.declared.course.DeadLine.{DeadLine}

-- the number of the line, a colon and the line, or that there is none
abbrev pub dead_text : Option DeadLine → List ℕ
dead_text (Some dead) = decimal dead.number ++ codes ":" ++ dead.line ++ codes "\n"
dead_text None = codes "alive\n"

-- that this is not known
abbrev pub unknown_text : List ℕ
unknown_text = codes "unknown\n"
