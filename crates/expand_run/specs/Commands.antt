-- Statement. The words of the command line, and what they ask for.
use Rattle.std.specs.Prelude.{ℕ, Bool, ◌&&◌, nat_eq, nat_le, nat_lt, if◌then◌else◌, List, [], ◌∷◌}
use Rattle.std.specs.Prelude.{length, codes, Option, Some, None}
use Rattle.std.specs.Char.{is_ascii_digit}
use Rattle.std.specs.Cmp.Lexicographic.{pointwise}
use Rattle.std.specs.List.{list_all}
use Rattle.std.specs.Str.Parse.{digits_value}
use Rattle.expand_run.specs.declared.command.Command.{Command}
use Rattle.expand_run.specs.declared.command.Command.TheVariants.{Expand, Origins, Explain, Mark}

-- the word is this text
abbrev pub says : List ℕ → List ℕ → Bool
says word text = pointwise nat_eq word text

-- the place that is written with 1 to 7 decimal digits
abbrev pub place_in : List ℕ → Option ℕ
place_in word =
    if nat_lt 0 (length word) && nat_le (length word) 7 && list_all is_ascii_digit word
    then Some (digits_value 10 word) else None

-- `expand`, `origins` or `explain`
abbrev pub question_of : List ℕ → Option Command
question_of word =
    if says word (codes "expand") then Some Expand
    else if says word (codes "origins") then Some Origins
    else if says word (codes "explain") then Some Explain else None

-- the mark from the one place to the other, if both are places
abbrev pub mark_from : Option ℕ → Option ℕ → Option Command
mark_from (Some from) (Some to) = Some (Mark (record { from = from; to = to }))
mark_from _ _ = None

-- `mark`, with two places
abbrev pub mark_of : List ℕ → List ℕ → List ℕ → Option Command
mark_of word from to =
    if says word (codes "mark") then mark_from (place_in from) (place_in to) else None

-- what the words ask for, if they have one of the forms: `expand QUERY`, `origins QUERY`,
-- `explain QUERY` or `mark QUERY FROM TO`
abbrev pub command_of : List (List ℕ) → Option Command
command_of (word ∷ query ∷ []) = question_of word
command_of (word ∷ query ∷ from ∷ to ∷ []) = mark_of word from to
command_of words = None
