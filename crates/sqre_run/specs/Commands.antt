-- Statement. The words of the command line, and what they ask for.
use Rattle.std.specs.Prelude.{ℕ, ◌-◌, ◌^◌, Bool, ◌&&◌, nat_eq, nat_le, nat_lt, if◌then◌else◌, List}
use Rattle.std.specs.Prelude.{[], ◌∷◌, length, codes, Option, Some, None}
use Rattle.std.specs.Char.{is_ascii_digit}
use Rattle.std.specs.Cmp.Lexicographic.{pointwise}
use Rattle.std.specs.List.{list_all}
use Rattle.std.specs.Str.Parse.{digits_value}
use Rattle.sqre_run.specs.declared.command.Command.{Command}
use Rattle.sqre_run.specs.declared.command.Command.TheVariants.{Run, Check, Bound, Why, Drill}
use Rattle.sqre_run.specs.declared.command.Command.TheVariants.{Rewrite}
use Rattle.sqre_run.specs.declared.command.Engine.TheVariants.{Runner, Slow}

-- the most items of a drill, and the greatest seed
abbrev pub max_items : ℕ
max_items = 1000000

abbrev pub max_seed : ℕ
max_seed = 2 ^ 64 - 1

-- the word is this text
abbrev pub says : List ℕ → List ℕ → Bool
says word text = pointwise nat_eq word text

-- the number that is written with 1 to `digits` decimal digits, unless it is above the greatest
abbrev pub number_in : ℕ → ℕ → List ℕ → Option ℕ
number_in digits greatest word =
    if nat_lt 0 (length word) && nat_le (length word) digits && list_all is_ascii_digit word
    && nat_le (digits_value 10 word) greatest
    then Some (digits_value 10 word) else None

-- `check`, `bound`, `why` or `rewrite`
abbrev pub question_of : List ℕ → Option Command
question_of word =
    if says word (codes "check") then Some Check
    else if says word (codes "bound") then Some Bound
    else if says word (codes "why") then Some Why
    else if says word (codes "rewrite") then Some Rewrite else None

-- `run` or `slow`
abbrev pub run_of : List ℕ → Option Command
run_of word =
    if says word (codes "run") then Some (Run Runner)
    else if says word (codes "slow") then Some (Run Slow) else None

-- a drill of the first number of items from the second as seed, if both are numbers
abbrev pub drill_from : Option ℕ → Option ℕ → Option Command
drill_from (Some count) (Some seed) = Some (Drill count seed)
drill_from _ _ = None

-- `drill`, with a count of 1 to 7 digits and a seed of 1 to 20 digits
abbrev pub drill_of : List ℕ → List ℕ → List ℕ → Option Command
drill_of word count seed =
    if says word (codes "drill")
    then drill_from (number_in 7 max_items count) (number_in 20 max_seed seed)
    else None

-- what the words ask for, if they have one of the forms: `check QUERY`, `bound QUERY`, `why QUERY`,
-- `rewrite QUERY`, `run QUERY ITEMS`, `slow QUERY ITEMS` or `drill QUERY COUNT SEED`
abbrev pub command_of : List (List ℕ) → Option Command
command_of (word ∷ query ∷ []) = question_of word
command_of (word ∷ query ∷ items ∷ []) = run_of word
command_of (word ∷ query ∷ count ∷ seed ∷ []) = drill_of word count seed
command_of words = None
