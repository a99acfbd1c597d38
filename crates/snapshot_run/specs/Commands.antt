-- Statement. The words of the command line, and what they ask for.
use Rattle.std.specs.Prelude.{ℕ, Bool, nat_eq, if◌then◌else◌, List, [], ◌∷◌, codes, Option, Some}
use Rattle.std.specs.Prelude.{None}
use Rattle.std.specs.Cmp.Lexicographic.{pointwise}
use Rattle.snapshot_run.specs.declared.command.Command.{Command}
use Rattle.snapshot_run.specs.declared.command.Command.TheVariants.{Save, GoOn}
use Rattle.snapshot_run.specs.declared.command.Onward.TheVariants.{Resume, Advance}

-- the word is this text
abbrev pub says : List ℕ → List ℕ → Bool
says word text = pointwise nat_eq word text

-- the command of that name
abbrev pub named : List ℕ → Option Command
named word =
    if says word (codes "save") then Some Save
    else if says word (codes "resume") then Some (GoOn Resume)
    else if says word (codes "advance") then Some (GoOn Advance) else None

-- what the words ask for, if they have one of the forms: `save QUERY ITEMS`,
-- `resume SNAPSHOT ITEMS` or `advance SNAPSHOT ITEMS`
abbrev pub command_of : List (List ℕ) → Option Command
command_of (word ∷ query ∷ items ∷ []) = named word
command_of words = None
