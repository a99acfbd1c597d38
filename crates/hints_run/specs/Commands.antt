-- Statement. The words of the command line, and what they ask for.
use Rattle.std.specs.Prelude.{ℕ, Bool, nat_eq, if◌then◌else◌, List, [], ◌∷◌, codes, Option, Some}
use Rattle.std.specs.Prelude.{None}
use Rattle.std.specs.Cmp.Lexicographic.{pointwise}
use Rattle.hints_run.specs.declared.command.Command.{Command}
use Rattle.hints_run.specs.declared.command.Command.TheVariants.{Hints, Dead}

-- the word is this text
abbrev pub says : List ℕ → List ℕ → Bool
says word text = pointwise nat_eq word text

-- the command of a query alone
abbrev pub with_query : List ℕ → Option Command
with_query word = if says word (codes "hints") then Some Hints else None

-- the command of a query and of items
abbrev pub with_items : List ℕ → Option Command
with_items word = if says word (codes "dead") then Some Dead else None

-- what the words ask for, if they have one of the forms: `hints QUERY` or `dead QUERY ITEMS`
abbrev pub command_of : List (List ℕ) → Option Command
command_of (word ∷ query ∷ []) = with_query word
command_of (word ∷ query ∷ items ∷ []) = with_items word
command_of words = None
