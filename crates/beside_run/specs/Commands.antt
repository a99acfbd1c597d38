-- Statement. The words of the command line, and what they ask for.
use Rattle.std.specs.Prelude.{◌≡◌, ℕ, Bool, nat_eq, nat_le, ◌==◌, ◌+◌, ◌&&◌, List, [], ◌∷◌}
use Rattle.std.specs.Prelude.{if◌then◌else◌, length, codes, Option, Some, None}
use Rattle.std.specs.Cmp.Lexicographic.{pointwise}
use Rattle.beside_run.specs.declared.command.Command.{Command}
use Rattle.beside_run.specs.declared.command.Command.TheVariants.{Beside, Last}

-- the most queries that are run at once
abbrev pub max_queries : ℕ
max_queries = 16

-- the word is this text
abbrev pub says : List ℕ → List ℕ → Bool
says word text = pointwise nat_eq word text

-- the command of that name for so many queries; `last` is of one
abbrev pub named : List ℕ → ℕ → Option Command
named word queries =
    if says word (codes "beside") then Some Beside
    else if says word (codes "last") && queries == 1 then Some Last else None

-- what the words ask for of so many queries, if they have one of the forms: `beside QUERY.. ITEMS`
-- or `last QUERY ITEMS`, with a word for each query
abbrev pub command_of : List (List ℕ) → ℕ → Option Command
command_of [] queries = None
command_of (word ∷ others) queries =
    if nat_le 1 queries && nat_le queries max_queries && length others == queries + 1
    then named word queries else None

-- as many queries as the command may have
abbrev pub HasQueries : Command → ℕ → Type 0
HasQueries Beside queries = Unit {0}
HasQueries Last queries = queries ≡ 1
