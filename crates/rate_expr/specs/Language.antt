-- Statement. The words of a rate, as a textbook has those of a regular expression.
use Rattle.std.specs.Prelude.{◌≡◌, ◌⊎◌, true, List, [], ◌∷◌, ◌++◌}
use Rattle.std.specs.List.{AllByRecursion}
use Rattle.value_ops.specs.declared.field.Field.{Field}
use Rattle.predicates.specs.Truth.{holds}
use Rattle.rate_expr.specs.Rates.{Regex, empty, one, sequence, choice, star}
use Rattle.rate_expr.specs.Words.{Word, join}

-- the word is in the rate
abbrev pub In : Regex → Word → Type 0
In empty word = word ≡ []
In (one pred) word = (item : List Field) × (word ≡ item ∷ []) × (holds pred item ≡ true)
In (sequence left right) word =
    (u : Word) × (v : Word) × (word ≡ u ++ v) × In left u × In right v
In (choice left right) word = In left word ⊎ In right word
In (star inner) word =
    (pieces : List Word) × (word ≡ join pieces) × AllByRecursion (In inner) pieces
