use Rattle.std.proofs.Common.{◌≡◌, ℕ, List, [], drop}
use Rattle.query_lets.specs.Known.{Holds}
use Rattle.query_lets.specs.Words.{column_words, first_wrong}
use Rattle.query_lets.proofs.names.wrong_column.Given as goal

-- the names so far are known, and none of them is wrong
abbrev pub invariant-columns : goal.invariant-columns
invariant-columns l = (names : List (List ℕ)) × Holds l.known names
    × (first_wrong (column_words [] l.columns)
    ≡ first_wrong (column_words names (drop l.column-index l.columns)))
