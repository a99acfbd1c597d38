use Rattle.std.proofs.Common.{◌≡◌, ℕ, List, [], drop, map}
use Rattle.query_syntax.specs.Plain.{plain_let, plain_query}
use Rattle.query_lets.specs.Known.{Holds}
use Rattle.query_lets.specs.Words.{first_wrong, let_words}
use Rattle.query_lets.proofs.names.wrong_in_lets.Given as goal

-- the names so far are known, and nothing so far is wrong
abbrev pub invariant-lets : goal.invariant-lets
invariant-lets l = (names : List (List ℕ)) × Holds l.known names
    × (first_wrong (let_words [] (map plain_let l.lets) (plain_query l.main))
    ≡ first_wrong (let_words names (map plain_let (drop l.one-index l.lets)) (plain_query l.main)))
