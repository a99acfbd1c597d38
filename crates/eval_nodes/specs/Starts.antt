-- Statement. Starts in a word, the pieces after them, and which of them are live.
use Rattle.std.specs.Prelude.{◌≡◌, ◌≤◌, ℕ, ◌+◌, List, [], ◌∷◌, ◌++◌, drop, length}
use Rattle.std.specs.List.{Contains}
use Rattle.item_schema.specs.declared.column.Column.{Column}
use Rattle.rate_expr.specs.Language.{In}
use Rattle.rate_expr.specs.Readings.{HasExtension}
use Rattle.rate_expr.specs.Words.{Word, IsWordOf}
use Rattle.query_model.specs.Queries.{Qre}
use Rattle.query_model.specs.Rates.{rate_of}

-- the piece lies in the word from one position to another
pub record IsPiece (word : Word) (from : ℕ) (piece : Word) (to : ℕ) : Type 0 where
  pub end : to ≡ from + length piece
  pub inside : to ≤ length word
  pub cut : drop from word ≡ piece ++ drop to word

-- each start is a position of the word
abbrev pub ArePositions : Word → List ℕ → Type 0
ArePositions word starts = (start : ℕ) → Contains starts start → start ≤ length word

-- the starts are apart: no two of them have pieces in the rate with the same end, in the word or in
-- a longer one
abbrev pub AreApart : List Column → Qre → Word → List ℕ → Type 0
AreApart columns query word starts = (i j : ℕ) (more : Word) → IsWordOf columns more
    → Contains starts i → Contains starts j
    → In (rate_of query) (drop i word ++ more) → In (rate_of query) (drop j word ++ more) → i ≡ j

-- it is one of the starts, and by at least one more item its piece can become a word of the rate
abbrev pub IsLive : List Column → Qre → Word → List ℕ → ℕ → Type 0
IsLive columns query word starts start =
    Contains starts start × HasExtension columns (rate_of query) (drop start word)

-- no number stands twice in the list
abbrev pub AreDifferent : List ℕ → Type 0
AreDifferent [] = Unit {0}
AreDifferent (start ∷ starts) = (Contains starts start → ⊥) × AreDifferent starts
