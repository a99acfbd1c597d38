-- Statement. How far the words of a rate go on.
use Rattle.std.specs.Prelude.{◌<◌, ℕ, List, All, length}
use Rattle.std.specs.List.{AllZip}
use Rattle.item_schema.specs.declared.column.Column.{Column}
use Rattle.predicate_cells.specs.Cells.{Partition, cell_count, IsIn}
use Rattle.rate_expr.specs.Rates.{Regex}
use Rattle.rate_expr.specs.Readings.{HasExtension}
use Rattle.rate_expr.specs.Words.{Word, IsWordOf}
use Rattle.dead_words.specs.declared.outlook.Outlook.{Outlook}
use Rattle.dead_words.specs.declared.outlook.Outlook.TheVariants.{Ends, GoesOn, Undecided}

-- the items of the word are in these cells, one in each
abbrev pub AreIn : Partition → List ℕ → Word → Type 0
AreIn cells places word = AllZip (IsIn cells) places word

-- no further items lead from the word to a word of the rate
abbrev pub IsDeadEnd : List Column → Regex → Word → Type 0
IsDeadEnd columns rate word = HasExtension columns rate word → ⊥

-- from each word with fewer items some further ones do
abbrev pub GoOnBelow : List Column → Regex → ℕ → Type 0
GoOnBelow columns rate items = (word : Word) → IsWordOf columns word → length word < items
    → HasExtension columns rate word

-- no further items lead on from items of these cells, and from fewer items some always do
pub record IsShortestEnd (cells : Partition) (rate : Regex) (places : List ℕ) : Type 0 where
  pub places_of : All (λ place. place < cell_count cells) places
  pub dead : (word : Word) → AreIn cells places word
      → IsDeadEnd cells.layout.columns rate word
  pub shortest : GoOnBelow cells.layout.columns rate (length places)

-- what a search that came to an end says of the rate
abbrev pub IsOutlook : Partition → Regex → Outlook → Type 0
IsOutlook cells rate (Ends places) = IsShortestEnd cells rate places.items
IsOutlook cells rate GoesOn = (word : Word) → IsWordOf cells.layout.columns word
    → HasExtension cells.layout.columns rate word
IsOutlook cells rate Undecided = Unit {0}
