-- Statement. Examples of words with two readings.
use Rattle.std.specs.Prelude.{◌≢◌, ◌<◌, ℕ, List, [], ◌∷◌, length}
use Rattle.item_schema.specs.declared.column.Column.{Column}
use Rattle.rate_expr.specs.Language.{In}
use Rattle.rate_expr.specs.Rates.{Regex}
use Rattle.rate_expr.specs.Readings.{AreDisjoint, Overlap, HaveOneSplit, HaveTwoSplits}
use Rattle.rate_expr.specs.Readings.{HasOneFactoring, HasTwoFactorings}
use Rattle.rate_expr.specs.Words.{Word, IsWordOf}
use Rattle.ambiguity_example.specs.Cuts.{ArePieces, PartsInto}

-- a word, and the cuts of two readings
pub record Shown : Type 0 where
  pub items : Word
  pub first : List ℕ
  pub second : List ℕ

-- a rule and the rates that it is about: no word is in both, no word splits in two ways, or no word
-- factors in two ways
pub data Question : Type 0 where
  choice : Regex → Regex → Question
  split : Regex → Regex → Question
  iter : Regex → Question

-- some word has two readings, so that the rule is broken
abbrev pub IsBroken : List Column → Question → Type 0
IsBroken columns (choice r s) = Overlap columns r s
IsBroken columns (split r s) = HaveTwoSplits columns r s
IsBroken columns (iter r) = HasTwoFactorings columns r

-- no word has two readings
abbrev pub IsKept : List Column → Question → Type 0
IsKept columns (choice r s) = AreDisjoint columns r s
IsKept columns (split r s) = HaveOneSplit columns r s
IsKept columns (iter r) = HasOneFactoring columns r

-- the word is in both rates, and both readings have it in one piece
pub record ShowsOverlap (r s : Regex) (shown : Shown) : Type 0 where
  pub first : ArePieces shown.items shown.first (shown.items ∷ [])
  pub second : ArePieces shown.items shown.second (shown.items ∷ [])
  pub in_first : In r shown.items
  pub in_second : In s shown.items

-- the word with two readings that both have it in one piece
abbrev pub twice_whole : Word → Shown
twice_whole word = record {
  items = word;
  first = 0 ∷ length word ∷ [];
  second = 0 ∷ length word ∷ [];
}

-- the word splits in two ways, and the first split has the shorter first part
pub record ShowsSplits (r s : Regex) (shown : Shown) : Type 0 where
  pub u : Word
  pub v : Word
  pub u' : Word
  pub v' : Word
  pub first : ArePieces shown.items shown.first (u ∷ v ∷ [])
  pub second : ArePieces shown.items shown.second (u' ∷ v' ∷ [])
  pub shorter : length u < length u'
  pub in_first : In r u × In r u'
  pub in_second : In s v × In s v'

-- the word factors in two ways
pub record ShowsFactorings (r : Regex) (shown : Shown) : Type 0 where
  pub first : PartsInto r shown.items shown.first
  pub second : PartsInto r shown.items shown.second
  pub differ : shown.first ≢ shown.second

-- the example has two readings that the rule forbids
abbrev pub HasReadings : Question → Shown → Type 0
HasReadings (choice r s) shown = ShowsOverlap r s shown
HasReadings (split r s) shown = ShowsSplits r s shown
HasReadings (iter r) shown = ShowsFactorings r shown

-- the same, and its word is of items of these columns
abbrev pub Shows : List Column → Question → Shown → Type 0
Shows columns question shown = IsWordOf columns shown.items × HasReadings question shown

-- the same, and no example has fewer items
pub record IsShortestShown (columns : List Column) (question : Question)
    (shown : Shown) : Type 0 where
  pub shows : Shows columns question shown
  pub none : (other : Shown) → length other.items < length shown.items
      → Shows columns question other → ⊥
