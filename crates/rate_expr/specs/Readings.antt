-- Statement. Which words rates have, and in how many readings. All words are of items of the
-- columns.
use Rattle.std.specs.Prelude.{◌≡◌, ◌≢◌, ◌↔◌, List, ◌∷◌, ◌++◌}
use Rattle.std.specs.List.{AllByRecursion}
use Rattle.value_ops.specs.declared.field.Field.{Field}
use Rattle.item_schema.specs.declared.column.Column.{Column}
use Rattle.rate_expr.specs.Language.{In}
use Rattle.rate_expr.specs.Rates.{Regex}
use Rattle.rate_expr.specs.Words.{Word, IsWordOf, join}

-- the word can be extended, by at least one item, to a word of the rate
abbrev pub HasExtension : List Column → Regex → Word → Type 0
HasExtension columns rate word = (item : List Field) × (more : Word)
    × IsWordOf columns (item ∷ more) × In rate (word ++ item ∷ more)

-- each word is in both rates or in neither
abbrev pub AreEqual : List Column → Regex → Regex → Type 0
AreEqual columns r s = (w : Word) → IsWordOf columns w → In r w ↔ In s w

-- every word of at least one item is in the rate
abbrev pub HasAllButEmpty : List Column → Regex → Type 0
HasAllButEmpty columns r = (item : List Field) (more : Word) → IsWordOf columns (item ∷ more)
    → In r (item ∷ more)

-- no word is in both rates
abbrev pub AreDisjoint : List Column → Regex → Regex → Type 0
AreDisjoint columns r s = (w : Word) → IsWordOf columns w → In r w → In s w → ⊥

-- some word is in both
abbrev pub Overlap : List Column → Regex → Regex → Type 0
Overlap columns r s = (w : Word) × IsWordOf columns w × In r w × In s w

-- no word splits in two ways into a word of the one rate and then a word of the other
abbrev pub HaveOneSplit : List Column → Regex → Regex → Type 0
HaveOneSplit columns r s = (u v u' v' : Word) → IsWordOf columns (u ++ v)
    → In r u → In s v → In r u' → In s v' → u ++ v ≡ u' ++ v' → u ≡ u'

-- some word splits in two ways
pub record HaveTwoSplits (columns : List Column) (r s : Regex) : Type 0 where
  pub u : Word
  pub v : Word
  pub u' : Word
  pub v' : Word
  pub word : IsWordOf columns (u ++ v)
  pub first : In r u × In s v
  pub second : In r u' × In s v'
  pub same : u ++ v ≡ u' ++ v'
  pub differ : u ≢ u'

-- no word factors in two ways into words of the rate
abbrev pub HasOneFactoring : List Column → Regex → Type 0
HasOneFactoring columns r = (us vs : List Word) → IsWordOf columns (join us)
    → AllByRecursion (In r) us → AllByRecursion (In r) vs → join us ≡ join vs → us ≡ vs

-- some word factors in two ways
pub record HasTwoFactorings (columns : List Column) (r : Regex) : Type 0 where
  pub us : List Word
  pub vs : List Word
  pub word : IsWordOf columns (join us)
  pub first : AllByRecursion (In r) us
  pub second : AllByRecursion (In r) vs
  pub same : join us ≡ join vs
  pub differ : us ≢ vs
