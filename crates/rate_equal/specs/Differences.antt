-- Statement. Words that distinguish rates.
use Rattle.std.specs.Prelude.{◌⊎◌, List, ◌∷◌}
use Rattle.value_ops.specs.declared.field.Field.{Field}
use Rattle.item_schema.specs.declared.column.Column.{Column}
use Rattle.rate_expr.specs.Language.{In}
use Rattle.rate_expr.specs.Rates.{Regex}
use Rattle.rate_expr.specs.Words.{Word, IsWordOf}

-- the word is in one of the rates alone
abbrev pub IsInOne : Regex → Regex → Word → Type 0
IsInOne r s w = (In r w × (In s w → ⊥)) ⊎ (In s w × (In r w → ⊥))

-- some word of items of these columns is in one of the rates alone
abbrev pub HaveDifference : List Column → Regex → Regex → Type 0
HaveDifference columns r s = (w : Word) × IsWordOf columns w × IsInOne r s w

-- some word of at least one item is not in the rate
abbrev pub LacksSome : List Column → Regex → Type 0
LacksSome columns r = (item : List Field) × (more : Word) × IsWordOf columns (item ∷ more)
    × (In r (item ∷ more) → ⊥)
