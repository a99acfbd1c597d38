-- Statement. Words with two readings, by how many items they have.
use Rattle.std.specs.Prelude.{◌≡◌, ◌++◌, ℕ, List, length}
use Rattle.item_schema.specs.declared.column.Column.{Column}
use Rattle.rate_expr.specs.Rates.{Regex}
use Rattle.rate_expr.specs.Readings.{Overlap, HaveTwoSplits, HasTwoFactorings}
use Rattle.rate_expr.specs.Words.{join}
use Rattle.ambiguity_check.specs.declared.graph.Node.{Node}
use Rattle.ambiguity_check.specs.Walks.{IsWalk}

-- a word of `items` items is in both rates
abbrev pub OverlapOf : List Column → Regex → Regex → ℕ → Type 0
OverlapOf columns r s items = (two : Overlap columns r s) × (length two.0 ≡ items)

-- a word of `items` items splits in two ways
abbrev pub TwoSplitsOf : List Column → Regex → Regex → ℕ → Type 0
TwoSplitsOf columns r s items =
    (two : HaveTwoSplits columns r s) × (length (two.u ++ two.v) ≡ items)

-- a word of `items` items factors in two ways
abbrev pub TwoFactoringsOf : List Column → Regex → ℕ → Type 0
TwoFactoringsOf columns r items =
    (two : HasTwoFactorings columns r) × (length (join two.us) ≡ items)

-- a walk of `items` items leads to an end
abbrev pub EndsAfter : (Node → Type 0) → (Node → Node → Type 0) → (Node → Type 0)
    → (Node → Type 0) → ℕ → Type 0
EndsAfter begins continues meet ends items =
    (node : Node) × IsWalk begins continues meet items node × ends node
