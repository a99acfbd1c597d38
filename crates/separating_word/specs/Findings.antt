-- For the prover. Whether a query has a value on the items of lines.
use Rattle.std.specs.Prelude.{◌≡◌, ℕ, List}
use Rattle.value_ops.specs.declared.value.Value.{Value}
use Rattle.rate_expr.specs.Words.{Word}
use Rattle.query_model.specs.Denotation.{Den}
use Rattle.query_model.specs.Monitors.{Monitor}
use Rattle.query_model.specs.Queries.{Qre}
use Rattle.separating_word.specs.Separations.{HasNoneOn, HasValueOn}
use Rattle.separating_word.specs.declared.line_value.Finding.{Finding}
use Rattle.separating_word.specs.declared.line_value.Finding.TheVariants as finding
use Rattle.separating_word.specs.declared.separation.Side.{Side}
use Rattle.separating_word.specs.declared.separation.Side.TheVariants.{Left, Right}

-- on a word
abbrev pub FindsOn : Qre → Word → Finding → Type 0
FindsOn query word finding.Value = (value : Value) × Den query word value
FindsOn query word finding.NoValue = (value : Value) → Den query word value → ⊥
FindsOn query word finding.NoItem = Unit {0}

-- on the items of lines
abbrev pub Finds : Monitor → List (List ℕ) → Finding → Type 0
Finds monitor lines finding.Value = HasValueOn monitor lines
Finds monitor lines finding.NoValue = HasNoneOn monitor lines
Finds monitor lines finding.NoItem = Unit {0}

-- there is a value on this side alone
abbrev pub HasValueAlone : Finding → Finding → Side → Type 0
HasValueAlone left right Left = (left ≡ finding.Value) × (right ≡ finding.NoValue)
HasValueAlone left right Right = (left ≡ finding.NoValue) × (right ≡ finding.Value)
