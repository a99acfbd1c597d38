-- Statement. Left operands of composes that have a value on no items.
use Rattle.std.specs.Prelude.{◌≡◌, ◌⊎◌, [], Option, MatchOption}
use Rattle.value_ops.specs.declared.value.Value.{Value}
use Rattle.query_model.specs.Denotation.{Den}
use Rattle.query_model.specs.Queries.{plain_of}
use Rattle.query_model.specs.declared.query.Query.{Query}
use Rattle.query_model.specs.declared.query.Shape.{Shape}
use Rattle.query_model.specs.declared.query.Shape.TheVariants.{Atom, Eps, Or', Split', Iter'}
use Rattle.query_model.specs.declared.query.Shape.TheVariants.{Combine', Apply', Compose', Collect'}
use Rattle.early_values.specs.declared.operands.EarlyValue.{EarlyValue}

-- the query is the left operand of a compose in the shape
abbrev pub FeedsIn : Shape → Query → Type 0
FeedsIn (Atom pred value) operand = ⊥
FeedsIn (Eps number) operand = ⊥
FeedsIn (Or' p first a q second b) operand = FeedsIn first operand ⊎ FeedsIn second operand
FeedsIn (Split' p first a q second b value) operand =
    FeedsIn first operand ⊎ FeedsIn second operand
FeedsIn (Iter' p inner a number value) operand = FeedsIn inner operand
FeedsIn (Combine' p first a q second b value) operand =
    FeedsIn first operand ⊎ FeedsIn second operand
FeedsIn (Apply' p inner a value) operand = FeedsIn inner operand
FeedsIn (Compose' p first a q second b) operand = (record { shape = first; span = a } ≡ operand)
    ⊎ (FeedsIn first operand ⊎ FeedsIn second operand)
FeedsIn (Collect' columns sync rate p inner a) operand = FeedsIn inner operand

-- the operand has the value on no items
pub record IsEarly (operand : Query) (early : EarlyValue) : Type 0 where
  pub span_is : operand.span ≡ early.span
  pub den : Den (plain_of operand.shape) [] early.value

-- it has none
abbrev pub IsNeverEarly : Query → Type 0
IsNeverEarly operand = (value : Value) → Den (plain_of operand.shape) [] value → ⊥

-- what is found of an operand
abbrev pub IsEarlyOf : Query → Option EarlyValue → Type 0
IsEarlyOf operand found = MatchOption found (IsNeverEarly operand) (IsEarly operand)

-- of the left operands of composes in the shape, one is early, or none is
abbrev pub IsFound : Shape → Option EarlyValue → Type 0
IsFound shape found = MatchOption found
    ((operand : Query) → FeedsIn shape operand → IsNeverEarly operand)
    (λ early. (operand : Query) × FeedsIn shape operand × IsEarly operand early)

-- the same of two shapes
abbrev pub IsFoundInEither : Shape → Shape → Option EarlyValue → Type 0
IsFoundInEither first second found = MatchOption found
    ((operand : Query) → FeedsIn first operand ⊎ FeedsIn second operand → IsNeverEarly operand)
    (λ early. (operand : Query) × (FeedsIn first operand ⊎ FeedsIn second operand)
    × IsEarly operand early)
