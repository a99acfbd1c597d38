-- For the prover. What the states after words say of them.
use Rattle.std.specs.Prelude.{◌↔◌, ◌⊎◌}
use Rattle.rate_expr.specs.Sets.{Sets}
use Rattle.rate_expr.specs.declared.state.State.{State}
use Rattle.rate_expr.specs.declared.state.State.TheVariants.{Initial, At}
use Rattle.symbolic_nfa.specs.States.{IsAccepted}
use Rattle.rate_equal.specs.declared.pair.Pair.{Pair}

-- both states are accepted or neither is
abbrev pub Agree : Sets → Sets → Pair → Type 0
Agree first second pair = IsAccepted first pair.first ↔ IsAccepted second pair.second

-- exactly one of the states is accepted
abbrev pub Disagree : Sets → Sets → Pair → Type 0
Disagree first second pair =
    (IsAccepted first pair.first × (IsAccepted second pair.second → ⊥))
    ⊎ (IsAccepted second pair.second × (IsAccepted first pair.first → ⊥))

-- the state is accepted, unless it is the initial one
abbrev pub EndsThere : Sets → State → Type 0
EndsThere sets Initial = Unit {0}
EndsThere sets (At mask) = IsAccepted sets (At mask)

-- the state is not the initial one, and is not accepted
abbrev pub EndsElsewhere : Sets → State → Type 0
EndsElsewhere sets Initial = ⊥
EndsElsewhere sets (At mask) = IsAccepted sets (At mask) → ⊥

-- the same for the first state of a pair
abbrev pub IsFull : Sets → Pair → Type 0
IsFull sets pair = EndsThere sets pair.first

-- the contrary for the first state of a pair
abbrev pub IsLacking : Sets → Pair → Type 0
IsLacking sets pair = EndsElsewhere sets pair.first
