-- For the prover. Pairs without the positions that are not on some ways.
use Rattle.std.specs.Prelude.{◌↔◌, ℕ, bit_and}
use Rattle.rate_expr.specs.Sets.{Has}
use Rattle.rate_expr.specs.declared.state.State.{State}
use Rattle.rate_expr.specs.declared.state.State.TheVariants.{Initial, At}
use Rattle.rate_equal.specs.Pairs.{mask_of}
use Rattle.rate_equal.specs.declared.pair.Pair.{Pair}

-- all positions of the one mask are in the other
abbrev pub IsWithin : ℕ → ℕ → Type 0
IsWithin mask wider = (position : ℕ) → Has mask position → Has wider position

-- all positions of the states of the pair are on the ways
abbrev pub AreStatesWithin : ℕ × ℕ → Pair → Type 0
AreStatesWithin ways pair =
    IsWithin (mask_of pair.first) ways.0 × IsWithin (mask_of pair.second) ways.1

-- the state without the positions that are not on the ways
abbrev pub narrowed_state : ℕ → State → State
narrowed_state ways Initial = Initial
narrowed_state ways (At mask) = At (bit_and mask ways)

-- the same for the states of a pair
abbrev pub narrowed : ℕ × ℕ → Pair → Pair
narrowed ways pair = record {
  first = narrowed_state ways.0 pair.first;
  second = narrowed_state ways.1 pair.second;
}

-- the positions of the known ways that the new ways lack
abbrev pub AreLost : ℕ × ℕ → ℕ × ℕ → ℕ × ℕ → Type 0
AreLost known ways lost =
    ((position : ℕ) → Has lost.0 position ↔ (Has known.0 position × (Has ways.0 position → ⊥)))
    × ((position : ℕ) → Has lost.1 position ↔ (Has known.1 position × (Has ways.1 position → ⊥)))
