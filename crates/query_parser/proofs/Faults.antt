-- Where a token fault lies.
use Rattle.std.proofs.Common.{◌≡◌, ℕ, ◌+◌, ◌≤◌, List, [], ◌∷◌, ◌++◌, length, arith, ap}
use Rattle.std.proofs.Common.{length-append}
use Rattle.query_tokens.specs.declared.token.Token.{Token}
use Rattle.query_tokens.specs.Tokens.{Stands, FaultAfter}

-- a token and what is after it are within the text
rest_within : (at : ℕ) (text : List ℕ) (token : Token) (rest : List ℕ) → Stands at text token rest →
    token.span.to + length rest ≡ at + length text
rest_within at text token rest stands =
    omega (
      arith,
      stands.from,
      stands.to,
      ap length stands.split,
      length-append stands.blank (stands.raw ++ rest),
      length-append stands.raw rest,
    )

-- a fault is no place after the text
pub fault_within : (at : ℕ) (text : List ℕ) (before : List Token) (place : ℕ)
    → FaultAfter at text before place →
    place ≤ at + length text
fault_within at text [] place fails =
    omega (arith, fails.is, ap length fails.split, length-append fails.blank fails.rest)
fault_within at text (token ∷ before) place (rest, stands, fails) =
    let within = fault_within token.span.to rest before place fails in
    let same = rest_within at text token rest stands in
    omega arith
