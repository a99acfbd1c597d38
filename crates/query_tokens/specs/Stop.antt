-- Statement. Why tokens cannot be read.
use Rattle.std.specs.Prelude.{ℕ, List}
use Rattle.query_tokens.specs.declared.token.Token.{Token}
use Rattle.query_tokens.specs.declared.stop.TokenStop.{TokenStop}
use Rattle.query_tokens.specs.declared.stop.TokenStop.TheVariants.{Fault, Memory}
use Rattle.query_tokens.specs.Tokens.{FaultAfter}

-- after some tokens, no token begins at this place; or out of memory
abbrev pub IsStopAt : List ℕ → TokenStop → Type 0
IsStopAt text (Fault place) = (before : List Token) × FaultAfter 0 text before place
IsStopAt text Memory = Unit
