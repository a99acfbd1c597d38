-- For the prover. Where a call ends.
use Rattle.std.specs.Prelude.{◌==◌, ℕ, ◌+◌, ◌-◌, if◌then◌else◌, List, [], ◌∷◌, Option, Some, None}
use Rattle.query_tokens.specs.declared.token.Token.{Token}
use Rattle.query_tokens.specs.declared.token.TokenKind.{TokenKind}
use Rattle.query_tokens.specs.declared.token.TokenKind.TheVariants.{Word, Number, Text, Open, Close}
use Rattle.query_tokens.specs.declared.token.TokenKind.TheVariants.{Comma}

-- the token itself, if it closes the outermost call, and else what `after` gives for the calls
-- that are then open
abbrev pub this_or_after : TokenKind → ℕ → Token → (ℕ → Option Token) → Option Token
this_or_after Word calls token after = after calls
this_or_after Number calls token after = after calls
this_or_after Text calls token after = after calls
this_or_after Comma calls token after = after calls
this_or_after Open calls token after = after (calls + 1)
this_or_after Close calls token after = if calls == 0 then Some token else after (calls - 1)

-- the token that closes a call, where the tokens are inside that call and inside `calls` further
-- ones
abbrev pub closing : List Token → ℕ → Option Token
closing [] calls = None
closing (token ∷ rest) calls = this_or_after token.kind calls token (closing rest)
