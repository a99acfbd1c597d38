-- For the prover. What comes after the blank at a place of a text.
use Rattle.std.specs.Prelude.{◌≤◌, ◌<◌, ℕ, ◌+◌, ◌-◌, List, length, drop}
use Rattle.query_tokens.specs.declared.token.Token.{Token}
use Rattle.query_tokens.specs.declared.token_reader.Next.{Next}
use Rattle.query_tokens.specs.declared.token_reader.Next.TheVariants.{Token as AToken, End, Fault}
use Rattle.query_tokens.specs.Raw.{IsBlankToEnd}
use Rattle.query_tokens.specs.Tokens.{Stands, FailsAt}

-- the token comes after the blank at this place, and ends within the text
pub record IsTokenAt (place : ℕ) (text : List ℕ) (token : Token) : Type 0 where
  pub stands : Stands place text token (drop (token.span.to - place) text)
  pub later : place < token.span.to
  pub within : token.span.to ≤ place + length text

-- what is found at this place: the next token, the end of the text, or a fault
abbrev pub IsNext : ℕ → List ℕ → Next → Type 0
IsNext place text (AToken token) = IsTokenAt place text token
IsNext place text End = IsBlankToEnd text
IsNext place text (Fault fault) = FailsAt place text fault
