-- Statement. The tokens of a text, and the first place where no token begins.
use Rattle.std.specs.Prelude.{◌≡◌, ℕ, ◌+◌, List, [], ◌∷◌, ◌++◌, length}
use Rattle.query_tokens.specs.declared.token.Token.{Token}
use Rattle.query_tokens.specs.Raw.{IsLongest, IsBlank, IsBlankToEnd, BeginsNone, BeginsNoBlank}

-- the text, which begins at the place `at`, has blank first, then this token, and then the rest
pub record Stands (at : ℕ) (text : List ℕ) (token : Token) (rest : List ℕ) : Type 0 where
  pub blank : List ℕ
  pub raw : List ℕ
  pub split : text ≡ blank ++ (raw ++ rest)
  pub is_blank : IsBlank blank
  pub is_token : IsLongest token.kind raw rest
  pub from : token.span.from ≡ at + length blank
  pub to : token.span.to ≡ token.span.from + length raw

-- the text, which begins at the place `at`, has exactly these tokens, each as long as possible
abbrev pub AreTokens : ℕ → List ℕ → List Token → Type 0
AreTokens at text [] = IsBlankToEnd text
AreTokens at text (token ∷ tokens) =
    (rest : List ℕ) × Stands at text token rest × AreTokens token.span.to rest tokens

-- after blank, no token begins at this place
pub record FailsAt (at : ℕ) (text : List ℕ) (place : ℕ) : Type 0 where
  pub blank : List ℕ
  pub rest : List ℕ
  pub split : text ≡ blank ++ rest
  pub is_blank : IsBlank blank
  pub no_blank : BeginsNoBlank rest
  pub no_token : BeginsNone rest
  pub is : place ≡ at + length blank

-- the text has these tokens, and then, after blank, there is a byte at which no token begins
abbrev pub FaultAfter : ℕ → List ℕ → List Token → ℕ → Type 0
FaultAfter at text [] place = FailsAt at text place
FaultAfter at text (token ∷ tokens) place =
    (rest : List ℕ) × Stands at text token rest × FaultAfter token.span.to rest tokens place
