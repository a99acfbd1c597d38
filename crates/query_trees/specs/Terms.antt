-- Statement. The grammar of terms over tokens, and where tokens are no list of terms.
use Rattle.std.specs.Prelude.{◌≡◌, ◌⊎◌, ℕ, List, [], ◌∷◌, ◌++◌}
use Rattle.language_base.specs.declared.span.Span.{Span}
use Rattle.query_tokens.specs.declared.token.Token.{Token}
use Rattle.query_tokens.specs.declared.token.TokenKind.TheVariants.{Word, Number, Text, Open, Close}
use Rattle.query_tokens.specs.declared.token.TokenKind.TheVariants.{Comma}
use Rattle.query_trees.specs.Trees.{Trees, none, leaf, call}

-- a term by itself
abbrev pub IsLeaf : Token → Type 0
IsLeaf token = (token.kind ≡ Word) ⊎ (token.kind ≡ Number) ⊎ (token.kind ≡ Text)

-- the tokens begin with a word, `(`, tokens for which `inside` holds, and `)`, which together have
-- this span; others follow
pub record Calls (head : Token) (span : Span) (inside : List Token → Type 0)
    (tokens others : List Token) : Type 0 where
  pub open_ : Token
  pub inner : List Token
  pub close : Token
  pub split : tokens ≡ head ∷ open_ ∷ inner ++ close ∷ others
  pub word : head.kind ≡ Word
  pub opens : open_.kind ≡ Open
  pub holds : inside inner
  pub closes : close.kind ≡ Close
  pub place : span ≡ record { from = head.span.from; to = close.span.to }

-- after an argument comes nothing more, or a comma and the further arguments
abbrev pub AreMore : (List Token → Type 0) → Trees → List Token → Type 0
AreMore arguments none tokens = tokens ≡ []
AreMore arguments _ tokens =
    (comma : Token) × (more : List Token) × (tokens ≡ comma ∷ more) × (comma.kind ≡ Comma)
    × arguments more

-- the tokens are one or more terms with commas between them
abbrev pub AreArguments : Trees → List Token → Type 0
AreArguments none tokens = ⊥
AreArguments (leaf token rest) tokens =
    (others : List Token) × (tokens ≡ token ∷ others) × IsLeaf token
    × AreMore (AreArguments rest) rest others
AreArguments (call head arguments span rest) tokens =
    (others : List Token) × Calls head span (AreArguments arguments) tokens others
    × AreMore (AreArguments rest) rest others

-- the tokens are a list of terms, with nothing between them
abbrev pub AreTerms : Trees → List Token → Type 0
AreTerms none tokens = tokens ≡ []
AreTerms (leaf token rest) tokens =
    (others : List Token) × (tokens ≡ token ∷ others) × IsLeaf token × AreTerms rest others
AreTerms (call head arguments span rest) tokens =
    (others : List Token) × Calls head span (AreArguments arguments) tokens others
    × AreTerms rest others

-- with more tokens, these tokens are a list of terms
abbrev pub BeginTerms : List Token → Type 0
BeginTerms tokens = (more : List Token) × (trees : Trees) × AreTerms trees (tokens ++ more)

-- this is the first token that cannot come: with the tokens before it a list of terms can begin,
-- but not with it
pub record IsMisplaced (tokens : List Token) (token : Token) : Type 0 where
  pub front : List Token
  pub rest : List Token
  pub split : tokens ≡ front ++ token ∷ rest
  pub begins : BeginTerms front
  pub no_more : BeginTerms (front ++ token ∷ []) → ⊥

-- a list of terms can begin with the tokens, but they are none
pub record IsCutShort (tokens : List Token) : Type 0 where
  pub begins : BeginTerms tokens
  pub no_terms : (trees : Trees) → AreTerms trees tokens → ⊥

-- the tokens are no list of terms, and this is the place to name: the first token that cannot come,
-- or the end of the text
abbrev pub IsNoList : List Token → ℕ → Span → Type 0
IsNoList tokens end span = ((token : Token) × IsMisplaced tokens token × (span ≡ token.span))
    ⊎ (IsCutShort tokens × (span ≡ record { from = end; to = end }))
