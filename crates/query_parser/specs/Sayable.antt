-- For the prover. Trees whose terms can be made.
use Rattle.std.specs.Prelude.{◌≡◌, List, ℕ, FitsSigned}
use Rattle.std.specs.Int.{w64}
use Rattle.std.specs.Str.Parse.{signed_digits_value}
use Rattle.query_tokens.specs.declared.token.Token.{Token}
use Rattle.query_tokens.specs.declared.token.TokenKind.TheVariants.{Number}
use Rattle.query_trees.specs.Trees.{Trees, none, leaf, call}
use Rattle.query_trees.specs.Terms.{IsLeaf}
use Rattle.query_forms.specs.Terms.{bytes_at}

-- a token that is a term by itself; if it is a number, one that 64 bits hold
pub record IsSayable (text : List ℕ) (token : Token) : Type 0 where
  pub leaf : IsLeaf token
  pub within : token.kind ≡ Number
      → FitsSigned w64 (signed_digits_value 10 (bytes_at text token.span))

-- each leaf is such a token
abbrev pub AreSayable : List ℕ → Trees → Type 0
AreSayable text none = Unit {0}
AreSayable text (leaf token rest) = IsSayable text token × AreSayable text rest
AreSayable text (call head arguments span rest) = AreSayable text arguments × AreSayable text rest
