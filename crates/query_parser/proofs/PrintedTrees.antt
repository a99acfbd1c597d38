-- The tokens of a printed text are those of its trees.
use Rattle.std.proofs.Common.{inl, inr, ℕ, ◌+◌, List, length, refl}
use Rattle.query_tokens.specs.declared.token.TokenKind.{TokenKind}
use Rattle.query_tokens.specs.declared.token.TokenKind.TheVariants.{Word, Number, Text, Open, Close}
use Rattle.query_tokens.specs.declared.token.TokenKind.TheVariants.{Comma}
use Rattle.query_tokens.specs.declared.token.Token.{Token}
use Rattle.query_trees.specs.Terms.{IsLeaf, Calls, AreMore, AreArguments, AreTerms}
use Rattle.query_parser.proofs.PrintedLayout.{Printed, nothing, single, applied, trees_at, token_at}
use Rattle.query_parser.proofs.PrintedLayout.{call_tokens, more_tokens, argument_tokens, top_tokens}
use Rattle.query_parser.proofs.PrintedLayout.{inner_at, close_at, call_span, HasSome, IsSingle}
use Rattle.query_parser.proofs.PrintedLayout.{AreRaw}

-- a term by itself
single-leaf : (kind : TokenKind) (at count : ℕ) → IsSingle kind → IsLeaf (token_at kind at count)
single-leaf Word at count is = inl refl
single-leaf Number at count is = inr (inl refl)
single-leaf Text at count is = inr (inr refl)
single-leaf Open at count is = absurd is
single-leaf Close at count is = absurd is
single-leaf Comma at count is = absurd is

-- a call
call-calls : (at : ℕ) (head : List ℕ) (arguments : Printed) (inner others : List Token)
    (inside : List Token → Type 0) → inside inner
    → Calls (token_at Word at (length head)) (call_span at head arguments) inside
    (call_tokens at head arguments inner others) others
call-calls at head arguments inner others inside holds = record {
  open_ = token_at Open (at + length head) 1;
  inner = inner;
  close = token_at Close (close_at at head arguments) 1;
  split = refl;
  word = refl;
  opens = refl;
  holds = holds;
  closes = refl;
  place = refl;
}

-- what stands after an argument
more-are : (rest : Printed) (at next : ℕ)
    → (HasSome rest → AreArguments (trees_at 2 next rest) (argument_tokens next rest))
    → AreMore (AreArguments (trees_at 2 next rest)) (trees_at 2 next rest)
    (more_tokens at rest (argument_tokens next rest))
more-are nothing at next are = refl
more-are (single kind raw rest) at next are =
    (token_at Comma at 1, argument_tokens next (single kind raw rest), refl, refl, are tt)
more-are (applied head arguments rest) at next are =
    (token_at Comma at 1, argument_tokens next (applied head arguments rest), refl, refl, are tt)

-- the tokens of arguments
arguments-are : (terms : Printed) (at : ℕ) → AreRaw terms → HasSome terms
    → AreArguments (trees_at 2 at terms) (argument_tokens at terms)
arguments-are nothing at raws some = some
arguments-are (single kind raw rest) at raws some = (
  _,
  refl,
  single-leaf kind at (length raw) raws.0,
  more-are rest (at + length raw) (at + length raw + 2)
      (arguments-are rest (at + length raw + 2) raws.2),
)
arguments-are (applied head arguments rest) at raws some = (
  _,
  call-calls at head arguments (argument_tokens (inner_at at head) arguments) _ _
      (arguments-are arguments (inner_at at head) raws.2 raws.1),
  more-are rest (close_at at head arguments + 1) (close_at at head arguments + 1 + 2)
      (arguments-are rest (close_at at head arguments + 1 + 2) raws.3),
)

-- the tokens of a file
pub terms-are : (terms : Printed) (at : ℕ) → AreRaw terms
    → AreTerms (trees_at 1 at terms) (top_tokens at terms)
terms-are nothing at raws = refl
terms-are (single kind raw rest) at raws =
    (_, refl, single-leaf kind at (length raw) raws.0, terms-are rest (at + length raw + 1) raws.2)
terms-are (applied head arguments rest) at raws = (
  _,
  call-calls at head arguments (argument_tokens (inner_at at head) arguments) _ _
      (arguments-are arguments (inner_at at head) raws.2 raws.1),
  terms-are rest (close_at at head arguments + 1 + 1) raws.3,
)
