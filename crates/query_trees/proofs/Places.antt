-- Single steps of a reader of terms.
use Rattle.std.proofs.Common.{◌≡◌, ℕ, suc, ◌-◌, true, List, [], ◌∷◌, Some, None, refl, arith}
use Rattle.std.proofs.Math.Dec.{eqb-suc-zero}
use Rattle.query_tokens.specs.declared.token.Token.{Token}
use Rattle.query_tokens.specs.declared.token.TokenKind.{TokenKind}
use Rattle.query_tokens.specs.declared.token.TokenKind.TheVariants.{Word, Number, Text, Close}
use Rattle.query_tokens.specs.declared.token.TokenKind.TheVariants.{Comma}
use Rattle.query_trees.specs.declared.reader_state.ReaderState.{ReaderState}
use Rattle.query_trees.specs.declared.reader_state.ReaderState.TheVariants.{AfterTerm, AfterWord}
use Rattle.query_trees.specs.declared.reader_state.ReaderState.TheVariants.{Argument}
use Rattle.query_trees.specs.Steps.{continue_inside, continue_calls, step, walk, may_end}

-- after a term of some call
pub continue_calls-suc : (n : ℕ) (kind : TokenKind)
    → continue_calls (suc n) kind ≡ continue_inside n kind
continue_calls-suc n kind = let e : suc n - 1 ≡ n = omega arith in rw (e, eqb-suc-zero n) refl

-- where no place is left, none comes back
pub walk-none : (tokens : List Token) → walk None tokens ≡ None
walk-none [] = refl
walk-none (token ∷ tokens) = walk-none tokens

-- a place inside of one call more than `calls` where a term has ended
pub record IsInside (place : ReaderState) (calls : ℕ) : Type 0 where
  pub comma : step place Comma ≡ Some (Argument calls)
  pub close : step place Close ≡ Some (AfterTerm calls)

-- after a term
pub IsInside-term : (calls : ℕ) → IsInside (AfterTerm (suc calls)) calls
IsInside-term calls =
    record { comma = continue_calls-suc calls Comma; close = continue_calls-suc calls Close }

-- after a word
pub IsInside-word : (calls : ℕ) → IsInside (AfterWord (suc calls)) calls
IsInside-word calls =
    record { comma = continue_calls-suc calls Comma; close = continue_calls-suc calls Close }

-- a place outside of calls where a term has ended
pub record IsOutside (place : ReaderState) : Type 0 where
  pub word : step place Word ≡ Some (AfterWord 0)
  pub number : step place Number ≡ Some (AfterTerm 0)
  pub text : step place Text ≡ Some (AfterTerm 0)
  pub end : may_end place ≡ true

-- after a term
pub IsOutside-term : IsOutside (AfterTerm 0)
IsOutside-term = record { word = refl; number = refl; text = refl; end = refl }

-- after a word
pub IsOutside-word : IsOutside (AfterWord 0)
IsOutside-word = record { word = refl; number = refl; text = refl; end = refl }
