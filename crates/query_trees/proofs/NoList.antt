-- Where tokens are no list of terms, as a reader of them finds it.
use Rattle.std.proofs.Common.{◌≡◌, ◌⊎◌, inl, inr, ℕ, zero, suc, Bool, true, false, List, [], ◌∷◌}
use Rattle.std.proofs.Common.{◌++◌, Option, Some, None, refl, sym, ap, ◌∙◌, add-one, append_assoc}
use Rattle.std.proofs.Common.{append-nil}
use Rattle.std.proofs.lemmas.List.Sums.{fold-append}
use Rattle.language_base.specs.declared.span.Span.{Span}
use Rattle.query_tokens.specs.declared.token.Token.{Token}
use Rattle.query_tokens.specs.declared.token.TokenKind.{TokenKind}
use Rattle.query_tokens.specs.declared.token.TokenKind.TheVariants.{Word, Close}
use Rattle.query_trees.specs.declared.reader_state.ReaderState.{ReaderState}
use Rattle.query_trees.specs.declared.reader_state.ReaderState.TheVariants.{AfterTerm, AfterWord}
use Rattle.query_trees.specs.declared.reader_state.ReaderState.TheVariants.{Argument}
use Rattle.query_trees.specs.Steps.{step, walk, ends, after, start, may_end}
use Rattle.query_trees.specs.Terms.{AreTerms, BeginTerms, IsMisplaced, IsCutShort, IsNoList}
use Rattle.query_trees.specs.Trees.{Trees}
use Rattle.query_trees.proofs.Places.{continue_calls-suc, walk-none, IsOutside-term}
use Rattle.query_trees.proofs.Fit.{walk-step, terms-end}
use Rattle.query_trees.proofs.Finish.{walk-finish}

-- a token of this kind
some_token : TokenKind → Token
some_token kind = record { kind = kind; span = record { from = 0; to = 0 } }

-- the ends of this many calls
closes : ℕ → List Token
unfolding some_token
closes zero = []
closes (suc calls) = some_token Close ∷ closes calls

-- tokens that may follow a place
ending : ReaderState → List Token
ending (AfterTerm calls) = closes calls
ending (AfterWord calls) = closes calls
ending (Argument calls) = some_token Word ∷ closes (suc calls)

-- this many calls come to their ends
closes-end : (calls : ℕ) → ends (walk (Some (AfterTerm calls)) (closes calls)) ≡ true
unfolding closes some_token
closes-end zero = refl
closes-end (suc calls) =
    ap ends (walk-step (AfterTerm (suc calls)) (some_token Close) (closes calls) _
    (continue_calls-suc calls Close)) ∙ closes-end calls

-- also after a word
word-end : (calls : ℕ) → ends (walk (Some (AfterWord calls)) (closes calls)) ≡ true
unfolding closes some_token
word-end zero = refl
word-end (suc calls) =
    ap ends (walk-step (AfterWord (suc calls)) (some_token Close) (closes calls) _
    (continue_calls-suc calls Close)) ∙ closes-end calls

-- from each place some tokens lead to the end
ending-ends : (place : ReaderState) → ends (walk (Some place) (ending place)) ≡ true
unfolding ending some_token
ending-ends (AfterTerm calls) = closes-end calls
ending-ends (AfterWord calls) = word-end calls
ending-ends (Argument calls) =
    ap ends (walk-step (Argument calls) (some_token Word) (closes (suc calls))
    (Some (AfterWord (suc calls))) (rw add-one refl)) ∙ word-end (suc calls)

-- a walk that has come to a place begins terms
pub begins : (front : List Token) (place : ReaderState) → walk start front ≡ Some place
    → BeginTerms front
begins front place at =
    let joined = fold-append after start front (ending place) in
    let ended : ends (walk start (front ++ ending place)) ≡ true =
    ap ends (joined ∙ ap (λ p. walk p (ending place)) at) ∙ ending-ends place in
    let fits = walk-finish (front ++ ending place) (AfterTerm 0) ended in
    (ending place, fits.0, fits.1)

-- a walk that has come to no place begins none
pub begins-none : (front : List Token) → walk start front ≡ None → BeginTerms front → ⊥
begins-none front at (more, trees, are) =
    let joined = fold-append after start front more in
    let lost : walk start (front ++ more) ≡ None =
    joined ∙ (ap (λ p. walk p more) at ∙ walk-none more) in
    let ended = terms-end trees (front ++ more) (AfterTerm 0) are IsOutside-term in
    absurd (cc)

-- the first token that may not follow is misplaced
pub misplaced :
    (tokens front rest : List Token) (token : Token) (place : ReaderState)
    → tokens ≡ front ++ token ∷ rest → walk start front ≡ Some place → step place token.kind ≡ None
    → IsMisplaced tokens token
misplaced tokens front rest token place split at lost =
    let joined = fold-append after start front (token ∷ []) in
    record {
      front = front;
      rest = rest;
      split = split;
      begins = begins front place at;
      no_more =
          begins-none (front ++ token ∷ []) (joined ∙ (ap (λ p. walk p (token ∷ [])) at ∙ lost));
    }

-- a text that may not end where it does is cut short
pub cut_short :
    (tokens : List Token) (place : ReaderState) → walk start tokens ≡ Some place
    → may_end place ≡ false → IsCutShort tokens
cut_short tokens place at no_end = record {
  begins = begins tokens place at;
  no_terms = λ trees are. let ended = terms-end trees tokens (AfterTerm 0) are IsOutside-term in
      let no_end' = ap ends at ∙ no_end in absurd (cc);
}

-- a text that may end where it does has terms
pub terms :
    (tokens : List Token) (place : ReaderState) → walk start tokens ≡ Some place
    → may_end place ≡ true → (trees : Trees) × AreTerms trees tokens
terms tokens place at end = walk-finish tokens (AfterTerm 0) (ap ends at ∙ end)

-- the tokens are a list of terms, or there is a place to name
abbrev pub AreListOrNone : List Token → ℕ → Type 0
AreListOrNone tokens end =
    ((trees : Trees) × AreTerms trees tokens) ⊎ ((span : Span) × IsNoList tokens end span)

-- so it is where a reader has come to the end
at_end : (tokens : List Token) (end : ℕ) (place : ReaderState) (may : Bool)
    → walk start tokens ≡ Some place → may_end place ≡ may → AreListOrNone tokens end
at_end tokens end place true at is = inl (terms tokens place at is)
at_end tokens end place false at is =
    inr (record { from = end; to = end }, inr (cut_short tokens place at is, refl))

-- where it has come to a token, and continues after those over which it can step
at_token : (tokens front rest : List Token) (end : ℕ) (token : Token) (place : ReaderState)
    (next : Option ReaderState) → tokens ≡ front ++ token ∷ rest
    → walk start front ≡ Some place → step place token.kind ≡ next
    → ((beyond : ReaderState) → next ≡ Some beyond → AreListOrNone tokens end)
    → AreListOrNone tokens end
at_token tokens front rest end token place None split at lost on =
    inr (token.span, inl (token, misplaced tokens front rest token place split at lost, refl))
at_token tokens front rest end token place (Some next) split at goes on = on next refl

-- where it has come to any place
none_after : (tokens front rest : List Token) (end : ℕ) (place : ReaderState)
    → tokens ≡ front ++ rest → walk start front ≡ Some place → AreListOrNone tokens end
none_after tokens front [] end place split at =
    at_end tokens end place (may_end place) (ap (walk start) (split ∙ append-nil front) ∙ at) refl
none_after tokens front (token ∷ rest) end place split at =
    let joined = fold-append after start front (token ∷ []) in
    at_token tokens front rest end token place (step place token.kind) split at refl
    (λ next goes. none_after tokens (front ++ token ∷ []) rest end next
    (split ∙ sym (append_assoc front (token ∷ []) rest))
    (joined ∙ (ap (λ p. walk p (token ∷ [])) at ∙ goes)))

-- and so at the start
pub list_or_none : (tokens : List Token) (end : ℕ) → AreListOrNone tokens end
list_or_none tokens end = none_after tokens [] tokens end (AfterTerm 0) refl refl
