-- Tokens of terms take a reader to the end.
use Rattle.std.proofs.Common.{◌≡◌, inl, inr, ℕ, suc, true, List, ◌∷◌, ◌++◌, Option, Some, refl, ap}
use Rattle.std.proofs.Common.{◌∙◌, add-one, append_assoc}
use Rattle.query_tokens.specs.declared.token.Token.{Token}
use Rattle.query_tokens.specs.declared.token.TokenKind.TheVariants.{Open, Close}
use Rattle.query_trees.specs.declared.reader_state.ReaderState.{ReaderState}
use Rattle.query_trees.specs.declared.reader_state.ReaderState.TheVariants.{AfterTerm, AfterWord}
use Rattle.query_trees.specs.declared.reader_state.ReaderState.TheVariants.{Argument}
use Rattle.query_trees.specs.Steps.{step, walk, ends}
use Rattle.query_trees.specs.Terms.{IsLeaf, AreMore, AreArguments, AreTerms}
use Rattle.query_trees.specs.Trees.{Trees, none, leaf, call}
use Rattle.query_trees.proofs.Places.{IsInside, IsInside-term, IsInside-word, IsOutside}
use Rattle.query_trees.proofs.Places.{IsOutside-term, IsOutside-word}

-- a step over a token of this kind
pub walk-step :
    (place : ReaderState) (token : Token) (rest : List Token) (next : Option ReaderState)
    → step place token.kind ≡ next → walk (Some place) (token ∷ rest) ≡ walk next rest
walk-step place token rest next e = rw e refl

-- what stands after an argument, and the end of the call
more-walk :
    (arguments : Trees) (others : List Token) (place : ReaderState) (calls : ℕ) (close : Token)
    (rest : List Token) → ((more : List Token) → AreArguments arguments more
    → walk (Some (Argument calls)) (more ++ close ∷ rest) ≡ walk (Some (AfterTerm calls)) rest)
    → IsInside place calls → AreMore (AreArguments arguments) arguments others → close.kind ≡ Close
    → walk (Some place) (others ++ close ∷ rest) ≡ walk (Some (AfterTerm calls)) rest
more-walk none others place calls close rest ih inside more closes =
    rw (more, closes, inside.close) refl
more-walk (leaf token after) others place calls close rest ih inside
    (comma, tokens, split, is_comma, are) closes =
    rw (split, is_comma, inside.comma) (ih tokens are)
more-walk (call head inner span after) others place calls close rest ih inside
    (comma, tokens, split, is_comma, are) closes =
    rw (split, is_comma, inside.comma) (ih tokens are)

-- a place after a leaf, inside of one call more than `calls`
leaf-inside :
    (token : Token) (calls : ℕ) → IsLeaf token
    → (place : ReaderState) × (step (Argument calls) token.kind ≡ Some place) × IsInside place calls
leaf-inside token calls (inl word) =
    (AfterWord (suc calls), rw (word, add-one) refl, IsInside-word calls)
leaf-inside token calls (inr (inl number)) =
    (AfterTerm (suc calls), rw (number, add-one) refl, IsInside-term calls)
leaf-inside token calls (inr (inr text)) =
    (AfterTerm (suc calls), rw (text, add-one) refl, IsInside-term calls)

-- from a word to the end of its call
call-walk :
    (head open_ close : Token) (inner rest : List Token) (place : ReaderState) (calls : ℕ)
    → step place head.kind ≡ Some (AfterWord calls) → open_.kind ≡ Open
    → walk (Some (Argument calls)) (inner ++ close ∷ rest) ≡ walk (Some (AfterTerm calls)) rest
    → walk (Some place) (head ∷ open_ ∷ inner ++ close ∷ rest) ≡ walk (Some (AfterTerm calls)) rest
call-walk head open_ close inner rest place calls steps opens walks =
    walk-step place head (open_ ∷ inner ++ close ∷ rest) _ steps
    ∙ (walk-step (AfterWord calls) open_ (inner ++ close ∷ rest) (Some (Argument calls))
    (rw opens refl) ∙ walks)

-- arguments, and the end of the call
pub arguments-walk :
    (trees : Trees) (tokens : List Token) (calls : ℕ) (close : Token) (rest : List Token)
    → AreArguments trees tokens → close.kind ≡ Close
    → walk (Some (Argument calls)) (tokens ++ close ∷ rest) ≡ walk (Some (AfterTerm calls)) rest
arguments-walk none tokens calls close rest are closes = absurd are
arguments-walk (leaf token others) tokens calls close rest (more, split, is_leaf, are) closes =
    let at = leaf-inside token calls is_leaf in
    let after = more-walk others more at.0 calls close rest
    (λ inner fit. arguments-walk others inner calls close rest fit closes) at.2 are closes in
    rw split (walk-step (Argument calls) token (more ++ close ∷ rest) _ at.1 ∙ after)
arguments-walk (call head arguments span others) tokens calls close rest
    (more, calls_, are) closes =
    let inside = arguments-walk arguments calls_.inner (suc calls) calls_.close
    (more ++ close ∷ rest) calls_.holds calls_.closes in
    let all = call-walk head calls_.open_ calls_.close calls_.inner (more ++ close ∷ rest)
    (Argument calls) (suc calls) (rw (calls_.word, add-one) refl) calls_.opens inside in
    let after = more-walk others more (AfterTerm (suc calls)) calls close rest
    (λ inner fit. arguments-walk others inner calls close rest fit closes)
    (IsInside-term calls) are closes in
    rw (calls_.split, append_assoc calls_.inner (calls_.close ∷ more) (close ∷ rest)) (all ∙ after)

-- a place after a leaf, outside of calls
leaf-outside :
    (token : Token) (place : ReaderState) → IsLeaf token → IsOutside place
    → (next : ReaderState) × (step place token.kind ≡ Some next) × IsOutside next
leaf-outside token place (inl word) outside = (AfterWord 0, rw word outside.word, IsOutside-word)
leaf-outside token place (inr (inl number)) outside =
    (AfterTerm 0, rw number outside.number, IsOutside-term)
leaf-outside token place (inr (inr text)) outside =
    (AfterTerm 0, rw text outside.text, IsOutside-term)

-- a text of terms may end where they do
pub terms-end :
    (trees : Trees) (tokens : List Token) (place : ReaderState) → AreTerms trees tokens
    → IsOutside place → ends (walk (Some place) tokens) ≡ true
terms-end none tokens place are outside = rw are outside.end
terms-end (leaf token others) tokens place (more, split, is_leaf, are) outside =
    let at = leaf-outside token place is_leaf outside in
    rw split (ap ends (walk-step place token more _ at.1) ∙ terms-end others more at.0 are at.2)
terms-end (call head arguments span others) tokens place (more, calls_, are) outside =
    let inside = arguments-walk arguments calls_.inner 0 calls_.close more calls_.holds
    calls_.closes in
    let all = call-walk head calls_.open_ calls_.close calls_.inner more place 0
    (rw calls_.word outside.word) calls_.opens inside in
    rw calls_.split (ap ends all ∙ terms-end others more (AfterTerm 0) are IsOutside-term)
