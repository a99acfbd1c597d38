-- A reader that comes to the end has read terms.
use Rattle.std.proofs.Common.{◌≡◌, ◌⊎◌, inl, inr, ℕ, zero, suc, true, List, [], ◌∷◌, ◌++◌, Option}
use Rattle.std.proofs.Common.{Some, None, refl, ap, add-one, append_assoc}
use Rattle.std.proofs.Math.Dec.{eqb-suc-zero}
use Rattle.language_base.specs.declared.span.Span.{Span}
use Rattle.query_tokens.specs.declared.token.Token.{Token}
use Rattle.query_tokens.specs.declared.token.TokenKind.{TokenKind}
use Rattle.query_tokens.specs.declared.token.TokenKind.TheVariants.{Word, Number, Text, Open, Close}
use Rattle.query_tokens.specs.declared.token.TokenKind.TheVariants.{Comma}
use Rattle.query_trees.specs.declared.reader_state.ReaderState.{ReaderState}
use Rattle.query_trees.specs.declared.reader_state.ReaderState.TheVariants.{AfterTerm, AfterWord}
use Rattle.query_trees.specs.declared.reader_state.ReaderState.TheVariants.{Argument}
use Rattle.query_trees.specs.Steps.{step, walk, ends, begin, continue_inside, continue_calls}
use Rattle.query_trees.specs.Steps.{call_or_continue}
use Rattle.query_trees.specs.Terms.{IsLeaf, AreMore, AreArguments, AreTerms}
use Rattle.query_trees.specs.Trees.{Trees, none, leaf, call}
use Rattle.query_trees.proofs.Places.{continue_calls-suc, walk-none}

-- tokens that this holds of, a `)`, and tokens that `rest` holds of
pub record Closes (holds rest : List Token → Type 0) (tokens : List Token) : Type 0 where
  pub inner : List Token
  pub close : Token
  pub others : List Token
  pub split : tokens ≡ inner ++ close ∷ others
  pub is : holds inner
  pub closes : close.kind ≡ Close
  pub finishes : rest others

-- one or more arguments
abbrev pub HaveArguments : List Token → Type 0
HaveArguments tokens = (trees : Trees) × AreArguments trees tokens

-- what may stand after an argument
abbrev pub HaveMore : List Token → Type 0
HaveMore tokens = (trees : Trees) × AreMore (AreArguments trees) trees tokens

-- what may stand after a term inside of this many calls
abbrev pub Finishes : ℕ → List Token → Type 0
Finishes zero tokens = (trees : Trees) × AreTerms trees tokens
Finishes (suc calls) tokens = Closes HaveMore (Finishes calls) tokens

-- arguments of a call that are inside of this many others, and what may follow
abbrev pub FinishesCall : ℕ → List Token → Type 0
FinishesCall calls tokens = Closes HaveArguments (Finishes calls) tokens

-- a `(`, and what may follow
pub record Opens (calls : ℕ) (tokens : List Token) : Type 0 where
  pub open_ : Token
  pub more : List Token
  pub split : tokens ≡ open_ ∷ more
  pub opens : open_.kind ≡ Open
  pub finishes : FinishesCall calls more

-- what may stand after a place
abbrev pub FinishesFrom : ReaderState → List Token → Type 0
FinishesFrom (AfterTerm calls) tokens = Finishes calls tokens
FinishesFrom (AfterWord calls) tokens = Finishes calls tokens ⊎ Opens calls tokens
FinishesFrom (Argument calls) tokens = FinishesCall calls tokens

-- a leaf outside of calls
top_leaf : (token : Token) (tokens : List Token) → IsLeaf token → Finishes 0 tokens
    → Finishes 0 (token ∷ tokens)
top_leaf token tokens is_leaf (trees, are) = (leaf token trees, (tokens, refl, is_leaf, are))

-- a word outside of calls, with or without arguments
top_word :
    (head : Token) (tokens : List Token) → head.kind ≡ Word → FinishesFrom (AfterWord 0) tokens
    → Finishes 0 (head ∷ tokens)
top_word head tokens word (inl finishes) = top_leaf head tokens (inl word) finishes
top_word head tokens word (inr o) =
    let c = o.finishes in
    let span : Span = record { from = head.span.from; to = c.close.span.to } in
    let split : head ∷ tokens ≡ head ∷ o.open_ ∷ c.inner ++ c.close ∷ c.others =
    cc (o.split, c.split) in (
      call head c.is.0 span c.finishes.0,
      (
        c.others,
        record {
          open_ = o.open_;
          inner = c.inner;
          close = c.close;
          split = split;
          word = word;
          opens = o.opens;
          holds = c.is.1;
          closes = c.closes;
          place = refl;
        },
        c.finishes.1,
      ),
    )

-- a leaf as an argument
inner_leaf :
    (token : Token) (tokens : List Token) (calls : ℕ) → IsLeaf token → Finishes (suc calls) tokens
    → FinishesCall calls (token ∷ tokens)
inner_leaf token tokens calls is_leaf c = record {
  inner = token ∷ c.inner;
  close = c.close;
  others = c.others;
  split = ap (λ (x : List Token). token ∷ x) c.split;
  is = (leaf token c.is.0, (c.inner, refl, is_leaf, c.is.1));
  closes = c.closes;
  finishes = c.finishes;
}

-- a word as an argument, with or without arguments of its own
inner_word :
    (head : Token) (tokens : List Token) (calls : ℕ) → head.kind ≡ Word
    → FinishesFrom (AfterWord (suc calls)) tokens → FinishesCall calls (head ∷ tokens)
inner_word head tokens calls word (inl finishes) = inner_leaf head tokens calls (inl word) finishes
inner_word head tokens calls word (inr o) =
    let c = o.finishes in
    let d = c.finishes in
    let span : Span = record { from = head.span.from; to = c.close.span.to } in
    let inner = head ∷ o.open_ ∷ c.inner ++ c.close ∷ d.inner in
    let assoc = append_assoc c.inner (c.close ∷ d.inner) (d.close ∷ d.others) in
    let split : head ∷ tokens ≡ inner ++ d.close ∷ d.others =
    rw (o.split, c.split, d.split, assoc) refl in
    record {
      inner = inner;
      close = d.close;
      others = d.others;
      split = split;
      is = (
        call head c.is.0 span d.is.0,
        (
          d.inner,
          record {
            open_ = o.open_;
            inner = c.inner;
            close = c.close;
            split = refl;
            word = word;
            opens = o.opens;
            holds = c.is.1;
            closes = c.closes;
            place = refl;
          },
          d.is.1,
        ),
      );
      closes = d.closes;
      finishes = d.finishes;
    }

-- a comma after an argument
comma-more : (trees : Trees) (comma : Token) (more : List Token) → comma.kind ≡ Comma
    → AreArguments trees more → AreMore (AreArguments trees) trees (comma ∷ more)
comma-more none comma more is are = absurd are
comma-more (leaf token rest) comma more is are = (comma, more, refl, is, are)
comma-more (call head arguments span rest) comma more is are = (comma, more, refl, is, are)

-- the same of the tokens after the argument
inner_comma :
    (comma : Token) (tokens : List Token) (calls : ℕ) → comma.kind ≡ Comma
    → FinishesCall calls tokens → Finishes (suc calls) (comma ∷ tokens)
inner_comma comma tokens calls is c = record {
  inner = comma ∷ c.inner;
  close = c.close;
  others = c.others;
  split = ap (λ (x : List Token). comma ∷ x) c.split;
  is = (c.is.0, comma-more c.is.0 comma c.inner is c.is.1);
  closes = c.closes;
  finishes = c.finishes;
}

-- the end of a call
inner_close :
    (close : Token) (tokens : List Token) (calls : ℕ) → close.kind ≡ Close → Finishes calls tokens
    → Finishes (suc calls) (close ∷ tokens)
inner_close close tokens calls closes finishes = record {
  inner = [];
  close = close;
  others = tokens;
  split = refl;
  is = (none, refl);
  closes = closes;
  finishes = finishes;
}

-- a walk that comes to the end from this place, over these tokens
abbrev Comes : List Token → Option ReaderState → Type 0
Comes tokens place = ends (walk place tokens) ≡ true

-- no walk without a place comes to the end
comes-none : {A : Type 0} (tokens : List Token) → Comes tokens None → A
comes-none tokens comes = let e = walk-none tokens in absurd (cc)

-- what the rest of the tokens is, by the place after the first
abbrev Rest : List Token → Type 0
Rest tokens = (place : ReaderState) → Comes tokens (Some place) → FinishesFrom place tokens

-- from a place outside of calls
top-finish :
    (token : Token) (tokens : List Token) → Rest tokens → (kind : TokenKind) → token.kind ≡ kind
    → Comes tokens (begin 0 kind) → Finishes 0 (token ∷ tokens)
top-finish token tokens rest Word is comes = top_word token tokens is (rest (AfterWord 0) comes)
top-finish token tokens rest Number is comes =
    top_leaf token tokens (inr (inl is)) (rest (AfterTerm 0) comes)
top-finish token tokens rest Text is comes =
    top_leaf token tokens (inr (inr is)) (rest (AfterTerm 0) comes)
top-finish token tokens rest Open is comes = comes-none tokens comes
top-finish token tokens rest Close is comes = comes-none tokens comes
top-finish token tokens rest Comma is comes = comes-none tokens comes

-- from a place for an argument
argument-finish :
    (token : Token) (tokens : List Token) (calls : ℕ) → Rest tokens → (kind : TokenKind)
    → token.kind ≡ kind → Comes tokens (begin (suc calls) kind)
    → FinishesCall calls (token ∷ tokens)
argument-finish token tokens calls rest Word is comes =
    inner_word token tokens calls is (rest (AfterWord (suc calls)) comes)
argument-finish token tokens calls rest Number is comes =
    inner_leaf token tokens calls (inr (inl is)) (rest (AfterTerm (suc calls)) comes)
argument-finish token tokens calls rest Text is comes =
    inner_leaf token tokens calls (inr (inr is)) (rest (AfterTerm (suc calls)) comes)
argument-finish token tokens calls rest Open is comes = comes-none tokens comes
argument-finish token tokens calls rest Close is comes = comes-none tokens comes
argument-finish token tokens calls rest Comma is comes = comes-none tokens comes

-- from the place after an argument
inner-finish :
    (token : Token) (tokens : List Token) (calls : ℕ) → Rest tokens → (kind : TokenKind)
    → token.kind ≡ kind → Comes tokens (continue_inside calls kind)
    → Finishes (suc calls) (token ∷ tokens)
inner-finish token tokens calls rest Comma is comes =
    inner_comma token tokens calls is (rest (Argument calls) comes)
inner-finish token tokens calls rest Close is comes =
    inner_close token tokens calls is (rest (AfterTerm calls) comes)
inner-finish token tokens calls rest Word is comes = comes-none tokens comes
inner-finish token tokens calls rest Number is comes = comes-none tokens comes
inner-finish token tokens calls rest Text is comes = comes-none tokens comes
inner-finish token tokens calls rest Open is comes = comes-none tokens comes

-- from the place after a term
term-finish :
    (token : Token) (tokens : List Token) (calls : ℕ) → Rest tokens → (kind : TokenKind)
    → token.kind ≡ kind → Comes tokens (continue_calls calls kind) → Finishes calls (token ∷ tokens)
term-finish token tokens zero rest kind is comes = top-finish token tokens rest kind is comes
term-finish token tokens (suc calls) rest kind is comes =
    inner-finish token tokens calls rest kind is (rw (continue_calls-suc calls kind) at comes)

-- from the place after a word
word-finish :
    (token : Token) (tokens : List Token) (calls : ℕ) → Rest tokens → (kind : TokenKind)
    → token.kind ≡ kind → Comes tokens (call_or_continue calls kind)
    → FinishesFrom (AfterWord calls) (token ∷ tokens)
word-finish token tokens calls rest Open is comes = inr (record {
  open_ = token;
  more = tokens;
  split = refl;
  opens = is;
  finishes = rest (Argument calls) comes;
})
word-finish token tokens calls rest Word is comes =
    inl (term-finish token tokens calls rest Word is comes)
word-finish token tokens calls rest Number is comes =
    inl (term-finish token tokens calls rest Number is comes)
word-finish token tokens calls rest Text is comes =
    inl (term-finish token tokens calls rest Text is comes)
word-finish token tokens calls rest Close is comes =
    inl (term-finish token tokens calls rest Close is comes)
word-finish token tokens calls rest Comma is comes =
    inl (term-finish token tokens calls rest Comma is comes)

-- over one token
step-finish :
    (token : Token) (tokens : List Token) → Rest tokens → (place : ReaderState)
    → Comes tokens (step place token.kind) → FinishesFrom place (token ∷ tokens)
step-finish token tokens rest (AfterTerm calls) comes =
    term-finish token tokens calls rest token.kind refl comes
step-finish token tokens rest (AfterWord calls) comes =
    word-finish token tokens calls rest token.kind refl comes
step-finish token tokens rest (Argument calls) comes =
    argument-finish token tokens calls rest token.kind refl (rw add-one at comes)

-- at the end
end-finish : (place : ReaderState) → ends (Some place) ≡ true → FinishesFrom place []
end-finish (AfterTerm zero) comes = (none, refl)
end-finish (AfterTerm (suc calls)) comes = let e = eqb-suc-zero calls in absurd (cc)
end-finish (AfterWord zero) comes = inl (none, refl)
end-finish (AfterWord (suc calls)) comes = let e = eqb-suc-zero calls in absurd (cc)
end-finish (Argument calls) comes = absurd (cc)

-- what is read to the end is what may stand there
pub walk-finish : (tokens : List Token) (place : ReaderState)
    → ends (walk (Some place) tokens) ≡ true → FinishesFrom place tokens
walk-finish [] place comes = end-finish place comes
walk-finish (token ∷ tokens) place comes = step-finish token tokens (walk-finish tokens) place comes
