-- The tokens of a term close what they open.
use Rattle.std.proofs.Common.{◌≡◌, inl, inr, ℕ, suc, ◌+◌, ◌-◌, ◌≤◌, length, get_or, take, drop}
use Rattle.std.proofs.Common.{List, [], ◌∷◌, ◌++◌, Option, Some, None, refl, sym, subst, ap, ◌∙◌}
use Rattle.std.proofs.Common.{arith, add-one, append_assoc}
use Rattle.std.proofs.lemmas.List.{take_all}
use Rattle.std.proofs.Math.Dec.{eqb-suc-zero}
use Rattle.query_tokens.specs.declared.token.Token.{Token}
use Rattle.query_tokens.specs.declared.token.TokenKind.{TokenKind}
use Rattle.query_tokens.specs.declared.token.TokenKind.TheVariants.{Word, Open, Close}
use Rattle.query_trees.specs.Ends.{this_or_after, closing}
use Rattle.query_trees.specs.Reads.{NextIs, Begins, IsBefore, place_of_first}
use Rattle.query_trees.specs.Terms.{IsLeaf, Calls, AreMore, AreArguments}
use Rattle.query_trees.specs.Trees.{Trees, none, leaf, call}

-- the end of an inner call
close-inner :
    (calls : ℕ) (token : Token) (after : ℕ → Option Token)
    → token.kind ≡ Close → this_or_after token.kind (calls + 1) token after ≡ after calls
close-inner calls token after closes =
    let at = ap (λ (k : TokenKind). this_or_after k (calls + 1) token after) closes in
    let e : suc calls - 1 ≡ calls = omega arith in
    at ∙ rw (add-one, eqb-suc-zero calls, e) refl

-- a leaf closes nothing
leaf-closing :
    (token : Token) (rest : List Token) (calls : ℕ) → IsLeaf token
    → closing (token ∷ rest) calls ≡ closing rest calls
leaf-closing token rest calls (inl word) = rw word refl
leaf-closing token rest calls (inr (inl number)) = rw number refl
leaf-closing token rest calls (inr (inr text)) = rw text refl

-- nor what stands after an argument
more-closing :
    (trees : Trees) (tokens rest : List Token) (calls : ℕ)
    → ((more : List Token) → AreArguments trees more
    → closing (more ++ rest) calls ≡ closing rest calls)
    → AreMore (AreArguments trees) trees tokens
    → closing (tokens ++ rest) calls ≡ closing rest calls
more-closing none tokens rest calls ih are = rw are refl
more-closing (leaf token others) tokens rest calls ih (comma, more, split, is, are) =
    rw (split, is) (ih more are)
more-closing (call head inner span others) tokens rest calls ih (comma, more, split, is, are) =
    rw (split, is) (ih more are)

-- nor arguments
pub arguments-closing :
    (trees : Trees) (tokens rest : List Token) (calls : ℕ) → AreArguments trees tokens
    → closing (tokens ++ rest) calls ≡ closing rest calls
arguments-closing none tokens rest calls are = absurd are
arguments-closing (leaf token others) tokens rest calls (more, split, is_leaf, are) =
    let after = more-closing others more rest calls
    (λ inner fit. arguments-closing others inner rest calls fit) are in
    rw split (leaf-closing token (more ++ rest) calls is_leaf ∙ after)
arguments-closing (call head arguments span others) tokens rest calls (more, c, are) =
    let after = more-closing others more rest calls
    (λ inner fit. arguments-closing others inner rest calls fit) are in
    let inner = arguments-closing arguments c.inner (c.close ∷ more ++ rest) (calls + 1) c.holds in
    let close : closing (c.close ∷ more ++ rest) (calls + 1) ≡ closing (more ++ rest) calls =
    close-inner calls c.close (closing (more ++ rest)) c.closes in
    rw (c.split, append_assoc c.inner (c.close ∷ more) rest, c.word, c.opens)
    (inner ∙ (close ∙ after))

-- the place of a call, by its tokens
pub record HasPlace (trees : Trees) (head : Token) (inner : List Token) : Type 0 where
  pub close : Token
  pub closes : closing inner 0 ≡ Some close
  pub place : place_of_first trees ≡ Some (record { from = head.span.from; to = close.span.to })

-- a call has it
pub call-place :
    (trees : Trees) (tokens others inner : List Token) (head open_ : Token)
    → IsBefore trees tokens others → tokens ≡ head ∷ open_ ∷ inner → open_.kind ≡ Open
    → HasPlace trees head inner
call-place none tokens others inner head open_ is split opens = absurd is.begins
call-place (leaf token rest) tokens others inner head open_ is split opens =
    let begins : Begins (leaf token rest) tokens others = is.begins in
    let e : others ≡ open_ ∷ inner = cc (split, begins.0) in
    absurd (is.no_open (subst (NextIs Open) (sym e) opens))
call-place (call word arguments span rest) tokens others inner head open_ is split opens =
    let c : Calls word span (AreArguments arguments) tokens others = is.begins in
    let same : head ≡ word = cc (split, c.split) in
    let e : inner ≡ c.inner ++ c.close ∷ others = cc (split, c.split) in
    let end : closing (c.close ∷ others) 0 ≡ Some c.close = rw c.closes refl in
    record {
      close = c.close;
      closes = ap (λ (x : List Token). closing x 0) e
          ∙ (arguments-closing arguments c.inner (c.close ∷ others) 0 c.holds ∙ end);
      place = ap Some c.place
          ∙ ap (λ (h : Token). Some (record { from = h.span.from; to = c.close.span.to }))
          (sym same);
    }

-- what is read where there is no token
abbrev pub no_token : Token
no_token = record { kind = Word; span = record { from = 0; to = 0 } }

-- tokens of which there are two or more
pub first_two : (tokens : List Token) → 2 ≤ length tokens → tokens
    ≡ get_or tokens 0 no_token ∷ get_or tokens 1 no_token ∷ take (length tokens - 2) (drop 2 tokens)
first_two [] two = absurd (omega arith)
first_two (head ∷ []) two = absurd (omega arith)
first_two (head ∷ next ∷ rest) two =
    ap (λ (x : List Token). head ∷ next ∷ x) (sym (take_all _ rest (omega arith)))

-- the tokens after the first two
abbrev pub inside : List Token → List Token
inside tokens = take (length tokens - 2) (drop 2 tokens)

-- a call whose end is found has its place
pub place-found :
    (trees : Trees) (tokens others : List Token) (close : Token) → IsBefore trees tokens others
    → 2 ≤ length tokens → (get_or tokens 1 no_token).kind ≡ Open
    → Some close ≡ closing (inside tokens) 0
    → Some (record { from = (get_or tokens 0 no_token).span.from; to = close.span.to })
    ≡ place_of_first trees
place-found trees tokens others close is two opens found =
    let p = call-place trees tokens others (inside tokens) (get_or tokens 0 no_token)
    (get_or tokens 1 no_token) is (first_two tokens two) opens in
    let same : p.close ≡ close = cc (p.closes, found) in
    sym (p.place ∙ ap (λ (t : Token).
    Some (record { from = (get_or tokens 0 no_token).span.from; to = t.span.to })) same)

-- the end of a call is found
pub end-found :
    (trees : Trees) (tokens others : List Token) → IsBefore trees tokens others → 2 ≤ length tokens
    → (get_or tokens 1 no_token).kind ≡ Open → None ≡ closing (inside tokens) 0 → ⊥
end-found trees tokens others is two opens found =
    let p = call-place trees tokens others (inside tokens) (get_or tokens 0 no_token)
    (get_or tokens 1 no_token) is (first_two tokens two) opens in
    let closes = p.closes in
    absurd (cc)
