-- Tokens have one list of terms, or none and then one place to name.
use Rattle.std.proofs.Common.{◌≡◌, ◌⊎◌, inl, inr, ℕ, List, [], ◌∷◌, ◌++◌, refl, sym, ap, ◌∙◌, subst}
use Rattle.std.proofs.Common.{⊎_elim, append_assoc, append-nil}
use Rattle.language_base.specs.declared.span.Span.{Span}
use Rattle.query_tokens.specs.declared.token.Token.{Token}
use Rattle.query_tokens.specs.declared.token.TokenKind.TheVariants.{Open, Close, Comma}
use Rattle.query_trees.specs.Reads.{NextIs, Begins, AreInCall}
use Rattle.query_trees.specs.Terms.{Calls, AreArguments, AreTerms, BeginTerms, IsMisplaced}
use Rattle.query_trees.specs.Terms.{IsNoList}
use Rattle.query_trees.specs.Trees.{Trees, none, leaf, call}
use Rattle.query_trees.proofs.Firsts.{Follows, no_two, first-in_call, terms-no_open}

-- a word without arguments is no call
leaf-or-call :
    (token head : Token) (span : Span) (inside : List Token → Type 0)
    (tokens others beyond : List Token) → tokens ≡ token ∷ others → (NextIs Open others → ⊥)
    → Calls head span inside tokens beyond → ⊥
leaf-or-call token head span inside tokens others beyond split no_open c =
    let e : others ≡ c.open_ ∷ c.inner ++ c.close ∷ beyond = cc (split, c.split) in
    no_open (subst (NextIs Open) (sym e) c.opens)

-- arguments, as far as they are the only ones in their tokens
abbrev IsOnly : Trees → Type 0
IsOnly a =
    (b : Trees) (tokens x y : List Token) → AreInCall a tokens x → AreInCall b tokens y
    → (b ≡ a) × (y ≡ x)

-- two calls at the front of the same tokens
record AreSame (head other : Token) (span place : Span) (a b : Trees)
    (x y : List Token) : Type 0 where
  head_is : other ≡ head
  span_is : place ≡ span
  arguments : b ≡ a
  after : y ≡ x

-- so they are
one-call :
    (head other : Token) (span place : Span) (a b : Trees) (tokens x y : List Token) → IsOnly a
    → Calls head span (AreArguments a) tokens x → Calls other place (AreArguments b) tokens y
    → AreSame head other span place a b x y
one-call head other span place a b tokens x y only c d =
    let split = c.split in
    let head_is : other ≡ head = cc (c.split, d.split) in
    let inner : d.inner ++ d.close ∷ y ≡ c.inner ++ c.close ∷ x = cc (c.split, d.split) in
    let got = only b (c.inner ++ c.close ∷ x) (c.close ∷ x) (d.close ∷ y)
    (record { inner = c.inner; split = refl; holds = c.holds; closes = c.closes })
    (record { inner = d.inner; split = sym inner; holds = d.holds; closes = d.closes }) in
    let close : d.close ≡ c.close = cc (got.1) in
    let after : y ≡ x = cc (got.1) in
    let span_is : place ≡ span = cc (c.place, d.place, head_is, close) in
    record { head_is = head_is; span_is = span_is; arguments = got.0; after = after }

-- what stands after an argument
one-after :
    (a b : Trees) (after x y : List Token) → IsOnly a → Follows a after x → Follows b after y
    → (b ≡ a) × (y ≡ x)
one-after a b after x y only (inl (is, at, closes)) (inl (is', at', closes')) =
    (cc (is, is'), cc (at, at'))
one-after a b after x y only (inl (is, at, closes)) (inr (comma, more, split, is_comma, are)) =
    absurd (no_two Close Comma after (λ k. cc) (subst (NextIs Close) (sym at) closes)
    (subst (NextIs Comma) (sym split) is_comma))
one-after a b after x y only (inr (comma, more, split, is_comma, are)) (inl (is, at, closes)) =
    absurd (no_two Close Comma after (λ k. cc) (subst (NextIs Close) (sym at) closes)
    (subst (NextIs Comma) (sym split) is_comma))
one-after a b after x y only (inr (comma, more, split, is_comma, are))
    (inr (comma', more', split', is_comma', are')) =
    let e : more' ≡ more = cc (split, split') in
    only b more x y are (subst (λ (m : List Token). AreInCall b m y) e are')

-- arguments are the only ones in their tokens
only-arguments : (a : Trees) → IsOnly a
only-arguments none b tokens x y are others = absurd are.holds
only-arguments (leaf token rest) none tokens x y are others = absurd others.holds
only-arguments (leaf token rest) (leaf token' rest') tokens x y are others =
    let f = first-in_call (leaf token rest) tokens x are in
    let g = first-in_call (leaf token' rest') tokens y others in
    let fb : Begins (leaf token rest) tokens f.after = f.first.begins in
    let gb : Begins (leaf token' rest') tokens g.after = g.first.begins in
    let e : g.after ≡ f.after = cc (fb.0, gb.0) in
    let t : token' ≡ token = cc (fb.0, gb.0) in
    let got = one-after rest rest' f.after x y (only-arguments rest) f.follows
    (subst (λ (m : List Token). Follows rest' m y) e g.follows) in
    (cc (t, got.0), got.1)
only-arguments (leaf token rest) (call head arguments span rest') tokens x y are others =
    let f = first-in_call (leaf token rest) tokens x are in
    let g = first-in_call (call head arguments span rest') tokens y others in
    let fb : Begins (leaf token rest) tokens f.after = f.first.begins in
    absurd (leaf-or-call token head span (AreArguments arguments) tokens f.after g.after fb.0
    f.first.no_open g.first.begins)
only-arguments (call head arguments span rest) none tokens x y are others = absurd others.holds
only-arguments (call head arguments span rest) (leaf token rest') tokens x y are others =
    let f = first-in_call (call head arguments span rest) tokens x are in
    let g = first-in_call (leaf token rest') tokens y others in
    let gb : Begins (leaf token rest') tokens g.after = g.first.begins in
    absurd (leaf-or-call token head span (AreArguments arguments) tokens g.after f.after gb.0
    g.first.no_open f.first.begins)
only-arguments (call head arguments span rest) (call head' arguments' span' rest') tokens
    x y are others =
    let f = first-in_call (call head arguments span rest) tokens x are in
    let g = first-in_call (call head' arguments' span' rest') tokens y others in
    let same = one-call head head' span span' arguments arguments' tokens f.after g.after
    (only-arguments arguments) f.first.begins g.first.begins in
    let got = one-after rest rest' f.after x y (only-arguments rest) f.follows
    (subst (λ (m : List Token). Follows rest' m y) same.after g.follows) in
    (cc (same.head_is, same.span_is, same.arguments, got.0), got.1)

-- terms are the only ones in their tokens
pub only-terms : (a b : Trees) (tokens : List Token) → AreTerms a tokens → AreTerms b tokens → b ≡ a
only-terms none none tokens are other = refl
only-terms none (leaf token rest) tokens are (others, split, is_leaf, more) = absurd (cc)
only-terms none (call head arguments span rest) tokens are (others, c, more) =
    let split = c.split in absurd (cc)
only-terms (leaf token rest) none tokens (others, split, is_leaf, more) are = absurd (cc)
only-terms (leaf token rest) (leaf token' rest') tokens (others, split, is_leaf, more)
    (others', split', is_leaf', more') =
    let e : others' ≡ others = cc (split, split') in
    let t : token' ≡ token = cc (split, split') in
    let got = only-terms rest rest' others more (subst (AreTerms rest') e more') in
    cc (t, got)
only-terms (leaf token rest) (call head arguments span rest') tokens (others, split, is_leaf, more)
    (others', c, more') =
    absurd (leaf-or-call token head span (AreArguments arguments) tokens others others' split
    (terms-no_open rest others more) c)
only-terms (call head arguments span rest) none tokens (others, c, more) are =
    let split = c.split in absurd (cc)
only-terms (call head arguments span rest) (leaf token rest') tokens (others, c, more)
    (others', split, is_leaf, more') =
    absurd (leaf-or-call token head span (AreArguments arguments) tokens others' others split
    (terms-no_open rest' others' more') c)
only-terms (call head arguments span rest) (call head' arguments' span' rest') tokens
    (others, c, more) (others', d, more') =
    let same = one-call head head' span span' arguments arguments' tokens others others'
    (only-arguments arguments) c d in
    let got = only-terms rest rest' others more (subst (AreTerms rest') same.after more') in
    cc (same.head_is, same.span_is, same.arguments, got)

-- the front of tokens that begin terms begins terms
begin-front : (front rest : List Token) → BeginTerms (front ++ rest) → BeginTerms front
begin-front front rest (more, trees, are) =
    (rest ++ more, trees, subst (AreTerms trees) (append_assoc front rest more) are)

-- and so it does with the token after it
begin-one : (front rest tokens : List Token) (token : Token) → tokens ≡ front ++ token ∷ rest
    → BeginTerms tokens → BeginTerms (front ++ token ∷ [])
begin-one front rest tokens token split begins =
    let e : tokens ≡ (front ++ token ∷ []) ++ rest =
    split ∙ sym (append_assoc front (token ∷ []) rest) in
    begin-front (front ++ token ∷ []) rest (subst BeginTerms e begins)

-- terms begin terms
terms-begin : (trees : Trees) (tokens : List Token) → AreTerms trees tokens → BeginTerms tokens
terms-begin trees tokens are = ([], trees, rw append-nil are)

-- a list of terms has no place to name
pub terms-or-place :
    (trees : Trees) (tokens : List Token) (end : ℕ) (span : Span) → AreTerms trees tokens
    → IsNoList tokens end span → ⊥
terms-or-place trees tokens end span are (inl (token, m, is)) =
    m.no_more (begin-one m.front m.rest tokens token m.split (terms-begin trees tokens are))
terms-or-place trees tokens end span are (inr (c, is)) = c.no_terms trees are

-- two places of one list: the same, or one before the other
Order : (f g : List Token) (t u : Token) → Type 0
Order f g t u = ((f ≡ g) × (t ≡ u))
    ⊎ (((m : List Token) × (g ≡ f ++ t ∷ m)) ⊎ ((m : List Token) × (f ≡ g ++ u ∷ m)))

-- after one more token each
order-next : (f g : List Token) (t u a b : Token) → a ≡ b → Order f g t u
    → Order (a ∷ f) (b ∷ g) t u
unfolding Order
order-next f g t u a b e (inl (same, is)) = inl (cc (e, same), is)
order-next f g t u a b e (inr (inl (m, is))) = inr (inl (m, cc (e, is)))
order-next f g t u a b e (inr (inr (m, is))) = inr (inr (m, cc (e, is)))

-- one of these is so
order : (f g r s : List Token) (t u : Token) → f ++ t ∷ r ≡ g ++ u ∷ s → Order f g t u
unfolding Order
order [] [] r s t u e = inl (refl, cc)
order [] (b ∷ g) r s t u e = inr (inl (g, cc))
order (a ∷ f) [] r s t u e = inr (inr (f, cc))
order (a ∷ f) (b ∷ g) r s t u e = order-next f g t u a b (cc) (order f g r s t u (cc))

-- one token is misplaced
one-misplaced : (tokens : List Token) (t u : Token) → IsMisplaced tokens t
    → IsMisplaced tokens u → u ≡ t
unfolding Order
one-misplaced tokens t u m n =
    ⊎_elim (λ same. sym same.1)
    (⊎_elim (λ before. absurd (m.no_more (begin-one m.front before.0 n.front t before.1 n.begins)))
    (λ after. absurd (n.no_more (begin-one n.front after.0 m.front u after.1 m.begins))))
    (order m.front n.front m.rest n.rest t u (sym m.split ∙ n.split))

-- tokens that are no terms have one place to name
pub one-place : (tokens : List Token) (end : ℕ) (a b : Span) → IsNoList tokens end a
    → IsNoList tokens end b → b ≡ a
one-place tokens end a b (inl (t, m, is)) (inl (u, n, is')) =
    is' ∙ (ap (λ (x : Token). x.span) (one-misplaced tokens t u m n) ∙ sym is)
one-place tokens end a b (inl (t, m, is)) (inr (c, is')) =
    absurd (m.no_more (begin-one m.front m.rest tokens t m.split c.begins))
one-place tokens end a b (inr (c, is)) (inl (t, m, is')) =
    absurd (m.no_more (begin-one m.front m.rest tokens t m.split c.begins))
one-place tokens end a b (inr (c, is)) (inr (d, is')) = is' ∙ sym is
