-- The terms over a text's tokens are of the text, and say something.
use Rattle.std.proofs.Common.{ℕ, List, [], ◌∷◌, ◌++◌, inl, inr, refl, subst}
use Rattle.std.specs.List.{AllByRecursion}
use Rattle.std.specs.Str.Parse.{signed_digits_value}
use Rattle.language_base.specs.declared.span.Span.{Span}
use Rattle.query_tokens.specs.declared.token.Token.{Token}
use Rattle.query_tokens.specs.Raw.{IsRaw}
use Rattle.query_trees.specs.Trees.{Trees, none, leaf, call}
use Rattle.query_trees.specs.Terms.{IsLeaf, AreMore, AreArguments, AreTerms}
use Rattle.query_forms.specs.Terms as plain
use Rattle.query_forms.specs.Terms.{AreOf, IsTokenOf, Say, bytes_at}

-- what holds of all holds of the first ones and of the others
all_split : {X : Type 0} (P : X → Type 0) (xs ys : List X) → AllByRecursion P (xs ++ ys) →
    AllByRecursion P xs × AllByRecursion P ys
all_split P [] ys all = (tt, all)
all_split P (x ∷ xs) ys all = let parts = all_split P xs ys all.1 in ((all.0, parts.0), parts.1)

module _ (text : List ℕ) where
  -- the trees are of the text, and say some terms
  abbrev pub Readable : Trees → Type 0
  Readable trees = AreOf text trees × ((terms : plain.Terms) × Say text trees terms)

  -- all are tokens of the text
  abbrev AllTokens : List Token → Type 0
  AllTokens = AllByRecursion (IsTokenOf text)

  -- a term by itself, before others
  pub leaf_reads : (token : Token) (rest : Trees) → IsTokenOf text token → IsLeaf token
      → Readable rest →
      Readable (leaf token rest)
  leaf_reads token rest of (inl is) more = (
    (of, more.0),
    (plain.word (bytes_at text token.span) token.span more.1.0, (is, refl, refl, more.1.1)),
  )
  leaf_reads token rest of (inr (inl is)) more =
      let value = signed_digits_value 10 (bytes_at text token.span) in
      ((of, more.0), (plain.number value token.span more.1.0, (is, refl, refl, more.1.1)))
  leaf_reads token rest of (inr (inr is)) more =
      let string = subst (λ kind. IsRaw kind (bytes_at text token.span)) is of.raw in
      ((of, more.0), (plain.string string.0 token.span more.1.0, (is, string.1, refl, more.1.1)))

  -- a call, before others
  pub call_reads : (head : Token) (arguments : Trees) (span : Span) (rest : Trees)
      → IsTokenOf text head →
      Readable arguments → Readable rest → Readable (call head arguments span rest)
  call_reads head arguments span rest of inside more = (
    (of, inside.0, more.0),
    (
      plain.call (bytes_at text head.span) inside.1.0 span more.1.0,
      (refl, refl, inside.1.1, more.1.1),
    ),
  )

  -- what stands after an argument
  more_reads : (rest : Trees)
      → ((tokens : List Token) → AreArguments rest tokens → AllTokens tokens → Readable rest) →
      (others : List Token) → AreMore (AreArguments rest) rest others
      → AllTokens others → Readable rest
  more_reads none again others more all = (tt, (plain.none, tt))
  more_reads (leaf token rest) again others (comma, beyond, split, is, are) all =
      again beyond are (subst AllTokens split all).1
  more_reads (call head arguments span rest) again others (comma, beyond, split, is, are) all =
      again beyond are (subst AllTokens split all).1

  -- arguments over tokens of the text
  arguments_read : (trees : Trees) (tokens : List Token) → AreArguments trees tokens
      → AllTokens tokens → Readable trees
  arguments_read none tokens are all = absurd are
  arguments_read (leaf token rest) tokens (others, split, is, more) all =
      let here = subst AllTokens split all in
      leaf_reads token rest here.0 is (more_reads rest (arguments_read rest) others more here.1)
  arguments_read (call head arguments span rest) tokens (others, calls, more) all =
      let parts = all_split (IsTokenOf text) (head ∷ calls.open_ ∷ calls.inner)
      (calls.close ∷ others) (subst AllTokens calls.split all) in
      call_reads head arguments span rest parts.0.0
      (arguments_read arguments calls.inner calls.holds parts.0.1.1)
      (more_reads rest (arguments_read rest) others more parts.1.1)

  -- terms over tokens of the text
  pub terms_read : (trees : Trees) (tokens : List Token) → AreTerms trees tokens → AllTokens tokens
      → Readable trees
  terms_read none tokens are all = (tt, (plain.none, tt))
  terms_read (leaf token rest) tokens (others, split, is, more) all =
      let here = subst AllTokens split all in
      leaf_reads token rest here.0 is (terms_read rest others more here.1)
  terms_read (call head arguments span rest) tokens (others, calls, more) all =
      let parts = all_split (IsTokenOf text) (head ∷ calls.open_ ∷ calls.inner)
      (calls.close ∷ others) (subst AllTokens calls.split all) in
      call_reads head arguments span rest parts.0.0
      (arguments_read arguments calls.inner calls.holds parts.0.1.1)
      (terms_read rest others more parts.1.1)
