-- The trees of a text's tokens, of which something holds.
use Rattle.std.proofs.Common.{◌≡◌, List, [], ◌∷◌, ◌++◌, subst}
use Rattle.std.specs.List.{AllByRecursion}
use Rattle.query_tokens.specs.declared.token.Token.{Token}
use Rattle.query_tokens.specs.declared.token.TokenKind.TheVariants.{Word}
use Rattle.query_trees.specs.Trees.{Trees, none, leaf, call}
use Rattle.query_trees.specs.Terms.{AreMore, AreArguments, AreTerms}
use Rattle.query_parser.specs.TreeReading.{HasTree}

-- tokens of trees of which something holds, where each call has a word and an argument
abbrev pub AreTrees : (Token → Type 0) → Trees → Type 0
AreTrees P none = Unit {0}
AreTrees P (leaf token rest) = P token × AreTrees P rest
AreTrees P (call head arguments span rest) =
    P head × (head.kind ≡ Word) × HasTree arguments × AreTrees P arguments × AreTrees P rest

-- what holds of all holds of those in front
all-front : (P : Token → Type 0) (front after : List Token) → AllByRecursion P (front ++ after)
    → AllByRecursion P front
all-front P [] after all = tt
all-front P (token ∷ front) after all = (all.0, all-front P front after all.1)

-- and of those that follow
all-after : (P : Token → Type 0) (front after : List Token) → AllByRecursion P (front ++ after)
    → AllByRecursion P after
all-after P [] after all = all
all-after P (token ∷ front) after all = all-after P front after all.1

-- arguments are one or more
arguments-some : (trees : Trees) (tokens : List Token) → AreArguments trees tokens → HasTree trees
arguments-some none tokens are = are
arguments-some (leaf token rest) tokens are = tt
arguments-some (call head arguments span rest) tokens are = tt

-- the trees after an argument
more-trees : (P : Token → Type 0) (rest : Trees) (tokens : List Token)
    → AreMore (AreArguments rest) rest tokens → AllByRecursion P tokens
    → ((more : List Token) → AreArguments rest more → AllByRecursion P more → AreTrees P rest)
    → AreTrees P rest
more-trees P none tokens are all trees = tt
more-trees P (leaf token rest) tokens (comma, more, split, is, are) all trees =
    trees more are (subst (AllByRecursion P) split all).1
more-trees P (call head arguments span rest) tokens (comma, more, split, is, are) all trees =
    trees more are (subst (AllByRecursion P) split all).1

-- the trees of arguments
arguments-trees : (P : Token → Type 0) (trees : Trees) (tokens : List Token)
    → AreArguments trees tokens → AllByRecursion P tokens → AreTrees P trees
arguments-trees P none tokens are all = absurd are
arguments-trees P (leaf token rest) tokens (others, split, is, more) all =
    let parts = subst (AllByRecursion P) split all in
    (parts.0, more-trees P rest others more parts.1 (arguments-trees P rest))
arguments-trees P (call head arguments span rest) tokens (others, calls, more) all =
    let parts = subst (AllByRecursion P) calls.split all in
    let after = all-after P calls.inner (calls.close ∷ others) parts.1.1 in (
      parts.0,
      calls.word,
      arguments-some arguments calls.inner calls.holds,
      arguments-trees P arguments calls.inner calls.holds
          (all-front P calls.inner (calls.close ∷ others) parts.1.1),
      more-trees P rest others more after.1 (arguments-trees P rest),
    )

-- the trees of a list
pub terms-trees : (P : Token → Type 0) (trees : Trees) (tokens : List Token) → AreTerms trees tokens
    → AllByRecursion P tokens → AreTrees P trees
terms-trees P none tokens are all = tt
terms-trees P (leaf token rest) tokens (others, split, is, more) all =
    let parts = subst (AllByRecursion P) split all in
    (parts.0, terms-trees P rest others more parts.1)
terms-trees P (call head arguments span rest) tokens (others, calls, more) all =
    let parts = subst (AllByRecursion P) calls.split all in
    let after = all-after P calls.inner (calls.close ∷ others) parts.1.1 in (
      parts.0,
      calls.word,
      arguments-some arguments calls.inner calls.holds,
      arguments-trees P arguments calls.inner calls.holds
          (all-front P calls.inner (calls.close ∷ others) parts.1.1),
      terms-trees P rest others more after.1,
    )
