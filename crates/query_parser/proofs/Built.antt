-- Trees that are built of a text's tokens.
use Rattle.std.proofs.Common.{ℕ, List, inl, inr}
use Rattle.query_trees.specs.Trees.{Trees, none, leaf, call}
use Rattle.query_forms.specs.Terms as plain
use Rattle.query_forms.specs.Terms.{IsTokenOf, Say, Terms}
use Rattle.query_parser.specs.TreeReading.{AreBuilt}
use Rattle.query_parser.proofs.ReadTrees.{AreTrees}
use Rattle.query_parser.proofs.Readable.{Readable, leaf_reads, call_reads}

module _ (text : List ℕ) where
  -- trees of a text's tokens that say terms
  pub said_built : (trees : Trees) (terms : Terms) → AreTrees (IsTokenOf text) trees
      → Say text trees terms → AreBuilt text trees
  said_built none terms are say = tt
  said_built (leaf token rest) (plain.word bytes span more) are say =
      (are.0, inl say.0, said_built rest more are.1 say.3)
  said_built (leaf token rest) (plain.number value span more) are say =
      (are.0, inr (inl say.0), said_built rest more are.1 say.3)
  said_built (leaf token rest) (plain.string bytes span more) are say =
      (are.0, inr (inr say.0), said_built rest more are.1 say.3)
  said_built (call head arguments span rest) (plain.call bytes inner place more) are say = (
    are.0,
    are.1,
    are.2,
    said_built arguments inner are.3 say.2,
    said_built rest more are.4 say.3,
  )
  said_built _ _ are say = absurd say

  -- and each such tree says a term
  pub built_readable : (trees : Trees) → AreBuilt text trees → Readable text trees
  built_readable none are = (tt, (plain.none, tt))
  built_readable (leaf token rest) are =
      leaf_reads text token rest are.0 are.1 (built_readable rest are.2)
  built_readable (call head arguments span rest) are =
      call_reads text head arguments span rest are.0 (built_readable arguments are.3)
      (built_readable rest are.4)

  -- they are trees of the text's tokens
  pub built_trees : (trees : Trees) → AreBuilt text trees → AreTrees (IsTokenOf text) trees
  built_trees none are = tt
  built_trees (leaf token rest) are = (are.0, built_trees rest are.2)
  built_trees (call head arguments span rest) are =
      (are.0, are.1, are.2, built_trees arguments are.3, built_trees rest are.4)
