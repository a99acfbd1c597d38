-- Statement. Lists of terms, as plain trees of tokens.
use Rattle.std.specs.Prelude.{ℕ, ◌+◌, List, [], ◌∷◌, nat_lt, if◌then◌else◌, Option, Some, None}
use Rattle.language_base.specs.Limits.{max_level}
use Rattle.language_base.specs.declared.span.Span.{Span}
use Rattle.query_tokens.specs.declared.token.Token.{Token}
use Rattle.query_trees.specs.declared.tree.Tree.{Tree, Leaf, Call', Row_of-Tree, end_of-Tree}
use Rattle.query_trees.specs.declared.tree.Tree.{more_of-Tree}

-- a list of terms: none, or a first term and the terms after it
pub data Trees : Type 0 where
  none : Trees
  -- a word, a number or a string, and the terms after it
  leaf : Token → Trees → Trees
  -- a word, its arguments, the place of the whole, and the terms after it
  call : Token → Trees → Span → Trees → Trees

abbrev mutual
  -- a term before others
  pub tree_before : Tree → Trees → Trees
  tree_before (Leaf token) rest = leaf token rest
  tree_before (Call' head shape arguments span) rest = call head (row_trees arguments) span rest

  -- the arguments of a call
  pub row_trees : {m : _} → Row_of-Tree m → Trees
  row_trees end_of-Tree = none
  row_trees (more_of-Tree tree rest) = tree_before tree (row_trees rest)

-- the terms of a list
abbrev pub trees_of : List Tree → Trees
trees_of [] = none
trees_of (tree ∷ rest) = tree_before tree (trees_of rest)

-- the first of two, if there is one, or else the second
abbrev pub first_of_two : Option Span → Option Span → Option Span
first_of_two (Some span) other = Some span
first_of_two None other = other

-- the place of the first term, in the order of the text, that is too deep, where the terms
-- themselves have this level
abbrev pub first_deep : ℕ → Trees → Option Span
first_deep level none = None
first_deep level (leaf token rest) =
    if nat_lt max_level level then Some token.span else first_deep level rest
first_deep level (call head arguments span rest) =
    if nat_lt max_level level then Some span
    else first_of_two (first_deep (level + 1) arguments) (first_deep level rest)
