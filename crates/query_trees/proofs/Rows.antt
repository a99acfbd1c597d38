-- The arguments of a call, as a list.
use Rattle.std.proofs.Common.{◌≡◌, refl, ap, ◌∙◌}
use Rattle.std.proofs.Common.{Vec, Global}
use mathlib.Core.Former.{Count}
use Rattle.language_base.specs.declared.span.Span.{Span}
use Rattle.query_tokens.specs.declared.token.Token.{Token}
use Rattle.query_trees.specs.declared.tree.Tree.{Tree, Call, Call', Row_of-Tree, end_of-Tree}
use Rattle.query_trees.specs.declared.tree.Tree.{more_of-Tree, items-the_row-Tree}
use Rattle.query_trees.specs.declared.tree.Tree.{items_hidden-the_row-Tree-0}
use Rattle.query_trees.specs.Trees.{Trees, call, tree_before, row_trees, trees_of}

-- the arguments are those of the list
row-trees_of : (n : _) (row : Row_of-Tree n) → row_trees row ≡ trees_of (items-the_row-Tree n row)
row-trees_of _ end_of-Tree = refl
row-trees_of _ (more_of-Tree tree rest) = ap (tree_before tree) (row-trees_of _ rest)

-- the row of a call
abbrev row_of : Tree → (n : Count) × Row_of-Tree n
row_of (Call' head shape arguments span) = (_, arguments)
row_of _ = (_, end_of-Tree)

-- a call made of a list stands before others with the terms of the list
pub tree_before-Call :
    (head : Token) (arguments : Vec Tree Global) (span : Span) (rest : Trees)
    → tree_before (Call head arguments span) rest ≡ call head (trees_of arguments.items) span rest
tree_before-Call head arguments span rest =
    let row = row_of (Call head arguments span) in
    let same = row-trees_of row.0 row.1 ∙ ap trees_of (items_hidden-the_row-Tree-0 arguments) in
    ap (λ (inner : Trees). call head inner span rest) same
