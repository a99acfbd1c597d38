-- A call, seen as a plain tree.
use Rattle.std.proofs.Common.{◌≡◌, List, Vec, Global, sym, ap, ◌∙◌}
use Rattle.language_base.specs.declared.span.Span.{Span}
use Rattle.query_tokens.specs.declared.token.Token.{Token}
use Rattle.query_trees.specs.declared.tree.Tree.{Tree, Call}
use Rattle.query_trees.specs.Trees.{Trees, call, tree_before, trees_of}
use Rattle.query_trees.proofs.Rows.{tree_before-Call}

-- a call stands before others with the trees of its arguments
pub call_before : (tree : Tree) (head : Token) (arguments : Vec Tree Global) (span : Span)
    (list : List Tree) (others : Trees) → tree ≡ Call head arguments span → list ≡ arguments.items
    → tree_before tree others ≡ call head (trees_of list) span others
call_before tree head arguments span list others is items =
    ap (λ t. tree_before t others) is
    ∙ tree_before-Call head arguments span others
    ∙ ap (λ inner. call head (trees_of inner) span others) (sym items)
