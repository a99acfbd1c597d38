use Rattle.std.proofs.Common.{◌≡◌, IfOk, sym, subst}
use Rattle.query_trees.specs.Trees.{Trees, none, tree_before}
use Rattle.query_templates.proofs.Expanding.{term-inside, term-outside}
use Rattle.query_templates.proofs.filling.term_at.Goals as goal

pub returns-in-Some : goal.returns-in-Some
returns-in-Some c =
    subst (λ (terms : Trees). IfOk c.copy_of.result (λ made. tree_before made none ≡ terms))
    (sym (term-inside c.args.trees.now c.args.at c.args.word c.in-Some.tree.now
    c.in-Some.ensures.lookup.3.0 c.in-Some.ensures.lookup.1))
    c.copy_of.ensures

pub returns-in-None : goal.returns-in-None
returns-in-None c =
    sym (term-outside c.args.trees.now c.args.at c.args.word c.in-None.ensures.lookup.3)
