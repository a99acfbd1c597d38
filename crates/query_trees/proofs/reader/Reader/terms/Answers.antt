use Rattle.std.proofs.lemmas.Result.{err_from_is_err_and}
use Rattle.query_trees.proofs.Reading.{left-all, outside-next, outside-end, outside-err}
use Rattle.query_trees.proofs.Reading.{some-tokens, no-tokens}
use Rattle.query_trees.proofs.reader.Reader.terms.Goals as goal

pub terms-init : goal.terms-init
terms-init c = λ trees are. (trees, are, rw c.new-trees.ensures.items (left-all 1 trees))

pub returns-in_err-tree : goal.returns-in_err-tree
returns-in_err-tree c =
    let err = err_from_is_err_and c.from_residual.result c.from_residual.ensures.1 in
    rw (err.1, err.2) (outside-err c.terms.trees.items c.args.self.now.rest.now
    c.terms.self.rest.now c.term.new.self.rest.now c.in_err-tree.field-0.0 c.terms.invariant
    c.in_err-tree.ensures.first (some-tokens c.terms.self.rest.now c.terms-test.ensures))

pub terms-preserved : goal.terms-preserved
terms-preserved c =
    rw c.in_ok-push.ensures.pushed
    (outside-next c.terms.trees.items c.args.self.now.rest.now c.terms.self.rest.now
    c.term.new.self.rest.now c.in_ok-tree.tree c.terms.invariant c.in_ok-tree.ensures.first
    (some-tokens c.terms.self.rest.now c.terms-test.ensures))

pub returns : goal.returns
returns c =
    outside-end c.terms.trees.items c.args.self.now.rest.now c.terms.self.rest.now c.terms.invariant
    (no-tokens c.terms.self.rest.now c.terms-test.ensures)
