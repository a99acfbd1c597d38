use Rattle.std.proofs.lemmas.Result.{err_from_is_err_and}
use Rattle.query_trees.specs.Trees.{trees_of}
use Rattle.template_expansion.proofs.Outcomes.{made_readable, stopped_after}
use Rattle.template_expansion.proofs.Outcomes.{stopped_before, stopped_by_template}
use Rattle.template_expansion.proofs.expansion.expand_trees.Goals as goal

pub returns-in_err-trees-clause-stopped : goal.returns-in_err-trees-clause-stopped
returns-in_err-trees-clause-stopped c =
    let p = err_from_is_err_and c.from_residual.result c.from_residual.ensures.1 in
    rw (p.1, p.2) (stopped_before c.args.text.now _ c.in_err-trees.ensures.stopped)

pub returns-in_err-plain-clause-stopped : goal.returns-in_err-plain-clause-stopped
returns-in_err-plain-clause-stopped c =
    let p = err_from_is_err_and c.from_residual-in_err-plain.result
    c.from_residual-in_err-plain.ensures.1 in
    rw (p.1, p.2) (stopped_by_template c.args.text.now (trees_of c.in_ok-trees.trees.items) _
    c.in_ok-trees.ensures.shallow (rw c.deref.ensures.value at c.in_err-plain.ensures.stopped))

pub file_of-requires : goal.file_of-requires
file_of-requires c =
    rw c.deref-2.ensures.value (made_readable c.args.text.now (trees_of c.in_ok-trees.trees.items)
    (rw c.deref.ensures.value at c.in_ok-plain.ensures.right)
    (trees_of c.in_ok-plain.plain.items)
    (rw c.deref.ensures.value at c.in_ok-plain.ensures.plain) c.in_ok-trees.ensures.readable)

pub returns-in_err-file-clause-stopped : goal.returns-in_err-file-clause-stopped
returns-in_err-file-clause-stopped c =
    let p = err_from_is_err_and c.from_residual-in_err-file.result
    c.from_residual-in_err-file.ensures.1 in
    rw (p.1, p.2) (stopped_after c.args.text.now (trees_of c.in_ok-trees.trees.items)
    (rw c.deref.ensures.value at c.in_ok-plain.ensures.right)
    (trees_of c.in_ok-plain.plain.items)
    (rw c.deref.ensures.value at c.in_ok-plain.ensures.plain) c.in_ok-trees.ensures.shallow _
    (rw c.deref-2.ensures.value at c.in_err-file.ensures.stopped))
