use Rattle.std.proofs.Common.{◌≡◌, ◌++◌, ◌∷◌, [], rules, sym, ◌∙◌}
use Rattle.std.specs.Option.{option_copied}
use Rattle.std.proofs.lemmas.Result.{err_from_is_err_and}
use Rattle.query_trees.specs.Trees.{none, tree_before, trees_of}
use Rattle.query_templates.specs.Expansion.{expanded}
use Rattle.query_templates.specs.Misfits.{misfit_in}
use Rattle.query_templates.specs.Plain.{templates_of}
use Rattle.query_templates.proofs.Expanding.{expanded-joined}
use Rattle.query_templates.proofs.Firsts.{none_more, stops_at}
use Rattle.query_templates.proofs.Judging.{call_are, call_misfits, inner_misfit, misfit-joined}
use Rattle.query_templates.proofs.Lists.{made_more}
use Rattle.query_templates.proofs.expansion.+expand.Goals as goal

pub expanded_all-returns-in_err-one-clause-stopped :
    goal.expanded_all-returns-in_err-one-clause-stopped
expanded_all-returns-in_err-one-clause-stopped t c =
    let text = c.args.text.now in
    let templates = templates_of c.args.templates.now in
    let parameters = option_copied c.args.parameters in
    let err = err_from_is_err_and c.from_residual.result c.from_residual.ensures.1 in
    rw (err.1, err.2) (stops_at (misfit_in text templates parameters c.args.place)
    (misfit-joined text templates parameters c.args.place) c.args.trees.now c.trees.tree-index
    c.tree-item.result c.trees-test.true c.tree-item.is c.trees.invariant.fit _
    c.in_err-one.ensures.stopped)

pub expanded_all-trees-preserved : goal.expanded_all-trees-preserved
expanded_all-trees-preserved t c =
    let text = c.args.text.now in
    let templates = templates_of c.args.templates.now in
    let parameters = option_copied c.args.parameters in
    let one = c.in_ok-one.ensures.made in
    let grew : c.push.new.self.items ≡ c.trees.made.items ++ c.in_ok-one.one ∷ [] = search rules in
    record {
      fit = none_more (misfit_in text templates parameters c.args.place)
          (misfit-joined text templates parameters c.args.place) c.args.trees.now
          c.trees.tree-index c.tree-item.result c.trees-test.true c.tree-item.is
          c.trees.invariant.fit one.fit;
      are = made_more (expanded text templates) (expanded-joined text templates)
          c.args.trees.now c.trees.tree-index c.tree-item.result c.trees-test.true
          c.tree-item.is c.trees.made.items c.push.new.self.items c.in_ok-one.one grew
          c.trees.invariant.are one.are;
    }

pub expanded-returns-in_err-made-in-Call-clause-stopped :
    goal.expanded-returns-in_err-made-in-Call-clause-stopped
expanded-returns-in_err-made-in-Call-clause-stopped t c =
    let residual = c.from_residual-in_err-made-in-Call in
    let err = err_from_is_err_and residual.result residual.ensures.1 in
    rw (err.1, err.2) (inner_misfit c.args.text.now (templates_of c.args.templates.now)
    (option_copied c.args.parameters) c.args.place c.args.tree.now c.in-Call.head
    c.in-Call.arguments c.in-Call.span c.deref.result.now c.in-Call.is c.deref.ensures.value _
    c.in_err-made-in-Call.ensures.stopped)

pub expanded-returns-in_err-fit-in-Call-clause-stopped :
    goal.expanded-returns-in_err-fit-in-Call-clause-stopped
expanded-returns-in_err-fit-in-Call-clause-stopped t c =
    let residual = c.from_residual-in_err-fit-in-Call in
    let err = err_from_is_err_and residual.result residual.ensures.1 in
    let written = c.deref-in-Call.ensures.value ∙ sym c.deref.ensures.value in
    let stopped = rw (written, c.deref-in-Call-2.ensures.value)
    at c.in_err-fit-in-Call.ensures.stopped in
    rw (err.1, err.2) (call_misfits c.args.text.now (templates_of c.args.templates.now)
    (option_copied c.args.parameters) c.args.place c.args.tree.now c.in-Call.head
    c.in-Call.arguments c.in-Call.span c.deref.result.now c.in-Call.is c.deref.ensures.value
    (trees_of c.in_ok-made-in-Call.made.items) c.in_ok-made-in-Call.ensures.made _ stopped)

pub expanded-returns-in_ok-call_use-in-Call-clause-made :
    goal.expanded-returns-in_ok-call_use-in-Call-clause-made
expanded-returns-in_ok-call_use-in-Call-clause-made t c =
    let written = c.deref-in-Call.ensures.value ∙ sym c.deref.ensures.value in
    let fits = rw (written, c.deref-in-Call-2.ensures.value)
    at c.in_ok-fit-in-Call.ensures.fit in
    call_are c.args.text.now (templates_of c.args.templates.now)
    (option_copied c.args.parameters) c.args.place c.args.tree.now c.in-Call.head
    c.in-Call.arguments c.in-Call.span c.deref.result.now c.in-Call.is c.deref.ensures.value
    (trees_of c.in_ok-made-in-Call.made.items) c.in_ok-made-in-Call.ensures.made fits
    (tree_before c.in_ok-call_use-in-Call.field-0 none) c.in_ok-call_use-in-Call.ensures
