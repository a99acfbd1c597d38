use Rattle.query_trees.specs.Trees.{none, trees_of}
use Rattle.query_forms.proofs.TopTerms.{arguments_said}
use Rattle.query_forms.proofs.Trees.{call_before}
use Rattle.query_forms.proofs.tops.arguments_of.Goals as goal

pub returns-in-Call-clause-of_text : goal.returns-in-Call-clause-of_text
returns-in-Call-clause-of_text c text are =
    let is = call_before _ _ c.in-Call.arguments _ c.deref.result.now none c.in-Call.is
    c.deref.ensures.value in
    let of_call = rw is at are in of_call.1

pub returns-in-Call-clause-said : goal.returns-in-Call-clause-said
returns-in-Call-clause-said c text terms say =
    let is = call_before _ _ c.in-Call.arguments _ c.deref.result.now none c.in-Call.is
    c.deref.ensures.value in
    arguments_said text c.in-Call.field-0 (trees_of c.deref.result.now) c.in-Call.field-2
    terms (rw is at say)
