use Rattle.std.proofs.Common.{◌≡◌, rules, length, refl, sym, ap, ◌∙◌}
use Rattle.query_trees.specs.Trees.{none, call, tree_before, trees_of}
use Rattle.query_forms.proofs.Calls.{call_fits, call_unfit}
use Rattle.query_forms.proofs.Left.{Left-of_text, Left-lighter, Left-next, Left-found}
use Rattle.query_forms.proofs.Parts.{weight}
use Rattle.query_forms.proofs.Trees.{call_before}
use Rattle.query_forms.proofs.unfit_terms.+unfit.Goals as goal

pub first_unfit-unfit-requires : goal.first_unfit-unfit-requires
first_unfit-unfit-requires t c =
    let left = rw (c.in-Some.ensures.steps.0, c.in-Some.ensures.steps.1) at c.terms.invariant.2 in
    let lighter = Left-lighter _ _ _ _ _ _ left in
    let of_text = Left-of_text _ _ _ _ _ _ left in
    search rules

pub first_unfit-returns-in-Some-unfit : goal.first_unfit-returns-in-Some-unfit
first_unfit-returns-in-Some-unfit t c =
    let left = rw (c.in-Some.ensures.steps.0, c.in-Some.ensures.steps.1) at c.terms.invariant.2 in
    Left-found _ _ _ _ _ _ _ _ left c.in-Some-unfit.ensures

pub first_unfit-terms-preserved : goal.first_unfit-terms-preserved
first_unfit-terms-preserved t c =
    let left = rw (c.in-Some.ensures.steps.0, c.in-Some.ensures.steps.1) at c.terms.invariant.2 in
    ((tt, tt), tt, Left-next _ _ _ _ _ _ _ left c.in_default.ensures)

pub unfit-first_unfit-requires : goal.unfit-first_unfit-requires
unfit-first_unfit-requires t c =
    let is = call_before _ c.in-Call.head c.in-Call.arguments c.in-Call.span c.deref.result.now none
    c.in-Call.is c.deref.ensures.value in
    let of_text = rw is at c.requires in
    let falls : weight (tree_before c.args.tree.now none)
    ≡ weight (call c.in-Call.head (trees_of c.deref.result.now) c.in-Call.span none) =
    ap weight is in
    search rules

pub unfit-returns-in-Some : goal.unfit-returns-in-Some
unfit-returns-in-Some t c terms say =
    let is = call_before _ c.in-Call.head c.in-Call.arguments c.in-Call.span c.deref.result.now none
    c.in-Call.is c.deref.ensures.value in
    call_fits _ _ c.in-Call.head c.deref.result.now c.in-Call.span _ _ _ _ c.bytes_at.ensures
    (c.len.ensures ∙ c.in-Call.arguments.ok.0 ∙ ap length (sym c.deref.ensures.value))
    c.in-Some.ensures c.first_unfit.ensures terms (rw is at say)

pub unfit-returns-in-None : goal.unfit-returns-in-None
unfit-returns-in-None t c terms say =
    let is = call_before _ c.in-Call.head c.in-Call.arguments c.in-Call.span
    c.in-Call.arguments.items none c.in-Call.is refl in
    call_unfit _ _ c.in-Call.head c.in-Call.arguments.items c.in-Call.span _ _ c.bytes_at.ensures
    (c.len.ensures ∙ c.in-Call.arguments.ok.0) c.in-None.ensures terms (rw is at say)
