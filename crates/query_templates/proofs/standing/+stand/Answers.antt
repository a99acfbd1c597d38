use Rattle.std.proofs.Common.{◌≡◌, Bool, length, List, cond, drop, Some, None, IfOk, Option, refl}
use Rattle.std.proofs.Common.{sym, ap, subst}
use Rattle.std.proofs.Common.{◌∙◌}
use Rattle.query_templates.specs.declared.standing.Standing.{Standing}
use Rattle.query_templates.specs.Plain.{plain_template}
use Rattle.query_templates.specs.Standings.{both}
use Rattle.query_templates.proofs.Stood.{stand_at_index, stand_call, stand_end}
use Rattle.query_templates.proofs.Stood.{stood_all, stood_more, stood_none}
use Rattle.query_templates.proofs.standing.+stand.Goals as goal

pub stand-returns-in-Some : goal.stand-returns-in-Some
stand-returns-in-Some t c =
    let same = stand_call c.args.text.now (plain_template c.args.template.now) c.args.at
    c.args.tree.now c.in-Call.head c.in-Call.arguments c.in-Call.field-2 c.deref.result.now
    c.in-Call.is c.deref.ensures.value c.len.result
    (c.len.ensures ∙ c.in-Call.arguments.ok.0 ∙ ap length (sym c.deref.ensures.value))
    (Some c.in-Some.places.now) c.in-Some.ensures in
    subst (λ (found : Option (List Standing)). IfOk c.stand_all.result (λ may.
    both (Some c.args.known.now.items) found
    ≡ cond may (Some c.stand_all.new.known.items) None)) (sym same) c.stand_all.ensures

pub stand-returns-in-None : goal.stand-returns-in-None
stand-returns-in-None t c =
    ap (both (Some c.args.known.now.items))
    (stand_call c.args.text.now (plain_template c.args.template.now) c.args.at
    c.args.tree.now c.in-Call.head c.in-Call.arguments c.in-Call.field-2
    c.in-Call.arguments.items c.in-Call.is refl c.len.result
    (c.len.ensures ∙ c.in-Call.arguments.ok.0) None c.in-None.ensures)

pub stand_all-returns-then-not-branch : goal.stand_all-returns-then-not-branch
stand_all-returns-then-not-branch t c =
    c.trees.invariant
    ∙ stood_none c.trees.known.items _ _ _
    (stand_at_index c.args.text.now (plain_template c.args.template.now) c.args.places.now
    c.args.trees.now c.trees.index c.in-Some.field-0.now c.index-trees-index.result
    c.in-Some.ensures.lookup.3.0 c.in-Some.ensures.lookup.1 c.trees-test.true
    c.index-trees-index.is)
    (c.in_ok-stand.ensures ∙ ap (λ (may : Bool). cond may (Some c.stand.new.known.items) None)
    c.if-not-branch.true)

pub stand_all-trees-preserved : goal.stand_all-trees-preserved
stand_all-trees-preserved t c =
    c.trees.invariant
    ∙ stood_more c.trees.known.items c.stand.new.known.items _ _ _
    (stand_at_index c.args.text.now (plain_template c.args.template.now) c.args.places.now
    c.args.trees.now c.trees.index c.in-Some.field-0.now c.index-trees-index.result
    c.in-Some.ensures.lookup.3.0 c.in-Some.ensures.lookup.1 c.trees-test.true
    c.index-trees-index.is)
    (c.in_ok-stand.ensures ∙ ap (λ (may : Bool). cond may (Some c.stand.new.known.items) None)
    c.if-not-branch.false)

pub stand_all-returns : goal.stand_all-returns
stand_all-returns t c =
    c.trees.invariant
    ∙ stood_all c.trees.known.items _ (stand_end c.args.text.now
    (plain_template c.args.template.now) (drop c.trees.index c.args.places.now)
    c.args.trees.now c.trees.index c.trees-test.false)
