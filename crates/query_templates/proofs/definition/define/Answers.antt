use Rattle.std.proofs.Common.{◌≡◌, ◌==◌, false, length, Option, IfOk, IfErr, sym, ap, subst, ◌∙◌}
use Rattle.std.proofs.Common.{arith}
use Rattle.std.proofs.lemmas.Bool.Decides.{nat_tests}
use Rattle.std.specs.Option.{option_map}
use Rattle.query_trees.specs.Trees.{none, tree_before, trees_of}
use Rattle.query_templates.specs.declared.definition.Heading.{Heading}
use Rattle.query_templates.specs.Definitions.{Definition, definition_in, definition_refusal}
use Rattle.query_templates.specs.Made.{IsDefined, definition_of}
use Rattle.query_templates.specs.Plain.{templates_of}
use Rattle.query_templates.specs.Refusals.{IsStopAt}
use Rattle.query_templates.proofs.Defining.{definition_else, definition_two, two_items}
use Rattle.query_templates.proofs.Making.{form_stops}
use Rattle.query_templates.proofs.definition.define.Goals as goal
use Rattle.query_templates.proofs.definition.define.Goals.{in_default-via-then-arguments-lt2}
use Rattle.query_templates.proofs.definition.define.Goals.{in_default-via-else-arguments-lt2+else-arguments-lt3}

pub returns-in_default-clause-stopped : goal.returns-in_default-clause-stopped
returns-in_default-clause-stopped c =
    let other : (length c.args.arguments.now == 2) ≡ false = elim c.in_default.branch [
      | in_default-via-then-arguments-lt2 w ↦ grind (arith, nat_tests)
      | in_default-via-else-arguments-lt2+else-arguments-lt3 w ↦ grind (arith, nat_tests)
    ] in
    form_stops c.args.text.now (templates_of c.args.templates.now) c.args.used c.args.place
    (definition_in (trees_of c.args.arguments.now))
    (definition_else c.args.arguments.now other) c.refused.result c.refused.ensures

pub returns-clause-defined : goal.returns-clause-defined
returns-clause-defined c =
    let body = tree_before c.body-item.result none in
    let two : length c.args.arguments.now ≡ 2 = omega (arith, c.in-len2) in
    let found = definition_two c.head-item.result c.body-item.result c.args.arguments.now
    (two_items c.args.arguments.now c.head-item.result c.body-item.result two c.head-item.is
    c.body-item.is)
    ∙ c.in_ok-heading.ensures body
    ∙ ap (option_map (λ (h : Heading). definition_of h body)) c.in-Some.is in
    subst (λ (f : Option Definition). IfOk c.defined_as.result (IsDefined c.args.text.now
    (templates_of c.args.templates.now) c.args.used f c.args.place)) (sym found)
    c.defined_as.ensures.defined

pub returns-clause-stopped : goal.returns-clause-stopped
returns-clause-stopped c =
    let body = tree_before c.body-item.result none in
    let two : length c.args.arguments.now ≡ 2 = omega (arith, c.in-len2) in
    let found = definition_two c.head-item.result c.body-item.result c.args.arguments.now
    (two_items c.args.arguments.now c.head-item.result c.body-item.result two c.head-item.is
    c.body-item.is)
    ∙ c.in_ok-heading.ensures body
    ∙ ap (option_map (λ (h : Heading). definition_of h body)) c.in-Some.is in
    subst (λ (f : Option Definition). IfErr c.defined_as.result (IsStopAt (definition_refusal
    c.args.text.now (templates_of c.args.templates.now) c.args.used f c.args.place))) (sym found)
    c.defined_as.ensures.stopped
