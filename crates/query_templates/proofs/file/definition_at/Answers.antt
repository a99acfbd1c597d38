use Rattle.std.proofs.Common.{refl, sym, subst, ◌∙◌}
use Rattle.query_trees.specs.Trees.{Trees, none, trees_of}
use Rattle.query_templates.specs.Fronts.{IsDefinitionFirst}
use Rattle.query_templates.proofs.Lists.{call_before}
use Rattle.query_templates.proofs.file.definition_at.Goals as goal

pub returns-then-is_named : goal.returns-then-is_named
returns-then-is_named c =
    subst (λ (terms : Trees). IsDefinitionFirst c.args.text.now terms
    (trees_of c.deref.result.now) c.in-Call.place)
    (sym (call_before c.args.tree.now c.in-Call.head c.in-Call.arguments c.in-Call.place
    c.deref.result.now none c.in-Call.is c.deref.ensures.value))
    (sym c.is_named.ensures ∙ c.if-is_named.true, refl, refl)
