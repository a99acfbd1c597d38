use Rattle.std.proofs.Common.{◌≡◌, length, arith, sym, ◌∙◌}
use Rattle.std.proofs.lemmas.Grind.{common_steps}
use Rattle.query_trees.specs.Trees.{trees_of}
use Rattle.query_templates.proofs.Files.{expanded_empty}
use Rattle.query_templates.proofs.file.expanded_file.Goals as goal

pub returns-then-is_empty-clause-plain : goal.returns-then-is_empty-clause-plain
returns-then-is_empty-clause-plain c =
    let front = c.in_ok-front.front in
    let empty : length front.templates.items ≡ 0 = grind (arith, common_steps) in
    c.in_ok-copies_of.ensures
    ∙ sym (c.in_ok-front.ensures.front.plain
    ∙ expanded_empty c.args.text.now front.templates.items (trees_of front.rest.now) empty)
