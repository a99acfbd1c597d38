use Rattle.std.proofs.Common.{◌≡◌, ◌++◌, ◌∷◌, [], ◌+◌, ℕ, None, Option, drop, rules, sym, ap, ◌∙◌}
use Rattle.language_base.specs.declared.span.Span.{Span}
use Rattle.query_trees.specs.Trees.{none, tree_before, trees_of}
use Rattle.query_templates.specs.declared.refusal.TemplateRefusal.{TemplateRefusal}
use Rattle.query_templates.specs.Definitions.{term_refusal}
use Rattle.query_templates.specs.Expansion.{expanded}
use Rattle.query_templates.specs.File.{refused_top, used_after}
use Rattle.query_templates.specs.Plain.{templates_of}
use Rattle.query_templates.specs.Refusals.{first_of}
use Rattle.query_templates.proofs.Expanding.{expanded-joined}
use Rattle.query_templates.proofs.Files.{top_at}
use Rattle.query_templates.proofs.Lists.{made_more}
use Rattle.query_templates.proofs.file.plain_of.Goals as goal

pub trees-preserved : goal.trees-preserved
trees-preserved c =
    let text = c.args.text.now in
    let templates = templates_of c.args.templates.now in
    let trees = c.args.trees.now in
    let tree = c.tree-item.result in
    let one = c.in_ok-made.ensures.made in
    let others = trees_of (drop (c.trees.tree-index + 1) trees) in
    let used = used_after text templates c.trees.used (tree_before tree none) in
    let grew : c.push.new.self.items ≡ c.trees.plain.items ++ c.in_ok-made.made.tree ∷ [] =
    search rules in
    record {
      plain = made_more (expanded text templates) (expanded-joined text templates) trees
          c.trees.tree-index tree c.trees-test.true c.tree-item.is c.trees.plain.items
          c.push.new.self.items c.in_ok-made.made.tree grew c.trees.invariant.plain one.is;
      refusal = c.trees.invariant.refusal
          ∙ top_at text templates c.trees.used trees c.trees.tree-index tree c.trees-test.true
          c.tree-item.is
          ∙ ap (λ (p : Span). first_of (term_refusal text templates None c.trees.used
          (tree_before tree none) p) (refused_top text templates used others))
          (sym c.place_of.ensures)
          ∙ ap (λ (f : Option TemplateRefusal). first_of f
          (refused_top text templates used others)) one.right
          ∙ ap (λ (u : ℕ). refused_top text templates u others) (sym one.used_is);
    }
