-- Statement. What is made of a text.
use Rattle.std.specs.Prelude.{◌≡◌, ℕ, List}
use Rattle.query_templates.specs.File.{plain_terms}
use Rattle.query_trees.specs.Trees.{trees_of}
use Rattle.template_expansion.specs.Meaning.{HasTemplates, IsExpansionOf}
use Rattle.template_expansion.specs.declared.expansion.Expansion.{Expansion}

-- the terms of the text, the plain terms that they stand for, and the canonical text of these
pub record IsMadeOf (text : List ℕ) (made : Expansion) : Type 0 where
  pub has : HasTemplates text (trees_of made.trees.items)
  pub plain : trees_of made.plain.items ≡ plain_terms text (trees_of made.trees.items)
  pub written : IsExpansionOf text made.bytes
