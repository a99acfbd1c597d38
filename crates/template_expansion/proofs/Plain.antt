-- Plain terms can be read where the terms can that stand for them.
use Rattle.std.proofs.Common.{◌≡◌, ℕ, List, None}
use Rattle.query_trees.specs.Trees.{Trees}
use Rattle.query_parser.specs.TreeReading.{AreReadable}
use Rattle.query_templates.specs.File.{first_refusal, plain_terms}
use Rattle.template_expansion.proofs.Built.{plain_built}
use Rattle.template_expansion.proofs.Levels.{plain_not_deep}

pub plain_readable : (text : List ℕ) (trees : Trees) → AreReadable text trees
    → first_refusal text trees ≡ None → AreReadable text (plain_terms text trees)
plain_readable text trees are right = record {
  short = are.short;
  built = plain_built text trees are.built;
  not_deep = plain_not_deep text trees right are.not_deep;
}
