-- Statement. Templates, and which of them a name means.
use Rattle.std.specs.Prelude.{ℕ, List, [], ◌∷◌, Option, Some, None, if◌then◌else◌}
use Rattle.language_base.specs.declared.span.Span.{Span}
use Rattle.query_trees.specs.Trees.{Trees}
use Rattle.query_templates.specs.Names.{same_name}

-- a definition whose body is a term in which no use is left
pub record Template : Type 0 where
  pub name : Span
  pub parameters : List Span
  pub body : Trees
  -- of the definition, as it is written
  pub place : Span

-- the template that is called as the word at a place
abbrev pub template_at : List ℕ → List Template → Span → Option Template
template_at text [] place = None
template_at text (first ∷ others) place =
    if same_name text first.name place then Some first else template_at text others place
