-- For the prover. The definitions in front of a file, and what comes after them.
use Rattle.std.specs.Prelude.{◌≡◌, ℕ, List, [], true, false, codes}
use Rattle.language_base.specs.declared.span.Span.{Span}
use Rattle.query_trees.specs.declared.tree.Tree.{Tree, Leaf, Call'}
use Rattle.query_trees.specs.Trees.{Trees, none, leaf, call, tree_before, trees_of}
use Rattle.query_templates.specs.declared.file.Front.{Front}
use Rattle.query_templates.specs.File.{plain_after, refusal_after, refused_after}
use Rattle.query_templates.specs.Expansion.{expanded}
use Rattle.query_templates.specs.Names.{is_named}
use Rattle.query_templates.specs.Origins.{origins_after, origins_of}
use Rattle.query_templates.specs.Plain.{templates_of}

-- the place of a term
abbrev pub place_of : Tree → Span
place_of (Leaf token) = token.span
place_of (Call' head shape arguments place) = place

-- the first term is no definition
abbrev pub IsOtherFirst : List ℕ → Trees → Type 0
IsOtherFirst text none = Unit {0}
IsOtherFirst text (leaf word rest) = Unit {0}
IsOtherFirst text (call head arguments place rest) =
    is_named text head.span (codes "def") ≡ false

abbrev pub IsOther : List ℕ → Tree → Type 0
IsOther text tree = IsOtherFirst text (tree_before tree none)

-- the first term is a definition with these arguments at this place
abbrev pub IsDefinitionFirst : List ℕ → Trees → Trees → Span → Type 0
IsDefinitionFirst text none inner at = ⊥
IsDefinitionFirst text (leaf word rest) inner at = ⊥
IsDefinitionFirst text (call head arguments place rest) inner at =
    (is_named text head.span (codes "def") ≡ true) × (arguments ≡ inner) × (place ≡ at)

abbrev pub IsDefinitionAt : List ℕ → Tree → List Tree → Span → Type 0
IsDefinitionAt text tree arguments at =
    IsDefinitionFirst text (tree_before tree none) (trees_of arguments) at

-- what is left of a file after its definitions, none of which is refused
pub record AreFront (text : List ℕ) (terms : Trees) (front : Front) : Type 0 where
  pub plain : plain_after text [] terms
      ≡ expanded text (templates_of front.templates.items) (trees_of front.rest.now)
  pub refusal : refusal_after text [] 0 terms
      ≡ refused_after text (templates_of front.templates.items) front.used
      (trees_of front.rest.now)
  pub origins : origins_after text [] terms
      ≡ origins_of text (templates_of front.templates.items) (trees_of front.rest.now)
