-- Statement. What a text with templates stands for, and why it stands for no file: first it has to
-- have trees, then its templates have to be right, and then the plain terms have to be a file.
use Rattle.std.specs.Prelude.{◌≡◌, ℕ, List, Some, None}
use Rattle.language_base.specs.declared.refusal.Refusal.{Refusal}
use Rattle.query_trees.specs.Trees.{Trees}
use Rattle.query_forms.specs.Terms.{Terms}
use Rattle.query_parser.specs.Printing.{file_text}
use Rattle.query_parser.specs.TreeReading.{AreFileOf, AreRefused, AreShallow, HasNoTrees}
use Rattle.query_templates.specs.File.{first_refusal, plain_terms}
use Rattle.query_templates.specs.declared.refusal.TemplateRefusal.{TemplateRefusal}
use Rattle.template_expansion.specs.declared.stop.ExpandStop.{ExpandStop}
use Rattle.template_expansion.specs.declared.stop.ExpandStop.TheVariants.{Refused, Template}

-- a text with these trees, in which no template is wrong
pub record HasTemplates (text : List ℕ) (trees : Trees) : Type 0 where
  pub shallow : AreShallow text trees
  pub right : first_refusal text trees ≡ None

-- the text stands for a file of these terms: those that it has, with each use of a template
-- replaced by its body with the arguments in their places
pub record StandsFor (text : List ℕ) (terms : Terms) : Type 0 where
  pub trees : Trees
  pub has : HasTemplates text trees
  pub file : AreFileOf text (plain_terms text trees) terms

-- the bytes are the canonical text of that file
pub record IsExpansionOf (text bytes : List ℕ) : Type 0 where
  pub terms : Terms
  pub stands : StandsFor text terms
  pub is : bytes ≡ file_text terms

-- the first rule that the text breaks
pub data IsRefused (text : List ℕ) : ExpandStop → Type 0 where
  -- it has no trees
  before : (refusal : Refusal) → HasNoTrees text refusal → IsRefused text (Refused refusal)
  -- a definition or a use is wrong
  template : (trees : Trees) (refusal : TemplateRefusal) → AreShallow text trees
      → first_refusal text trees ≡ Some refusal → IsRefused text (Template refusal)
  -- the plain terms are no file
  after : (trees : Trees) (refusal : Refusal) → HasTemplates text trees
      → AreRefused text (plain_terms text trees) refusal → IsRefused text (Refused refusal)
