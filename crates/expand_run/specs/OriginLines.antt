-- Statement. Where the nodes of a plain query come from, as lines: its place there and, side by
-- side with it, where it is written in the text with templates. If it came of a use, the place of
-- that use follows, and the place of the template's name.
use Rattle.std.specs.Prelude.{◌≡◌, ◌<◌, ℕ, ◌+◌, List, [], ◌++◌, codes, length, Option, None, Some}
use Rattle.std.specs.List.{flat_map, zip}
use Rattle.language_base.specs.Limits.{max_text}
use Rattle.language_base.specs.declared.rule.Rule.TheVariants as rule
use Rattle.language_base.specs.declared.span.Span.{Span}
use Rattle.query_parser.specs.Reading.{refusal}
use Rattle.query_parser.specs.TreeReading.{AreShallow}
use Rattle.query_templates.specs.Origins.{node_places, origins}
use Rattle.query_templates.specs.declared.origin.Origin.{Origin}
use Rattle.query_templates.specs.declared.origin.Use.{Use}
use Rattle.query_trees.specs.Trees.{Trees}
use Rattle.report_writer.specs.Texts.{refusal_text}
use Rattle.template_expansion.specs.Meaning.{HasTemplates, IsExpansionOf}
use Rattle.expand_run.specs.RefusalTexts.{span_text}

-- the use that a node came of, and its template's name
abbrev pub use_text : Option Use → List ℕ
use_text None = []
use_text (Some used) =
    codes " " ++ span_text used.place ++ codes " " ++ span_text used.template

-- a node: its place, where it is written, and what it came of
abbrev pub node_line : Span → Origin → List ℕ
node_line place origin =
    span_text place ++ codes " " ++ span_text origin.place ++ use_text origin.used ++ codes "\n"

-- a line for each node
abbrev pub node_lines : List Span → List Origin → List ℕ
node_lines places written = flat_map (λ node. node_line node.0 node.1) (zip places written)

-- these are the places of the nodes of a text
abbrev pub ArePlacesIn : List ℕ → List Span → Type 0
ArePlacesIn text places = (trees : Trees) × AreShallow text trees × (places ≡ node_places trees)

-- the lines of the plain query that the text stands for
pub record AreOriginsOf (text lines : List ℕ) : Type 0 where
  pub trees : Trees
  pub has : HasTemplates text trees
  pub plain : List ℕ
  pub expansion : IsExpansionOf text plain
  pub places : List Span
  pub are : ArePlacesIn plain places
  pub is : lines ≡ node_lines places (origins text trees)

-- the plain query is longer than a text may be, and is refused for that
abbrev pub TellsLong : List ℕ → List ℕ → Type 0
TellsLong text lines = (plain : List ℕ) × IsExpansionOf text plain × (max_text < length plain)
    × (lines ≡ refusal_text (refusal rule.Long max_text (max_text + 1)))
