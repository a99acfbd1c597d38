-- Statement. Templates as plain ones, and standings as plain lists, without where they lie in
-- memory.
use Rattle.std.specs.Prelude.{List, Vec, map}
use Rattle.std.specs.declared.alloc.Global.{Global}
use Rattle.query_trees.specs.Trees.{none, tree_before}
use Rattle.query_templates.specs.declared.standing.Standing.{Standing}
use Rattle.query_templates.specs.declared.template.Template as raw
use Rattle.query_templates.specs.Templates.{Template}

abbrev pub plain_template : raw.Template → Template
plain_template template = record {
  name = template.name;
  parameters = template.parameters.items;
  body = tree_before template.body.value none;
  place = template.place;
}

abbrev pub templates_of : List raw.Template → List Template
templates_of templates = map plain_template templates

abbrev pub plain_standings : List (Vec Standing Global) → List (List Standing)
plain_standings found = map (λ (known : Vec Standing Global). known.items) found
