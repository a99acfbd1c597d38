-- For the prover. Terms that are made of terms of a file.
use Rattle.std.specs.Prelude.{◌≡◌, ℕ, List, [], ◌∷◌, ◌++◌, Option, Some, None}
use Rattle.std.specs.Option.{option_map}
use Rattle.language_base.specs.declared.span.Span.{Span}
use Rattle.query_trees.specs.Trees.{Trees, none, tree_before}
use Rattle.query_templates.specs.declared.definition.Defined.{Defined}
use Rattle.query_templates.specs.declared.definition.Heading.{Heading}
use Rattle.query_templates.specs.declared.term.Made.{Made}
use Rattle.query_templates.specs.Definitions.{Definition, definition_refusal, term_refusal}
use Rattle.query_templates.specs.Expansion.{expanded}
use Rattle.query_templates.specs.File.{used_after, used_with, with_definition}
use Rattle.query_templates.specs.Misfits.{misfit_in}
use Rattle.query_templates.specs.Plain.{plain_template}
use Rattle.query_templates.specs.Templates.{Template}

-- nothing is wrong with terms, and this is what they are with their uses replaced
pub record IsMade (text : List ℕ) (templates : List Template) (parameters : Option (List Span))
    (used : ℕ) (terms : Trees) (place : Span) (made : Made) : Type 0 where
  pub right : term_refusal text templates parameters used terms place ≡ None
  pub is : tree_before made.tree none ≡ expanded text templates terms
  pub used_is : made.used ≡ used_after text templates used terms

-- all arguments in terms may stand where their parameters do, and this is what the terms are with
-- their uses replaced
pub record AreExpanded (text : List ℕ) (templates : List Template)
    (parameters : Option (List Span)) (place : Span) (terms made : Trees) : Type 0 where
  pub fit : misfit_in text templates parameters place terms ≡ None
  pub are : made ≡ expanded text templates terms

-- a heading with a body
abbrev pub definition_of : Heading → Trees → Definition
definition_of heading body = record {
  name = heading.name;
  parameters = heading.parameters.items;
  body = body;
}

-- nothing is wrong with a definition, and this is its template
pub record IsDefined (text : List ℕ) (templates : List Template) (used : ℕ)
    (definition : Option Definition) (place : Span) (defined : Defined) : Type 0 where
  pub right : definition_refusal text templates used definition place ≡ None
  pub is : templates ++ plain_template defined.template ∷ []
      ≡ with_definition text templates definition place
  pub used_is : defined.used ≡ used_with text templates used definition

-- a word before others
abbrev pub words_before : Option Span → Option (List Span) → Option (List Span)
words_before None others = None
words_before (Some word) others = option_map (λ (l : List Span). word ∷ l) others
