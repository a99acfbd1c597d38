-- Statement. A file with templates: definitions, each of which may use those before it, and then
-- the terms of a plain file, in which all of them may be used.
use Rattle.std.specs.Prelude.{ℕ, ◌+◌, List, [], ◌∷◌, ◌++◌, codes, Option, Some, None}
use Rattle.std.specs.Prelude.{if◌then◌else◌}
use Rattle.language_base.specs.declared.span.Span.{Span}
use Rattle.query_trees.specs.Trees.{Trees, none, leaf, call}
use Rattle.query_templates.specs.declared.refusal.TemplateRefusal.{TemplateRefusal}
use Rattle.query_templates.specs.Definitions.{Definition, definition_in, definition_refusal}
use Rattle.query_templates.specs.Definitions.{template_of, term_refusal}
use Rattle.query_templates.specs.Expansion.{expanded}
use Rattle.query_templates.specs.Extents.{extent_of}
use Rattle.query_templates.specs.Names.{is_named}
use Rattle.query_templates.specs.Refusals.{first_of}
use Rattle.query_templates.specs.Templates.{Template}

-- the templates after one definition more
abbrev pub with_definition : List ℕ → List Template → Option Definition → Span → List Template
with_definition text templates None place = templates
with_definition text templates (Some definition) place =
    templates ++ template_of text templates definition place ∷ []

-- the bytes of terms with their uses replaced, after others
abbrev pub used_after : List ℕ → List Template → ℕ → Trees → ℕ
used_after text templates used terms = used + (extent_of (expanded text templates terms)).bytes

abbrev pub used_with : List ℕ → List Template → ℕ → Option Definition → ℕ
used_with text templates used None = used
used_with text templates used (Some definition) =
    used_after text templates used definition.body

-- the plain terms of terms, after definitions
abbrev pub plain_after : List ℕ → List Template → Trees → Trees
plain_after text templates none = none
plain_after text templates (leaf word rest) = expanded text templates (leaf word rest)
plain_after text templates (call head arguments span rest) =
    if is_named text head.span (codes "def")
    then plain_after text (with_definition text templates (definition_in arguments) span) rest
    else expanded text templates (call head arguments span rest)

-- the plain terms of a file
abbrev pub plain_terms : List ℕ → Trees → Trees
plain_terms text terms = plain_after text [] terms

-- the first of the terms after definitions that is refused, each in its place
abbrev pub refused_top : List ℕ → List Template → ℕ → Trees → Option TemplateRefusal
refused_top text templates used none = None
refused_top text templates used (leaf word rest) = first_of
    (term_refusal text templates None used (leaf word none) word.span)
    (refused_top text templates (used_after text templates used (leaf word none)) rest)
refused_top text templates used (call head arguments span rest) = first_of
    (term_refusal text templates None used (call head arguments span none) span)
    (refused_top text templates (used_after text templates used (call head arguments span none))
    rest)

-- where there is no definition, nothing is refused
abbrev pub refused_after : List ℕ → List Template → ℕ → Trees → Option TemplateRefusal
refused_after text [] used terms = None
refused_after text templates used terms = refused_top text templates used terms

-- the first term that is refused, where these templates stand before
abbrev pub refusal_after : List ℕ → List Template → ℕ → Trees → Option TemplateRefusal
refusal_after text templates used none = None
refusal_after text templates used (leaf word rest) =
    refused_after text templates used (leaf word rest)
refusal_after text templates used (call head arguments span rest) =
    if is_named text head.span (codes "def")
    then first_of (definition_refusal text templates used (definition_in arguments) span)
    (refusal_after text (with_definition text templates (definition_in arguments) span)
    (used_with text templates used (definition_in arguments)) rest)
    else refused_after text templates used (call head arguments span rest)

-- the first refusal of a file
abbrev pub first_refusal : List ℕ → Trees → Option TemplateRefusal
first_refusal text terms = refusal_after text [] 0 terms
