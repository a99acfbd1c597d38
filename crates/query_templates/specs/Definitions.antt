-- Statement. Definitions, and what is wrong with one.
use Rattle.std.specs.Prelude.{ℕ, Bool, true, false, ◌==◌, List, [], ◌∷◌, ◌++◌, Option, Some}
use Rattle.std.specs.Prelude.{None, if◌then◌else◌}
use Rattle.std.specs.Option.{option_map}
use Rattle.language_base.specs.declared.span.Span.{Span}
use Rattle.query_tokens.specs.declared.token.TokenKind.{TokenKind}
use Rattle.query_tokens.specs.declared.token.TokenKind.TheVariants.{Word}
use Rattle.query_trees.specs.Trees.{Trees, none, leaf, call}
use Rattle.query_templates.specs.declared.refusal.TemplateCause.TheVariants.{Form, Reserved, Twice}
use Rattle.query_templates.specs.declared.refusal.TemplateRefusal.{TemplateRefusal}
use Rattle.query_templates.specs.Excess.{excess, first_excess}
use Rattle.query_templates.specs.Expansion.{expanded}
use Rattle.query_templates.specs.Extents.{extent_of}
use Rattle.query_templates.specs.Lists.{count_of}
use Rattle.query_templates.specs.Misfits.{misfit_in}
use Rattle.query_templates.specs.Names.{is_among, is_language_name}
use Rattle.query_templates.specs.Refusals.{first_of, refused}
use Rattle.query_templates.specs.Standings.{torn}
use Rattle.query_templates.specs.Templates.{Template, template_at}
use Rattle.query_templates.specs.Uses.{first_wrong_use, taken}

-- a name, the names of parameters, and a body
pub record Definition : Type 0 where
  pub name : Span
  pub parameters : List Span
  pub body : Trees

abbrev pub is_word : TokenKind → Bool
is_word Word = true
is_word _ = false

-- the places of terms that are words by themselves
abbrev pub words_in : Trees → Option (List Span)
words_in none = Some []
words_in (leaf token rest) =
    if is_word token.kind then option_map (λ words. token.span ∷ words) (words_in rest) else None
words_in (call head arguments span rest) = None

-- a word, or a word with words, before a body
abbrev pub definition_before : Trees → Option Definition
definition_before none = None
definition_before (leaf name body) =
    if is_word name.kind
    then Some (record { name = name.span; parameters = []; body = body }) else None
definition_before (call name parameters span body) = option_map
    (λ (words : List Span). record { name = name.span; parameters = words; body = body })
    (words_in parameters)

-- the definition that the arguments of a `def` are
abbrev pub definition_in : Trees → Option Definition
definition_in arguments =
    if count_of arguments == 2 then definition_before arguments else None

-- a name that the language has, or a template
abbrev pub wrong_name : List ℕ → List Template → Span → Option TemplateRefusal
wrong_name text templates place =
    if is_language_name text place then refused Reserved place
    else taken (template_at text templates place) place

-- or that stands at one of these places
abbrev pub wrong_declared : List ℕ → List Template → List Span → Span → Option TemplateRefusal
wrong_declared text templates known place = first_of (wrong_name text templates place)
    (if is_among text known place then refused Twice place else None)

-- the first of names that is wrong after those
abbrev pub wrong_names : List ℕ → List Template → List Span → List Span → Option TemplateRefusal
wrong_names text templates known [] = None
wrong_names text templates known (name ∷ names) = first_of
    (wrong_declared text templates known name)
    (wrong_names text templates (known ++ name ∷ []) names)

-- what is wrong with a term that stands at a place, after so many bytes: a use in it, or else how
-- large it would be, or else the kind of an argument
abbrev pub term_refusal : List ℕ → List Template → Option (List Span) → ℕ → Trees → Span
    → Option TemplateRefusal
term_refusal text templates parameters used terms place = first_of
    (first_wrong_use text templates parameters terms)
    (first_of (first_excess text templates terms)
    (first_of (excess used (extent_of (expanded text templates terms)) place)
    (misfit_in text templates parameters place terms)))

-- the template of a definition after others
abbrev pub template_of : List ℕ → List Template → Definition → Span → Template
template_of text templates definition place = record {
  name = definition.name;
  parameters = definition.parameters;
  body = expanded text templates definition.body;
  place = place;
}

-- what is wrong with a definition: its form, or a name, or its body, or a parameter in it
abbrev pub definition_refusal : List ℕ → List Template → ℕ → Option Definition → Span
    → Option TemplateRefusal
definition_refusal text templates used None place = refused Form place
definition_refusal text templates used (Some definition) place = first_of
    (wrong_names text templates [] (definition.name ∷ definition.parameters))
    (first_of (term_refusal text templates (Some definition.parameters) used definition.body place)
    (torn text (template_of text templates definition place)))
