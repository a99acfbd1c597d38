-- Statement. Where the nodes of a plain file come from. Each is written somewhere in the file with
-- templates, and either it came of no use, or of one that stands in no other use.
use Rattle.std.specs.Prelude.{ℕ, List, [], ◌∷◌, ◌++◌, map, codes, Option, Some, None}
use Rattle.std.specs.Prelude.{if◌then◌else◌}
use Rattle.language_base.specs.declared.span.Span.{Span}
use Rattle.query_tokens.specs.declared.token.Token.{Token}
use Rattle.query_trees.specs.Trees.{Trees, none, leaf, call}
use Rattle.query_templates.specs.declared.origin.Origin.{Origin}
use Rattle.query_templates.specs.declared.origin.Use.{Use}
use Rattle.query_templates.specs.Definitions.{definition_in}
use Rattle.query_templates.specs.Expansion.{expanded, instance, word_use}
use Rattle.query_templates.specs.File.{with_definition}
use Rattle.query_templates.specs.Names.{is_named}
use Rattle.query_templates.specs.Templates.{Template, template_at}

-- the places of the nodes of terms, in the order of the text: of a word by itself its own; of a
-- call its own, that of its word, and those of its arguments
abbrev pub node_places : Trees → List Span
node_places none = []
node_places (leaf token rest) = token.span ∷ node_places rest
node_places (call head arguments span rest) =
    span ∷ head.span ∷ node_places arguments ++ node_places rest

-- nodes that are written at these places and came of this use
abbrev pub came_of : Option Use → List Span → List Origin
came_of used places = map (λ (place : Span). record { place = place; used = used }) places

-- where nodes are written
abbrev pub places_of : List Origin → List Span
places_of origins = map (λ (origin : Origin). origin.place) origins

-- the use of a template that stands at a place
abbrev pub use_at : Span → Template → Use
use_at place template = record { place = place; template = template.name }

-- a word by itself is a use of a template that has no parameters
abbrev pub bare_used : Template → List Span → Span → Option Use
bare_used template [] place = Some (use_at place template)
bare_used template _ place = None

abbrev pub word_used : Option Template → Span → Option Use
word_used None place = None
word_used (Some template) place = bare_used template template.parameters place

-- the origins of the nodes of what stands for a word
abbrev pub word_origins : List ℕ → Option Template → Token → List Origin
word_origins text template word =
    came_of (word_used template word.span) (node_places (word_use text template word))

-- of what stands for a call, whose arguments with their uses replaced are these, and have these
-- origins: all nodes of what stands for a use came of that use
abbrev pub call_origins : List ℕ → Option Template → Token → Trees → Span → List Origin
    → List Origin
call_origins text None head arguments span inner =
    came_of None (span ∷ head.span ∷ []) ++ inner
call_origins text (Some template) head arguments span inner =
    came_of (Some (use_at span template)) (node_places (instance text template arguments))

-- of terms with each use of these templates replaced
abbrev pub origins_of : List ℕ → List Template → Trees → List Origin
origins_of text templates none = []
origins_of text templates (leaf word rest) =
    word_origins text (template_at text templates word.span) word
    ++ origins_of text templates rest
origins_of text templates (call head arguments span rest) =
    call_origins text (template_at text templates head.span) head
    (expanded text templates arguments) span (origins_of text templates arguments)
    ++ origins_of text templates rest

-- of the plain terms of terms, after definitions
abbrev pub origins_after : List ℕ → List Template → Trees → List Origin
origins_after text templates none = []
origins_after text templates (leaf word rest) = origins_of text templates (leaf word rest)
origins_after text templates (call head arguments span rest) =
    if is_named text head.span (codes "def")
    then origins_after text (with_definition text templates (definition_in arguments) span) rest
    else origins_of text templates (call head arguments span rest)

-- of the plain terms of a file
abbrev pub origins : List ℕ → Trees → List Origin
origins text terms = origins_after text [] terms
