-- Statement. Uses of templates that are wrong, and words that are none.
use Rattle.std.specs.Prelude.{ℕ, List, length, codes, nat_lt, Option, Some, None}
use Rattle.std.specs.Prelude.{if◌then◌else◌, ◌||◌}
use Rattle.language_base.specs.declared.span.Span.{Span}
use Rattle.query_tokens.specs.declared.token.Token.{Token}
use Rattle.query_trees.specs.Trees.{Trees, none, leaf, call}
use Rattle.query_templates.specs.declared.refusal.TemplateCause.TheVariants.{Applied, Misplaced}
use Rattle.query_templates.specs.declared.refusal.TemplateCause.TheVariants.{TooFew, TooMany, Twice}
use Rattle.query_templates.specs.declared.refusal.TemplateCause.TheVariants.{Unknown}
use Rattle.query_templates.specs.declared.refusal.TemplateRefusal.{TemplateRefusal}
use Rattle.query_templates.specs.Lists.{count_of}
use Rattle.query_templates.specs.Names.{is_among, is_language_name, is_named}
use Rattle.query_templates.specs.Refusals.{first_of, refused}
use Rattle.query_templates.specs.Templates.{Template, template_at}

-- a use has as many arguments as its template has parameters
abbrev pub wrong_count : Template → ℕ → Span → Option TemplateRefusal
wrong_count template count span =
    if nat_lt count (length template.parameters) then refused TooFew span
    else if nat_lt (length template.parameters) count then refused TooMany span else None

-- a word with arguments that is no template is a name of the language
abbrev pub unknown : List ℕ → Token → Span → Option TemplateRefusal
unknown text head span =
    if is_language_name text head.span then None else refused Unknown span

-- in a body a word with arguments is a name of the language, or an earlier template
abbrev pub wrong_known : List ℕ → Option Template → Token → ℕ → Span → Option TemplateRefusal
wrong_known text None head count span = unknown text head span
wrong_known text (Some template) head count span = wrong_count template count span

-- and no parameter
abbrev pub wrong_in_body : List ℕ → List Span → Option Template → Token → ℕ → Span
    → Option TemplateRefusal
wrong_in_body text parameters template head count span =
    if is_among text parameters head.span then refused Applied span
    else wrong_known text template head count span

-- the name of a template is declared once more
abbrev pub taken : Option Template → Span → Option TemplateRefusal
taken None place = None
taken (Some template) place = refused Twice place

-- a column or a let is not called like a template
abbrev pub taken_first : List ℕ → List Template → Trees → Option TemplateRefusal
taken_first text templates none = None
taken_first text templates (leaf name rest) = taken (template_at text templates name.span) name.span
taken_first text templates (call head arguments span rest) = None

abbrev pub wrong_declaration : List ℕ → List Template → Token → Trees → Option TemplateRefusal
wrong_declaration text templates head arguments =
    if is_named text head.span (codes "col") || is_named text head.span (codes "let")
    then taken_first text templates arguments else None

-- outside of bodies a word with arguments may be anything that is no template
abbrev pub wrong_in_file : List ℕ → List Template → Option Template → Token → Trees → Span
    → Option TemplateRefusal
wrong_in_file text templates None head arguments span =
    wrong_declaration text templates head arguments
wrong_in_file text templates (Some template) head arguments span =
    wrong_count template (count_of arguments) span

-- either, by whether there are parameters: a body has some, or an empty list
abbrev pub wrong_by_scope : List ℕ → List Template → Option (List Span) → Token → Trees → Span
    → Option TemplateRefusal
wrong_by_scope text templates None head arguments span =
    wrong_in_file text templates (template_at text templates head.span) head arguments span
wrong_by_scope text templates (Some parameters) head arguments span =
    wrong_in_body text parameters (template_at text templates head.span) head
    (count_of arguments) span

-- a definition stands in front alone
abbrev pub wrong_call : List ℕ → List Template → Option (List Span) → Token → Trees → Span
    → Option TemplateRefusal
wrong_call text templates parameters head arguments span =
    if is_named text head.span (codes "def") then refused Misplaced span
    else wrong_by_scope text templates parameters head arguments span

-- the first word with arguments that is wrong, in the order of the text
abbrev pub first_wrong_use : List ℕ → List Template → Option (List Span) → Trees
    → Option TemplateRefusal
first_wrong_use text templates parameters none = None
first_wrong_use text templates parameters (leaf word rest) =
    first_wrong_use text templates parameters rest
first_wrong_use text templates parameters (call head arguments span rest) = first_of
    (wrong_call text templates parameters head arguments span)
    (first_of (first_wrong_use text templates parameters arguments)
    (first_wrong_use text templates parameters rest))
