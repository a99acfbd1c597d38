-- Statement. Terms that would be too large with their uses replaced.
use Rattle.std.specs.Prelude.{ℕ, ◌+◌, List, nat_lt, Option, None, if◌then◌else◌}
use Rattle.language_base.specs.Limits.{max_level, max_text}
use Rattle.language_base.specs.declared.span.Span.{Span}
use Rattle.query_tokens.specs.declared.token.Token.{Token}
use Rattle.query_trees.specs.Trees.{Trees, none, leaf, call}
use Rattle.query_templates.specs.declared.extent.Extent.{Extent}
use Rattle.query_templates.specs.declared.refusal.TemplateCause.TheVariants.{Deep, Large}
use Rattle.query_templates.specs.declared.refusal.TemplateRefusal.{TemplateRefusal}
use Rattle.query_templates.specs.Expansion.{call_use, expanded}
use Rattle.query_templates.specs.Extents.{extent_of}
use Rattle.query_templates.specs.Refusals.{first_of, refused}
use Rattle.query_templates.specs.Templates.{Template, template_at}

-- a term of this extent, after so many bytes, is too large or too deep
unfoldable pub excess : ℕ → Extent → Span → Option TemplateRefusal
excess used extent place =
    if nat_lt max_text (used + extent.bytes) then refused Large place
    else if nat_lt max_level extent.levels then refused Deep place else None

-- a call with its arguments replaced is, or what it stands for
abbrev pub call_excess : List ℕ → Option Template → Token → Trees → Span → Option TemplateRefusal
call_excess text template head arguments span = first_of
    (excess 0 (extent_of (call head arguments span none)) span)
    (excess 0 (extent_of (call_use text template head arguments span)) span)

-- the first call that is, an argument before the call that it belongs to
abbrev pub first_excess : List ℕ → List Template → Trees → Option TemplateRefusal
first_excess text templates none = None
first_excess text templates (leaf word rest) = first_excess text templates rest
first_excess text templates (call head arguments span rest) = first_of
    (first_excess text templates arguments)
    (first_of (call_excess text (template_at text templates head.span) head
    (expanded text templates arguments) span)
    (first_excess text templates rest))
