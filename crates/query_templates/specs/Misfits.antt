-- Statement. Arguments of another kind than the places of their parameters.
use Rattle.std.specs.Prelude.{ℕ, zero, suc, Bool, false, ◌&&◌, ◌||◌, not, List, [], ◌∷◌, map}
use Rattle.std.specs.Prelude.{Option, Some, None, is_none, if◌then◌else◌}
use Rattle.language_base.specs.declared.span.Span.{Span}
use Rattle.query_trees.specs.Trees.{Trees, none, leaf, call}
use Rattle.query_templates.specs.declared.refusal.TemplateCause.{TemplateCause}
use Rattle.query_templates.specs.declared.refusal.TemplateCause.TheVariants.{OtherKind}
use Rattle.query_templates.specs.declared.refusal.TemplateRefusal.{TemplateRefusal}
use Rattle.query_templates.specs.declared.standing.Standing.{Standing}
use Rattle.query_templates.specs.Expansion.{expanded, is_within}
use Rattle.query_templates.specs.Kinds.{places_inside, takes_token}
use Rattle.query_templates.specs.Lists.{count_of}
use Rattle.query_templates.specs.Names.{is_among}
use Rattle.query_templates.specs.Refusals.{first_of, refused}
use Rattle.query_templates.specs.Standings.{agreed, standings}
use Rattle.query_templates.specs.Templates.{Template, template_at}

-- a word may be of any kind: a parameter of the definition that is written at this place
abbrev pub is_open : List ℕ → Option (List Span) → Span → Span → Bool
is_open text None place word = false
is_open text (Some parameters) place word = is_within word place && is_among text parameters word

-- a term may not stand where a parameter does
abbrev pub is_other : List ℕ → Option (List Span) → Span → Standing → Trees → Bool
is_other text parameters place one none = false
is_other text parameters place one (leaf word rest) =
    not (takes_token text one.at word || is_open text parameters place word.span)
is_other text parameters place one (call head arguments span rest) =
    is_none (places_inside text one.at head.span (count_of arguments))

-- the term at a position, by itself
abbrev pub only_at : Trees → ℕ → Trees
only_at none at = none
only_at (leaf token rest) zero = leaf token none
only_at (leaf token rest) (suc at) = only_at rest at
only_at (call head arguments span rest) zero = call head arguments span none
only_at (call head arguments span rest) (suc at) = only_at rest at

-- this cause at the place of a term, if there is one
abbrev pub refused_term : TemplateCause → Trees → Option TemplateRefusal
refused_term cause none = None
refused_term cause (leaf word rest) = refused cause word.span
refused_term cause (call head arguments span rest) = refused cause span

-- the argument for a parameter, as it is written, if with its uses replaced it may not stand there
abbrev pub misfit : List ℕ → Option (List Span) → Span → Trees → Trees → Standing
    → Option TemplateRefusal
misfit text parameters place written made one =
    if is_other text parameters place one (only_at made one.parameter)
    then refused_term (OtherKind one.word) (only_at written one.parameter) else None

-- the first of them
abbrev pub first_misfit : List ℕ → Option (List Span) → Span → Trees → Trees → List Standing
    → Option TemplateRefusal
first_misfit text parameters place written made [] = None
first_misfit text parameters place written made (one ∷ others) = first_of
    (misfit text parameters place written made one)
    (first_misfit text parameters place written made others)

-- of the arguments of a use, wherever the body is
unfoldable pub use_misfit : List ℕ → Option (List Span) → Span → Template → Trees → Trees
    → Option TemplateRefusal
use_misfit text parameters place template written made =
    agreed (map (first_misfit text parameters place written made) (standings text template))

-- a call that is no use has none
abbrev pub call_misfit : List ℕ → Option (List Span) → Span → Option Template → Trees → Trees
    → Option TemplateRefusal
call_misfit text parameters place None written made = None
call_misfit text parameters place (Some template) written made =
    use_misfit text parameters place template written made

-- the first in terms of a definition at a place, or of the file: an argument before the call that
-- it belongs to
abbrev pub misfit_in : List ℕ → List Template → Option (List Span) → Span → Trees
    → Option TemplateRefusal
misfit_in text templates parameters place none = None
misfit_in text templates parameters place (leaf word rest) =
    misfit_in text templates parameters place rest
misfit_in text templates parameters place (call head arguments span rest) = first_of
    (misfit_in text templates parameters place arguments)
    (first_of (call_misfit text parameters place (template_at text templates head.span) arguments
    (expanded text templates arguments))
    (misfit_in text templates parameters place rest))
