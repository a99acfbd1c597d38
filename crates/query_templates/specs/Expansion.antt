-- Statement. Terms with each use of a template replaced by its body, in which the arguments of the
-- use, themselves replaced so before, stand in the places of the parameters.
use Rattle.std.specs.Prelude.{ℕ, zero, suc, ◌&&◌, Bool, List, [], nat_le, Option, Some, None}
use Rattle.std.specs.Prelude.{if◌then◌else◌}
use Rattle.std.specs.List.{position}
use Rattle.language_base.specs.declared.span.Span.{Span}
use Rattle.query_tokens.specs.declared.token.Token.{Token}
use Rattle.query_trees.specs.Trees.{Trees, none, leaf, call}
use Rattle.query_templates.specs.Lists.{joined}
use Rattle.query_templates.specs.Names.{same_name}
use Rattle.query_templates.specs.Templates.{Template, template_at}

-- a place lies within another
unfoldable pub is_within : Span → Span → Bool
is_within inner outer = nat_le outer.from inner.from && nat_le inner.to outer.to

-- which parameter a word in a body is: one that is written in the definition itself and is called
-- so. A word that came with the body of an earlier template is none.
unfoldable pub parameter_at : List ℕ → Template → Span → Option ℕ
parameter_at text template place =
    if is_within place template.place
    then position (λ name. same_name text name place) template.parameters else None

-- the term at a position, or else the word itself
abbrev pub term_at : Trees → ℕ → Token → Trees
term_at none at word = leaf word none
term_at (leaf token rest) zero word = leaf token none
term_at (leaf token rest) (suc at) word = term_at rest at word
term_at (call head arguments span rest) zero word = call head arguments span none
term_at (call head arguments span rest) (suc at) word = term_at rest at word

-- what stands for a word in a body
abbrev pub argument_for : Trees → Option ℕ → Token → Trees
argument_for arguments None word = leaf word none
argument_for arguments (Some at) word = term_at arguments at word

-- what stands for the terms of a body, with these arguments
abbrev pub filled : List ℕ → Template → Trees → Trees → Trees
filled text template arguments none = none
filled text template arguments (leaf word rest) = joined
    (argument_for arguments (parameter_at text template word.span) word)
    (filled text template arguments rest)
filled text template arguments (call head inner span rest) =
    call head (filled text template arguments inner) span (filled text template arguments rest)

-- what a use stands for
abbrev pub instance : List ℕ → Template → Trees → Trees
instance text template arguments = filled text template arguments template.body

-- a word by itself is a use of a template that has no parameters
abbrev pub bare_use : List ℕ → Template → List Span → Token → Trees
bare_use text template [] word = instance text template none
bare_use text template _ word = leaf word none

abbrev pub word_use : List ℕ → Option Template → Token → Trees
word_use text None word = leaf word none
word_use text (Some template) word = bare_use text template template.parameters word

-- a word with arguments is a use of any other
abbrev pub call_use : List ℕ → Option Template → Token → Trees → Span → Trees
call_use text None head arguments span = call head arguments span none
call_use text (Some template) head arguments span = instance text template arguments

-- the terms with each use of these templates replaced
abbrev pub expanded : List ℕ → List Template → Trees → Trees
expanded text templates none = none
expanded text templates (leaf word rest) = joined
    (word_use text (template_at text templates word.span) word) (expanded text templates rest)
expanded text templates (call head arguments span rest) = joined
    (call_use text (template_at text templates head.span) head
    (expanded text templates arguments) span)
    (expanded text templates rest)
