-- A term by itself stays one term.
use Rattle.std.proofs.Common.{◌≡◌, ℕ, zero, suc, Bool, true, false, cond, List, [], ◌∷◌, ◌++◌}
use Rattle.std.proofs.Common.{Option, Some, None, refl, sym, subst}
use Rattle.language_base.specs.declared.span.Span.{Span}
use Rattle.query_tokens.specs.declared.token.Token.{Token}
use Rattle.query_trees.specs.declared.tree.Tree.{Tree, Leaf, Call'}
use Rattle.query_trees.specs.Trees.{Trees, none, leaf, call, tree_before, row_trees}
use Rattle.query_templates.specs.declared.extent.Extent.{Extent}
use Rattle.query_templates.specs.declared.template.Template as raw
use Rattle.query_templates.specs.Expansion.{argument_for, bare_use, call_use, expanded, filled}
use Rattle.query_templates.specs.Expansion.{parameter_at, term_at, word_use}
use Rattle.query_templates.specs.Lists.{joined}
use Rattle.query_templates.specs.Measured.{AreExtents, IsExtentOf}
use Rattle.query_templates.specs.Names.{same_name}
use Rattle.query_templates.specs.Plain.{plain_template, templates_of}
use Rattle.query_templates.specs.Templates.{Template, template_at}
use Rattle.query_templates.proofs.Lists.{joined-none}

-- there is one term
abbrev pub IsOne : Trees → Type 0
IsOne none = ⊥
IsOne (leaf token rest) = rest ≡ none
IsOne (call head arguments span rest) = rest ≡ none

alone : (terms : Trees) → IsOne terms → IsOne (joined terms none)
alone terms one = subst IsOne (sym (joined-none terms)) one

one_at : (terms : Trees) (at : ℕ) (word : Token) → IsOne (term_at terms at word)
one_at none at word = refl
one_at (leaf token rest) zero word = refl
one_at (leaf token rest) (suc at) word = one_at rest at word
one_at (call head arguments span rest) zero word = refl
one_at (call head arguments span rest) (suc at) word = one_at rest at word

one_argument : (arguments : Trees) (at : Option ℕ) (word : Token)
    → IsOne (argument_for arguments at word)
one_argument arguments None word = refl
one_argument arguments (Some at) word = one_at arguments at word

one_filled : (text : List ℕ) (template : Template) (arguments : Trees) (tree : Tree)
    → IsOne (filled text template arguments (tree_before tree none))
one_filled text template arguments (Leaf word) =
    alone (argument_for arguments (parameter_at text template word.span) word)
    (one_argument arguments (parameter_at text template word.span) word)
one_filled text template arguments (Call' head shape inner span) = refl

one_bare : (text : List ℕ) (template : raw.Template) (parameters : List Span) (word : Token)
    → IsOne (bare_use text (plain_template template) parameters word)
one_bare text template [] word = one_filled text (plain_template template) none template.body.value
one_bare text template (first ∷ others) word = refl

word_choice : (text : List ℕ) (same : Bool) (first other : Option Template) (word : Token)
    → IsOne (word_use text first word) → IsOne (word_use text other word)
    → IsOne (word_use text (cond same first other) word)
word_choice text true first other word one two = one
word_choice text false first other word one two = two

one_word : (text : List ℕ) (templates : List raw.Template) (word : Token)
    → IsOne (word_use text (template_at text (templates_of templates) word.span) word)
one_word text [] word = refl
one_word text (first ∷ others) word = word_choice text (same_name text first.name word.span)
    (Some (plain_template first)) (template_at text (templates_of others) word.span) word
    (one_bare text first first.parameters.items word) (one_word text others word)

call_choice : (text : List ℕ) (same : Bool) (first other : Option Template) (head : Token)
    (arguments : Trees) (span : Span) → IsOne (call_use text first head arguments span)
    → IsOne (call_use text other head arguments span)
    → IsOne (call_use text (cond same first other) head arguments span)
call_choice text true first other head arguments span one two = one
call_choice text false first other head arguments span one two = two

one_call : (text : List ℕ) (templates : List raw.Template) (head : Token) (arguments : Trees)
    (span : Span)
    → IsOne (call_use text (template_at text (templates_of templates) head.span) head arguments span)
one_call text [] head arguments span = refl
one_call text (first ∷ others) head arguments span =
    call_choice text (same_name text first.name head.span)
    (Some (plain_template first)) (template_at text (templates_of others) head.span) head
    arguments span (one_filled text (plain_template first) arguments first.body.value)
    (one_call text others head arguments span)

pub one_expanded : (text : List ℕ) (templates : List raw.Template) (tree : Tree)
    → IsOne (expanded text (templates_of templates) (tree_before tree none))
one_expanded text templates (Leaf word) =
    alone (word_use text (template_at text (templates_of templates) word.span) word)
    (one_word text templates word)
one_expanded text templates (Call' head shape arguments span) =
    let inner = expanded text (templates_of templates) (row_trees arguments) in
    alone (call_use text (template_at text (templates_of templates) head.span) head inner span)
    (one_call text templates head inner span)

-- the extents of terms with one term more
pub each_more : (extents : List Extent) (terms : Trees) (extent : Extent) (one : Trees)
    → AreExtents extents terms → IsOne one → IsExtentOf one extent
    → AreExtents (extents ++ extent ∷ []) (joined terms one)
each_more [] none extent none are single is = absurd single
each_more [] none extent (leaf token rest) are single is =
    let alone : IsExtentOf (leaf token none) extent =
    subst (λ (t : Trees). IsExtentOf (leaf token t) extent) single is in
    let nothing : AreExtents [] rest = subst (AreExtents []) (sym single) tt in
    (alone, nothing)
each_more [] none extent (call head inner span rest) are single is =
    let alone : IsExtentOf (call head inner span none) extent =
    subst (λ (t : Trees). IsExtentOf (call head inner span t) extent) single is in
    let nothing : AreExtents [] rest = subst (AreExtents []) (sym single) tt in
    (alone, nothing)
each_more [] (leaf token rest) extent one are single is = absurd are
each_more [] (call head inner span rest) extent one are single is = absurd are
each_more (first ∷ extents) none extent one are single is = absurd are
each_more (first ∷ extents) (leaf token rest) extent one are single is =
    (are.0, each_more extents rest extent one are.1 single is)
each_more (first ∷ extents) (call head inner span rest) extent one are single is =
    (are.0, each_more extents rest extent one are.1 single is)
