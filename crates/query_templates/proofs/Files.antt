-- A file, definition by definition and then term by term.
use Rattle.std.proofs.Common.{◌≡◌, ◌<◌, ◌+◌, ℕ, Bool, cond, List, [], ◌∷◌, ◌++◌}
use Rattle.std.proofs.Common.{length, get_or, drop, None, refl, sym, ap, ◌∙◌, arith}
use Rattle.std.proofs.lemmas.List.{drop_more}
use Rattle.language_base.specs.declared.span.Span.{Span}
use Rattle.query_trees.specs.declared.tree.Tree.{Tree, Leaf, Call'}
use Rattle.query_trees.specs.Trees.{Trees, none, leaf, call, tree_before, trees_of, row_trees}
use Rattle.query_templates.specs.declared.template.Template as raw
use Rattle.query_templates.specs.Definitions.{definition_in, definition_refusal, term_refusal}
use Rattle.query_templates.specs.Expansion.{expanded}
use Rattle.query_templates.specs.File.{plain_after, refusal_after, refused_after, refused_top}
use Rattle.query_templates.specs.File.{plain_terms, first_refusal, used_after, used_with}
use Rattle.query_templates.specs.File.{with_definition}
use Rattle.query_templates.specs.Fronts.{IsDefinitionAt, IsOther, IsOtherFirst, place_of}
use Rattle.query_templates.specs.Plain.{plain_template, templates_of}
use Rattle.query_templates.specs.Refusals.{first_of}
use Rattle.query_templates.specs.Templates.{Template}
use Rattle.query_templates.proofs.Expanding.{expanded-none}

-- one template more
pub templates_pushed : (templates : List raw.Template) (one : raw.Template)
    → templates_of (templates ++ one ∷ []) ≡ templates_of templates ++ plain_template one ∷ []
templates_pushed [] one = refl
templates_pushed (first ∷ templates) one =
    ap (λ (t : List Template). plain_template first ∷ t) (templates_pushed templates one)

-- the next term is a definition
pub plain_next : (text : List ℕ) (templates : List Template) (tree : Tree) (others inner : List Tree)
    (at : Span) → IsDefinitionAt text tree inner at
    → plain_after text templates (trees_of (tree ∷ others))
    ≡ plain_after text (with_definition text templates (definition_in (trees_of inner)) at)
    (trees_of others)
plain_next text templates (Leaf token) others inner at is = absurd is
plain_next text templates (Call' head shape row place) others inner at is =
    let rest = trees_of others in
    ap (λ (b : Bool). cond b
    (plain_after text (with_definition text templates (definition_in (row_trees row)) place) rest)
    (expanded text templates (call head (row_trees row) place rest))) is.0
    ∙ ap (λ (a : Trees). plain_after text (with_definition text templates (definition_in a) place)
    rest) is.1
    ∙ ap (λ (p : Span). plain_after text
    (with_definition text templates (definition_in (trees_of inner)) p) rest) is.2

pub refusal_next : (text : List ℕ) (templates : List Template) (used : ℕ) (tree : Tree)
    (others inner : List Tree) (at : Span) → IsDefinitionAt text tree inner at
    → refusal_after text templates used (trees_of (tree ∷ others))
    ≡ first_of (definition_refusal text templates used (definition_in (trees_of inner)) at)
    (refusal_after text (with_definition text templates (definition_in (trees_of inner)) at)
    (used_with text templates used (definition_in (trees_of inner))) (trees_of others))
refusal_next text templates used (Leaf token) others inner at is = absurd is
refusal_next text templates used (Call' head shape row place) others inner at is =
    let rest = trees_of others in
    ap (λ (b : Bool). cond b
    (first_of (definition_refusal text templates used (definition_in (row_trees row)) place)
    (refusal_after text (with_definition text templates (definition_in (row_trees row)) place)
    (used_with text templates used (definition_in (row_trees row))) rest))
    (refused_after text templates used (call head (row_trees row) place rest))) is.0
    ∙ ap (λ (a : Trees). first_of (definition_refusal text templates used (definition_in a) place)
    (refusal_after text (with_definition text templates (definition_in a) place)
    (used_with text templates used (definition_in a)) rest)) is.1
    ∙ ap (λ (p : Span). first_of
    (definition_refusal text templates used (definition_in (trees_of inner)) p)
    (refusal_after text (with_definition text templates (definition_in (trees_of inner)) p)
    (used_with text templates used (definition_in (trees_of inner))) rest)) is.2

-- the next term is none
pub plain_other : (text : List ℕ) (templates : List Template) (tree : Tree) (others : List Tree)
    → IsOther text tree → plain_after text templates (trees_of (tree ∷ others))
    ≡ expanded text templates (trees_of (tree ∷ others))
plain_other text templates (Leaf token) others is = refl
plain_other text templates (Call' head shape row place) others is =
    let rest = trees_of others in
    ap (λ (b : Bool). cond b
    (plain_after text (with_definition text templates (definition_in (row_trees row)) place) rest)
    (expanded text templates (call head (row_trees row) place rest))) is

pub refusal_other : (text : List ℕ) (templates : List Template) (used : ℕ) (tree : Tree)
    (others : List Tree)
    → IsOther text tree → refusal_after text templates used (trees_of (tree ∷ others))
    ≡ refused_after text templates used (trees_of (tree ∷ others))
refusal_other text templates used (Leaf token) others is = refl
refusal_other text templates used (Call' head shape row place) others is =
    let rest = trees_of others in
    ap (λ (b : Bool). cond b
    (first_of (definition_refusal text templates used (definition_in (row_trees row)) place)
    (refusal_after text (with_definition text templates (definition_in (row_trees row)) place)
    (used_with text templates used (definition_in (row_trees row))) rest))
    (refused_after text templates used (call head (row_trees row) place rest))) is

-- no term is left
pub refusal_end : (text : List ℕ) (templates : List Template) (used : ℕ)
    → refusal_after text templates used none ≡ refused_after text templates used none
refusal_end text [] used = refl
refusal_end text (first ∷ templates) used = refl

-- there are templates
pub refused_some : (text : List ℕ) (templates : List raw.Template) (used : ℕ) (terms : Trees)
    → 0 < length templates
    → refused_after text (templates_of templates) used terms
    ≡ refused_top text (templates_of templates) used terms
refused_some text [] used terms some = absurd (omega arith)
refused_some text (first ∷ templates) used terms some = refl

pub refused_none : (text : List ℕ) (templates : List raw.Template) (used : ℕ) (terms : Trees)
    → length templates ≡ 0 → refused_after text (templates_of templates) used terms ≡ None
refused_none text [] used terms empty = refl
refused_none text (first ∷ templates) used terms empty = absurd (omega arith)

pub expanded_empty : (text : List ℕ) (templates : List raw.Template) (terms : Trees)
    → length templates ≡ 0 → expanded text (templates_of templates) terms ≡ terms
expanded_empty text [] terms empty = expanded-none text terms
expanded_empty text (first ∷ templates) terms empty = absurd (omega arith)

-- a term after definitions, before others
pub top_next : (text : List ℕ) (templates : List Template) (used : ℕ) (tree : Tree)
    (others : List Tree) → refused_top text templates used (trees_of (tree ∷ others))
    ≡ first_of (term_refusal text templates None used (tree_before tree none) (place_of tree))
    (refused_top text templates (used_after text templates used (tree_before tree none))
    (trees_of others))
top_next text templates used (Leaf token) others = refl
top_next text templates used (Call' head shape row place) others = refl

-- the same at an index of a list
pub top_at : (text : List ℕ) (templates : List Template) (used : ℕ) (trees : List Tree) (at : ℕ)
    (tree : Tree) → at < length trees → tree ≡ get_or trees at tree
    → refused_top text templates used (trees_of (drop at trees))
    ≡ first_of (term_refusal text templates None used (tree_before tree none) (place_of tree))
    (refused_top text templates (used_after text templates used (tree_before tree none))
    (trees_of (drop (at + 1) trees)))
top_at text templates used trees at tree within is =
    ap (λ (l : List Tree). refused_top text templates used (trees_of l))
    (drop_more trees at tree within ∙ ap (λ (t : Tree). t ∷ drop (at + 1) trees) (sym is))
    ∙ top_next text templates used tree (drop (at + 1) trees)

-- the law: a file that begins with no definition
pub plain_law : (text : List ℕ) (terms : Trees) → IsOtherFirst text terms
    → plain_terms text terms ≡ terms
plain_law text none is = refl
plain_law text (leaf word rest) is = expanded-none text (leaf word rest)
plain_law text (call head arguments place rest) is =
    ap (λ (b : Bool). cond b
    (plain_after text (with_definition text [] (definition_in arguments) place) rest)
    (expanded text [] (call head arguments place rest))) is
    ∙ expanded-none text (call head arguments place rest)

pub refusal_law : (text : List ℕ) (terms : Trees) → IsOtherFirst text terms
    → first_refusal text terms ≡ None
refusal_law text none is = refl
refusal_law text (leaf word rest) is = refl
refusal_law text (call head arguments place rest) is =
    ap (λ (b : Bool). cond b
    (first_of (definition_refusal text [] 0 (definition_in arguments) place)
    (refusal_after text (with_definition text [] (definition_in arguments) place)
    (used_with text [] 0 (definition_in arguments)) rest))
    None) is
