-- Bodies with arguments, and terms with their uses replaced, part by part.
use Rattle.std.proofs.Common.{◌≡◌, ◌≤◌, ◌<◌, ℕ, zero, suc, List, [], ◌∷◌, length, get_or}
use Rattle.std.proofs.Common.{Option, Vec, Global, refl, sym, ap, ◌∙◌, arith}
use Rattle.language_base.specs.declared.span.Span.{Span}
use Rattle.query_tokens.specs.declared.token.Token.{Token}
use Rattle.query_trees.specs.declared.tree.Tree.{Tree, Leaf, Call, Call'}
use Rattle.query_trees.specs.Trees.{Trees, none, leaf, call, tree_before, trees_of}
use Rattle.query_templates.specs.Expansion.{argument_for, bare_use, call_use, expanded, filled}
use Rattle.query_templates.specs.Expansion.{instance, parameter_at, term_at, word_use}
use Rattle.query_templates.specs.Lists.{joined}
use Rattle.query_templates.specs.Templates.{Template, template_at}
use Rattle.query_templates.proofs.Lists.{call_before, joined-assoc, joined-none}

pub filled-joined : (text : List ℕ) (template : Template) (arguments a b : Trees)
    → filled text template arguments (joined a b)
    ≡ joined (filled text template arguments a) (filled text template arguments b)
filled-joined text template arguments none b = refl
filled-joined text template arguments (leaf word rest) b =
    let first = argument_for arguments (parameter_at text template word.span) word in
    ap (joined first) (filled-joined text template arguments rest b)
    ∙ sym (joined-assoc first (filled text template arguments rest)
    (filled text template arguments b))
filled-joined text template arguments (call head inner span rest) b =
    ap (call head (filled text template arguments inner) span)
    (filled-joined text template arguments rest b)

pub expanded-joined : (text : List ℕ) (templates : List Template) (a b : Trees)
    → expanded text templates (joined a b)
    ≡ joined (expanded text templates a) (expanded text templates b)
expanded-joined text templates none b = refl
expanded-joined text templates (leaf word rest) b =
    let first = word_use text (template_at text templates word.span) word in
    ap (joined first) (expanded-joined text templates rest b)
    ∙ sym (joined-assoc first (expanded text templates rest) (expanded text templates b))
expanded-joined text templates (call head arguments span rest) b =
    let first = call_use text (template_at text templates head.span) head
    (expanded text templates arguments) span in
    ap (joined first) (expanded-joined text templates rest b)
    ∙ sym (joined-assoc first (expanded text templates rest) (expanded text templates b))

-- a tree by itself is among a list of trees
pub term-inside : (trees : List Tree) (at : ℕ) (word : Token) (tree : Tree) → at < length trees
    → tree ≡ get_or trees at tree → term_at (trees_of trees) at word ≡ tree_before tree none
term-inside [] at word tree within is = absurd (omega arith)
term-inside (Leaf token ∷ trees) zero word tree within is =
    ap (λ (t : Tree). tree_before t none) (sym is)
term-inside (Call' head shape inner span ∷ trees) zero word tree within is =
    ap (λ (t : Tree). tree_before t none) (sym is)
term-inside (Leaf token ∷ trees) (suc at) word tree within is =
    term-inside trees at word tree (omega arith) is
term-inside (Call' head shape inner span ∷ trees) (suc at) word tree within is =
    term-inside trees at word tree (omega arith) is

pub term-outside : (trees : List Tree) (at : ℕ) (word : Token) → length trees ≤ at
    → term_at (trees_of trees) at word ≡ leaf word none
term-outside [] at word past = refl
term-outside (Leaf token ∷ trees) zero word past = absurd (omega arith)
term-outside (Call' head shape inner span ∷ trees) zero word past = absurd (omega arith)
term-outside (Leaf token ∷ trees) (suc at) word past =
    term-outside trees at word (omega arith)
term-outside (Call' head shape inner span ∷ trees) (suc at) word past =
    term-outside trees at word (omega arith)

-- a word of a body
pub word_filled : (text : List ℕ) (template : Template) (arguments : Trees) (word : Token)
    (at : Option ℕ) → at ≡ parameter_at text template word.span
    → argument_for arguments at word ≡ filled text template arguments (leaf word none)
word_filled text template arguments word at is =
    ap (λ a. argument_for arguments a word) is
    ∙ sym (joined-none (argument_for arguments (parameter_at text template word.span) word))

-- a call of a body
pub call_filled : (text : List ℕ) (template : Template) (arguments : Trees) (tree : Tree)
    (head : Token) (inner : Vec Tree Global) (span : Span) (list : List Tree)
    → tree ≡ Call head inner span → list ≡ inner.items → (made : Tree) (of : List Tree)
    → tree_before made none ≡ call head (trees_of of) span none
    → trees_of of ≡ filled text template arguments (trees_of list)
    → tree_before made none ≡ filled text template arguments (tree_before tree none)
call_filled text template arguments tree head inner span list is items made of made_is of_is =
    made_is ∙ ap (λ (t : Trees). call head t span none) of_is
    ∙ sym (ap (filled text template arguments)
    (call_before tree head inner span list none is items))

-- a word of a file
pub word_expanded : (text : List ℕ) (templates : List Template) (word : Token)
    (found : Option Template) → template_at text templates word.span ≡ found
    → word_use text found word ≡ expanded text templates (leaf word none)
word_expanded text templates word found is =
    ap (λ (f : Option Template). word_use text f word) (sym is)
    ∙ sym (joined-none (word_use text (template_at text templates word.span) word))

-- a call of a file
pub call_expanded : (text : List ℕ) (templates : List Template) (tree : Tree) (head : Token)
    (inner : Vec Tree Global) (span : Span) (list : List Tree) → tree ≡ Call head inner span
    → list ≡ inner.items → (made : Trees) (of : Trees)
    → made ≡ call_use text (template_at text templates head.span) head of span
    → of ≡ expanded text templates (trees_of list)
    → made ≡ expanded text templates (tree_before tree none)
call_expanded text templates tree head inner span list is items made of made_is of_is =
    made_is
    ∙ ap (λ (t : Trees). call_use text (template_at text templates head.span) head t span) of_is
    ∙ sym (joined-none (call_use text (template_at text templates head.span) head
    (expanded text templates (trees_of list)) span))
    ∙ sym (ap (expanded text templates) (call_before tree head inner span list none is items))

-- without templates nothing is replaced
pub expanded-none : (text : List ℕ) (terms : Trees) → expanded text [] terms ≡ terms
expanded-none text none = refl
expanded-none text (leaf word rest) = ap (leaf word) (expanded-none text rest)
expanded-none text (call head arguments span rest) =
    ap (λ (t : Trees). call head t span (expanded text [] rest)) (expanded-none text arguments)
    ∙ ap (call head arguments span) (expanded-none text rest)

-- a template with parameters is not used by a word alone
pub not_bare : (text : List ℕ) (template : Template) (parameters : List Span) (word : Token)
    → 0 < length parameters → bare_use text template parameters word ≡ leaf word none
not_bare text template [] word some = absurd (omega arith)
not_bare text template (first ∷ others) word some = refl

pub bare : (text : List ℕ) (template : Template) (parameters : List Span) (word : Token)
    → length parameters ≡ 0
    → bare_use text template parameters word ≡ instance text template none
bare text template [] word empty = refl
bare text template (first ∷ others) word empty = absurd (omega arith)
