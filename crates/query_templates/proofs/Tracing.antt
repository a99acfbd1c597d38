-- Origins, part by part and tree by tree.
use Rattle.std.proofs.Common.{◌≡◌, ◌<◌, ◌+◌, ℕ, zero, suc, Bool, cond, List, [], ◌∷◌, ◌++◌}
use Rattle.std.proofs.Common.{length, get_or, take, Option, Some, None, Result, Ok, Err, IfOk, Vec}
use Rattle.std.proofs.Common.{Global, append_assoc, refl, sym, ap, ◌∙◌, arith}
use Rattle.std.proofs.lemmas.List.{take_more}
use Rattle.language_base.specs.declared.span.Span.{Span}
use Rattle.query_tokens.specs.declared.token.Token.{Token}
use Rattle.query_trees.specs.declared.tree.Tree.{Tree, Leaf, Call, Call'}
use Rattle.query_trees.specs.Reads.{after_first}
use Rattle.query_trees.specs.Trees.{Trees, none, leaf, call, tree_before, trees_of, row_trees}
use Rattle.query_templates.specs.declared.origin.Origin.{Origin}
use Rattle.query_templates.specs.declared.origin.Use.{Use}
use Rattle.query_templates.specs.declared.template.Template as raw
use Rattle.query_templates.specs.Appended.{arguments_of}
use Rattle.query_templates.specs.Definitions.{definition_in}
use Rattle.query_templates.specs.Expansion.{bare_use, call_use, expanded, word_use}
use Rattle.query_templates.specs.File.{with_definition}
use Rattle.query_templates.specs.Fronts.{IsDefinitionAt, IsOther}
use Rattle.query_templates.specs.Lists.{count_of, joined}
use Rattle.query_templates.specs.Origins.{bare_used, call_origins, came_of, node_places}
use Rattle.query_templates.specs.Origins.{origins_after, origins_of, use_at, word_origins}
use Rattle.query_templates.specs.Origins.{word_used}
use Rattle.query_templates.specs.Plain.{templates_of}
use Rattle.query_templates.specs.Templates.{Template, template_at}
use Rattle.query_templates.proofs.Expanding.{expanded-joined}
use Rattle.query_templates.proofs.Lists.{before_joined, call_before, count-trees, joined-none}
use Rattle.query_templates.proofs.NodePlaces.{append-none}
use Rattle.query_templates.proofs.Singles.{IsOne, one_expanded}

pub origins-joined : (text : List ℕ) (templates : List Template) (a b : Trees)
    → origins_of text templates (joined a b)
    ≡ origins_of text templates a ++ origins_of text templates b
origins-joined text templates none b = refl
origins-joined text templates (leaf word rest) b =
    let first = word_origins text (template_at text templates word.span) word in
    ap (λ l. first ++ l) (origins-joined text templates rest b)
    ∙ sym (append_assoc first (origins_of text templates rest) (origins_of text templates b))
origins-joined text templates (call head arguments span rest) b =
    let first = call_origins text (template_at text templates head.span) head
    (expanded text templates arguments) span (origins_of text templates arguments) in
    ap (λ l. first ++ l) (origins-joined text templates rest b)
    ∙ sym (append_assoc first (origins_of text templates rest) (origins_of text templates b))

-- the first of terms, by itself
abbrev first_alone : Trees → Trees
first_alone none = none
first_alone (leaf token rest) = leaf token none
first_alone (call head arguments span rest) = call head arguments span none

first-before : (tree : Tree) (others : Trees)
    → first_alone (tree_before tree others) ≡ tree_before tree none
first-before (Leaf token) others = refl
first-before (Call' head shape arguments span) others = refl

after-before : (tree : Tree) (others : Trees) → after_first (tree_before tree others) ≡ others
after-before (Leaf token) others = refl
after-before (Call' head shape arguments span) others = refl

first-joined : (a b : Trees) → IsOne a → first_alone (joined a b) ≡ a
first-joined none b one = absurd one
first-joined (leaf token rest) b one = ap (leaf token) (sym one)
first-joined (call head arguments span rest) b one = ap (call head arguments span) (sym one)

after-joined : (a b : Trees) → IsOne a → after_first (joined a b) ≡ b
after-joined none b one = absurd one
after-joined (leaf token rest) b one = ap (λ (t : Trees). joined t b) one
after-joined (call head arguments span rest) b one = ap (λ (t : Trees). joined t b) one

count-joined : (a b : Trees) → IsOne a → count_of (joined a b) ≡ count_of b + 1
count-joined none b one = absurd one
count-joined (leaf token rest) b one = ap (λ (t : Trees). count_of (joined t b) + 1) one
count-joined (call head arguments span rest) b one =
    ap (λ (t : Trees). count_of (joined t b) + 1) one

module _ (text : List ℕ) (templates : List raw.Template) where
  -- a term before others, with uses replaced
  parts_of : (tree : Tree) (others : Trees)
      → expanded text (templates_of templates) (tree_before tree others)
      ≡ joined (expanded text (templates_of templates) (tree_before tree none))
      (expanded text (templates_of templates) others)
  parts_of tree others =
      ap (expanded text (templates_of templates)) (before_joined tree none others)
      ∙ expanded-joined text (templates_of templates) (tree_before tree none) others

  count-expanded : (trees : List Tree)
      → count_of (expanded text (templates_of templates) (trees_of trees)) ≡ length trees
  count-expanded [] = refl
  count-expanded (tree ∷ trees) =
      let one = ap count_of (parts_of tree (trees_of trees))
      ∙ count-joined (expanded text (templates_of templates) (tree_before tree none))
      (expanded text (templates_of templates) (trees_of trees))
      (one_expanded text templates tree) in
      let rest = count-expanded trees in
      omega (arith, one, rest)

  -- as many plain terms as terms
  pub as_many : (trees plain : List Tree)
      → trees_of plain ≡ expanded text (templates_of templates) (trees_of trees)
      → length plain ≡ length trees
  as_many trees plain is = sym (count-trees plain) ∙ ap count_of is ∙ count-expanded trees

  -- a plain term stands for the term beside it
  pub beside_at : (trees plain : List Tree) (at : ℕ) (tree made : Tree)
      → trees_of plain ≡ expanded text (templates_of templates) (trees_of trees)
      → at < length trees → at < length plain → tree ≡ get_or trees at tree
      → made ≡ get_or plain at made
      → tree_before made none ≡ expanded text (templates_of templates) (tree_before tree none)
  beside_at [] plain at tree made is within inside one two = absurd (omega arith)
  beside_at (first ∷ trees) [] at tree made is within inside one two = absurd (omega arith)
  beside_at (first ∷ trees) (other ∷ plain) zero tree made is within inside one two =
      let here = expanded text (templates_of templates) (tree_before first none) in
      let rest = expanded text (templates_of templates) (trees_of trees) in
      ap (λ (t : Tree). tree_before t none) two
      ∙ sym (first-before other (trees_of plain))
      ∙ ap first_alone (is ∙ parts_of first (trees_of trees))
      ∙ first-joined here rest (one_expanded text templates first)
      ∙ ap (λ (t : Tree). expanded text (templates_of templates) (tree_before t none)) (sym one)
  beside_at (first ∷ trees) (other ∷ plain) (suc at) tree made is within inside one two =
      let here = expanded text (templates_of templates) (tree_before first none) in
      let rest = expanded text (templates_of templates) (trees_of trees) in
      beside_at trees plain at tree made
      (sym (after-before other (trees_of plain))
      ∙ ap after_first (is ∙ parts_of first (trees_of trees))
      ∙ after-joined here rest (one_expanded text templates first))
      (omega arith) (omega arith) one two

pub came-append : (used : Option Use) (a b : List Span)
    → came_of used (a ++ b) ≡ came_of used a ++ came_of used b
came-append used [] b = refl
came-append used (place ∷ a) b =
    ap (λ l. came_of used (place ∷ []) ++ l) (came-append used a b)

-- the nodes at places that came of a use, and one more
pub came_more : (used : Option Use) (places : List Span) (at : ℕ) (place : Span)
    → at < length places → place ≡ get_or places at place → (first old new : List Origin)
    → old ≡ first ++ came_of used (take at places)
    → new ≡ old ++ came_of used (place ∷ [])
    → new ≡ first ++ came_of used (take (at + 1) places)
came_more used places at place within is first old new before one =
    let front = came_of used (take at places) in
    let here = came_of used (place ∷ []) in
    one ∙ ap (λ l. l ++ here) before ∙ append_assoc first front here
    ∙ ap (λ l. first ++ l) (sym (came-append used (take at places) (place ∷ []))
    ∙ ap (λ p. came_of used (take at places ++ p ∷ [])) is
    ∙ ap (came_of used) (sym (take_more places at place within)))

-- a word that is no use
not_bare_used : (text : List ℕ) (template : Template) (parameters : List Span) (word : Token)
    → bare_used template parameters word.span ≡ None
    → bare_use text template parameters word ≡ leaf word none
not_bare_used text template [] word is = absurd (cc)
not_bare_used text template (first ∷ others) word is = refl

not_used : (text : List ℕ) (found : Option Template) (word : Token)
    → word_used found word.span ≡ None → word_use text found word ≡ leaf word none
not_used text None word is = refl
not_used text (Some template) word is =
    not_bare_used text template template.parameters word is

pub own_word : (text : List ℕ) (found : Option Template) (word : Token)
    → word_used found word.span ≡ None
    → came_of None (word.span ∷ []) ≡ word_origins text found word
own_word text found word is =
    ap (λ (t : Trees). came_of None (node_places t)) (sym (not_used text found word is))
    ∙ ap (λ (u : Option Use). came_of u (node_places (word_use text found word))) (sym is)

pub used_word : (text : List ℕ) (found : Option Template) (word : Token) (used : Use)
    (made : Trees) → word_used found word.span ≡ Some used → made ≡ word_use text found word
    → came_of (Some used) (node_places made) ≡ word_origins text found word
used_word text found word used made is made_is =
    ap (λ (t : Trees). came_of (Some used) (node_places t)) made_is
    ∙ ap (λ (u : Option Use). came_of u (node_places (word_use text found word))) (sym is)

-- a word by itself
pub word_alone : (text : List ℕ) (templates : List Template) (word : Token)
    → word_origins text (template_at text templates word.span) word
    ≡ origins_of text templates (leaf word none)
word_alone text templates word =
    sym (append-none (word_origins text (template_at text templates word.span) word))

-- a call by itself
module _ (text : List ℕ) (templates : List Template) (tree : Tree) (head : Token)
    (inner : Vec Tree Global) (span : Span) (list : List Tree)
    (is : tree ≡ Call head inner span) (items : list ≡ inner.items) where
  abbrev parts : Trees
  parts = expanded text templates (trees_of list)

  abbrev inside : List Origin
  inside = origins_of text templates (trees_of list)

  call_alone : (found : Option Template) → template_at text templates head.span ≡ found
      → origins_of text templates (tree_before tree none)
      ≡ call_origins text found head parts span inside
  call_alone found found_is =
      ap (origins_of text templates) (call_before tree head inner span list none is items)
      ∙ append-none (call_origins text (template_at text templates head.span) head parts span
      inside)
      ∙ ap (λ (f : Option Template). call_origins text f head parts span inside) found_is

  call_made : (found : Option Template) → template_at text templates head.span ≡ found
      → expanded text templates (tree_before tree none) ≡ call_use text found head parts span
  call_made found found_is =
      ap (expanded text templates) (call_before tree head inner span list none is items)
      ∙ joined-none (call_use text (template_at text templates head.span) head parts span)
      ∙ ap (λ (f : Option Template). call_use text f head parts span) found_is

  -- that is a use
  pub used_call : (template : Template) → template_at text templates head.span ≡ Some template
      → (made : Trees) → made ≡ expanded text templates (tree_before tree none)
      → came_of (Some (use_at span template)) (node_places made)
      ≡ origins_of text templates (tree_before tree none)
  used_call template found_is made made_is =
      ap (λ (t : Trees). came_of (Some (use_at span template)) (node_places t))
      (made_is ∙ call_made (Some template) found_is)
      ∙ sym (call_alone (Some template) found_is)

  -- that is none
  pub own_arguments : template_at text templates head.span ≡ None
      → (made : Trees) → made ≡ expanded text templates (tree_before tree none)
      → arguments_of made ≡ parts
  own_arguments found_is made made_is = ap arguments_of (made_is ∙ call_made None found_is)

  pub own_call : template_at text templates head.span ≡ None → (old one two new : List Origin)
      → one ≡ old ++ came_of None (span ∷ []) → two ≡ one ++ came_of None (head.span ∷ [])
      → new ≡ two ++ inside → new ≡ old ++ origins_of text templates (tree_before tree none)
  own_call found_is old one two new first second third =
      let top = came_of None (span ∷ []) in
      let word = came_of None (head.span ∷ []) in
      third ∙ ap (λ l. l ++ inside) (second ∙ ap (λ l. l ++ word) first)
      ∙ append_assoc (old ++ top) word inside ∙ append_assoc old top (word ++ inside)
      ∙ ap (λ l. old ++ l) (sym (call_alone None found_is))

-- the next term is a definition
pub origins_next : (text : List ℕ) (templates : List Template) (tree : Tree)
    (others inner : List Tree) (at : Span) → IsDefinitionAt text tree inner at
    → origins_after text templates (trees_of (tree ∷ others))
    ≡ origins_after text (with_definition text templates (definition_in (trees_of inner)) at)
    (trees_of others)
origins_next text templates (Leaf token) others inner at is = absurd is
origins_next text templates (Call' head shape row place) others inner at is =
    let rest = trees_of others in
    ap (λ (b : Bool). cond b
    (origins_after text (with_definition text templates (definition_in (row_trees row)) place)
    rest)
    (origins_of text templates (call head (row_trees row) place rest))) is.0
    ∙ ap (λ (a : Trees). origins_after text
    (with_definition text templates (definition_in a) place) rest) is.1
    ∙ ap (λ (p : Span). origins_after text
    (with_definition text templates (definition_in (trees_of inner)) p) rest) is.2

-- the next term is none
pub origins_other : (text : List ℕ) (templates : List Template) (tree : Tree)
    (others : List Tree) → IsOther text tree
    → origins_after text templates (trees_of (tree ∷ others))
    ≡ origins_of text templates (trees_of (tree ∷ others))
origins_other text templates (Leaf token) others is = refl
origins_other text templates (Call' head shape row place) others is =
    let rest = trees_of others in
    ap (λ (b : Bool). cond b
    (origins_after text (with_definition text templates (definition_in (row_trees row)) place)
    rest)
    (origins_of text templates (call head (row_trees row) place rest))) is

-- what holds at success where a premise holds, from a weaker one
pub ok_given : {T E : Type 0} (result : Result T E) (P Q A B : Type 0) → (A → P) → (Q → B)
    → (P → IfOk result (λ _. Q)) → IfOk result (λ _. A → B)
ok_given (Ok x) P Q A B before after has = λ given. after (has (before given))
ok_given (Err e) P Q A B before after has = tt
