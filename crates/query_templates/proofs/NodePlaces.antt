-- The places of nodes, part by part, and lists that are appended tree by tree.
use Rattle.std.proofs.Common.{◌≡◌, ◌≤◌, ◌<◌, ◌+◌, ℕ, List, [], ◌∷◌, ◌++◌, length, get_or, take}
use Rattle.std.proofs.Common.{Vec, Global, append_assoc, refl, sym, ap, ◌∙◌}
use Rattle.language_base.specs.declared.span.Span.{Span}
use Rattle.query_tokens.specs.declared.token.Token.{Token}
use Rattle.query_trees.specs.declared.tree.Tree.{Tree, Call}
use Rattle.query_trees.specs.Trees.{Trees, none, leaf, call, tree_before, trees_of}
use Rattle.query_templates.specs.Lists.{joined}
use Rattle.query_templates.specs.Origins.{node_places}
use Rattle.query_templates.proofs.Lists.{call_before, taken_all, taken_more}

pub append-none : {A : Type 0} (list : List A) → list ++ [] ≡ list
append-none [] = refl
append-none (first ∷ others) = ap (λ l. first ∷ l) (append-none others)

pub places-joined : (a b : Trees) → node_places (joined a b) ≡ node_places a ++ node_places b
places-joined none b = refl
places-joined (leaf token rest) b = ap (λ l. token.span ∷ l) (places-joined rest b)
places-joined (call head arguments span rest) b =
    ap (λ l. span ∷ head.span ∷ node_places arguments ++ l) (places-joined rest b)
    ∙ ap (λ l. span ∷ head.span ∷ l)
    (sym (append_assoc (node_places arguments) (node_places rest) (node_places b)))

-- a call by itself
pub call_places : (tree : Tree) (head : Token) (inner : Vec Tree Global) (span : Span)
    (list : List Tree) → tree ≡ Call head inner span → list ≡ inner.items
    → span ∷ head.span ∷ node_places (trees_of list) ≡ node_places (tree_before tree none)
call_places tree head inner span list is items =
    ap (λ l. span ∷ head.span ∷ l) (sym (append-none (node_places (trees_of list))))
    ∙ sym (ap node_places (call_before tree head inner span list none is items))

-- a list that terms give by parts, over the trees of a list
module _ {A : Type 0} (f : Trees → List A)
    (parts : (a b : Trees) → f (joined a b) ≡ f a ++ f b) where
  -- the step of a loop that appends
  pub listed_more : (trees : List Tree) (at : ℕ) (tree : Tree) → at < length trees
      → tree ≡ get_or trees at tree → (first old new : List A)
      → old ≡ first ++ f (trees_of (take at trees)) → new ≡ old ++ f (tree_before tree none)
      → new ≡ first ++ f (trees_of (take (at + 1) trees))
  listed_more trees at tree within is first old new before one =
      let front = trees_of (take at trees) in
      let here = tree_before tree none in
      one ∙ ap (λ l. l ++ f here) before
      ∙ append_assoc first (f front) (f here)
      ∙ ap (λ l. first ++ l) (sym (parts front here)
      ∙ ap f (sym (taken_more trees at tree within is)))

  -- the end of that loop
  pub listed_all : (trees : List Tree) (at : ℕ) → length trees ≤ at → (first old : List A)
      → old ≡ first ++ f (trees_of (take at trees)) → old ≡ first ++ f (trees_of trees)
  listed_all trees at past first old before =
      before ∙ ap (λ (t : Trees). first ++ f t) (taken_all trees at past)

-- a call by itself, its own place and that of its word before those of its arguments
pub call_listed : (tree : Tree) (head : Token) (inner : Vec Tree Global) (span : Span)
    (list : List Tree) → tree ≡ Call head inner span → list ≡ inner.items
    → (old one two new : List Span) → one ≡ old ++ span ∷ [] → two ≡ one ++ head.span ∷ []
    → new ≡ two ++ node_places (trees_of list)
    → new ≡ old ++ node_places (tree_before tree none)
call_listed tree head inner span list is items old one two new first second third =
    let inside = node_places (trees_of list) in
    third ∙ ap (λ l. l ++ inside) (second ∙ ap (λ l. l ++ head.span ∷ []) first)
    ∙ append_assoc (old ++ span ∷ []) (head.span ∷ []) inside
    ∙ append_assoc old (span ∷ []) (head.span ∷ inside)
    ∙ ap (λ l. old ++ l) (call_places tree head inner span list is items)
