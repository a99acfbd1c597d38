-- Terms one after the other, and lists of trees that are taken up to an index.
use Rattle.std.proofs.Common.{◌≡◌, ◌≤◌, ◌<◌, ◌+◌, ℕ, zero, suc, List, [], ◌∷◌, ◌++◌, length}
use Rattle.std.proofs.Common.{get_or, take, drop, Vec, Global, refl, sym, ap, ◌∙◌, arith}
use Rattle.std.proofs.lemmas.List.{take_all, take_more}
use Rattle.language_base.specs.declared.span.Span.{Span}
use Rattle.query_tokens.specs.declared.token.Token.{Token}
use Rattle.query_trees.specs.declared.tree.Tree.{Tree, Leaf, Call, Call'}
use Rattle.query_trees.specs.Trees.{Trees, none, leaf, call, tree_before, trees_of}
use Rattle.query_trees.proofs.Rows.{tree_before-Call}
use Rattle.query_templates.specs.Lists.{count_of, joined}

pub joined-none : (terms : Trees) → joined terms none ≡ terms
joined-none none = refl
joined-none (leaf token rest) = ap (leaf token) (joined-none rest)
joined-none (call head arguments span rest) = ap (call head arguments span) (joined-none rest)

pub joined-assoc : (a b c : Trees) → joined (joined a b) c ≡ joined a (joined b c)
joined-assoc none b c = refl
joined-assoc (leaf token rest) b c = ap (leaf token) (joined-assoc rest b c)
joined-assoc (call head arguments span rest) b c =
    ap (call head arguments span) (joined-assoc rest b c)

-- a tree before others
pub before_joined : (tree : Tree) (a b : Trees)
    → tree_before tree (joined a b) ≡ joined (tree_before tree a) b
before_joined (Leaf token) a b = refl
before_joined (Call' head shape arguments span) a b = refl

-- a tree is added at the end
pub pushed : (trees : List Tree) (tree : Tree)
    → trees_of (trees ++ tree ∷ []) ≡ joined (trees_of trees) (tree_before tree none)
pushed [] tree = refl
pushed (first ∷ trees) tree =
    ap (tree_before first) (pushed trees tree)
    ∙ before_joined first (trees_of trees) (tree_before tree none)

-- one tree more
pub taken_more : (trees : List Tree) (at : ℕ) (tree : Tree) → at < length trees
    → tree ≡ get_or trees at tree
    → trees_of (take (at + 1) trees) ≡ joined (trees_of (take at trees)) (tree_before tree none)
taken_more trees at tree within is =
    ap trees_of (take_more trees at tree within
    ∙ ap (λ (t : Tree). take at trees ++ t ∷ []) (sym is))
    ∙ pushed (take at trees) tree

-- all of them
pub taken_all : (trees : List Tree) (at : ℕ) → length trees ≤ at
    → trees_of (take at trees) ≡ trees_of trees
taken_all trees at past = ap trees_of (take_all at trees past)

-- what comes after a place in a list
pub parted : (trees : List Tree) (at : ℕ)
    → trees_of trees ≡ joined (trees_of (take at trees)) (trees_of (drop at trees))
parted [] zero = refl
parted [] (suc at) = refl
parted (first ∷ trees) zero = refl
parted (first ∷ trees) (suc at) =
    ap (tree_before first) (parted trees at)
    ∙ before_joined first (trees_of (take at trees)) (trees_of (drop at trees))

-- a list of trees in three parts
pub parted_at : (trees : List Tree) (at : ℕ) (tree : Tree) → at < length trees
    → tree ≡ get_or trees at tree
    → trees_of trees ≡ joined (trees_of (take at trees))
    (joined (tree_before tree none) (trees_of (drop (at + 1) trees)))
parted_at trees at tree within is =
    parted trees (at + 1)
    ∙ ap (λ (t : Trees). joined t (trees_of (drop (at + 1) trees)))
    (taken_more trees at tree within is)
    ∙ joined-assoc (trees_of (take at trees)) (tree_before tree none)
    (trees_of (drop (at + 1) trees))

-- a call is what its arguments are
pub call_before : (tree : Tree) (head : Token) (arguments : Vec Tree Global) (span : Span)
    (list : List Tree) (others : Trees) → tree ≡ Call head arguments span → list ≡ arguments.items
    → tree_before tree others ≡ call head (trees_of list) span others
call_before tree head arguments span list others is items =
    ap (λ (t : Tree). tree_before t others) is
    ∙ tree_before-Call head arguments span others
    ∙ ap (λ inner. call head (trees_of inner) span others) (sym items)

-- as many terms as trees
pub count-before : (tree : Tree) (others : Trees)
    → count_of (tree_before tree others) ≡ count_of others + 1
count-before (Leaf token) others = refl
count-before (Call' head shape arguments span) others = refl

pub count-trees : (trees : List Tree) → count_of (trees_of trees) ≡ length trees
count-trees [] = refl
count-trees (first ∷ trees) =
    let more = count-before first (trees_of trees) in
    let rest = count-trees trees in
    omega (arith, more, rest)

-- a function of terms by parts, over the trees of a list
module _ (f : Trees → Trees) (parts : (a b : Trees) → f (joined a b) ≡ joined (f a) (f b)) where
  -- the step of a loop that makes trees
  pub made_more : (trees : List Tree) (at : ℕ) (tree : Tree) → at < length trees
      → tree ≡ get_or trees at tree → (old new : List Tree) (made : Tree) → new ≡ old ++ made ∷ []
      → trees_of old ≡ f (trees_of (take at trees))
      → tree_before made none ≡ f (tree_before tree none)
      → trees_of new ≡ f (trees_of (take (at + 1) trees))
  made_more trees at tree within is old new made grown before one =
      ap trees_of grown ∙ pushed old made
      ∙ ap (λ (t : Trees). joined t (tree_before made none)) before
      ∙ ap (joined (f (trees_of (take at trees)))) one
      ∙ sym (parts (trees_of (take at trees)) (tree_before tree none))
      ∙ ap f (sym (taken_more trees at tree within is))
