-- Extents of terms, part by part, and as they are counted.
use Rattle.std.proofs.Common.{◌≡◌, ◌≤◌, ◌<◌, ◌+◌, ◌-◌, ◌^◌, ℕ, zero, suc, List, [], ◌∷◌, length}
use Rattle.std.proofs.Common.{get_or, take, max, min, refl, sym, ap}
use Rattle.std.proofs.Common.{◌∙◌, arith}
use Rattle.language_base.specs.declared.span.Span.{Span}
use Rattle.query_tokens.specs.declared.token.Token.{Token}
use Rattle.query_trees.specs.declared.tree.Tree.{Tree}
use Rattle.query_trees.specs.Trees.{Trees, none, leaf, call, tree_before, trees_of}
use Rattle.query_templates.specs.declared.extent.Extent.{Extent}
use Rattle.query_templates.specs.Expansion.{term_at}
use Rattle.query_templates.specs.Extents.{beside, call_extent, extent_of, nothing, token_extent}
use Rattle.query_templates.specs.Lists.{joined}
use Rattle.query_templates.specs.Measured.{AreExtents, IsExtentOf, capped}
use Rattle.query_templates.proofs.Lists.{taken_more}

-- extents are the same where their numbers are
abbrev made_of : ℕ → ℕ → Extent
made_of bytes levels = record { bytes = bytes; levels = levels }

same_extent : (a b : Extent) → a.bytes ≡ b.bytes → a.levels ≡ b.levels → a ≡ b
same_extent a b bytes levels =
    ap (λ (n : ℕ). made_of n a.levels) bytes ∙ ap (made_of b.bytes) levels

pub beside-assoc : (a b c : Extent) → beside (beside a b) c ≡ beside a (beside b c)
beside-assoc a b c = same_extent _ _ (omega arith) (omega arith)

pub nothing-beside : (a : Extent) → beside nothing a ≡ a
nothing-beside a = same_extent _ _ (omega arith) (omega arith)

pub beside-nothing : (a : Extent) → beside a nothing ≡ a
beside-nothing a = same_extent _ _ (omega arith) (omega arith)

pub extent-joined : (a b : Trees) → extent_of (joined a b) ≡ beside (extent_of a) (extent_of b)
extent-joined none b = sym (nothing-beside (extent_of b))
extent-joined (leaf token rest) b =
    ap (beside (token_extent token)) (extent-joined rest b)
    ∙ sym (beside-assoc (token_extent token) (extent_of rest) (extent_of b))
extent-joined (call head arguments span rest) b =
    let first = call_extent head (extent_of arguments) in
    ap (beside first) (extent-joined rest b)
    ∙ sym (beside-assoc first (extent_of rest) (extent_of b))

-- of a word by itself
pub word_counted : (word : Token) (extent : Extent) → extent ≡ capped (token_extent word)
    → IsExtentOf (leaf word none) extent
word_counted word extent is = is ∙ ap capped (sym (beside-nothing (token_extent word)))

-- of a call by itself
pub call_counted : (head : Token) (inner : Trees) (span : Span) (extent : Extent)
    → extent ≡ capped (call_extent head (extent_of inner))
    → IsExtentOf (call head inner span none) extent
call_counted head inner span extent is =
    is ∙ ap capped (sym (beside-nothing (call_extent head (extent_of inner))))

-- as they are counted, two extents beside one another
pub beside_counted : (one two a b result : Extent) → one ≡ capped a → two ≡ capped b
    → result.bytes ≡ min (one.bytes + two.bytes) (2 ^ 32 - 1)
    → result.levels ≡ max one.levels two.levels → result ≡ capped (beside a b)
unfolding capped
beside_counted one two a b result first second bytes levels =
    let fb : one.bytes ≡ min a.bytes (2 ^ 32 - 1) = ap (λ (e : Extent). e.bytes) first in
    let fl : one.levels ≡ min a.levels (2 ^ 32 - 1) = ap (λ (e : Extent). e.levels) first in
    let sb : two.bytes ≡ min b.bytes (2 ^ 32 - 1) = ap (λ (e : Extent). e.bytes) second in
    let sl : two.levels ≡ min b.levels (2 ^ 32 - 1) = ap (λ (e : Extent). e.levels) second in
    same_extent _ _ (omega arith) (omega arith)

-- the extent of the term at a position
pub extent-inside : (extents : List Extent) (terms : Trees) (at : ℕ) (word : Token)
    (extent : Extent) → AreExtents extents terms → at < length extents
    → extent ≡ get_or extents at extent → IsExtentOf (term_at terms at word) extent
extent-inside [] terms at word extent are within is = absurd (omega arith)
extent-inside (first ∷ extents) none at word extent are within is = absurd are
extent-inside (first ∷ extents) (leaf token rest) zero word extent are within is = is ∙ are.0
extent-inside (first ∷ extents) (call head inner span rest) zero word extent are within is =
    is ∙ are.0
extent-inside (first ∷ extents) (leaf token rest) (suc at) word extent are within is =
    extent-inside extents rest at word extent are.1 (omega arith) is
extent-inside (first ∷ extents) (call head inner span rest) (suc at) word extent are within is =
    extent-inside extents rest at word extent are.1 (omega arith) is

pub extent-outside : (extents : List Extent) (terms : Trees) (at : ℕ) (word : Token)
    → AreExtents extents terms → length extents ≤ at → term_at terms at word ≡ leaf word none
extent-outside [] none at word are past = refl
extent-outside [] (leaf token rest) at word are past = absurd are
extent-outside [] (call head inner span rest) at word are past = absurd are
extent-outside (first ∷ extents) none at word are past = absurd are
extent-outside (first ∷ extents) (leaf token rest) zero word are past = absurd (omega arith)
extent-outside (first ∷ extents) (call head inner span rest) zero word are past =
    absurd (omega arith)
extent-outside (first ∷ extents) (leaf token rest) (suc at) word are past =
    extent-outside extents rest at word are.1 (omega arith)
extent-outside (first ∷ extents) (call head inner span rest) (suc at) word are past =
    extent-outside extents rest at word are.1 (omega arith)

-- a function of terms by parts, over the trees of a list
module _ (f : Trees → Trees) (parts : (a b : Trees) → f (joined a b) ≡ joined (f a) (f b)) where
  -- the step of a loop that counts
  pub counted_more : (trees : List Tree) (at : ℕ) (tree : Tree) → at < length trees
      → tree ≡ get_or trees at tree → (next : Extent)
      → next ≡ capped (beside (extent_of (f (trees_of (take at trees))))
      (extent_of (f (tree_before tree none))))
      → IsExtentOf (f (trees_of (take (at + 1) trees))) next
  counted_more trees at tree within is next one =
      one
      ∙ ap capped (sym (extent-joined (f (trees_of (take at trees))) (f (tree_before tree none)))
      ∙ ap extent_of (sym (parts (trees_of (take at trees)) (tree_before tree none))
      ∙ ap f (sym (taken_more trees at tree within is))))

-- as it is counted, the extent of a call
pub in_call_counted : (around inside result : Extent) (head : Token) (inner : Extent)
    → around ≡ capped (token_extent head) → inside ≡ capped inner
    → result.bytes ≡ min (around.bytes + inside.bytes) (2 ^ 32 - 1)
    → result.levels ≡ min (inside.levels + 1) (2 ^ 32 - 1)
    → result ≡ capped (call_extent head inner)
unfolding capped
in_call_counted around inside result head inner first second bytes levels =
    let fb : around.bytes ≡ min (token_extent head).bytes (2 ^ 32 - 1) =
    ap (λ (e : Extent). e.bytes) first in
    let sb : inside.bytes ≡ min inner.bytes (2 ^ 32 - 1) = ap (λ (e : Extent). e.bytes) second in
    let sl : inside.levels ≡ min inner.levels (2 ^ 32 - 1) =
    ap (λ (e : Extent). e.levels) second in
    same_extent _ _ (omega arith) (omega arith)
