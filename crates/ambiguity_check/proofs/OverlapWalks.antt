-- Walks of two readings by two rates are the words that both spell.
use Rattle.std.proofs.Common.{◌≡◌, ℕ, ◌+◌, ◌<◌, List, [], ◌∷◌, ◌++◌, length, refl, subst, true}
use Rattle.std.proofs.Common.{false, not, Bool, arith}
use Rattle.std.specs.Prelude.{MatchBool}
use Rattle.item_schema.specs.declared.column.Column.{Column}
use Rattle.rate_expr.specs.Paths.{Leads, LeadsOn, AreOf}
use Rattle.rate_expr.specs.Rates.{Regex}
use Rattle.rate_expr.specs.Readings.{AreDisjoint, Overlap}
use Rattle.rate_expr.specs.Sets.{Sets}
use Rattle.rate_expr.specs.Words.{Word, IsWordOf}
use Rattle.rate_expr.proofs.PathSteps.{leads_one, leads_more}
use Rattle.rate_expr.proofs.Wording.{word_more}
use Rattle.ambiguity_check.specs.declared.graph.Node.{Node}
use Rattle.ambiguity_check.specs.declared.graph.Phase.TheVariants.{Together}
use Rattle.ambiguity_check.specs.Lengths.{OverlapOf, EndsAfter}
use Rattle.ambiguity_check.specs.Marked.{IsMarked, AreReached}
use Rattle.ambiguity_check.specs.Meetings.{AreMeetings}
use Rattle.ambiguity_check.specs.Overlaps.{BeginsBoth, FollowsBoth, IsInRows, EndsBoth}
use Rattle.ambiguity_check.specs.Walks.{IsWalk, at_once, later}
use Rattle.ambiguity_check.proofs.Marking.{node_at}
use Rattle.ambiguity_check.proofs.Walking.{walk_as, one_longer}

module _ (columns : List Column) (first second : Sets) (rows : List ℕ)
    (are : AreMeetings columns first second rows) where
  -- a walk of this many items leads to the node
  abbrev Walk : ℕ → Node → Type 0
  Walk items node =
      IsWalk (BeginsBoth first second) (FollowsBoth first second) (IsInRows rows) items node

  -- some word of this many items leads to both places
  abbrev BothLead : ℕ → Node → Type 0
  BothLead items node = (word : Word) × (length word ≡ items) × IsWordOf columns word
      × Leads first word node.left × Leads second word node.right

  -- the words of a walk
  walk_words : (items : ℕ) (node : Node) → Walk items node → BothLead items node
  walk_words _ _ (at_once node begins met) =
      let one = (are node.left node.right).0 met in (
        one.0 ∷ [],
        refl,
        (one.1, tt),
        leads_one first one.0 node.left begins.1 one.2,
        leads_one second one.0 node.right begins.2 one.3,
      )
  walk_words _ _ (later items before node walk follows met) =
      let one = (are node.left node.right).0 met in
      let so_far = walk_words items before walk in (
        so_far.0 ++ one.0 ∷ [],
        one_longer so_far.0 one.0 items so_far.1,
        word_more columns so_far.0 one.0 so_far.2 one.1,
        leads_more first so_far.0 before.left one.0 node.left so_far.3 follows.1 one.2,
        leads_more second so_far.0 before.right one.0 node.right so_far.4 follows.2 one.3,
      )

  -- the number of items may be said in another way
  as_many : (items items' : ℕ) (node : Node) → items ≡ items' → Walk items node → Walk items' node
  as_many = walk_as (BeginsBoth first second) (FollowsBoth first second) (IsInRows rows)

  -- a walk continues along a word
  goes_along : (word : Word) (items left right left' right' : ℕ)
      → Walk items (node_at Together left right) → IsWordOf columns word
      → LeadsOn first left word left' → LeadsOn second right word right'
      → Walk (items + length word) (node_at Together left' right')
  goes_along [] items left right left' right' walk is on on' =
      as_many items (items + 0) (node_at Together left' right') (omega arith)
      (subst (λ (l : ℕ). Walk items (node_at Together l right')) on
      (subst (λ (r : ℕ). Walk items (node_at Together left r)) on' walk))
  goes_along (item ∷ word) items left right left' right' walk is on on' =
      as_many (items + 1 + length word) (items + length (item ∷ word))
      (node_at Together left' right') (omega arith)
      (goes_along word (items + 1) on.0 on'.0 left' right'
      (later items (node_at Together left right) (node_at Together on.0 on'.0) walk
      (refl, on.1, on'.1) ((are on.0 on'.0).1 (item, is.0, on.2, on'.2)))
      is.1 on.3 on'.3)

  -- a word that leads to two places is one of a walk to both
  word_walk : (word : Word) (left right : ℕ) → IsWordOf columns word → Leads first word left
      → Leads second word right → Walk (length word) (node_at Together left right)
  word_walk [] left right is leads leads' = absurd leads
  word_walk (item ∷ word) left right is leads leads' =
      as_many (1 + length word) (length (item ∷ word)) (node_at Together left right) (omega arith)
      (goes_along word 1 leads.0 leads'.0 left right
      (at_once (node_at Together leads.0 leads'.0) (refl, leads.1, leads'.1)
      ((are leads.0 leads'.0).1 (item, is.0, leads.2, leads'.2)))
      is.1 leads.3 leads'.3)

  -- a walk of this many items leads to an end of both
  abbrev EndWalk : ℕ → Type 0
  EndWalk items = EndsAfter (BeginsBoth first second) (FollowsBoth first second) (IsInRows rows)
      (EndsBoth first second) items

  module _ (r s : Regex) (of_r : AreOf first r) (of_s : AreOf second s) where
    -- a walk to an end of both is a word of both rates
    pub walk_overlaps : (items : ℕ) → EndWalk items → OverlapOf columns r s items
    walk_overlaps items (node, walk, ends) = overlapping (walk_words items node walk)
      where
        overlapping : BothLead items node → OverlapOf columns r s items
        overlapping ([], long, is, leads, leads') = absurd leads
        overlapping (item ∷ word, long, is, leads, leads') = (
          (
            item ∷ word,
            is,
            (of_r (item ∷ word)).1 (node.left, leads, ends.1),
            (of_s (item ∷ word)).1 (node.right, leads', ends.2),
          ),
          long,
        )

    -- a word of both rates with some items is one of a walk to an end
    pub overlap_walks : (items : ℕ) → 0 < items → OverlapOf columns r s items → EndWalk items
    overlap_walks items some (([], is, in_r, in_s), long) = absurd (omega arith)
    overlap_walks items some ((item ∷ word, is, in_r, in_s), long) =
        let by_first = (of_r (item ∷ word)).0 in_r in
        let by_second = (of_s (item ∷ word)).0 in_s in
        let node = node_at Together by_first.0 by_second.0 in (
          node,
          as_many (length (item ∷ word)) items node long
              (word_walk (item ∷ word) by_first.0 by_second.0 is by_first.1 by_second.1),
          (refl, by_first.2, by_second.2),
        )

    -- where no walk leads to an end of both, and the empty word is not in both, no word is
    no_walk_disjoint : (first.nullable ≡ true → second.nullable ≡ true → ⊥)
        → ((items : ℕ) → EndWalk items → ⊥) → AreDisjoint columns r s
    no_walk_disjoint not_empty none [] is in_r in_s =
        not_empty ((of_r []).0 in_r) ((of_s []).0 in_s)
    no_walk_disjoint not_empty none (item ∷ word) is in_r in_s =
        none (length (item ∷ word)) (overlap_walks (length (item ∷ word)) (omega arith)
        ((item ∷ word, is, in_r, in_s), refl))

    -- the answer of a search
    pub disjoint_says : (marks : List ℕ) (found : Bool)
        → (first.nullable ≡ true → second.nullable ≡ true → ⊥)
        → AreReached (BeginsBoth first second) (FollowsBoth first second) (IsInRows rows) marks
        → MatchBool found ((node : Node) × IsMarked marks node × EndsBoth first second node)
        ((node : Node) → IsMarked marks node → EndsBoth first second node → ⊥)
        → MatchBool (not found) (AreDisjoint columns r s) (Overlap columns r s)
    disjoint_says marks true not_empty reached some =
        let walk = (reached some.0).0 some.1 in
        (walk_overlaps walk.0 (some.0, walk.1, some.2)).0
    disjoint_says marks false not_empty reached none =
        no_walk_disjoint not_empty
        (λ items end. none end.0 ((reached end.0).1 (items, end.1)) end.2)
