-- The levels of a search: the first, the next, and what is seen where one is empty.
use Rattle.std.proofs.Common.{◌≡◌, ℕ, ◌+◌, ◌<◌, ◌≤◌, ◌⊎◌, ◌↔◌, List, inl, inr, ⊎_elim, subst, arith}
use Rattle.std.specs.Prelude.{sum, slice_index}
use Rattle.std.specs.Int.{bit_at}
use Rattle.std.proofs.lemmas.Bool.{cases_eq, cases_lt}
use Rattle.ambiguity_check.specs.declared.graph.Moves.{Moves}
use Rattle.ambiguity_check.specs.declared.graph.Node.{Node}
use Rattle.ambiguity_check.specs.Walks.{IsIn, IsWalk, at_once, later}
use Rattle.ambiguity_check.specs.Marked.{row_of, IsMarked, AreReached}
use Rattle.ambiguity_check.specs.Found.{AreFound, IsAfter}
use Rattle.ambiguity_check.specs.Levels.{Searched, IsShortest, IsLevel}
use Rattle.ambiguity_check.proofs.Marking.{marked_sum}
use Rattle.ambiguity_check.proofs.Walking.{walk_some, walk_cases}

-- a node is in a set or not
in_or_not : (rows : List ℕ) (node : Node) → IsMarked rows node ⊎ (IsMarked rows node → ⊥)
in_or_not rows node = cases_eq (bit_at (slice_index rows (row_of node)) node.right) 1

module _ (begins : Node → Type 0) (continues : Node → Node → Type 0) (meet : Node → Type 0) where
  -- a walk of this many items
  abbrev Walk : ℕ → Node → Type 0
  Walk items node = IsWalk begins continues meet items node

  -- a search after this many items
  abbrev Level : ℕ → Searched → Type 0
  Level items search = IsLevel begins continues meet items search

  -- a walk of one item is to one of the first nodes
  one_item : (items : ℕ) (node : Node) → items ≤ 1 → Walk items node → begins node × meet node
  one_item items node one walk = ⊎_elim (λ first. (first.1, first.2))
      (λ more. let some = walk_some begins continues meet more.0 more.1 more.3 in
      absurd (omega (arith, more.2)))
      (walk_cases begins continues meet items node walk)

  -- after the first item
  pub level_begins : (starts : Moves) (none none' seen latest : List ℕ)
      → ((node : Node) → IsMarked none node → ⊥) → ((node : Node) → IsMarked none' node → ⊥)
      → ((node : Node) → IsIn starts node ↔ begins node)
      → AreFound (λ node. IsIn starts node × meet node) none none' seen latest
      → Level 1 (record { seen = seen; latest = latest })
  level_begins starts none none' seen latest empty empty' firsts found = record {
    begun = omega arith;
    seen = λ node. (
      λ is. ⊎_elim (λ was. absurd (empty node was))
          (λ new. (1, omega arith, at_once node ((firsts node).0 new.0.0) new.0.1))
          (found.only node is),
      λ some. let first = one_item some.0 node some.1 some.2 in
          found.marked node ((firsts node).1 first.0, first.1),
    );
    latest = λ node. (
      λ is. ⊎_elim (λ was. absurd (empty' node was))
          (λ new. record {
            walk = at_once node ((firsts node).0 new.0.0) new.0.1;
            none = λ fewer less walk. let some = walk_some begins continues meet fewer node walk in
                omega arith;
          }) (found.new node is),
      λ shortest. let first = one_item 1 node (omega arith) shortest.walk in
          ⊎_elim (λ was. absurd (empty node was)) (λ new. new.1)
          (found.only node (found.marked node ((firsts node).1 first.0, first.1))),
    );
  }

  module _ (items : ℕ) (old : Searched) (level : Level items old) where
    -- a node that is not seen and comes after the level has a shortest walk of one item more
    new_walk : (node : Node) → IsAfter continues meet old.latest node → (IsMarked old.seen node → ⊥)
        → IsShortest begins continues meet (items + 1) node
    new_walk node (before, marked, goes, met) new = record {
      walk = later items before node ((level.latest before).0 marked).walk goes met;
      none = λ fewer less walk. new ((level.seen node).1 (fewer, omega arith, walk));
    }

    -- and each node with such a walk comes after the level
    after_level : (node : Node) → IsShortest begins continues meet (items + 1) node
        → IsAfter continues meet old.latest node
    after_level node shortest = ⊎_elim
        (λ first. let begun = level.begun in absurd (omega (arith, first.0)))
        (λ more.
        let same : more.0 ≡ items = omega (arith, more.2) in
        let walk : Walk items more.1 = subst (λ (n : ℕ). Walk n more.1) same more.3 in (
          more.1,
          (level.latest more.1).1 (record {
            walk = walk;
            none = λ fewer less walk'. shortest.none (fewer + 1) (omega arith)
                (later fewer more.1 node walk' more.4 more.5);
          }),
          more.4,
          more.5,
        ))
        (walk_cases begins continues meet (items + 1) node shortest.walk)

    -- after one more item
    pub level_advances : (clear seen latest : List ℕ) → sum clear ≡ 0
        → AreFound (IsAfter continues meet old.latest) old.seen clear seen latest
        → Level (items + 1) (record { seen = seen; latest = latest })
    level_advances clear seen latest none found = record {
      begun = omega arith;
      seen = λ node. (
        λ is. ⊎_elim (λ was. let some = (level.seen node).0 was in
            (some.0, more some.0 some.1, some.2))
            (λ new. (items + 1, omega arith, (new_level node new.0))) (found.only node is),
        λ some. elim (cases_lt some.0 (items + 1)) [
          | inl less ↦ found.kept node ((level.seen node).1 (some.0, at_most some.0 less, some.2))
          | inr most ↦ by_one_more node
              (subst (λ (n : ℕ). Walk n node) (between some.0 some.1 most) some.2)
        ],
      );
      latest = λ node. (
        λ is. ⊎_elim (λ was. let some = marked_sum clear node was in absurd (omega (arith, none)))
            (λ new. new_walk node new.0 new.1) (found.new node is),
        λ shortest. ⊎_elim
            (λ was. let some = (level.seen node).0 was in
            absurd (shortest.none some.0 (above some.0 some.1) some.2))
            (λ new. new.1) (found.only node (found.marked node (after_level node shortest))),
      );
    }
      where
        more : (n : ℕ) → n ≤ items → n ≤ items + 1
        more n le = omega arith

        at_most : (n : ℕ) → n < items + 1 → n ≤ items
        at_most n less = omega arith

        above : (n : ℕ) → n ≤ items → n < items + 1
        above n le = omega arith

        between : (n : ℕ) → n ≤ items + 1 → items + 1 ≤ n → n ≡ items + 1
        between n le ge = omega arith

        new_level : (node : Node) → IsAfter continues meet old.latest node → Walk (items + 1) node
        new_level node (before, marked, goes, met) =
            later items before node ((level.latest before).0 marked).walk goes met

        by_one_more : (node : Node) → Walk (items + 1) node → IsMarked seen node
        by_one_more node walk = elim (in_or_not old.seen node) [
          | inl was ↦ found.kept node was
          | inr new ↦ found.marked node (after_level node (record {
            walk = walk;
            none = λ fewer less walk'. new ((level.seen node).1 (fewer, at_most fewer less, walk'));
          }))
        ]

    module _ (none : (node : Node) → IsMarked old.latest node → ⊥) where
      -- the nodes after those that are seen are seen
      seen_on : (before node : Node) → IsMarked old.seen before → continues before node → meet node
          → IsMarked old.seen node
      seen_on before node was goes met = elim (in_or_not old.seen node) [
        | inl is ↦ is
        | inr not' ↦ absurd (new_node not' ((level.seen before).0 was))
      ]
        where
          next : (n : ℕ) → n < items → n + 1 ≤ items
          next n less = omega arith

          same : (n : ℕ) → n ≤ items → items ≤ n → n ≡ items
          same n le ge = omega arith

          new_node : (IsMarked old.seen node → ⊥)
              → (some : ℕ) × (some ≤ items) × Walk some before → ⊥
          new_node not' (some, few, walk) = elim (cases_lt some items) [
            | inl less ↦ not' ((level.seen node).1
                (some + 1, next some less, later some before node walk goes met))
            | inr most ↦ none before ((level.latest before).1 (record {
              walk = subst (λ (n : ℕ). Walk n before) (same some few most) walk;
              none = λ fewer less walk'. not' ((level.seen node).1
                  (fewer + 1, next fewer less, later fewer before node walk' goes met));
            }))
          ]

      -- all nodes of walks are seen
      all_seen : (some : ℕ) (node : Node) → Walk some node → IsMarked old.seen node
      all_seen _ _ (at_once node first met) =
          let begun = level.begun in
          (level.seen node).1 (1, omega arith, at_once node first met)
      all_seen _ _ (later some before node walk goes met) =
          seen_on before node (all_seen some before walk) goes met

      -- where no node is latest
      pub level_over : AreReached begins continues meet old.seen
      level_over node = (
        λ is. let some = (level.seen node).0 is in (some.0, some.2),
        λ walk. all_seen walk.0 node walk.1,
      )
