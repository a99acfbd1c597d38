-- The nodes of a level with one place on the left are those of its row.
use Rattle.std.proofs.Common.{◌≡◌, ℕ, ◌+◌, ◌*◌, ◌<◌, ◌⊎◌, inl, inr, List, ap, sym, ◌∙◌, subst}
use Rattle.std.proofs.Common.{arith}
use Rattle.std.proofs.lemmas.Bool.{cases_lt}
use Rattle.std.specs.Prelude.{slice_index}
use Rattle.rate_expr.specs.Sets.{Has}
use Rattle.ambiguity_check.specs.declared.graph.Node.{Node}
use Rattle.ambiguity_check.specs.declared.graph.Phase.{Phase}
use Rattle.ambiguity_check.specs.Marked.{row_of, IsMarked, IsInRow}
use Rattle.ambiguity_check.specs.Walks.{phases, rank}
use Rattle.ambiguity_example.proofs.Added.{adds_as, adds_both}
use Rattle.ambiguity_example.specs.Known.{Adds}
use Rattle.ambiguity_example.specs.declared.reached_nodes.Reached.{Reached}

module _ (level : List ℕ) (phase : Phase) (items : ℕ) (old : List Reached) where
  -- the nodes of the phase with a lower place on the left
  abbrev pub Below : ℕ → Node → Type 0
  Below left node = (node.phase ≡ phase) × IsMarked level node × (node.left < left)

  -- those of one more row
  pub left_added : (left rights : ℕ) (mid new : List Reached)
      → rights ≡ slice_index level (phases * left + rank phase) → Adds (Below left) items old mid
      → Adds (IsInRow phase left rights) items mid new → Adds (Below (left + 1)) items old new
  left_added left rights mid new row adds more =
      adds_as (λ node. Below left node ⊎ IsInRow phase left rights node) (Below (left + 1)) items
      old new on back
      (adds_both (Below left) (IsInRow phase left rights) items old mid new adds more)
    where
      same_row : (node : Node) → node.phase ≡ phase → node.left ≡ left
          → slice_index level (row_of node) ≡ rights
      same_row node same_phase same_left =
          ap (λ p. slice_index level (phases * node.left + rank p)) same_phase
          ∙ ap (λ (l : ℕ). slice_index level (phases * l + rank phase)) same_left ∙ sym row

      on : (node : Node) → Below left node ⊎ IsInRow phase left rights node → Below (left + 1) node
      on node (inl (same_phase, marked, less)) = (same_phase, marked, omega arith)
      on node (inr (same_phase, same_left, has)) = (
        same_phase,
        subst (λ (mask : ℕ). Has mask node.right) (sym (same_row node same_phase same_left)) has,
        omega arith,
      )

      back : (node : Node) → Below (left + 1) node
          → Below left node ⊎ IsInRow phase left rights node
      back node (same_phase, marked, less) = elim (cases_lt node.left left) [
        | inl lower ↦ inl (same_phase, marked, lower)
        | inr most ↦
            let same_left : node.left ≡ left = omega arith in
            inr (
              same_phase,
              same_left,
              subst (λ (mask : ℕ). Has mask node.right) (same_row node same_phase same_left) marked,
            )
      ]
