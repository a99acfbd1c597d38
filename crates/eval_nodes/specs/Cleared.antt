-- For the prover. What becomes of nodes and of runners that are emptied.
use Rattle.std.specs.Prelude.{◌≡◌, ℕ, zero, suc, List, [], ◌∷◌, None}
use Rattle.item_schema.specs.declared.column.Column.{Column}
use Rattle.query_model.specs.Queries.{Qre}
use Rattle.query_model.specs.Rules.{HasNoCollect}
use Rattle.eval_nodes.specs.Holdings.{Holding, Seen}
use Rattle.eval_nodes.specs.Represents.{Represents}
use Rattle.eval_nodes.specs.Sound.{IsSound}

module _ {R : Type 0} (seen : R → Seen R) where
  -- A sound node then stands for the empty word, without a start, and stays sound. Only the nodes
  -- of runners are emptied, and their queries have no collect.
  abbrev pub IsCleared : Qre → Holding R → Holding R → Type 0
  IsCleared query old new = HasNoCollect query → (columns : List Column) (position : ℕ)
      → IsSound seen columns query position old
      → ((others : List Column) → Represents seen others query new [] [])
      × ((now : ℕ) → IsSound seen columns query now new)

  -- the node of the runner is emptied, it has no answer, and its position is as before
  pub record IsClearedIn (query : Qre) (old new : R) : Type 0 where
    pub position : (seen new).position ≡ (seen old).position
    pub answer : (seen new).answer ≡ None
    pub node : IsCleared query (seen old).node (seen new).node

  -- the runners below this number are emptied, and the others are as before
  abbrev pub AreCleared : Qre → ℕ → List R → List R → Type 0
  AreCleared query zero old new = new ≡ old
  AreCleared query (suc count) (runner ∷ old) (cleared ∷ new) =
      IsClearedIn query runner cleared × AreCleared query count old new
  AreCleared query (suc count) [] [] = Unit {0}
  AreCleared query (suc count) old new = ⊥
