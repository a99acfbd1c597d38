-- Statement. What is kept for a query of each shape, without where it lies in memory. A runner R
-- follows a word of a compose's right operand, or a word for a key. Of a runner are seen its
-- position, its answer and what is kept for it.
use Rattle.std.specs.Prelude.{ℕ, Option}
use Rattle.value_ops.specs.declared.value.Value.{Value}
use Rattle.split_eval.specs.Entries.{Contents}
use Rattle.compose_eval.specs.Followers as instances
use Rattle.map_collect.specs.Tracks as tracks

-- what is kept for a node
pub data Holding (R : Type 0) : Type 0 where
  -- an atom: the start at the end of the word, if it is one
  atom_held : Option ℕ → Holding R
  -- the empty word: nothing
  eps_held : Holding R
  -- a choice: the operands
  choice_held : Holding R → Holding R → Holding R
  -- a combine: the operands
  combine_held : Holding R → Holding R → Holding R
  -- an apply: the operand
  apply_held : Holding R → Holding R
  -- a split: the operands, and the left values that wait for a right one
  split_held : Holding R → Holding R → Contents Value → Holding R
  -- an iter: the operand, and the values so far that wait for a further piece
  iter_held : Holding R → Contents Value → Holding R
  -- a compose: the left operand, and the runners of the right one, fed or idle
  compose_held : Holding R → instances.Contents R → Holding R
  -- a collect: the automaton of its rate, and the live starts, each with a state, a runner for each
  -- key, and the runner that is copied for a new key
  collect_held : tracks.Contents R → Holding R

-- what is seen of a runner
pub record Seen (R : Type 0) : Type 0 where
  pub position : ℕ
  pub answer : Option Value
  pub node : Holding R
