-- For the prover. The tables of an automaton.
use Rattle.std.specs.Prelude.{ℕ, Bool, ◌≡◌, ◌<◌, ◌^◌, ◌⊎◌, ◌↔◌, List, IsTrue, length, slice_index}
use Rattle.std.specs.List.{Contains}
use Rattle.rate_expr.specs.Sets.{AreSets, Has}
use Rattle.symbolic_nfa.specs.Automata.{Automaton, AreDecided, AreMet}
use Rattle.symbolic_nfa.specs.Growth.{Grows, BeginsWords}

-- a mask for each cell, the mask of the positions that a useful one may follow, and whether a word
-- may begin at a useful one
pub record AreTables (nfa : Automaton) (met : List ℕ) (growing : ℕ) (begins : Bool) : Type 0 where
  pub sets : AreSets nfa.sets
  pub decided : AreDecided nfa.sets nfa.cells
  pub met_is : AreMet nfa.sets nfa.cells met
  pub within : growing < 2 ^ length nfa.sets.preds
  pub growing_is : (position : ℕ) → Has growing position ↔ Grows nfa position
  pub begins_is : IsTrue begins ↔ BeginsWords nfa

-- the positions are added to the masks of these cells, and nothing else changes
pub record AddsPositions (old new : List ℕ) (positions : ℕ) (cells : List ℕ) : Type 0 where
  pub same : length new ≡ length old
  pub has : (cell position : ℕ) → cell < length old → Has (slice_index new cell) position
      ↔ (Has (slice_index old cell) position ⊎ (Has positions position × Contains cells cell))
