-- For the prover. Which fronts of a word are in a rate, and which positions may be next.
use Rattle.std.specs.Prelude.{◌≡◌, ◌≤◌, ◌↔◌, ℕ, ◌+◌, Bool, false, List, IsTrue, length, take}
use Rattle.std.specs.Prelude.{slice_index_or}
use Rattle.value_ops.specs.declared.field.Field.{Field}
use Rattle.rate_expr.specs.Language.{In}
use Rattle.rate_expr.specs.Paths.{Follows, Meets, Spells}
use Rattle.rate_expr.specs.Rates.{Regex}
use Rattle.rate_expr.specs.Sets.{Has, Sets}
use Rattle.rate_expr.specs.Words.{Word}

-- for each front of the word, from the empty one to the whole, whether it is in the rate
pub record AreInRate (rate : Regex) (word : Word) (fronts : List Bool) : Type 0 where
  pub count : length fronts ≡ length word + 1
  pub each : (place : ℕ) → place ≤ length word
      → IsTrue (slice_index_or fronts place false) ↔ In rate (take place word)

-- the same, by whether the sets spell it
pub record AreSpelled (sets : Sets) (word : Word) (fronts : List Bool) : Type 0 where
  pub count : length fronts ≡ length word + 1
  pub each : (place : ℕ) → place ≤ length word
      → IsTrue (slice_index_or fronts place false) ↔ Spells sets (take place word)

-- `met` has exactly the positions of the mask that the item meets
abbrev pub AreMet : Sets → ℕ → List Field → ℕ → Type 0
AreMet sets mask item met =
    (position : ℕ) → Has met position ↔ (Has mask position × Meets sets position item)

-- `after` has exactly the positions that may follow some position of the mask
abbrev pub AreAfter : Sets → ℕ → ℕ → Type 0
AreAfter sets mask after =
    (next : ℕ) → Has after next ↔ ((from : ℕ) × Has mask from × Follows sets from next)
