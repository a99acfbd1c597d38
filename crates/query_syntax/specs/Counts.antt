-- Statement. How many columns a key names.
use Rattle.std.specs.Prelude.{◌≤◌, ℕ}

-- a number of names in a key of several columns
pub record IsNameCount (count : ℕ) : Type 0 where
  pub least : 2 ≤ count
  pub most : count ≤ 4
